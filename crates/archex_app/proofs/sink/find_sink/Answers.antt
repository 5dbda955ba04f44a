use Rattle.archex_app.proofs.SinkLaws.{no_sink}
use Rattle.archex_app.proofs.sink.find_sink.Goals as goal

pub returns-in_default : goal.returns-in_default
returns-in_default c = record { found = tt; none = no_sink c.args.lib.now c.components.result.now c.components.ensures.rows c.components.ensures.library c.args.name.now c.in_ok-c.c.0 _ c.in_ok-c.ensures.found.0 c.in_ok-c.ensures.found.1 c.in_default.not-Sink }
