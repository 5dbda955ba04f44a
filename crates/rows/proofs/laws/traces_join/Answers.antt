use Rattle.rows.proofs.TraceLaws.{trace_joined}
use Rattle.rows.proofs.laws.traces_join.Goals as goal

pub returns : goal.returns
returns c = trace_joined
