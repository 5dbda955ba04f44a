use Rattle.rows.specs.Known.{parts_of}
use Rattle.branch_worker.proofs.Going.{offered}
use Rattle.branch_worker.proofs.working.bounded.Goals as goal

pub returns-in-None : goal.returns-in-None
returns-in-None c = λ given leads. offered (parts_of c.args.known.now) given c.args.cube.now c.args.trace leads c.requires.quiet c.in-None.ensures.none
