use Rattle.std.proofs.Common.{Some}
use Rattle.rows.specs.Known.{parts_of}
use Rattle.rows.proofs.ForcedTimes.{named_times}
use Rattle.rows.proofs.judge.fix_forced.Goals as goal

pub returns-clause-steps : goal.returns-clause-steps
returns-clause-steps c = named_times (parts_of c.args.known.now) c.args.r c.args.cube.now c.fix_by.new.cube (Some c.fix_by.result) c.requires c.fix_by.ensures.steps
