use Rattle.search_core.proofs.CutRows.{right_cuts}
use Rattle.search_core.proofs.Runs.{steps_are_few}
use Rattle.search_core.proofs.laws.histories_are_bounded.Goals as goal

pub returns : goal.returns
returns c problem old new entries right is reached all none steps = steps_are_few problem right is (right_cuts problem.library right) old new entries reached all none steps
