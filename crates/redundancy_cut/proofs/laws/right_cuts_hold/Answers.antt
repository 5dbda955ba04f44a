use Rattle.redundancy_cut.proofs.RightCutsHold.{right_cuts_hold}
use Rattle.redundancy_cut.proofs.laws.right_cuts_hold.Goals as goal

pub returns : goal.returns
returns c = right_cuts_hold
