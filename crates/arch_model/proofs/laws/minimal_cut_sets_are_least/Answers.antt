use Rattle.arch_model.proofs.LeastSets.{minimal_least}
use Rattle.arch_model.proofs.laws.minimal_cut_sets_are_least.Goals as goal

pub returns : goal.returns
returns c lib arch fits sink members up = minimal_least lib arch fits sink members up
