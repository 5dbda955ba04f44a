use Rattle.redundancy_cut.proofs.ReachingLaws.{reaches_exact}
use Rattle.redundancy_cut.proofs.laws.reaching_is_tested.Goals as goal

pub returns : goal.returns
returns c lib right arch sink low failed d = reaches_exact lib right arch sink low failed d
