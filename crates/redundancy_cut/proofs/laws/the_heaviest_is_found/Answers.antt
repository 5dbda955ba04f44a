use Rattle.redundancy_cut.proofs.HeaviestFound.{heaviest_exact, some_heaviest}
use Rattle.redundancy_cut.proofs.laws.the_heaviest_is_found.Goals as goal

pub returns-clause-exact : goal.returns-clause-exact
returns-clause-exact c lib arch fits sink members = heaviest_exact lib arch fits sink members

pub returns-clause-some : goal.returns-clause-some
returns-clause-some c lib arch fits sink = some_heaviest lib arch fits sink
