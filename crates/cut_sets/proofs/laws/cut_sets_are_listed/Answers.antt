use Rattle.cut_sets.proofs.Listed.{listed_exact}
use Rattle.cut_sets.proofs.laws.cut_sets_are_listed.Goals as goal

pub returns : goal.returns
returns c lib arch fits sink members = listed_exact lib arch fits sink members
