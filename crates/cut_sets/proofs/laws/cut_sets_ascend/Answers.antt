use Rattle.cut_sets.proofs.Ordered.{listed_ascend}
use Rattle.cut_sets.proofs.laws.cut_sets_ascend.Goals as goal

pub returns : goal.returns
returns c lib arch sink = listed_ascend lib arch sink
