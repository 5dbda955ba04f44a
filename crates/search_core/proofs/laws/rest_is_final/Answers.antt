use Rattle.search_core.proofs.Runs.{rest_stays}
use Rattle.search_core.proofs.laws.rest_is_final.Goals as goal

pub returns : goal.returns
returns c = rest_stays
