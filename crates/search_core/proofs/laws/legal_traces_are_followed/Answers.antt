use Rattle.search_core.proofs.Following.{followed_is_legal, legal_is_followed}
use Rattle.search_core.proofs.laws.legal_traces_are_followed.Goals as goal

pub returns : goal.returns
returns c known cube after trace = (followed_is_legal known trace cube after, legal_is_followed known trace cube after)
