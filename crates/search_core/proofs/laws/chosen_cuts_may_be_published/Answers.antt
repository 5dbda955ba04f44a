use Rattle.search_core.proofs.Publishing.{chosen_may_publish}
use Rattle.search_core.proofs.laws.chosen_cuts_may_be_published.Goals as goal

pub returns : goal.returns
returns c problem state worker node cut right is reached s chosen = chosen_may_publish problem state worker node cut right is reached s chosen
