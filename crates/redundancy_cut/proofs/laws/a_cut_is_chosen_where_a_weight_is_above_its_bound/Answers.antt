use Rattle.redundancy_cut.proofs.ChosenLaws.{chosen_exactly}
use Rattle.redundancy_cut.proofs.laws.a_cut_is_chosen_where_a_weight_is_above_its_bound.Goals as goal

pub returns : goal.returns
returns c lib right arch fits = chosen_exactly lib arch right fits
