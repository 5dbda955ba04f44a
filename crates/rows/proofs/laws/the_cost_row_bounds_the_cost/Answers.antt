use Rattle.rows.proofs.VectorLaws.{cost_row_says}
use Rattle.rows.proofs.laws.the_cost_row_bounds_the_cost.Goals as goal

pub returns : goal.returns
returns c = cost_row_says
