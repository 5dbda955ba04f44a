use Rattle.rows.proofs.CubeLaws.{stands_where_it_holds}
use Rattle.rows.proofs.laws.full_cubes_are_vectors.Goals as goal

pub returns : goal.returns
returns c = stands_where_it_holds
