use Rattle.rows.proofs.VectorLaws.{edge_rows_say}
use Rattle.rows.proofs.laws.edge_rows_ask_for_ends.Goals as goal

pub returns : goal.returns
returns c = edge_rows_say
