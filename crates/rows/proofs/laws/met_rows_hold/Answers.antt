use Rattle.rows.proofs.CubeLaws.{holds_where_met}
use Rattle.rows.proofs.laws.met_rows_hold.Goals as goal

pub returns : goal.returns
returns c = holds_where_met
