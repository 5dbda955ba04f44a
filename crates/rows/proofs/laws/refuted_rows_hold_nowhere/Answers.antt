use Rattle.rows.proofs.CubeLaws.{holds_nowhere}
use Rattle.rows.proofs.laws.refuted_rows_hold_nowhere.Goals as goal

pub returns : goal.returns
returns c = holds_nowhere
