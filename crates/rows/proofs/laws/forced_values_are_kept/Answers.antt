use Rattle.rows.proofs.CubeLaws.{forced_is_kept}
use Rattle.rows.proofs.laws.forced_values_are_kept.Goals as goal

pub returns : goal.returns
returns c = forced_is_kept
