use Rattle.rows.proofs.RefutedReasons.{refuted_together}
use Rattle.rows.proofs.laws.refuted_reasons_drop_cubes.Goals as goal

pub returns : goal.returns
returns c = refuted_together
