use Rattle.proof_log.proofs.WholeLogs.{same_log}
use Rattle.proof_log.proofs.laws.a_text_determines_its_log.Goals as goal

pub returns : goal.returns
returns c = same_log
