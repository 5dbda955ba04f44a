use Rattle.proof_log.proofs.WholeLogs.{log_parts}
use Rattle.proof_log.proofs.laws.a_log_is_written_line_by_line.Goals as goal

pub returns : goal.returns
returns c = log_parts
