use Rattle.proof_log.proofs.FirstFaults.{one_spelling}
use Rattle.proof_log.proofs.laws.each_line_has_one_spelling.Goals as goal

pub returns : goal.returns
returns c = one_spelling
