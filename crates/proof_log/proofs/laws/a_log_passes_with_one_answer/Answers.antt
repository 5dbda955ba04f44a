use Rattle.proof_log.proofs.WholeLogs.{one_answer, one_limit, one_history}
use Rattle.proof_log.proofs.laws.a_log_passes_with_one_answer.Goals as goal

pub returns-clause-answer : goal.returns-clause-answer
returns-clause-answer c = one_answer

pub returns-clause-limit : goal.returns-clause-limit
returns-clause-limit c = one_limit

pub returns-clause-entries : goal.returns-clause-entries
returns-clause-entries c = one_history
