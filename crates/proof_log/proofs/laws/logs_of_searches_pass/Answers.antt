use Rattle.proof_log.proofs.LogsPass.{logs_pass}
use Rattle.proof_log.proofs.laws.logs_of_searches_pass.Goals as goal

pub returns : goal.returns
returns c = logs_pass
