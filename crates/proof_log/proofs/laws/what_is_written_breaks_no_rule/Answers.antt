use Rattle.std.proofs.Common.{refl}
use Rattle.proof_log.specs.Value.{log_line}
use Rattle.proof_log.proofs.Spelling.{lists_ascend}
use Rattle.proof_log.proofs.laws.what_is_written_breaks_no_rule.Goals as goal

pub returns : goal.returns
returns c = λ x l short. (short, (log_line x, l.0, lists_ascend x, refl))
