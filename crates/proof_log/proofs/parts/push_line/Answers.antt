use Rattle.proof_log.proofs.Written.{on_err_holds, stays_after}
use Rattle.proof_log.proofs.parts.push_line.Goals as goal

pub returns-in_err-push_part-clause-err : goal.returns-in_err-push_part-clause-err
returns-in_err-push_part-clause-err c = on_err_holds c.from_residual-in_err-push_part.result (stays_after _ _ _ _ _ c.loop-part.invariant.stays c.in_ok-push.ensures.items c.in_err-push_part.ensures.err)
