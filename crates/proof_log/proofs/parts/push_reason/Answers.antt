use Rattle.std.specs.Fmt.{decimal}
use Rattle.proof_log.specs.Field.{pair_text}
use Rattle.proof_log.specs.Value.{named_pair}
use Rattle.proof_log.proofs.Written.{list_done, on_err_holds, stays_after}
use Rattle.proof_log.proofs.parts.push_reason.Goals as goal

pub returns-in_err-push_pair-2-clause-err : goal.returns-in_err-push_pair-2-clause-err
returns-in_err-push_pair-2-clause-err c =
    on_err_holds c.from_residual-in_err-push_pair-2.result (stays_after _ _ _ _ _ c.loop-pair.invariant.stays c.in_ok-push.ensures.items c.in_err-push_pair-2.ensures.err)

pub returns-clause-ok : goal.returns-clause-ok
returns-clause-ok c =
    list_done (pair_text decimal) named_pair c.args.pairs.now c.in-Some.first.now c.in-Some.others.now c.loop-pair.pair-index _ _ _ c.in-Some.ensures.cases.0 c.in_ok-push_pair.ensures.ok c.loop-pair.invariant.text c.loop-pair-test.false
