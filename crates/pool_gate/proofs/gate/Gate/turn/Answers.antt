use Rattle.std.proofs.Common.{ap, ◌∙◌}
use Rattle.pool_gate.proofs.Lists.{tried_again}
use Rattle.pool_gate.proofs.gate.Gate.turn.Goals as goal

pub loop-preserved : goal.loop-preserved
loop-preserved g c = let busy = c.in-Err.ensures.busy in let was = c.loop.invariant in
    (tt, tt, busy.0, ap (λ v. v.in_turn) busy.1 ∙ was.3, tried_again _ _ _ _ was.4 c.in-Err.ensures.odd busy.1)
