use Rattle.std.proofs.Common.{refl}
use Rattle.worker_team.proofs.RoundLaws.{idle_next, work_in_hand}
use Rattle.worker_team.proofs.rounds.in_hand.Goals as goal

pub returns-in-Some-clause-some : goal.returns-in-Some-clause-some
returns-in-Some-clause-some c = work_in_hand c.args.pool.now c.loop-worker.worker c.in-Some.work c.in-Some.ensures.some

pub loop-worker-preserved : goal.loop-worker-preserved
loop-worker-preserved c = idle_next c.args.pool.now c.loop-worker.worker c.loop-worker.invariant (c.in-None.ensures.none.0 refl)
