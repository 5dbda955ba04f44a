-- The workers so far hold and study nothing.
use Rattle.std.proofs.Common.{ℕ, ◌<◌}
use Rattle.node_pool.specs.Holding.{IsIdle}
use Rattle.worker_team.proofs.rounds.in_hand.Given as goal

abbrev pub invariant-loop-worker : goal.invariant-loop-worker
invariant-loop-worker l = (other : ℕ) → other < l.worker → IsIdle l.pool other
