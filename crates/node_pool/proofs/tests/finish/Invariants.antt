use Rattle.std.proofs.Common.{◌≤◌}
use Rattle.node_pool.proofs.tests.finish.Given as goal

abbrev pub invariant-loop : goal.invariant-loop
invariant-loop g l = 1 ≤ l.pool.workers
