use Rattle.std.proofs.Common.{◌^◌}
use Rattle.row_bounds.proofs.AscentLaws.{LowTo}
use Rattle.row_bounds.proofs.buying.scaled_costs.Given as goal

abbrev pub invariant-loop-i : goal.invariant-loop-i
invariant-loop-i l = LowTo l.costs (10 ^ 28)
