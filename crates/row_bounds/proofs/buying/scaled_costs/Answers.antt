use Rattle.std.proofs.Common.{◌^◌, arith}
use Rattle.row_bounds.proofs.AscentLaws.{low_none, low_more}
use Rattle.row_bounds.proofs.buying.scaled_costs.Goals as goal

pub loop-i-init : goal.loop-i-init
loop-i-init c = low_none (10 ^ 28)

pub loop-i-preserved : goal.loop-i-preserved
loop-i-preserved c = low_more c.loop-i.costs c.loop-i.i _ (10 ^ 28) c.loop-i.invariant (omega arith) (omega arith)
