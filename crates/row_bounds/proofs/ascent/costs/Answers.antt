use Rattle.std.proofs.Common.{◌<◌, length, arith}
use Rattle.row_bounds.proofs.AscentLaws.{costs_none, costs_more, costs_all}
use Rattle.row_bounds.proofs.ascent.costs.Goals as goal

pub loop-i-init : goal.loop-i-init
loop-i-init c = costs_none c.args.lib.now

pub loop-i-preserved : goal.loop-i-preserved
loop-i-preserved c =
    let inside : c.loop-i.i < length c.loop-i.costs = omega (arith, c.loop-i.invariant.long) in
    costs_more c.args.lib.now c.loop-i.costs c.loop-i.i c.member_cost.result c.loop-i.invariant inside c.member_cost.ensures.value c.member_cost.ensures.small

pub returns-clause-value : goal.returns-clause-value
returns-clause-value c v near = costs_all c.args.lib.now c.loop-i.costs c.loop-i.i v c.loop-i.invariant (omega arith)
