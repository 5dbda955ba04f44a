use Rattle.std.proofs.Common.{ap, ◌∙◌, arith}
use Rattle.arch_model.specs.Set.{has}
use Rattle.rows.proofs.ClosingLoops.{cost_loop_hit, cost_loop_past, cost_loop_end}
use Rattle.rows.proofs.closing.fix_by_cost.Goals as goal
use Rattle.rows.proofs.closing.fix_by_cost.Goals.{in-Some, in_default}

pub loop-i-preserved : goal.loop-i-preserved
loop-i-preserved c =
    let was = c.has.ensures.member ∙ ap (λ s. has s c.loop-i.i) c.fixed-fixed.ensures.fixed in
    elim c.match-forced_to.branch [
      | in-Some w ↦
          cost_loop_hit c.args.lib.now c.args.bound c.args.cube.now c.loop-i.cube c.loop-i.i c.loop-i.count c.member_cost.result c.args.room c.has.result c.forced_to.result c.ranges.room c.loop-i.invariant (omega arith)
          c.member_cost.ensures.small c.member_cost.ensures.value was c.forced_to.ensures c.match-forced_to.cube c.match-forced_to.count w.in-Some.value (omega arith) w.in-Some.is (w.cube-is ∙ w.fix.ensures.fixed) w.count-is
      | in_default w ↦
          cost_loop_past c.args.lib.now c.args.bound c.args.cube.now c.loop-i.cube c.loop-i.i c.loop-i.count c.member_cost.result c.args.room c.has.result c.forced_to.result c.ranges.room c.loop-i.invariant (omega arith)
          c.member_cost.ensures.small c.member_cost.ensures.value was c.forced_to.ensures c.match-forced_to.cube c.match-forced_to.count w.in_default.is w.cube-is w.count-is
    ]

pub returns-clause-quiet : goal.returns-clause-quiet
returns-clause-quiet c = cost_loop_end c.args.lib.now c.args.bound c.args.cube.now c.loop-i.cube c.loop-i.i c.loop-i.count c.args.room c.ranges.room c.loop-i.invariant (omega arith)
