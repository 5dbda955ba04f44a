use Rattle.std.proofs.Common.{◌≡◌, ◌<◌, ◌^◌, ap, ◌∙◌, arith}
use Rattle.std.specs.List.{range_with_len}
use Rattle.arch_model.specs.Member.{member_count}
use Rattle.rows.specs.Row.{int_sum_by}
use Rattle.rows.proofs.IntSums.{range_step}
use Rattle.rows.proofs.Activities.{sum_is, sum_small}
use Rattle.rows.proofs.Costs.{cost_at, cost_added, cost_added_sized, cost_activity}
use Rattle.rows.proofs.activity.activity_of_cost.Goals as goal

pub loop-i-preserved : goal.loop-i-preserved
loop-i-preserved c =
    let is = cost_added c.args.end c.args.lib.now c.args.cube.now c.loop-i.i c.member_cost.result c.value.result c.taken-total.result c.member_cost.ensures.small c.member_cost.ensures.value c.value.ensures c.taken-total.ensures in
    let small = cost_added_sized c.args.end c.value.result c.member_cost.result c.taken-total.result c.member_cost.ensures.small c.taken-total.ensures in
    let few : c.variable_count-i-end.result < 2 ^ 64 = omega arith in
    record {
      sum = range_step (cost_at c.args.end c.args.lib.now c.args.cube.now) c.loop-i.i _ c.taken-total.result _ c.loop-i.invariant.sum is (sum_is _ c.taken-total.result c.loop-i.i c.variable_count-i-end.result c.loop-i.invariant.small small c.loop-i-test.true few);
      small = sum_small _ c.taken-total.result c.loop-i.i c.variable_count-i-end.result c.loop-i.invariant.small small c.loop-i-test.true few;
    }

pub returns-clause-value : goal.returns-clause-value
returns-clause-value c bound =
    let all : c.loop-i.i ≡ member_count c.args.lib.now = omega arith in
    c.loop-i.invariant.sum ∙ ap (λ n. int_sum_by (cost_at c.args.end c.args.lib.now c.args.cube.now) (range_with_len 0 n)) all ∙ cost_activity c.args.end c.args.lib.now c.args.cube.now bound
