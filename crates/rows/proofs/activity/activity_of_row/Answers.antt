use Rattle.std.proofs.Common.{◌^◌, ◌<◌, length, arith}
use Rattle.std.specs.List.{All}
use Rattle.rows.specs.Row.{IsSized}
use Rattle.rows.specs.Inner.Ends.{adds_at}
use Rattle.rows.proofs.Activities.{added_is, added_sized, sum_fits, sum_is, sum_small, plain, blank}
use Rattle.rows.proofs.IntSums.{int_sum_by-step}
use Rattle.rows.proofs.activity.activity_of_row.Goals as goal

pub overflow_add-total : goal.overflow_add-total
overflow_add-total c =
    let sized : All (λ t. IsSized t.coef) c.terms-term-items.result.now = rw c.terms-term-items.ensures.terms c.terms-term-items.ensures.row.sized in
    let is = added_is c.args.end c.args.cube.now c.terms-term-items.result.now c.loop-term.term-index c.value.result c.taken-total.result sized c.loop-term-test.true c.value.ensures c.taken-total.ensures in
    let small = added_sized c.args.end c.args.cube.now c.terms-term-items.result.now c.loop-term.term-index c.taken-total.result sized c.loop-term-test.true is in
    rw (plain c.taken-total.result small) (sum_fits _ c.taken-total.result c.loop-term.term-index (length c.terms-term-items.result.now) c.loop-term.invariant.small small c.loop-term-test.true (omega arith))

pub loop-term-preserved : goal.loop-term-preserved
loop-term-preserved c =
    let sized : All (λ t. IsSized t.coef) c.terms-term-items.result.now = rw c.terms-term-items.ensures.terms c.terms-term-items.ensures.row.sized in
    let is = added_is c.args.end c.args.cube.now c.terms-term-items.result.now c.loop-term.term-index c.value.result c.taken-total.result sized c.loop-term-test.true c.value.ensures c.taken-total.ensures in
    let small = added_sized c.args.end c.args.cube.now c.terms-term-items.result.now c.loop-term.term-index c.taken-total.result sized c.loop-term-test.true is in
    let few : length c.terms-term-items.result.now < 2 ^ 64 = omega arith in
    let whole = sum_is _ c.taken-total.result c.loop-term.term-index (length c.terms-term-items.result.now) c.loop-term.invariant.small small c.loop-term-test.true few in
    record {
      sum = int_sum_by-step (adds_at c.args.end c.args.cube.now) c.terms-term-items.result.now c.loop-term.term-index blank _ c.taken-total.result _ c.loop-term-test.true c.loop-term.invariant.sum is whole;
      small = sum_small _ c.taken-total.result c.loop-term.term-index (length c.terms-term-items.result.now) c.loop-term.invariant.small small c.loop-term-test.true few;
    }
