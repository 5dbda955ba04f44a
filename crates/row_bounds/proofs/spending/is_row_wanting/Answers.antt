use Rattle.std.proofs.Common.{◌≡◌, ◌∙◌, ◌<◌, ◌^◌, ap, length, get_or, arith}
use Rattle.std.specs.List.{All}
use Rattle.arch_model.specs.Set.{has}
use Rattle.rows.specs.Row.{IsSized}
use Rattle.rows.proofs.Activities.{blank, sum_is, sum_small}
use Rattle.rows.proofs.IntSums.{int_sum_by-step}
use Rattle.row_bounds.proofs.SpendLaws.{at_ones, one_is, one_small}
use Rattle.row_bounds.proofs.spending.is_row_wanting.Goals as goal

pub loop-term-preserved : goal.loop-term-preserved
loop-term-preserved c =
    let xs = c.terms-term-items.result.now in
    let i = c.loop-term.term-index in
    let here = c.loop-term-test.true in
    let t = get_or xs i blank in
    let ones = c.args.cube.now.ones in
    let r = c.at_one-total.result in
    let sized : All (λ t. IsSized t.coef) xs = rw c.terms-term-items.ensures.terms c.terms-term-items.ensures.row.sized in
    let few : length xs < 2 ^ 64 = omega arith in
    let is : r ≡ at_ones ones t = one_is ones xs i r sized here c.has.result (c.has.ensures.member ∙ ap (λ s. has s t.var.0) c.ones-ones.ensures.ones) c.at_one-total.ensures in
    let small = one_small ones xs i r sized here is in
    let whole = sum_is _ r i (length xs) c.loop-term.invariant.small small here few in
    record {
      sum = int_sum_by-step (at_ones ones) xs i blank _ r _ here c.loop-term.invariant.sum is whole;
      small = sum_small _ r i (length xs) c.loop-term.invariant.small small here few;
    }
