use Rattle.std.proofs.Common.{◌≡◌, ◌*◌, ◌^◌, ◌<◌, ap, ◌∙◌, arith, FitsSigned, rules, ℤ, pos, get_or, subst}
use Rattle.std.specs.Int.{w128}
use Rattle.std.specs.List.{range_with_len}
use Rattle.std.proofs.lemmas.Int.{to_z-of_z}
use Rattle.arch_model.specs.Member.{member_count}
use Rattle.rows.specs.Row.{int_sum_by}
use Rattle.rows.specs.Known.{parts_of, variables}
use Rattle.rows.proofs.IntSums.{range_step}
use Rattle.rows.proofs.Activities.{test_is}
use Rattle.rows.proofs.Combinations.{combined_best, combined_activity, best_turn, best_small, adds_is, adds_small}
use Rattle.rows.proofs.together_of.pairs_together.Goals as goal

pub loop-i-preserved : goal.loop-i-preserved
loop-i-preserved c =
    let short : c.loop-i.i < variables (parts_of c.args.known.now) = subst (λ n. c.loop-i.i < n) (c.variable_count-i-end.ensures.count ∙ ap member_count c.library.ensures.library) c.loop-i-test.true in
    let coef : ℤ = get_or c.combined_coefs-coefs.result c.loop-i.i (pos 0) in
    let is = best_turn coef _ c.value.result _ c.taken-total.result (c.combined_coefs-coefs.ensures.small c.loop-i.i short) (c.combined_coefs-coefs.ensures.value c.loop-i.i short) c.value.ensures c.taken-total.ensures in
    let small = best_small coef c.value.result c.taken-total.result (c.combined_coefs-coefs.ensures.small c.loop-i.i short) c.taken-total.ensures in
    let room : c.variable_count-i-end.result * (64 * 10 ^ 28) < 2 ^ 127 = omega (arith, c.variable_count-i-end.ensures.few) in
    record {
      sum = range_step (combined_best (parts_of c.args.known.now) c.args.pairs.now c.args.cube.now) c.loop-i.i _ c.taken-total.result _ c.loop-i.invariant.sum is
          (adds_is _ c.taken-total.result c.loop-i.i c.variable_count-i-end.result (64 * 10 ^ 28) c.loop-i.invariant.small small (omega arith) c.loop-i-test.true room);
      small = adds_small _ c.taken-total.result c.loop-i.i c.variable_count-i-end.result (64 * 10 ^ 28) c.loop-i.invariant.small small (omega arith) c.loop-i-test.true room;
    }

pub returns : goal.returns
returns c =
    let end : c.loop-i.i ≡ c.variable_count-i-end.result = omega arith in
    let all : c.loop-i.i ≡ variables (parts_of c.args.known.now) = end ∙ c.variable_count-i-end.ensures.count ∙ ap member_count c.library.ensures.library in
    let fits : FitsSigned w128 c.combined_least.result = search rules in
    test_is _ _ _ _
    (c.loop-i.invariant.sum ∙ ap (λ n. int_sum_by (combined_best (parts_of c.args.known.now) c.args.pairs.now c.args.cube.now) (range_with_len 0 n)) all ∙ combined_activity (parts_of c.args.known.now) c.args.pairs.now c.args.cube.now)
    (to_z-of_z w128 c.combined_least.result fits ∙ c.combined_least.ensures)
