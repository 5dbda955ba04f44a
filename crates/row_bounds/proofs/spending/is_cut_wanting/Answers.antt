use Rattle.std.proofs.Common.{◌≡◌, ◌∙◌, ap, sym, pos, ◌-ℤ◌, to_z, of_z, arith}
use Rattle.std.specs.Int.{w128}
use Rattle.arch_model.specs.Set.{has, len, intersection}
use Rattle.rows.specs.Row.{row_of_cut, value_of}
use Rattle.rows.proofs.Activities.{plain, difference_is, test_is}
use Rattle.row_bounds.proofs.SpendLaws.{cut_ones}
use Rattle.row_bounds.proofs.spending.is_cut_wanting.Goals as goal

pub returns-clause-wanting : goal.returns-clause-wanting
returns-clause-wanting c =
    let cut = c.args.cut.now in
    let ones = c.args.cube.now.ones in
    let up : c.len-plus.result ≡ len (intersection cut.plus ones) = cc in
    let down : c.len-minus.result ≡ len (intersection cut.minus ones) = cc in
    let sum : to_z w128 (of_z w128 (to_z w128 c.len-plus.result -ℤ to_z w128 c.len-minus.result)) ≡ value_of (row_of_cut cut).terms (has ones) =
    difference_is c.len-plus.result c.len-minus.result (omega arith) (omega arith) ∙ ap (λ n. pos n -ℤ pos c.len-minus.result) up ∙ ap (λ n. pos (len (intersection cut.plus ones)) -ℤ pos n) down ∙ sym (cut_ones cut ones c.plus.ensures.cut) in
    let least : to_z w128 (of_z w128 c.least.result) ≡ cut.least = plain c.least.result (rw c.least.ensures.least c.least.ensures.cut.least) ∙ c.least.ensures.least in
    test_is _ _ (value_of (row_of_cut cut).terms (has ones)) cut.least sum least
