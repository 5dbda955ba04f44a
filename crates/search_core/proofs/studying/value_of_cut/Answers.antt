use Rattle.std.proofs.Common.{◌≡◌, ap, ◌∙◌, pos, ◌-ℤ◌}
use Rattle.arch_model.specs.Set.{len, intersection}
use Rattle.arch_model.specs.Member.{member_count}
use Rattle.rows.proofs.Activities.{difference_is}
use Rattle.search_core.proofs.CutValues.{counted_value, full_value}
use Rattle.search_core.proofs.studying.value_of_cut.Goals as goal

pub returns-clause-value : goal.returns-clause-value
returns-clause-value c =
    let plus : c.len-plus.result ≡ len (intersection c.args.cut.now.plus c.args.cube.now.ones) = cc in
    let minus : c.len-minus.result ≡ len (intersection c.args.cut.now.minus c.args.cube.now.ones) = cc in
    difference_is c.len-plus.result c.len-minus.result c.len-plus.type_inv c.len-minus.type_inv
    ∙ ap (λ n. pos n -ℤ pos c.len-minus.result) plus
    ∙ ap (λ n. pos (len (intersection c.args.cut.now.plus c.args.cube.now.ones)) -ℤ pos n) minus
    ∙ counted_value c.args.cut.now c.args.cube.now.ones c.plus.ensures.cut
    ∙ full_value (member_count c.args.problem.now.library) c.args.cut.now c.args.cube.now c.requires.below c.requires.full
