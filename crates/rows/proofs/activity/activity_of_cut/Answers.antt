use Rattle.std.proofs.Common.{◌≡◌, ap, sym, ◌∙◌, pos, ◌-ℤ◌, not}
use Rattle.arch_model.specs.Set.{len}
use Rattle.rows.specs.Inner.Ends.{ones_among}
use Rattle.rows.proofs.Activities.{difference_is}
use Rattle.rows.proofs.CutActivity.{cut_activity, rises_at}
use Rattle.rows.proofs.activity.activity_of_cut.Goals as goal
use Rattle.rows.proofs.activity.activity_of_cut.Goals.{in-Greatest, in-Least}

rises_is : (c : goal.After-count_ones-minus) → c.match-end.rises ≡ rises_at c.args.end
rises_is c = elim c.match-end.branch [
  | in-Greatest w ↦ w.rises-is ∙ ap rises_at (sym w.in-Greatest.is)
  | in-Least w ↦ w.rises-is ∙ ap rises_at (sym w.in-Least.is)
]

pub returns-clause-value : goal.returns-clause-value
returns-clause-value c =
    let plus : c.count_ones-plus.result ≡ len (ones_among c.args.cut.now.plus c.args.cube.now (rises_at c.args.end)) =
    c.count_ones-plus.ensures.value ∙ ap (λ s. len (ones_among s c.args.cube.now c.match-end.rises)) c.plus.ensures.plus ∙ ap (λ b. len (ones_among c.args.cut.now.plus c.args.cube.now b)) (rises_is c) in
    let minus : c.count_ones-minus.result ≡ len (ones_among c.args.cut.now.minus c.args.cube.now (not (rises_at c.args.end))) =
    c.count_ones-minus.ensures.value ∙ ap (λ s. len (ones_among s c.args.cube.now (not c.match-end.rises))) c.minus.ensures.minus ∙ ap (λ b. len (ones_among c.args.cut.now.minus c.args.cube.now (not b))) (rises_is c) in
    difference_is c.count_ones-plus.result c.count_ones-minus.result c.count_ones-plus.type_inv c.count_ones-minus.type_inv
    ∙ ap (λ n. pos n -ℤ pos c.count_ones-minus.result) plus
    ∙ ap (λ n. pos (len (ones_among c.args.cut.now.plus c.args.cube.now (rises_at c.args.end))) -ℤ pos n) minus
    ∙ sym (cut_activity c.args.end c.args.cut.now c.args.cube.now c.plus.ensures.cut c.count_ones-plus.ensures.cube)
