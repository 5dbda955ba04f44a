use Rattle.std.proofs.Common.{ℕ, Bool, ℤ, pos, ◌-ℤ◌, ◌&&◌, not, length, ap, sym, ◌∙◌}
use Rattle.arch_model.specs.Member.{is_present}
use Rattle.rows.specs.Cut.{empty_cut}
use Rattle.rows.proofs.Activities.{plain}
use Rattle.redundancy_cut.specs.CutRow.{feeds, members_where}
use Rattle.redundancy_cut.proofs.RowSteps.{row_none, row_free, row_step}
use Rattle.redundancy_cut.proofs.cut_row.no_good_row.Goals as goal

pub loop-i-init : goal.loop-i-init
loop-i-init c =
    let kept : ℕ → Bool = λ v. feeds c.args.lib.now c.args.cone.now v && is_present c.args.lib.now c.args.of.now v in
    row_none (λ v. feeds c.args.lib.now c.args.cone.now v && not (is_present c.args.lib.now c.args.of.now v)) kept (pos 1 -ℤ pos (length (members_where c.args.lib.now kept))) c.new-row.result
    (c.new-row.ensures ∙ ap empty_cut (plain c.no_good_least.result c.no_good_least.ensures.sized ∙ c.no_good_least.ensures.least))

pub put_differing-requires-clause-apart : goal.put_differing-requires-clause-apart
put_differing-requires-clause-apart c =
    let kept : ℕ → Bool = λ v. feeds c.args.lib.now c.args.cone.now v && is_present c.args.lib.now c.args.of.now v in
    row_free (λ v. feeds c.args.lib.now c.args.cone.now v && not (is_present c.args.lib.now c.args.of.now v)) kept (pos 1 -ℤ pos (length (members_where c.args.lib.now kept))) c.loop-i.i c.loop-i.row c.loop-i.invariant

pub loop-i-preserved : goal.loop-i-preserved
loop-i-preserved c =
    let f : ℕ → Bool = feeds c.args.lib.now c.args.cone.now in
    let g : ℕ → Bool = is_present c.args.lib.now c.args.of.now in
    let least : ℤ = pos 1 -ℤ pos (length (members_where c.args.lib.now (λ v. f v && g v))) in
    row_step f g least c.loop-i.i c.loop-i.row c.put_differing.new.row c.loop-i.invariant c.put_differing.ensures.feeds c.put_differing.ensures.other
