use Rattle.std.proofs.Common.{ℕ, Bool, pos, false, refl, sym, ◌∙◌, ◌≡◌, arith}
use Rattle.arch_model.specs.Member.{member_count}
use Rattle.redundancy_cut.specs.CutRow.{leads_out}
use Rattle.redundancy_cut.proofs.RowSteps.{row_none, row_free, row_plus, row_same, one_done}
use Rattle.redundancy_cut.proofs.cut_row.redundancy_row.Goals as goal
use Rattle.redundancy_cut.proofs.cut_row.redundancy_row.Goals.{then-leads_out, else-leads_out}

pub loop-i-init : goal.loop-i-init
loop-i-init c = row_none (leads_out c.args.lib.now c.args.set.now c.args.far.now) (λ _. false) (pos 1) c.new-row.result c.new-row.ensures

pub put-requires-clause-apart : goal.put-requires-clause-apart
put-requires-clause-apart c = row_free (leads_out c.args.lib.now c.args.set.now c.args.far.now) (λ _. false) (pos 1) c.loop-i.i c.loop-i.row c.loop-i.invariant

pub loop-i-preserved : goal.loop-i-preserved
loop-i-preserved c =
    let p : ℕ → Bool = leads_out c.args.lib.now c.args.set.now c.args.far.now in
    elim c.if-leads_out.branch [
      | then-leads_out w ↦ row_plus p (λ _. false) (pos 1) c.loop-i.i c.loop-i.row c.if-leads_out.row c.loop-i.invariant (sym c.leads_out.ensures ∙ w.if-leads_out.true) refl (w.row-is ∙ w.put.ensures)
      | else-leads_out w ↦ row_same p (λ _. false) (pos 1) c.loop-i.i c.loop-i.row c.if-leads_out.row c.loop-i.invariant (sym c.leads_out.ensures ∙ w.if-leads_out.false) refl w.row-is
    ]

pub returns : goal.returns
returns c =
    let same : c.loop-i.i ≡ member_count c.args.lib.now = omega arith in
    one_done (leads_out c.args.lib.now c.args.set.now c.args.far.now) c.loop-i.i (member_count c.args.lib.now) c.loop-i.row c.loop-i.invariant same
