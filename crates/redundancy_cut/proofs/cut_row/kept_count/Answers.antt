use Rattle.std.proofs.Common.{ℕ, Bool, ◌&&◌, sym, ◌∙◌, arith}
use Rattle.arch_model.specs.Member.{is_present}
use Rattle.redundancy_cut.specs.CutRow.{feeds}
use Rattle.redundancy_cut.proofs.RowSteps.{count_yes, count_no}
use Rattle.redundancy_cut.proofs.cut_row.kept_count.Goals as goal
use Rattle.redundancy_cut.proofs.cut_row.kept_count.Goals.{then-is_kept, else-is_kept}

pub loop-i-preserved : goal.loop-i-preserved
loop-i-preserved c =
    let p : ℕ → Bool = λ v. feeds c.args.lib.now c.args.cone.now v && is_present c.args.lib.now c.args.of.now v in
    elim c.if-is_kept.branch [
      | then-is_kept w ↦ record {
        count = count_yes p c.loop-i.i c.loop-i.kept c.if-is_kept.kept c.loop-i.invariant.count (sym c.is_kept.ensures ∙ w.if-is_kept.true) w.kept-is;
        few = omega arith;
      }
      | else-is_kept w ↦ record {
        count = count_no p c.loop-i.i c.loop-i.kept c.if-is_kept.kept c.loop-i.invariant.count (sym c.is_kept.ensures ∙ w.if-is_kept.false) w.kept-is;
        few = omega arith;
      }
    ]
