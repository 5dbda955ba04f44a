use Rattle.std.proofs.Common.{◌≡◌, pos, false}
use Rattle.redundancy_cut.specs.CutRow.{leads_out}
use Rattle.redundancy_cut.proofs.RowSteps.{row_so_far}
use Rattle.redundancy_cut.proofs.cut_row.redundancy_row.Given as goal

abbrev pub invariant-loop-i : goal.invariant-loop-i
invariant-loop-i l = l.row ≡ row_so_far (leads_out l.lib l.set l.far) (λ _. false) (pos 1) l.i
