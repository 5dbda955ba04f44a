use Rattle.std.proofs.Common.{◌≡◌, ◌≤◌, ◌&&◌, length}
use Rattle.arch_model.specs.Member.{is_present}
use Rattle.redundancy_cut.specs.CutRow.{feeds}
use Rattle.redundancy_cut.proofs.RowSteps.{passing}
use Rattle.redundancy_cut.proofs.cut_row.kept_count.Given as goal

abbrev pub invariant-loop-i : goal.invariant-loop-i
invariant-loop-i l = record { count : l.kept ≡ length (passing (λ v. feeds l.lib l.cone v && is_present l.lib l.of v) l.i); few : l.kept ≤ l.i }
