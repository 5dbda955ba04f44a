use Rattle.std.proofs.Common.{◌≡◌, pos, ◌-ℤ◌, ◌&&◌, not, length}
use Rattle.arch_model.specs.Member.{is_present}
use Rattle.redundancy_cut.specs.CutRow.{feeds, members_where}
use Rattle.redundancy_cut.proofs.RowSteps.{row_so_far}
use Rattle.redundancy_cut.proofs.cut_row.no_good_row.Given as goal

abbrev pub invariant-loop-i : goal.invariant-loop-i
invariant-loop-i l =
    l.row ≡ row_so_far (λ v. feeds l.lib l.cone v && not (is_present l.lib l.of v)) (λ v. feeds l.lib l.cone v && is_present l.lib l.of v)
    (pos 1 -ℤ pos (length (members_where l.lib (λ v. feeds l.lib l.cone v && is_present l.lib l.of v)))) l.i
