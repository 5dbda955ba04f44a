-- What the row of a cut comes to where nothing is free.
use Rattle.std.proofs.Common.{◌≡◌, ℕ, ◌<◌, pos, ◌-ℤ◌, true, ◌&&◌, length, sym, ap, ◌∙◌}
use Rattle.std.specs.List.{range_with_len}
use Rattle.arch_model.specs.declared.limits.TheConstants.{MEMBERS}
use Rattle.arch_model.specs.Set.{Set, has, len, intersection, members_below}
use Rattle.arch_model.proofs.Members.{and_left}
use Rattle.arch_model.proofs.SetLaws.{has-intersection}
use Rattle.arch_model.proofs.Counting.{len-members}
use Rattle.rows.specs.Parts.{CutParts, CubeParts}
use Rattle.rows.specs.Row.{value_of, row_of_cut}
use Rattle.rows.specs.Cut.{IsCut}
use Rattle.rows.specs.Cube.{IsFull}
use Rattle.rows.specs.Activity.{greatest_activity}
use Rattle.rows.specs.Known.{IsCutBelow}
use Rattle.rows.proofs.CubeLaws.{activity_is_value}
use Rattle.redundancy_cut.proofs.NumberSets.{filter_same}
use Rattle.redundancy_cut.proofs.RowValues.{chosen_in, row_value}
use Rattle.redundancy_cut.proofs.RowRanges.{row_variables}

-- how many variables of a set are at 1
common_count : (s ones : Set) → ((v : ℕ) → has s v ≡ true → v < MEMBERS) → len (intersection s ones) ≡ chosen_in s (has ones)
unfolding members_below
common_count s ones small =
    len-members (intersection s ones) MEMBERS (λ v on. small v (and_left (has s v) (has ones v) (sym (has-intersection s ones v) ∙ on)))
    ∙ ap length (filter_same (has (intersection s ones)) (λ v. has s v && has ones v) (range_with_len 0 MEMBERS) (λ v here. has-intersection s ones v))

-- the variables with coefficient 1 that are at 1, less those with -1
pub counted_value : (cut : CutParts) (ones : Set) → IsCut cut → pos (len (intersection cut.plus ones)) -ℤ pos (len (intersection cut.minus ones)) ≡ value_of (row_of_cut cut).terms (has ones)
counted_value cut ones is =
    ap (λ n. pos n -ℤ pos (len (intersection cut.minus ones))) (common_count cut.plus ones is.small_plus)
    ∙ ap (λ n. pos (chosen_in cut.plus (has ones)) -ℤ pos n) (common_count cut.minus ones is.small_minus)
    ∙ sym (row_value cut is.apart (has ones))

-- it is the greatest activity there
pub full_value : (n : ℕ) (cut : CutParts) (cube : CubeParts) → IsCutBelow n cut → IsFull n cube → value_of (row_of_cut cut).terms (has cube.ones) ≡ greatest_activity (row_of_cut cut) cube
full_value n cut cube below full = sym (activity_is_value n (row_of_cut cut) cube (row_variables n cut below) full)
