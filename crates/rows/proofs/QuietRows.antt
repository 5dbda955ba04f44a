-- When all rows of a list are quiet in a cube.
use Rattle.std.proofs.Common.{◌≡◌, ℕ, ◌+◌, ◌<◌, ◌≤◌, Bool, true, false, not, ◌↔◌, List, ◌++◌, map, take, length, get_or, slice_get, Option, option_map, Some, None, is_none, IfSome, refl, sym, ap, subst, ◌∙◌, IsTrue}
use Rattle.std.specs.List.{list_all, All}
use Rattle.std.specs.Option.{option_to_list}
use Rattle.std.proofs.lemmas.Option.{slice_get-get_or}
use Rattle.std.proofs.lemmas.List.{take_all}
use Rattle.std.proofs.lemmas.List.Sums.{AllPass-from_list_all, list_all-from_AllPass}
use Rattle.std.proofs.lemmas.List.Elements.{All-weaker, All-from_recursion, recursion_from_All}
use Rattle.std.proofs.lemmas.List.Folds.{list_all_more, list_all_at}
use Rattle.arch_model.proofs.Members.{and_left, and_right, and_both}
use Rattle.rows.specs.declared.known.RowRef.{RowRef}
use Rattle.rows.specs.Parts.{RowParts, CubeParts, KnownParts}
use Rattle.rows.specs.Activity.{is_refuted, least_forced, IsQuietAt}
use Rattle.rows.specs.Reason.{empty_row}
use Rattle.rows.specs.Row.{row_of_cut}
use Rattle.rows.specs.BaseRows.{cost_row_of}
use Rattle.rows.specs.Known.{row_at, known_cuts, known_rows, IsQuiet}
use Rattle.rows.specs.Inner.Quiet.{is_quiet_at}
use Rattle.rows.proofs.AllParts.{all_left}
use Rattle.rows.proofs.LeastForced.{nothing_to, nothing_from}

none_is : {X : Type 0} (o : Option X) → is_none o ≡ true → o ≡ None
none_is (Some x) h = absurd (let e : false ≡ true = h in cc)
none_is None h = refl

not_true : (b : Bool) → not b ≡ true → b ≡ false
not_true true h = absurd (let e : false ≡ true = h in cc)
not_true false h = refl

tested : (cube : CubeParts) (row : RowParts) → is_quiet_at cube row ≡ true → IsQuietAt cube row
tested cube row h = record {
  open_yet = not_true (is_refuted row cube) (and_left (not (is_refuted row cube)) (is_none (least_forced row cube)) h);
  still = nothing_to row cube (none_is (least_forced row cube) (and_right (not (is_refuted row cube)) (is_none (least_forced row cube)) h));
}

passed : (cube : CubeParts) (row : RowParts) → IsQuietAt cube row → is_quiet_at cube row ≡ true
passed cube row h = and_both (not (is_refuted row cube)) (is_none (least_forced row cube)) (ap not h.open_yet) (ap is_none (nothing_from row cube h.still))

-- the test of all rows is exact
pub all_tested : (cube : CubeParts) (rows : List RowParts) → IsTrue (list_all (is_quiet_at cube) rows) ↔ All (IsQuietAt cube) rows
all_tested cube rows = (
  (λ h. All-weaker (λ row. is_quiet_at cube row ≡ true) (IsQuietAt cube) (λ row passes. tested cube row passes) rows (AllPass-from_list_all (is_quiet_at cube) rows h)),
  (λ h. list_all-from_AllPass (is_quiet_at cube) rows (All-weaker (IsQuietAt cube) (λ row. is_quiet_at cube row ≡ true) (λ row quiet. passed cube row quiet) rows h)),
)

-- a loop over the rows that are known
module _ (known : KnownParts) (cube : CubeParts) (r : RowRef) (k : ℕ) (b : Bool) (at : row_at known r ≡ slice_get (known_rows known) k) (short : k < length (known_rows known)) (is : IfSome (row_at known r) (λ row. b ≡ is_quiet_at cube row)) where
  test_at : b ≡ is_quiet_at cube (get_or (known_rows known) k empty_row)
  test_at =
      let family : Option RowParts → Type 0 = λ o. IfSome o (λ row. b ≡ is_quiet_at cube row) in
      let there : row_at known r ≡ Some (get_or (known_rows known) k empty_row) = at ∙ slice_get-get_or (known_rows known) k empty_row short in
      subst family there is

  pub quiet_past : list_all (is_quiet_at cube) (take k (known_rows known)) ≡ true → b ≡ true → list_all (is_quiet_at cube) (take (k + 1) (known_rows known)) ≡ true
  quiet_past before on =
      list_all_more (is_quiet_at cube) (known_rows known) k empty_row short
      ∙ and_both (list_all (is_quiet_at cube) (take k (known_rows known))) (is_quiet_at cube (get_or (known_rows known) k empty_row)) before (sym test_at ∙ on)

  pub loud_here : b ≡ false → IsTrue false ↔ All (IsQuietAt cube) (known_rows known)
  loud_here off = (
    (λ h. absurd (let e : false ≡ true = h in cc)),
    (λ all. sym (list_all_at (is_quiet_at cube) (known_rows known) k empty_row short (sym test_at ∙ off)) ∙ (all_tested cube (known_rows known)).1 all),
  )

pub quiet_end : (cube : CubeParts) (rows : List RowParts) (k : ℕ) → length rows ≤ k → list_all (is_quiet_at cube) (take k rows) ≡ true → IsTrue true ↔ All (IsQuietAt cube) rows
quiet_end cube rows k far all = ((λ h. (all_tested cube rows).0 (sym (ap (list_all (is_quiet_at cube)) (take_all k rows far)) ∙ all)), (λ h. refl))

-- in a cube that is quiet for what is known no base row is refuted
pub base_stands : (known : KnownParts) (cube : CubeParts) → IsQuiet known cube → All (λ row. is_refuted row cube ≡ false) known.problem.base
base_stands known cube quiet =
    All-weaker (IsQuietAt cube) (λ row. is_refuted row cube ≡ false) (λ row at. at.open_yet) known.problem.base
    (All-from_recursion (IsQuietAt cube) known.problem.base
    (all_left (IsQuietAt cube) known.problem.base (map row_of_cut (known_cuts known) ++ option_to_list (option_map (cost_row_of known.problem.library) known.bound)) (recursion_from_All (IsQuietAt cube) (known_rows known) quiet)))
