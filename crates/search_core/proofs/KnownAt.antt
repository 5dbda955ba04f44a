-- What holds of each row that is known at a node.
use Rattle.std.proofs.Common.{◌≡◌, ℕ, pos, ◌-ℤ◌, [], ◌++◌, map, slice_get, Option, Some, None, option_map, option_to_list, refl, sym, subst}
use Rattle.std.specs.List.{All}
use Rattle.std.proofs.lemmas.List.Elements.{All-append, All-map, All-cons, All-nil}
use Rattle.arch_model.specs.Parts.{LibraryParts}
use Rattle.arch_model.specs.Member.{member_count}
use Rattle.rows.specs.declared.known.RowRef.{RowRef}
use Rattle.rows.specs.declared.known.RowRef.TheVariants.{Base, Cut, Cost}
use Rattle.rows.specs.Parts.{RowParts, CutParts, KnownParts}
use Rattle.rows.specs.Row.{row_of_cut, IsRowBelow}
use Rattle.rows.specs.BaseRows.{cost_row_of, cost_terms}
use Rattle.rows.specs.Known.{row_at, IsCutBelow, known_cuts, known_rows}
use Rattle.rows.specs.Problem.{IsProblem}
use Rattle.binary_program.proofs.RowCounts.{is_row_below}
use Rattle.redundancy_cut.proofs.RowRanges.{row_variables}
use Rattle.search_core.proofs.Options.{mapped_from, all_at, all_in_front}

-- what holds of each base row, each known cut's row and the cost row for the bound, holds of each row that is known
pub each_known : (P : RowParts → Type 0) (known : KnownParts) → All P known.problem.base → ((j : ℕ) (cut : CutParts) → slice_get (known_cuts known) j ≡ Some cut → P (row_of_cut cut))
    → ((u : ℕ) → known.bound ≡ Some u → P (cost_row_of known.problem.library u)) → (r : RowRef) (row : RowParts) → row_at known r ≡ Some row → P row
each_known P known base cuts cost (Base i) row at = all_at P known.problem.base i row base at
each_known P known base cuts cost (Cut j) row at = mapped_from (P row) row_of_cut (slice_get (known_cuts known) j) row at (λ cut there is. subst P (sym is) (cuts j cut there))
each_known P known base cuts cost Cost row at = mapped_from (P row) (cost_row_of known.problem.library) known.bound row at (λ u there is. subst P (sym is) (cost u there))

-- the variables of each known row are the problem's
pub known_rows_below : (known : KnownParts) → IsProblem known.problem → All (IsCutBelow (member_count known.problem.library)) known.cuts → (r : RowRef) (row : RowParts) → row_at known r ≡ Some row
    → IsRowBelow (member_count known.problem.library) row
known_rows_below known is cuts =
    each_known (IsRowBelow (member_count known.problem.library)) known is.decide.variables
    (λ j cut at. row_variables (member_count known.problem.library) cut (all_in_front (IsCutBelow (member_count known.problem.library)) known.cuts known.upto j cut cuts at))
    (λ u at. is_row_below known.problem.library (cost_terms known.problem.library) (pos 1 -ℤ pos u))

-- what holds of each of these rows holds of all that are known
bound_row : (P : RowParts → Type 0) (lib : LibraryParts) (bound : Option ℕ) → ((u : ℕ) → bound ≡ Some u → P (cost_row_of lib u)) → All P (option_to_list (option_map (cost_row_of lib) bound))
bound_row P lib (Some u) cost = All-cons P (cost_row_of lib u) [] (cost u refl) (All-nil P)
bound_row P lib None cost = All-nil P

pub all_known : (P : RowParts → Type 0) (known : KnownParts) → All P known.problem.base → All (λ cut. P (row_of_cut cut)) (known_cuts known) → ((u : ℕ) → known.bound ≡ Some u → P (cost_row_of known.problem.library u)) → All P (known_rows known)
all_known P known base cuts cost =
    All-append P known.problem.base (map row_of_cut (known_cuts known) ++ option_to_list (option_map (cost_row_of known.problem.library) known.bound)) base
    (All-append P (map row_of_cut (known_cuts known)) (option_to_list (option_map (cost_row_of known.problem.library) known.bound))
    (All-map P row_of_cut (known_cuts known) cuts)
    (bound_row P known.problem.library known.bound cost))
