-- The row of a cut is one of the library's variables.
use Rattle.std.proofs.Common.{◌≡◌, ℕ, ◌<◌, ◌≤◌, ◌^◌, pos, ◌-ℤ◌, unsigned_abs, Bool, true, false, not, ◌&&◌, length, refl, sym, subst, ◌∙◌, arith, inl, inr}
use Rattle.std.proofs.lemmas.Int.{ints}
use Rattle.std.proofs.lemmas.List.FromFn.{length-range_with_len}
use Rattle.std.proofs.lemmas.List.Elements.{All-map, All-from_recursion}
use Rattle.arch_model.specs.declared.limits.TheConstants.{MEMBERS}
use Rattle.arch_model.specs.Set.{has, empty, union, members_below}
use Rattle.arch_model.specs.Parts.{LibraryParts, ArchitectureParts}
use Rattle.arch_model.specs.Library.{IsLibrary}
use Rattle.arch_model.specs.Member.{is_present, member_count, member_numbers}
use Rattle.arch_model.proofs.Members.{or_cases, bool_cases, length-filter-le}
use Rattle.arch_model.proofs.SetLaws.{has-empty, has-union}
use Rattle.rows.specs.declared.row.Term.{Term}
use Rattle.rows.specs.Parts.{CutParts, CubeParts}
use Rattle.rows.specs.Row.{RowHolds, IsRowBelow, term, cut_coef, row_of_cut}
use Rattle.rows.specs.Cube.{IsFull}
use Rattle.rows.specs.Activity.{is_refuted}
use Rattle.rows.specs.Cut.{IsCut}
use Rattle.rows.specs.Known.{IsCutBelow}
use Rattle.rows.proofs.IntSums.{sized_from}
use Rattle.rows.proofs.CubeLaws.{stands_where_it_holds}
use Rattle.redundancy_cut.specs.declared.cut.Cut.{Cut}
use Rattle.redundancy_cut.specs.declared.cut.Cut.TheVariants.{Redundancy, NoGood}
use Rattle.redundancy_cut.specs.CutRow.{set_of_numbers, members_where, leads_out, feeds, cut_row_of}
use Rattle.redundancy_cut.proofs.NumberSets.{has-set_of_numbers, where_below}
use Rattle.redundancy_cut.proofs.RowValues.{apart}
use Rattle.redundancy_cut.proofs.MemberLists.{of_members}

none_below : (n v : ℕ) → has empty v ≡ true → v < n
none_below n v h = absurd (let e : false ≡ true = sym (has-empty v) ∙ h in cc)

set_below : (lib : LibraryParts) (test : ℕ → Bool) (v : ℕ) → has (set_of_numbers (members_where lib test)) v ≡ true → v < member_count lib
set_below lib test v h = where_below lib test v (sym (has-set_of_numbers (members_where lib test) v) ∙ h)

pub cut_below : (lib : LibraryParts) (cut : Cut) (arch : ArchitectureParts) → IsCutBelow (member_count lib) (cut_row_of lib cut arch)
cut_below lib (Redundancy q set far) arch = record { plus = set_below lib (leads_out lib set far); minus = none_below (member_count lib) }
cut_below lib (NoGood q cone) arch = record {
  plus = set_below lib (λ v. feeds lib cone v && not (is_present lib arch v));
  minus = set_below lib (λ v. feeds lib cone v && is_present lib arch v);
}

-- the same of a row that is that of a cut
pub row_below : (lib : LibraryParts) (cut : Cut) (arch : ArchitectureParts) (row : CutParts) → row ≡ cut_row_of lib cut arch → IsCutBelow (member_count lib) row
row_below lib cut arch row e = subst (IsCutBelow (member_count lib)) (sym e) (cut_below lib cut arch)

few_left : (k : ℕ) → k ≤ MEMBERS → unsigned_abs (pos 1 -ℤ pos k) ≤ 10 ^ 16
few_left k h = sized_from (pos 1 -ℤ pos k) (10 ^ 16) (omega (arith, ints)) (omega (arith, ints))

pub cut_is_row : (lib : LibraryParts) → IsLibrary lib → (cut : Cut) (arch : ArchitectureParts) → IsCut (cut_row_of lib cut arch)
cut_is_row lib right (Redundancy q set far) arch = record {
  apart = λ v h. has-empty v;
  small_plus = λ v h. let low = set_below lib (leads_out lib set far) v h in omega (arith, low, right.few_components, right.few_edges);
  small_minus = none_below MEMBERS;
  least = omega arith;
}
cut_is_row lib right (NoGood q cone) arch = record {
  apart = apart lib right arch (feeds lib cone) (λ _. true);
  small_plus = λ v h. let low = set_below lib (λ v. feeds lib cone v && not (is_present lib arch v)) v h in omega (arith, low, right.few_components, right.few_edges);
  small_minus = λ v h. let low = set_below lib (λ v. feeds lib cone v && is_present lib arch v) v h in omega (arith, low, right.few_components, right.few_edges);
  least = few_left (length (members_where lib (λ v. feeds lib cone v && is_present lib arch v)))
      (omega (arith, length-filter-le (λ v. feeds lib cone v && is_present lib arch v) (member_numbers lib), length-range_with_len 0 (member_count lib), right.few_components, right.few_edges));
}

-- its terms are over these variables
pub row_variables : (n : ℕ) (cut : CutParts) → IsCutBelow n cut → IsRowBelow n (row_of_cut cut)
row_variables n cut below =
    let both = union cut.plus cut.minus in
    All-map (λ (t : Term). t.var.0 < n) (λ v. term v (cut_coef cut v)) (members_below both MEMBERS)
    (All-from_recursion (λ v. v < n) (members_below both MEMBERS) (of_members (λ v. v < n) both MEMBERS (members_below both MEMBERS) refl (λ v h.
    elim (or_cases (has cut.plus v) (has cut.minus v) (sym (has-union cut.plus cut.minus v) ∙ h)) [ inl plus ↦ below.plus v plus | inr minus ↦ below.minus v minus ])))

-- where nothing is free, a row that the one vector doesn't meet is refuted
pub refuted_where_broken : (n : ℕ) (cut : CutParts) (cube : CubeParts) → IsCutBelow n cut → IsFull n cube → (RowHolds (row_of_cut cut) (has cube.ones) → ⊥) → is_refuted (row_of_cut cut) cube ≡ true
refuted_where_broken n cut cube below full broken = elim (bool_cases (is_refuted (row_of_cut cut) cube)) [
  | inl refuted ↦ refuted
  | inr stands ↦ absurd (broken ((stands_where_it_holds n (row_of_cut cut) cube (row_variables n cut below) full).0 stands))
]
