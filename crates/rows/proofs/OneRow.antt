-- A row taken once, as a reason.
use Rattle.std.proofs.Common.{◌≡◌, ℕ, zero, suc, ◌+◌, ◌≤◌, ◌<◌, ℤ, pos, ◌+ℤ◌, ◌*ℤ◌, int_lt, Bool, true, false, nat_eq, List, [], ◌∷◌, ◌++◌, map, flat_map, Option, Some, None, refl, sym, ap, subst, ◌∙◌, inl, inr, arith, unwrap_or, is_some, if◌then◌else◌}
use Rattle.std.specs.Prelude.{IsTrue}
use Rattle.std.specs.List.{All, AllByRecursion, range_with_len}
use Rattle.std.proofs.Math.IntN.{+ℤ_idl, +ℤ_idr, suc_ℤ-*ℤ, zero-*ℤ}
use Rattle.std.proofs.lemmas.Bool.Decides.{eqb_tells}
use Rattle.std.proofs.lemmas.List.Elements.{recursion_from_All, All-cons, All-nil}
use Rattle.rows.specs.declared.row.Term.{Term}
use Rattle.rows.specs.declared.known.RowRef.{RowRef}
use Rattle.rows.specs.declared.known.Pair.{Pair}
use Rattle.rows.specs.Parts.{RowParts, CubeParts, KnownParts}
use Rattle.rows.specs.Row.{int_sum_by, coef_at, Ascends, IsRowBelow}
use Rattle.rows.specs.Cube.{value_at}
use Rattle.rows.specs.Activity.{best_of, greatest_activity, is_refuted}
use Rattle.rows.specs.Known.{row_at, has_row, variables, IsKnown}
use Rattle.rows.specs.Problem.{IsProblem}
use Rattle.rows.specs.Reason.{AllThere, row_of_pair, empty_row, combination_of, is_together}
use Rattle.rows.proofs.IntSums.{int_sum_by-same}
use Rattle.rows.proofs.Costs.{unlike}
use Rattle.rows.proofs.Collected.{sum_one, sum_both}
use Rattle.rows.proofs.Combinations.{combined, combined_best, combined_activity, pair_coef}
use Rattle.rows.proofs.WhatIsForced.{After, Rising, rising_from, coef_after, coef_head, coef_tail}
use Rattle.rows.proofs.TraceLaws.{known_has, rows_below, named_ascends}

-- a variable without a coefficient adds nothing
best_zero : (value : Option Bool) → best_of value (pos 0) ≡ pos 0
best_zero (Some true) = refl
best_zero (Some false) = refl
best_zero None = refl

sum_zeros : (cube : CubeParts) (vs : List ℕ) → int_sum_by (λ v. best_of (value_at cube v) (pos 0)) vs ≡ pos 0
sum_zeros cube [] = refl
sum_zeros cube (v ∷ vs) = ap (λ z. z +ℤ int_sum_by (λ w. best_of (value_at cube w) (pos 0)) vs) (best_zero (value_at cube v)) ∙ +ℤ_idl _ ∙ sum_zeros cube vs

-- what a variable adds by ascending terms: by its own term, or by the rest
one_term : (cube : CubeParts) (t : Term) (terms : List Term) (v : ℕ) → After t.var.0 terms
    → best_of (value_at cube v) (coef_at (t ∷ terms) v) ≡ (if nat_eq t.var.0 v then best_of (value_at cube v) t.coef else pos 0) +ℤ best_of (value_at cube v) (coef_at terms v)
one_term cube t terms v after = elim (eqb_tells t.var.0 v) [
  | inl w ↦
      let later : After v terms = subst (λ u. After u terms) w.1 after in
      ap (best_of (value_at cube v)) (coef_head t terms v w.1 later)
      ∙ sym (ap (λ b. (if b then best_of (value_at cube v) t.coef else pos 0) +ℤ best_of (value_at cube v) (coef_at terms v)) w.0
      ∙ ap (λ a. best_of (value_at cube v) t.coef +ℤ best_of (value_at cube v) a) (coef_after terms v later)
      ∙ ap (λ z. best_of (value_at cube v) t.coef +ℤ z) (best_zero (value_at cube v)) ∙ +ℤ_idr _)
  | inr w ↦
      ap (best_of (value_at cube v)) (coef_tail t terms v w.1)
      ∙ sym (ap (λ b. (if b then best_of (value_at cube v) t.coef else pos 0) +ℤ best_of (value_at cube v) (coef_at terms v)) w.0 ∙ +ℤ_idl _)
]

-- the greatest sum of ascending terms, variable by variable
by_terms : (cube : CubeParts) (n : ℕ) (terms : List Term) → Rising terms → AllByRecursion (λ t. t.var.0 < n) terms
    → int_sum_by (λ v. best_of (value_at cube v) (coef_at terms v)) (range_with_len 0 n) ≡ int_sum_by (λ t. best_of (value_at cube t.var.0) t.coef) terms
by_terms cube n [] rising below = sum_zeros cube (range_with_len 0 n)
by_terms cube n (t ∷ terms) rising below =
    let low : 0 ≤ t.var.0 = omega arith in
    let high : t.var.0 < 0 + n = omega (arith, below.0) in
    sum_both (λ v. if nat_eq t.var.0 v then best_of (value_at cube v) t.coef else pos 0) (λ v. best_of (value_at cube v) (coef_at terms v)) (λ v. best_of (value_at cube v) (coef_at (t ∷ terms) v)) (range_with_len 0 n)
    (λ v. one_term cube t terms v rising.0)
    ∙ ap (λ z. z +ℤ int_sum_by (λ v. best_of (value_at cube v) (coef_at terms v)) (range_with_len 0 n)) (sum_one t.var.0 0 n (λ v. best_of (value_at cube v) t.coef) low high)
    ∙ ap (λ z. best_of (value_at cube t.var.0) t.coef +ℤ z) (by_terms cube n terms rising.1 below.1)

-- once a number is that number
once : (a : ℤ) → (pos 1 *ℤ a) +ℤ pos 0 ≡ a
once a = +ℤ_idr (pos 1 *ℤ a) ∙ suc_ℤ-*ℤ (pos 0) a ∙ ap (λ z. z +ℤ a) (zero-*ℤ a) ∙ +ℤ_idl a

-- a row's name, taken once
abbrev pub taken_once : RowRef → List Pair
taken_once r = record { row = r; times = 1 } ∷ []

row_once : (known : KnownParts) (r : RowRef) (row : RowParts) → row_at known r ≡ Some row → row_of_pair known (record { row = r; times = 1 }) ≡ row
row_once known r row at = ap (λ o. unwrap_or o empty_row) at

-- the combination of a row taken once has the row's greatest activity and its least
activity_once : (known : KnownParts) (r : RowRef) (row : RowParts) (cube : CubeParts) → row_at known r ≡ Some row → Ascends row → IsRowBelow (variables known) row
    → greatest_activity (combination_of known (taken_once r)) cube ≡ greatest_activity row cube
activity_once known r row cube at ascends below =
    sym (combined_activity known (taken_once r) cube)
    ∙ int_sum_by-same (combined_best known (taken_once r) cube) (λ v. best_of (value_at cube v) (coef_at row.terms v))
    (λ v. ap (best_of (value_at cube v)) (combined known (taken_once r) v ∙ once (coef_at (row_of_pair known (record { row = r; times = 1 })).terms v) ∙ ap (λ (w : RowParts). coef_at w.terms v) (row_once known r row at)))
    (range_with_len 0 (variables known))
    ∙ by_terms cube (variables known) row.terms (rising_from row.terms ascends) (recursion_from_All (λ (t : Term). t.var.0 < variables known) row.terms below)

least_once : (known : KnownParts) (r : RowRef) (row : RowParts) → row_at known r ≡ Some row → (combination_of known (taken_once r)).least ≡ row.least
least_once known r row at = once (row_of_pair known (record { row = r; times = 1 })).least ∙ ap (λ (w : RowParts). w.least) (row_once known r row at)

-- so a row that is known is refuted exactly where it is as a reason, taken once
pub refuted_once : (known : KnownParts) (r : RowRef) (row : RowParts) (cube : CubeParts) → IsProblem known.problem → IsKnown known → row_at known r ≡ Some row → is_together known (taken_once r) cube ≡ is_refuted row cube
refuted_once known r row cube problem ok at =
    ap (λ a. int_lt a (combination_of known (taken_once r)).least) (activity_once known r row cube at (named_ascends known r row problem at) (known_has (IsRowBelow (variables known)) known r row (rows_below known problem ok) at))
    ∙ ap (int_lt (greatest_activity row cube)) (least_once known r row at)

pub there_once : (known : KnownParts) (r : RowRef) → IsTrue (has_row known r) → AllThere known (taken_once r)
there_once known r there = All-cons (λ (p : Pair). IsTrue (has_row known p.row)) (record { row = r; times = 1 }) [] there (All-nil (λ (p : Pair). IsTrue (has_row known p.row)))
