-- What cubes say of the vectors that lie in them.
use Rattle.std.proofs.Common.{◌≡◌, ℕ, ◌<◌, ℤ, pos, negsuc, ◌+ℤ◌, ◌≤ℤ◌, ◌<ℤ◌, int_lt, Bool, true, false, not, List, [], ◌∷◌, Some, None, refl, sym, ap, ◌∙◌, arith, inl, inr, if◌then◌else◌}
use Rattle.std.specs.List.{AllByRecursion}
use Rattle.std.specs.Prelude.{◌↔◌}
use Rattle.std.proofs.lemmas.Int.{ints}
use Rattle.std.proofs.lemmas.Bool.Decides.{eqb_tells}
use Rattle.std.proofs.lemmas.List.Elements.{recursion_from_All}
use Rattle.arch_model.proofs.Members.{bool_cases}
use Rattle.arch_model.specs.Set.{has, put}
use Rattle.rows.specs.declared.row.Term.{Term}
use Rattle.rows.specs.Parts.{RowParts, CubeParts}
use Rattle.rows.specs.Row.{value_of, RowHolds, IsRowBelow}
use Rattle.rows.specs.Cube.{IsCube, value_at, is_free, fixed_at, LiesIn, IsFull}
use Rattle.rows.specs.Activity.{best_of, greatest_activity, worst_of, least_activity, IsRefuted, is_refuted, IsUnmet, Forces}
use Rattle.rows.proofs.WhatIsForced.{has-put_other, ones_other, ones_same, above_least}

-- a term adds at most its best value
best_above : (a : ℤ) → (a ≤ℤ best_of None a) × (pos 0 ≤ℤ best_of None a)
best_above (pos n) = (grind (arith, ints), grind (arith, ints))
best_above (negsuc n) = (omega (arith, ints), omega (arith, ints))

free_at_most : (on : Bool) (a : ℤ) → (if on then a else pos 0) ≤ℤ best_of None a
free_at_most true a = (best_above a).0
free_at_most false a = (best_above a).1

le_same : (a b : ℤ) → a ≡ b → a ≤ℤ b
le_same a b e = omega (arith, ints)

at_most_best : (on fixed one : Bool) (a : ℤ) → (fixed ≡ true → on ≡ one) → (if on then a else pos 0) ≤ℤ best_of (if fixed then Some one else None) a
at_most_best on true one a same = le_same (if on then a else pos 0) (if one then a else pos 0) (ap (λ b. if b then a else pos 0) (same refl))
at_most_best on false one a same = free_at_most on a

add_le : (a b c d : ℤ) → a ≤ℤ b → c ≤ℤ d → (a +ℤ c) ≤ℤ (b +ℤ d)
add_le a b c d h k = omega (arith, ints)

-- the sum of a row at a vector of a cube is at most its greatest activity
pub value_at_most : (terms : List Term) (cube : CubeParts) (x : ℕ → Bool) (least : ℤ) → LiesIn x cube → value_of terms x ≤ℤ greatest_activity (record { terms = terms; least = least }) cube
value_at_most [] cube x least lies = omega (arith, ints)
value_at_most (t ∷ terms) cube x least lies =
    add_le (if x t.var.0 then t.coef else pos 0) (best_of (value_at cube t.var.0) t.coef) (value_of terms x) (greatest_activity (record { terms = terms; least = least }) cube)
    (at_most_best (x t.var.0) (has cube.fixed t.var.0) (has cube.ones t.var.0) t.coef (lies t.var.0)) (value_at_most terms cube x least lies)

-- so a vector that meets a row lies in no cube where the row is refuted
pub holds_nowhere : (row : RowParts) (cube : CubeParts) (x : ℕ → Bool) → LiesIn x cube → RowHolds row x → IsRefuted row cube → ⊥
holds_nowhere row cube x lies holds refuted = let most = value_at_most row.terms cube x row.least lies in omega (arith, ints)

-- a term adds at least its worst value
worst_below : (a : ℤ) → (worst_of None a ≤ℤ a) × (worst_of None a ≤ℤ pos 0)
worst_below (pos n) = (grind (arith, ints), grind (arith, ints))
worst_below (negsuc n) = (omega (arith, ints), omega (arith, ints))

free_at_least : (on : Bool) (a : ℤ) → worst_of None a ≤ℤ (if on then a else pos 0)
free_at_least true a = (worst_below a).0
free_at_least false a = (worst_below a).1

at_least_worst : (on fixed one : Bool) (a : ℤ) → (fixed ≡ true → on ≡ one) → worst_of (if fixed then Some one else None) a ≤ℤ (if on then a else pos 0)
at_least_worst on true one a same = le_same (if one then a else pos 0) (if on then a else pos 0) (ap (λ b. if b then a else pos 0) (sym (same refl)))
at_least_worst on false one a same = free_at_least on a

-- the sum of a row at a vector of a cube is at least its least activity
value_at_least : (terms : List Term) (cube : CubeParts) (x : ℕ → Bool) (least : ℤ) → LiesIn x cube → least_activity (record { terms = terms; least = least }) cube ≤ℤ value_of terms x
value_at_least [] cube x least lies = omega (arith, ints)
value_at_least (t ∷ terms) cube x least lies =
    add_le (worst_of (value_at cube t.var.0) t.coef) (if x t.var.0 then t.coef else pos 0) (least_activity (record { terms = terms; least = least }) cube) (value_of terms x)
    (at_least_worst (x t.var.0) (has cube.fixed t.var.0) (has cube.ones t.var.0) t.coef (lies t.var.0)) (value_at_least terms cube x least lies)

-- so where a row isn't unmet, each vector of the cube meets it
not_below : (a l : ℤ) → (a <ℤ l → ⊥) → l ≤ℤ a
not_below a l h = elim (bool_cases (int_lt a l)) [
  | inl on ↦ absurd (h (let e : int_lt a l ≡ true = on in grind (arith, ints)))
  | inr off ↦ above_least a l off
]

pub holds_where_met : (row : RowParts) (cube : CubeParts) (x : ℕ → Bool) → LiesIn x cube → (IsUnmet row cube → ⊥) → RowHolds row x
holds_where_met row cube x lies met =
    let low = value_at_least row.terms cube x row.least lies in
    let above : row.least ≤ℤ least_activity row cube = not_below (least_activity row cube) row.least met in
    omega (arith, ints)

pub is_refuted_when : (row : RowParts) (cube : CubeParts) → is_refuted row cube ≡ true → IsRefuted row cube
is_refuted_when row cube h = grind (arith, ints)

-- a vector of the cube with the other value lies in the cube with that value fixed
pub lies_fixed : (cube : CubeParts) (x : ℕ → Bool) (v : ℕ) (b : Bool) → IsCube cube → is_free cube v ≡ true → LiesIn x cube → x v ≡ b → LiesIn x (fixed_at cube v b)
lies_fixed cube x v b ok free lies at w on = elim (eqb_tells v w) [
  | inl same ↦ ap x (sym same.1) ∙ at ∙ sym (ones_same cube v b ok free) ∙ ap (has (if b then put cube.ones v else cube.ones)) same.1
  | inr other ↦ lies w (sym (has-put_other cube.fixed v w other.1) ∙ on) ∙ sym (ones_other cube v w b other.1)
]

other_value : (a b : Bool) → (a ≡ not b → ⊥) → a ≡ b
other_value true true h = refl
other_value true false h = absurd (h refl)
other_value false true h = absurd (h refl)
other_value false false h = refl

-- a forced variable has its value in each vector of the cube that meets the row
pub forced_is_kept : (row : RowParts) (cube : CubeParts) (v : ℕ) (b : Bool) (x : ℕ → Bool) → IsCube cube → Forces row cube v b → LiesIn x cube → RowHolds row x → x v ≡ b
forced_is_kept row cube v b x ok forced lies holds =
    other_value (x v) b (λ at. holds_nowhere row (fixed_at cube v (not b)) x (lies_fixed cube x v (not b) ok forced.is_free lies at) holds (is_refuted_when row (fixed_at cube v (not b)) forced.other))

-- where nothing is free, the greatest activity is the sum at the one vector
full_term : (fixed one : Bool) (a : ℤ) → fixed ≡ true → best_of (if fixed then Some one else None) a ≡ (if one then a else pos 0)
full_term true one a h = refl
full_term false one a h = let e : false ≡ true = h in cc

activity_full : (n : ℕ) (terms : List Term) (cube : CubeParts) (least : ℤ) → AllByRecursion (λ t. t.var.0 < n) terms → IsFull n cube → greatest_activity (record { terms = terms; least = least }) cube ≡ value_of terms (has cube.ones)
activity_full n [] cube least below full = refl
activity_full n (t ∷ terms) cube least below full =
    ap (λ z. z +ℤ greatest_activity (record { terms = terms; least = least }) cube) (full_term (has cube.fixed t.var.0) (has cube.ones t.var.0) t.coef (full t.var.0 below.0))
    ∙ ap (λ z. (if has cube.ones t.var.0 then t.coef else pos 0) +ℤ z) (activity_full n terms cube least below.1 full)

pub activity_is_value : (n : ℕ) (row : RowParts) (cube : CubeParts) → IsRowBelow n row → IsFull n cube → greatest_activity row cube ≡ value_of row.terms (has cube.ones)
activity_is_value n row cube below full = activity_full n row.terms cube row.least (recursion_from_All (λ (t : Term). t.var.0 < n) row.terms below) full

-- and a row is refuted there exactly where that vector doesn't meet it
stands_by : (g v l : ℤ) → g ≡ v → (int_lt g l ≡ false → l ≤ℤ v) × (l ≤ℤ v → int_lt g l ≡ false)
stands_by g v l e = ((λ h. let up = above_least g l h in omega (arith, ints)), (λ h. let up : l ≤ℤ g = omega (arith, ints) in grind (arith, ints)))

pub stands_where_it_holds : (n : ℕ) (row : RowParts) (cube : CubeParts) → IsRowBelow n row → IsFull n cube → is_refuted row cube ≡ false ↔ RowHolds row (has cube.ones)
stands_where_it_holds n row cube below full = stands_by (greatest_activity row cube) (value_of row.terms (has cube.ones)) row.least (activity_is_value n row cube below full)
