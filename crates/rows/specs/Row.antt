-- Rows of a 0-1 program, and when a vector meets one.
use Rattle.std.specs.Prelude.{◌≢◌, ℕ, zero, suc, ◌≤◌, ◌^◌, ◌<◌, ℤ, pos, negsuc, ◌+ℤ◌, ◌≤ℤ◌, unsigned_abs, Bool, true, false, nat_eq, List, [], ◌∷◌, map, filter, if◌then◌else◌}
use Rattle.std.specs.List.{All, range_with_len}
use Rattle.std.specs.List.Sorted.{IsStrictlyIncreasing}
use Rattle.arch_model.specs.Set.{has, union, members_below}
use Rattle.arch_model.specs.declared.limits.TheConstants.{MEMBERS}
use Rattle.rows.specs.declared.row.Term.{Term}
use Rattle.rows.specs.Parts.{RowParts, CutParts}

-- the sum of f over a list
abbrev pub int_sum_by : {X : Type 0} → (X → ℤ) → List X → ℤ
int_sum_by f [] = pos 0
int_sum_by f (x ∷ xs) = f x +ℤ int_sum_by f xs

-- a term, from the number of its variable
abbrev pub term : ℕ → ℤ → Term
term v a = record { var = record { 0 = v }; coef = a }

-- what a row's left side comes to where variable v has the value x v
abbrev pub value_of : List Term → (ℕ → Bool) → ℤ
value_of terms x = int_sum_by (λ t. if x t.var.0 then t.coef else pos 0) terms

-- a vector, which gives each variable 0 or 1, meets a row where the row's sum is at least its least
abbrev pub RowHolds : RowParts → (ℕ → Bool) → Type 0
RowHolds row x = row.least ≤ℤ value_of row.terms x

-- the coefficient at variable v when terms of one variable are added up
abbrev pub coef_at : List Term → ℕ → ℤ
coef_at terms v = int_sum_by (λ t. if nat_eq t.var.0 v then t.coef else pos 0) terms

-- whether a coefficient isn't 0
abbrev pub is_nonzero : ℤ → Bool
is_nonzero (pos zero) = false
is_nonzero (pos (suc n)) = true
is_nonzero (negsuc n) = true

-- terms over the variables below n: those of one variable added up, zero terms dropped, ascending
abbrev pub collected : ℕ → List Term → List Term
collected n terms = filter (λ t. is_nonzero t.coef) (map (λ v. term v (coef_at terms v)) (range_with_len 0 n))

-- the row of such terms
abbrev pub row_of : ℕ → List Term → ℤ → RowParts
row_of n terms least = record { terms = collected n terms; least = least }

-- the row of some terms and a least, as they stand
abbrev pub row_parts : List Term → ℤ → RowParts
row_parts terms least = record { terms = terms; least = least }

-- how large a number of a row may be: at most 10^16 in absolute value
abbrev pub IsSized : ℤ → Type 0
IsSized a = unsigned_abs a ≤ 10 ^ 16

-- the terms of a row ascend by variable, so each variable has at most one
abbrev pub Ascends : RowParts → Type 0
Ascends row = IsStrictlyIncreasing (map (λ t. t.var.0) row.terms)

-- ascending terms, no zero coefficient, and each number at most 10^16 in absolute value
pub record IsRow (row : RowParts) : Type 0 where
  pub ascending : Ascends row
  pub nonzero : All (λ t. t.coef ≢ pos 0) row.terms
  pub sized : All (λ t. IsSized t.coef) row.terms
  pub least : IsSized row.least

-- the terms of a row have variables below n
abbrev pub IsRowBelow : ℕ → RowParts → Type 0
IsRowBelow n row = All (λ t. t.var.0 < n) row.terms

-- the coefficient of a cut at variable v
abbrev pub cut_coef : CutParts → ℕ → ℤ
cut_coef cut v = if has cut.plus v then pos 1 else (if has cut.minus v then negsuc 0 else pos 0)

-- the row of a cut
abbrev pub row_of_cut : CutParts → RowParts
row_of_cut cut = record { terms = map (λ v. term v (cut_coef cut v)) (members_below (union cut.plus cut.minus) MEMBERS); least = cut.least }
