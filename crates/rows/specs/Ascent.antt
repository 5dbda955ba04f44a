-- The ascent: a reason found by integer dual ascent, in a fixed order of rows.
use Rattle.std.specs.Prelude.{ℕ, zero, suc, ◌+◌, ◌-◌, ◌*◌, ◌/◌, ◌^◌, min, ℤ, pos, negsuc, int_lt, Bool, false, ◌&&◌, nat_lt, nat_le, List, [], ◌∷◌, ◌++◌, map, length, fold, filter_map, Option, Some, None, option_map, if◌then◌else◌}
use Rattle.std.specs.List.{enumerate_from}
use Rattle.std.specs.Option.{option_map_or}
use Rattle.arch_model.specs.Set.{has}
use Rattle.rows.specs.declared.row.Term.{Term}
use Rattle.rows.specs.declared.known.RowRef.{RowRef}
use Rattle.rows.specs.declared.known.RowRef.TheVariants.{Base, Cut, Cost}
use Rattle.rows.specs.declared.known.Pair.{Pair}
use Rattle.rows.specs.Parts.{RowParts, CubeParts, KnownParts}
use Rattle.rows.specs.Row.{value_of, coef_at, row_of_cut}
use Rattle.rows.specs.Cube.{is_free}
use Rattle.rows.specs.BaseRows.{member_cost_of}
use Rattle.rows.specs.Known.{known_cuts}
use Rattle.rows.specs.Reason.{is_together}

-- the pairs so far, and what is left of each variable's cost
pub record Ascent : Type 0 where
  pub pairs : List Pair
  pub residue : ℕ → ℕ

-- how often a term's coefficient goes into what is left, where the coefficient is positive and the variable free
abbrev pub quotient_at : CubeParts → (ℕ → ℕ) → Term → Option ℕ
quotient_at cube residue t = elim t.coef [
  | pos zero ↦ None
  | pos (suc a) ↦ if is_free cube t.var.0 then Some (residue t.var.0 / suc a) else None
  | negsuc a ↦ None
]

-- how often a row may be added: the least of 10^12 and these quotients
abbrev pub times_of : CubeParts → (ℕ → ℕ) → RowParts → ℕ
times_of cube residue row = fold min (10 ^ 12) (filter_map (quotient_at cube residue) row.terms)

-- what is left of n after a coefficient was taken k times
abbrev pub left_of : ℕ → ℤ → ℕ → ℕ
left_of k (pos a) n = n - k * a
left_of k (negsuc a) n = n + k * suc a

-- a row is worth adding where it can be at all, and its least is above the sum of its coefficients at variables fixed to 1
abbrev pub is_worth : CubeParts → RowParts → ℕ → Bool
is_worth cube row k = nat_le 1 k && int_lt (value_of row.terms (has cube.ones)) row.least

-- the row added k times
abbrev pub with_row : Ascent → RowRef → RowParts → ℕ → Ascent
with_row ascent r row k =
    record { pairs = ascent.pairs ++ record { row = r; times = k } ∷ []; residue = λ v. left_of k (coef_at row.terms v) (ascent.residue v) }

-- one row looked at: it is added as often as it may be while there are fewer than 64 pairs and where it is worth it, or passed over
abbrev pub looked_at : CubeParts → Ascent → RowRef × RowParts → Ascent
looked_at cube ascent p =
    let k = times_of cube ascent.residue p.1 in
    if nat_lt (length ascent.pairs) 64 && is_worth cube p.1 k then with_row ascent p.0 p.1 k else ascent

-- the base rows by number, then the known cuts by number, with their names
abbrev pub named_rows : KnownParts → List (RowRef × RowParts)
named_rows known =
    map (λ p. (Base p.0, p.1)) (enumerate_from 0 known.problem.base) ++ map (λ p. (Cut p.0, row_of_cut p.1)) (enumerate_from 0 (known_cuts known))

-- the first pair is the cost row once, and what is left of each variable is its cost
abbrev pub ascent_start : KnownParts → Ascent
ascent_start known = record { pairs = record { row = Cost; times = 1 } ∷ []; residue = member_cost_of known.problem.library }

-- from there, the rows looked at in turn, whether there is a bound or not
abbrev pub whole_ascent : KnownParts → CubeParts → Ascent
whole_ascent known cube = fold (looked_at cube) (ascent_start known) (named_rows known)

-- what the ascent leaves of a variable's cost, in cost units
abbrev pub residue_of : KnownParts → CubeParts → ℕ → ℕ
residue_of known cube = (whole_ascent known cube).residue

-- the ascent: its pairs; none where there is no bound
abbrev pub ascent_of : KnownParts → CubeParts → Option (List Pair)
ascent_of known cube = option_map (λ u. (whole_ascent known cube).pairs) known.bound

-- whether the ascent is refuted: its combination is; not where there is none
abbrev pub is_ascent_refuted : KnownParts → CubeParts → Bool
is_ascent_refuted known cube = option_map_or (λ pairs. is_together known pairs cube) (ascent_of known cube) false
