-- Reasons: rows with multipliers, and what they say together.
use Rattle.std.specs.Prelude.{ℕ, ◌≤◌, ◌^◌, pos, ◌*ℤ◌, Bool, List, [], map, length, unwrap_or, IsTrue}
use Rattle.std.specs.List.{All, flat_map}
use Rattle.rows.specs.declared.row.Term.{Term}
use Rattle.rows.specs.declared.known.Pair.{Pair}
use Rattle.rows.specs.Parts.{RowParts, CubeParts, KnownParts}
use Rattle.rows.specs.Row.{int_sum_by, term, row_of}
use Rattle.rows.specs.Activity.{is_refuted}
use Rattle.rows.specs.Known.{row_at, has_row, variables}

-- 1 to 64 pairs, each with a multiplier of 1 to 10^12
pub record IsReason (pairs : List Pair) : Type 0 where
  pub some : 1 ≤ length pairs
  pub few : length pairs ≤ 64
  pub positive : All (λ p. 1 ≤ p.times) pairs
  pub sized : All (λ p. p.times ≤ 10 ^ 12) pairs

-- each row of a reason is there
abbrev pub AllThere : KnownParts → List Pair → Type 0
AllThere known pairs = All (λ p. IsTrue (has_row known p.row)) pairs

-- a row that says nothing
abbrev pub empty_row : RowParts
empty_row = record { terms = []; least = pos 0 }

-- the row of a pair
abbrev pub row_of_pair : KnownParts → Pair → RowParts
row_of_pair known p = unwrap_or (row_at known p.row) empty_row

-- the terms of a row, a number of times
abbrev pub terms_times : ℕ → RowParts → List Term
terms_times k row = map (λ t. term t.var.0 (pos k *ℤ t.coef)) row.terms

-- the combination of a reason: the sum of its rows with their multipliers, over the program's variables
abbrev pub combination_of : KnownParts → List Pair → RowParts
combination_of known pairs =
    row_of (variables known) (flat_map (λ p. terms_times p.times (row_of_pair known p)) pairs)
    (int_sum_by (λ p. pos p.times *ℤ (row_of_pair known p).least) pairs)

-- whether the combination is refuted in a cube
abbrev pub is_together : KnownParts → List Pair → CubeParts → Bool
is_together known pairs cube = is_refuted (combination_of known pairs) cube
