-- Greatest activities, and what a row refutes and forces in a cube (textbook propagation).
use Rattle.std.specs.Prelude.{◌≡◌, ℕ, ◌≤◌, ℤ, pos, ◌<ℤ◌, int_lt, Bool, true, false, not, ◌&&◌, map, Option, Some, None, if◌then◌else◌}
use Rattle.std.specs.Int.{int_max, int_min}
use Rattle.std.specs.Option.{option_map}
use Rattle.std.specs.List.{find}
use Rattle.arch_model.specs.declared.sets.VarId.{VarId}
use Rattle.rows.specs.Parts.{RowParts, CubeParts}
use Rattle.rows.specs.Row.{int_sum_by}
use Rattle.rows.specs.Cube.{value_at, is_free, fixed_at}

-- what a coefficient adds at most: itself at 1, nothing at 0, the greater of the two where the variable is free
abbrev pub best_of : Option Bool → ℤ → ℤ
best_of (Some b) a = if b then a else pos 0
best_of None a = int_max a (pos 0)

-- the greatest value that a row's sum takes in a cube
abbrev pub greatest_activity : RowParts → CubeParts → ℤ
greatest_activity row cube = int_sum_by (λ t. best_of (value_at cube t.var.0) t.coef) row.terms

-- a row is refuted in a cube where even that is below its least
abbrev pub IsRefuted : RowParts → CubeParts → Type 0
IsRefuted row cube = greatest_activity row cube <ℤ row.least

-- its test
abbrev pub is_refuted : RowParts → CubeParts → Bool
is_refuted row cube = int_lt (greatest_activity row cube) row.least

-- what a coefficient adds at least: itself at 1, nothing at 0, the lesser of the two where the variable is free
abbrev pub worst_of : Option Bool → ℤ → ℤ
worst_of (Some b) a = if b then a else pos 0
worst_of None a = int_min a (pos 0)

-- the least value that a row's sum takes in a cube
abbrev pub least_activity : RowParts → CubeParts → ℤ
least_activity row cube = int_sum_by (λ t. worst_of (value_at cube t.var.0) t.coef) row.terms

-- a row is unmet in a cube where that is below its least; where it isn't, each vector of the cube meets the row
abbrev pub IsUnmet : RowParts → CubeParts → Type 0
IsUnmet row cube = least_activity row cube <ℤ row.least

-- its test
abbrev pub is_unmet : RowParts → CubeParts → Bool
is_unmet row cube = int_lt (least_activity row cube) row.least

-- a row forces v to b where it isn't refuted, v is free, and it is refuted once v has the other value
pub record Forces (row : RowParts) (cube : CubeParts) (v : ℕ) (b : Bool) : Type 0 where
  pub open_yet : is_refuted row cube ≡ false
  pub is_free : is_free cube v ≡ true
  pub other : is_refuted row (fixed_at cube v (not b)) ≡ true

-- its test
abbrev pub forces : RowParts → CubeParts → ℕ → Bool → Bool
forces row cube v b = not (is_refuted row cube) && (is_free cube v && is_refuted row (fixed_at cube v (not b)))

-- a row forces nothing in a cube
abbrev pub ForcesNothing : RowParts → CubeParts → Type 0
ForcesNothing row cube = (v : ℕ) (b : Bool) → Forces row cube v b → ⊥

-- the first variable in term order that a row forces in a cube, which is the least where terms ascend, and the value to which; none where it forces nothing
abbrev pub least_forced : RowParts → CubeParts → Option (ℕ × Bool)
least_forced row cube =
    option_map (λ v. (v, forces row cube v true)) (find (λ v. if forces row cube v true then true else forces row cube v false) (map (λ t. t.var.0) row.terms))

-- a forced variable, by its number
abbrev pub number_of : VarId × Bool → ℕ × Bool
number_of p = (p.0.0, p.1)

-- v is the least variable that a row forces in a cube, and b its value
pub record IsLeastForced (row : RowParts) (cube : CubeParts) (v : ℕ) (b : Bool) : Type 0 where
  pub forced : Forces row cube v b
  pub least : (w : ℕ) (c : Bool) → Forces row cube w c → v ≤ w

-- a row is quiet in a cube where it is neither refuted there nor forces anything
pub record IsQuietAt (cube : CubeParts) (row : RowParts) : Type 0 where
  pub open_yet : is_refuted row cube ≡ false
  pub still : ForcesNothing row cube
