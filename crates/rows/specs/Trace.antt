-- Traces: one row after another, each fixing the least variable that it forces.
use Rattle.std.specs.Prelude.{List, [], ◌∷◌, Option, Some, option_and_then, option_map, is_some, IsTrue}
use Rattle.rows.specs.declared.known.RowRef.{RowRef}
use Rattle.rows.specs.Parts.{CubeParts, KnownParts}
use Rattle.rows.specs.Cube.{fixed_at}
use Rattle.rows.specs.Activity.{least_forced}
use Rattle.rows.specs.Known.{row_at}

-- the cube after one step, which fixes the least variable that the row forces; none where there is no such row or it forces nothing
abbrev pub cube_after_step : KnownParts → CubeParts → RowRef → Option CubeParts
cube_after_step known cube r = option_and_then (λ row. option_map (λ p. fixed_at cube p.0 p.1) (least_forced row cube)) (row_at known r)

-- the cube that a trace reaches; none where some step forces nothing
abbrev pub cube_after : KnownParts → CubeParts → List RowRef → Option CubeParts
cube_after known cube [] = Some cube
cube_after known cube (r ∷ trace) = option_and_then (λ next. cube_after known next trace) (cube_after_step known cube r)

-- a trace is legal from a cube where each step's row forces something there
abbrev pub IsLegalTrace : KnownParts → CubeParts → List RowRef → Type 0
IsLegalTrace known cube trace = IsTrue (is_some (cube_after known cube trace))
