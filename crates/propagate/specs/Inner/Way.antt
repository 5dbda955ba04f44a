-- What the code's own contracts say of a trace that grows.
use Rattle.std.specs.Prelude.{◌≡◌, ℕ, ◌+◌, ◌≤◌, List, ◌++◌, Some}
use Rattle.std.specs.List.{All}
use Rattle.arch_model.specs.Set.{len}
use Rattle.rows.specs.declared.known.RowRef.{RowRef}
use Rattle.rows.specs.Parts.{CubeParts, KnownParts}
use Rattle.rows.specs.Cube.{IsCubeBelow}
use Rattle.rows.specs.Row.{IsRowBelow}
use Rattle.rows.specs.Known.{variables, known_rows}
use Rattle.rows.specs.Trace.{cube_after}

-- the trace grew by steps that lead from the one cube to the other
pub record Leads (known : KnownParts) (cube : CubeParts) (steps : List RowRef) (next : CubeParts) (longer : List RowRef) : Type 0 where
  pub more : List RowRef
  pub grown : longer ≡ steps ++ more
  pub reached : cube_after known cube more ≡ Some next

-- the cube is over the program's variables, and the trace has room for a step for each that is free
pub record HasRoom (known : KnownParts) (cube : CubeParts) (steps capacity : ℕ) : Type 0 where
  pub below : IsCubeBelow (variables known) cube
  pub room : variables known + steps ≤ capacity + len cube.fixed

-- the rows that are known are over the program's variables
abbrev pub AreBelow : KnownParts → Type 0
AreBelow known = All (IsRowBelow (variables known)) (known_rows known)
