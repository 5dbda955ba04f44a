-- What propagation answers, and what it promises.
use Rattle.std.specs.Prelude.{◌≡◌, ℕ, ◌<◌, Bool, true, List, Some, IfSome, IsTrue}
use Rattle.std.specs.List.{All}
use Rattle.rows.specs.declared.known.RowRef.{RowRef}
use Rattle.rows.specs.Parts.{CubeParts, KnownParts}
use Rattle.rows.specs.Row.{RowHolds}
use Rattle.rows.specs.Cube.{is_free, IsFull, IsCubeBelow, LiesIn}
use Rattle.rows.specs.Activity.{IsRefuted}
use Rattle.rows.specs.Known.{variables, has_row, row_at, known_rows, IsQuiet}
use Rattle.rows.specs.Trace.{cube_after}
use Rattle.propagate.specs.declared.closed.Closed.{Closed}
use Rattle.propagate.specs.declared.closed.Closed.TheVariants.{Quiet, Full, Refuted}

-- the cube that is answered
abbrev pub closed_cube : Closed → CubeParts
closed_cube (Quiet cube trace) = cube
closed_cube (Full cube trace) = cube
closed_cube (Refuted cube trace row) = cube

-- the trace that is answered
abbrev pub closed_trace : Closed → List RowRef
closed_trace (Quiet cube trace) = trace
closed_trace (Full cube trace) = trace
closed_trace (Refuted cube trace row) = trace

-- some variable of the program is free
abbrev pub IsOpen : KnownParts → CubeParts → Type 0
IsOpen known cube = (v : ℕ) × (v < variables known) × (is_free cube v ≡ true)

-- a named row is known, and refuted in a cube
abbrev pub IsRefutedBy : KnownParts → CubeParts → RowRef → Type 0
IsRefutedBy known cube r = IsTrue (has_row known r) × IfSome (row_at known r) (λ row. IsRefuted row cube)

-- what each answer says of its cube: it is quiet and something is free; it is quiet and nothing is free; the named row is refuted there
abbrev pub IsClosed : KnownParts → Closed → Type 0
IsClosed known (Quiet cube trace) = IsQuiet known cube × IsOpen known cube
IsClosed known (Full cube trace) = IsQuiet known cube × IsFull (variables known) cube
IsClosed known (Refuted cube trace row) = IsRefutedBy known cube row

-- a vector meets all rows that are known
abbrev pub MeetsKnown : KnownParts → (ℕ → Bool) → Type 0
MeetsKnown known x = All (λ row. RowHolds row x) (known_rows known)

-- where a row is refuted, no vector of a cube meets all rows that are known
abbrev pub NoneIsLeft : KnownParts → CubeParts → Closed → Type 0
NoneIsLeft known cube (Quiet inner trace) = Unit {0}
NoneIsLeft known cube (Full inner trace) = Unit {0}
NoneIsLeft known cube (Refuted inner trace row) = (x : ℕ → Bool) → LiesIn x cube → MeetsKnown known x → ⊥

-- the promise of propagation from a cube, however it is done: the trace is legal from there and leads to the answered cube, over the program's variables; that cube is what the answer says; it has each vector of the given cube that meets all rows that are known; and after a refuted row there is none
pub record Closes (known : KnownParts) (cube : CubeParts) (closed : Closed) : Type 0 where
  pub trace : cube_after known cube (closed_trace closed) ≡ Some (closed_cube closed)
  pub below : IsCubeBelow (variables known) (closed_cube closed)
  pub answer : IsClosed known closed
  pub kept : (x : ℕ → Bool) → LiesIn x cube → MeetsKnown known x → LiesIn x (closed_cube closed)
  pub none_left : NoneIsLeft known cube closed

-- two answers agree: both say that a row is refuted, or both are quiet or both full, with one cube
abbrev pub Agree : Closed → Closed → Type 0
Agree (Quiet a trace) (Quiet b trace') = a ≡ b
Agree (Full a trace) (Full b trace') = a ≡ b
Agree (Refuted a trace row) (Refuted b trace' row') = Unit {0}
Agree a b = ⊥
