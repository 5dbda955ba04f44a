-- For the code's own contracts: the rows that a pattern asks for at one instance of a type.
use Rattle.std.specs.Prelude.{ℕ, ◌≤◌, List}
use Rattle.arch_model.specs.declared.sets.CompId.{CompId}
use Rattle.arch_model.specs.Parts.{LibraryParts}
use Rattle.rows.specs.Parts.{RowParts}
use Rattle.rows.specs.BaseRows.{in_variables, out_variables, degree_rows, in_needs_out_rows, exclusive_rows}
use Rattle.binary_program.specs.declared.asked.Side.{Side}
use Rattle.binary_program.specs.declared.asked.Side.TheVariants.{In, Out}
use Rattle.binary_program.specs.declared.asked.Asked.{Asked}
use Rattle.binary_program.specs.declared.asked.Asked.TheVariants.{Degree, InNeedsOut, Exclusive}
use Rattle.binary_program.specs.declared.terms.EdgeKind.{EdgeKind}
use Rattle.binary_program.specs.declared.terms.EdgeKind.TheVariants.{Into, OutOf}

-- the edges that join component i on a side to instances of type t
abbrev pub edges_on : Side → CompId → ℕ → EdgeKind
edges_on In i t = Into i t
edges_on Out i t = OutOf i t

-- their variables
abbrev pub variables_on : Side → LibraryParts → ℕ → ℕ → List ℕ
variables_on In = in_variables
variables_on Out = out_variables

-- the rows of what is asked of component i
abbrev pub asked_rows : LibraryParts → Asked → ℕ → List RowParts
asked_rows lib (Degree side other min max) i = degree_rows lib i (variables_on side lib other i) min max
asked_rows lib (InNeedsOut from to) i = in_needs_out_rows lib i from to
asked_rows lib (Exclusive a b) i = exclusive_rows lib i a b

-- a least degree is at most 512
abbrev pub IsAsked : Asked → Type 0
IsAsked (Degree side other min max) = min ≤ 512
IsAsked _ = Unit {0}
