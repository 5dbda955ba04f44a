-- What may be done with a cube once a trace was followed from it: split it, drop it, or offer it.
use Rattle.std.specs.Prelude.{◌≡◌, ℕ, ◌<◌, true, false, List, Some}
use Rattle.std.specs.List.{All}
use Rattle.rows.specs.declared.known.RowRef.{RowRef}
use Rattle.rows.specs.declared.known.Pair.{Pair}
use Rattle.rows.specs.Parts.{CubeParts, KnownParts}
use Rattle.rows.specs.Cube.{is_free, IsFull}
use Rattle.rows.specs.Activity.{is_refuted}
use Rattle.rows.specs.Known.{variables, IsQuiet}
use Rattle.rows.specs.Trace.{cube_after}
use Rattle.rows.specs.Reason.{AllThere, is_together}
use Rattle.rows.specs.Ascent.{is_ascent_refuted}

-- a cube may be split after a trace at a variable: the trace is legal, the cube that it reaches is quiet, the ascent there isn't refuted, and the variable is one of the program's and free
pub record MayBranch (known : KnownParts) (cube : CubeParts) (trace : List RowRef) (v : ℕ) : Type 0 where
  pub after : CubeParts
  pub leads : cube_after known cube trace ≡ Some after
  pub quiet : IsQuiet known after
  pub ascent : is_ascent_refuted known after ≡ false
  pub variable : v < variables known
  pub free : is_free after v ≡ true

-- a cube may be dropped after a trace for a reason: the trace is legal, each row of the reason is known, and its combination is refuted in the cube that the trace reaches
pub record MayPrune (known : KnownParts) (cube : CubeParts) (trace : List RowRef) (pairs : List Pair) : Type 0 where
  pub after : CubeParts
  pub leads : cube_after known cube trace ≡ Some after
  pub there : AllThere known pairs
  pub refuted : is_together known pairs after ≡ true

-- a cube may be offered after a trace as a candidate: the trace is legal, and in the cube that it reaches nothing is free and no base row is refuted
pub record MayOffer (known : KnownParts) (cube : CubeParts) (trace : List RowRef) : Type 0 where
  pub after : CubeParts
  pub leads : cube_after known cube trace ≡ Some after
  pub full : IsFull (variables known) after
  pub stands : All (λ row. is_refuted row after ≡ false) known.problem.base
