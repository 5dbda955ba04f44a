-- Two workers that know the same.
use Rattle.std.specs.Prelude.{◌≡◌, ◌↔◌, List}
use Rattle.rows.specs.declared.known.RowRef.{RowRef}
use Rattle.rows.specs.declared.known.Pair.{Pair}
use Rattle.rows.specs.Parts.{CubeParts, KnownParts}
use Rattle.rows.specs.Known.{IsQuiet}
use Rattle.rows.specs.Trace.{cube_after}
use Rattle.rows.specs.Reason.{AllThere, is_together}
use Rattle.rows.specs.Ascent.{is_ascent_refuted}

-- by what either knows, the same traces lead from a cube to the same cubes, the same cubes are quiet, the same ascents are refuted, and the same reasons are there and refuted
pub record KnowAlike (a b : KnownParts) : Type 0 where
  pub traces : (cube : CubeParts) (trace : List RowRef) → cube_after a cube trace ≡ cube_after b cube trace
  pub quiet : (cube : CubeParts) → IsQuiet a cube ↔ IsQuiet b cube
  pub ascents : (cube : CubeParts) → is_ascent_refuted a cube ≡ is_ascent_refuted b cube
  pub there : (pairs : List Pair) → AllThere a pairs ↔ AllThere b pairs
  pub reasons : (pairs : List Pair) (cube : CubeParts) → is_together a pairs cube ≡ is_together b pairs cube
