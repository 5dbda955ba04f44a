-- What the bounds say of a cube.
use Rattle.std.specs.Prelude.{List, Option, Some, None}
use Rattle.rows.specs.declared.known.Pair.{Pair}
use Rattle.row_bounds.specs.declared.bounded.Bounded.{Bounded}
use Rattle.row_bounds.specs.declared.bounded.Bounded.TheVariants.{Refuted, Open}

-- the reason for which a cube is dropped, where one was found
abbrev pub reason_in : Bounded → Option (List Pair)
reason_in (Refuted reason) = Some reason
reason_in (Open spent) = None
