use Rattle.rows.specs.Known.{parts_of}
use Rattle.row_bounds.specs.Inner.Climb.{IsRising}
use Rattle.row_bounds.proofs.buying.climb_scaled.Given as goal

abbrev pub invariant-loop-helpers : goal.invariant-loop-helpers
invariant-loop-helpers l = IsRising (parts_of l.known) l.rising.pairs l.rising.residue
