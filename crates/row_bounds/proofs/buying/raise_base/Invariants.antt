use Rattle.rows.specs.Known.{parts_of}
use Rattle.row_bounds.specs.Inner.Climb.{IsRising}
use Rattle.row_bounds.proofs.buying.raise_base.Given as goal

abbrev pub invariant-loop-term : goal.invariant-loop-term
invariant-loop-term l = IsRising (parts_of l.known) l.rising.pairs l.rising.residue
