use Rattle.rows.specs.Known.{parts_of}
use Rattle.row_bounds.specs.Inner.Climb.{IsRising}
use Rattle.row_bounds.proofs.buying.supply_all.Given as goal

abbrev pub invariant-loop-v : goal.invariant-loop-v
invariant-loop-v l = IsRising (parts_of l.known) l.rising.pairs l.rising.residue
