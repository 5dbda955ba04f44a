use Rattle.rows.specs.Known.{parts_of}
use Rattle.row_bounds.specs.Inner.Climb.{IsRising}
use Rattle.row_bounds.proofs.AscentLaws.{ClimbsBase}
use Rattle.row_bounds.proofs.ascent.climb_base.Given as goal

abbrev pub invariant-loop-i : goal.invariant-loop-i
invariant-loop-i l = record {
  rising : IsRising (parts_of l.known) l.rising.pairs l.rising.residue;
  climbs : ClimbsBase (parts_of l.known) l.cube l.initial.rising.pairs l.initial.rising.residue l.rising.pairs l.rising.residue l.i;
}
