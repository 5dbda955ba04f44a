use Rattle.rows.specs.Known.{parts_of}
use Rattle.row_bounds.specs.Inner.Climb.{IsRising}
use Rattle.row_bounds.proofs.AscentLaws.{ClimbsCuts}
use Rattle.row_bounds.proofs.ascent.climb_cuts.Given as goal

abbrev pub invariant-loop-j : goal.invariant-loop-j
invariant-loop-j l = record {
  rising : IsRising (parts_of l.known) l.rising.pairs l.rising.residue;
  climbs : ClimbsCuts (parts_of l.known) l.cube l.initial.rising.pairs l.initial.rising.residue l.rising.pairs l.rising.residue l.j;
}
