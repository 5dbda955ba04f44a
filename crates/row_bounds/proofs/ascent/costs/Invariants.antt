use Rattle.row_bounds.proofs.AscentLaws.{CostsTo}
use Rattle.row_bounds.proofs.ascent.costs.Given as goal

abbrev pub invariant-loop-i : goal.invariant-loop-i
invariant-loop-i l = CostsTo l.lib l.costs l.i
