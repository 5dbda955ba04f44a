use Rattle.binary_program.proofs.BuildSums.{AreSums}
use Rattle.binary_program.proofs.adding.coefficients.Given as goal

abbrev pub invariant-loop-term : goal.invariant-loop-term
invariant-loop-term l = AreSums l.n l.term-index l.terms l.sums.items
