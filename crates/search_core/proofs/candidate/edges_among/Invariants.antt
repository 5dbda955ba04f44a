use Rattle.binary_program.proofs.CubeLaws.{Passing, edge_in}
use Rattle.search_core.proofs.candidate.edges_among.Given as goal

abbrev pub invariant-loop-e : goal.invariant-loop-e
invariant-loop-e l = Passing (edge_in l.components l.members) l.e l.chosen
