use Rattle.arch_model.specs.Set.{has}
use Rattle.binary_program.proofs.CubeLaws.{Passing}
use Rattle.search_core.proofs.candidate.components_among.Given as goal

abbrev pub invariant-loop-c : goal.invariant-loop-c
invariant-loop-c l = Passing (has l.members) l.c l.comps
