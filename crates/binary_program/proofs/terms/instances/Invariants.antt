use Rattle.std.proofs.Common.{◌≡◌, take}
use Rattle.binary_program.proofs.BuildLists.{picked}
use Rattle.binary_program.proofs.BuildTerms.{of_type, var_of}
use Rattle.binary_program.proofs.terms.instances.Given as goal

abbrev pub invariant-loop-c : goal.invariant-loop-c
invariant-loop-c l = l.vars.items ≡ picked (of_type l.t) var_of 0 (take l.c l.component-items)
