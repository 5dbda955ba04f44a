use Rattle.std.proofs.Common.{◌≡◌, map, take}
use Rattle.std.specs.List.{enumerate_from}
use Rattle.binary_program.proofs.BuildTerms.{balance}
use Rattle.binary_program.proofs.terms.balance_terms.Given as goal

abbrev pub invariant-loop-c : goal.invariant-loop-c
invariant-loop-c l = l.terms.items ≡ map balance (enumerate_from 0 (take l.c l.component-items))
