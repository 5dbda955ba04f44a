use Rattle.std.proofs.Common.{◌≡◌, length, take}
use Rattle.binary_program.proofs.BuildLists.{picked}
use Rattle.binary_program.proofs.BuildTerms.{of_kind, var_of}
use Rattle.binary_program.proofs.terms.edges.Given as goal

abbrev pub invariant-loop-e : goal.invariant-loop-e
invariant-loop-e l = l.vars.items ≡ picked (of_kind l.lib l.kind) var_of (length l.lib.components) (take l.e l.edge-items)
