use Rattle.std.proofs.Common.{◌≡◌, ◌++◌, length, take}
use Rattle.binary_program.proofs.BuildLists.{picked}
use Rattle.binary_program.proofs.BuildTerms.{out_of, asked}
use Rattle.binary_program.proofs.terms.push_demands.Given as goal

abbrev pub invariant-loop-e : goal.invariant-loop-e
invariant-loop-e l = l.terms.items ≡ l.initial.terms.items ++ picked (out_of l.i.0) (asked l.lib) (length l.lib.components) (take l.e l.edge-items)
