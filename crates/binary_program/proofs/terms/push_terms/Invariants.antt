use Rattle.std.proofs.Common.{◌≡◌, ◌++◌, map, take}
use Rattle.binary_program.specs.Inner.Terms.{numbers_of}
use Rattle.binary_program.proofs.BuildTerms.{at_coef}
use Rattle.binary_program.proofs.terms.push_terms.Given as goal

abbrev pub invariant-loop-var : goal.invariant-loop-var
invariant-loop-var l = l.terms.items ≡ l.initial.terms.items ++ map (at_coef l.coef) (numbers_of (take l.var-index l.vars))
