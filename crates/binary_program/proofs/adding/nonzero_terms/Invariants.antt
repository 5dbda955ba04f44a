use Rattle.std.proofs.Common.{◌≡◌, take}
use Rattle.binary_program.proofs.BuildSums.{nonzero}
use Rattle.binary_program.proofs.adding.nonzero_terms.Given as goal

abbrev pub invariant-loop-v : goal.invariant-loop-v
invariant-loop-v l = l.terms.items ≡ nonzero (take l.v l.coefs)
