use Rattle.std.proofs.Common.{◌≡◌, ◌++◌, take}
use Rattle.arch_model.specs.Template.{components_of}
use Rattle.arch_model.proofs.judging.expected.after_all.Given as goal

abbrev pub invariant-loop-t : goal.invariant-loop-t
invariant-loop-t l = l.fn.list ≡ components_of (take l.t l.types) ++ l.rest
