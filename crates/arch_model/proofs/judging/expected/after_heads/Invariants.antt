use Rattle.std.proofs.Common.{◌≡◌, ◌++◌, take}
use Rattle.arch_model.specs.Template.{instances_of, edges_to}
use Rattle.arch_model.proofs.judging.expected.after_heads.Given as goal

abbrev pub invariant-loop-head : goal.invariant-loop-head
invariant-loop-head l = l.fn.list ≡ edges_to l.link l.tail (instances_of (take l.head l.components) l.link.to) ++ l.rest
