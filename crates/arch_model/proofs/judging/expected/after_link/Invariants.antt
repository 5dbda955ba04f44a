use Rattle.std.proofs.Common.{◌≡◌, ◌++◌, take}
use Rattle.arch_model.specs.Template.{instances_of}
use Rattle.arch_model.proofs.Fronts.{edges_from}
use Rattle.arch_model.proofs.judging.expected.after_link.Given as goal

abbrev pub invariant-loop-tail : goal.invariant-loop-tail
invariant-loop-tail l = l.fn.list ≡ edges_from l.components l.link (instances_of (take l.tail l.components) l.link.from) ++ l.rest
