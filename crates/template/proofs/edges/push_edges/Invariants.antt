use Rattle.std.proofs.Common.{◌≡◌, ◌++◌, take}
use Rattle.arch_model.specs.Template.{instances_of}
use Rattle.template.proofs.Steps.{edges_from}
use Rattle.template.proofs.edges.push_edges.Given as goal

abbrev pub invariant-loop-tail : goal.invariant-loop-tail
invariant-loop-tail l = l.edges.items ≡ l.initial.edges.items ++ edges_from l.components l.link (instances_of (take l.tail l.components) l.link.from)
