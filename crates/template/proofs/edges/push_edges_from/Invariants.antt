use Rattle.std.proofs.Common.{◌≡◌, ◌++◌, take}
use Rattle.arch_model.specs.Template.{instances_of, edges_to}
use Rattle.template.proofs.edges.push_edges_from.Given as goal

abbrev pub invariant-loop-head : goal.invariant-loop-head
invariant-loop-head l = l.edges.items ≡ l.initial.edges.items ++ edges_to l.link l.tail (instances_of (take l.head l.components) l.link.to)
