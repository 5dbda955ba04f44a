use Rattle.std.proofs.Common.{◌≡◌, take}
use Rattle.arch_model.specs.Template.{edges_of}
use Rattle.template.proofs.edges.edges.Given as goal

abbrev pub invariant-loop-link : goal.invariant-loop-link
invariant-loop-link l = l.edges.items ≡ edges_of l.components (take l.link-index l.links)
