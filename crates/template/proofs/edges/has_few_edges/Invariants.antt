use Rattle.std.proofs.Common.{◌≡◌, ◌≤◌, length, take, sum_by}
use Rattle.arch_model.specs.Template.{components_of, edges_of_link}
use Rattle.template.proofs.edges.has_few_edges.Given as goal

abbrev pub invariant-loop-link : goal.invariant-loop-link
invariant-loop-link l = record { sum : l.total ≡ sum_by (λ k. length (edges_of_link (components_of l.types) k)) (take l.link-index l.links); few : l.total ≤ 512 }
