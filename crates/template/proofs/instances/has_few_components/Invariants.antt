use Rattle.std.proofs.Common.{◌≡◌, ◌≤◌, take, sum_by}
use Rattle.template.proofs.instances.has_few_components.Given as goal

abbrev pub invariant-loop-row : goal.invariant-loop-row
invariant-loop-row l = record { sum : l.total ≡ sum_by (λ r. r.max) (take l.row-index l.types); few : l.total ≤ 64 }
