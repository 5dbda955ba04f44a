use Rattle.std.proofs.Common.{◌≡◌, ◌≢◌, take}
use Rattle.std.specs.List.{All}
use Rattle.template.proofs.finding.find_edge.Given as goal

abbrev pub invariant-loop-e : goal.invariant-loop-e
invariant-loop-e l = All (λ edge. edge.tail ≡ l.tail → edge.head ≢ l.head) (take l.e l.edges)
