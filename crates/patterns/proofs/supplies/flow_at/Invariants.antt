use Rattle.std.proofs.Common.{◌≡◌, ◌≤◌, ◌*◌, ◌^◌, take, sum_by}
use Rattle.arch_model.specs.Set.{has}
use Rattle.arch_model.specs.Architecture.{present}
use Rattle.patterns.proofs.Sums.{flow}
use Rattle.patterns.proofs.supplies.flow_at.Given as goal

abbrev pub invariant-loop-e : goal.invariant-loop-e
invariant-loop-e l = record { sum : l.total ≡ sum_by (flow l.lib l.side l.i.0) (present (has l.chosen) (take l.e l.edges)); small : l.total ≤ l.e * 10 ^ 12 }
