use Rattle.std.proofs.Common.{◌≡◌, ◌≤◌, take, sum_by}
use Rattle.arch_model.specs.Set.{has}
use Rattle.arch_model.specs.Architecture.{present}
use Rattle.patterns.proofs.Sums.{of_type}
use Rattle.patterns.proofs.counts.count.Given as goal

abbrev pub invariant-loop-i : goal.invariant-loop-i
invariant-loop-i l = record { sum : l.total ≡ sum_by (of_type l.t) (present (has l.chosen) (take l.i l.components)); small : l.total ≤ l.i }
