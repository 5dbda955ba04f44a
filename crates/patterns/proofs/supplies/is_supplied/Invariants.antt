use Rattle.std.proofs.Common.{◌≡◌, ◌≤◌, ◌*◌, ◌^◌, take, sum_by}
use Rattle.arch_model.specs.Set.{has}
use Rattle.arch_model.specs.Architecture.{present}
use Rattle.patterns.proofs.supplies.is_supplied.Given as goal

abbrev pub invariant-loop-i : goal.invariant-loop-i
invariant-loop-i l = record {
  supplied : l.supply ≡ sum_by (λ c. c.supply) (present (has l.chosen) (take l.i l.components));
  demanded : l.demand ≡ sum_by (λ c. c.demand) (present (has l.chosen) (take l.i l.components));
  supply_small : l.supply ≤ l.i * 10 ^ 12;
  demand_small : l.demand ≤ l.i * 10 ^ 12;
}
