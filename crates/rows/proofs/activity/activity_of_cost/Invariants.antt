use Rattle.std.proofs.Common.{◌≡◌, ◌*◌, ◌^◌, ◌≤◌, unsigned_abs}
use Rattle.std.specs.List.{range_with_len}
use Rattle.rows.specs.Row.{int_sum_by}
use Rattle.rows.proofs.Costs.{cost_at}
use Rattle.rows.proofs.activity.activity_of_cost.Given as goal

abbrev pub invariant-loop-i : goal.invariant-loop-i
invariant-loop-i l = record {
  sum : l.total ≡ int_sum_by (cost_at l.end l.lib l.cube) (range_with_len 0 l.i);
  small : unsigned_abs l.total ≤ l.i * 10 ^ 16;
}
