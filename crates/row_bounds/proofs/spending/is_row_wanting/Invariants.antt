use Rattle.std.proofs.Common.{◌≡◌, ◌*◌, ◌≤◌, ◌^◌, take, unsigned_abs}
use Rattle.rows.specs.Row.{int_sum_by}
use Rattle.row_bounds.proofs.SpendLaws.{at_ones}
use Rattle.row_bounds.proofs.spending.is_row_wanting.Given as goal

abbrev pub invariant-loop-term : goal.invariant-loop-term
invariant-loop-term l = record {
  sum : l.total ≡ int_sum_by (at_ones l.cube.ones) (take l.term-index l.term-items);
  small : unsigned_abs l.total ≤ l.term-index * 10 ^ 16;
}
