use Rattle.std.proofs.Common.{◌≡◌, ◌*◌, ◌^◌, ◌≤◌, unsigned_abs, take}
use Rattle.rows.specs.Row.{int_sum_by}
use Rattle.rows.specs.Inner.Ends.{adds_at}
use Rattle.rows.proofs.activity.activity_of_row.Given as goal

abbrev pub invariant-loop-term : goal.invariant-loop-term
invariant-loop-term l = record {
  sum : l.total ≡ int_sum_by (adds_at l.end l.cube) (take l.term-index l.term-items);
  small : unsigned_abs l.total ≤ l.term-index * 10 ^ 16;
}
