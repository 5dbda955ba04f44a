use Rattle.std.proofs.Common.{◌≡◌, ◌*◌, ◌^◌, ◌≤◌, unsigned_abs}
use Rattle.std.specs.List.{range_with_len}
use Rattle.rows.specs.Row.{int_sum_by}
use Rattle.rows.specs.Known.{parts_of}
use Rattle.rows.proofs.Combinations.{combined_best}
use Rattle.rows.proofs.together_of.pairs_together.Given as goal

abbrev pub invariant-loop-i : goal.invariant-loop-i
invariant-loop-i l = record {
  sum : l.total ≡ int_sum_by (combined_best (parts_of l.known) l.pairs l.cube) (range_with_len 0 l.i);
  small : unsigned_abs l.total ≤ l.i * (64 * 10 ^ 28);
}
