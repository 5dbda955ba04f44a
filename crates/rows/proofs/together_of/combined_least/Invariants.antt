use Rattle.std.proofs.Common.{◌≡◌, ◌*◌, ◌^◌, ◌≤◌, unsigned_abs, take}
use Rattle.rows.specs.Row.{int_sum_by}
use Rattle.rows.specs.Known.{parts_of}
use Rattle.rows.proofs.Combinations.{pair_least}
use Rattle.rows.proofs.together_of.combined_least.Given as goal

abbrev pub invariant-loop-pair : goal.invariant-loop-pair
invariant-loop-pair l = record {
  sum : l.total ≡ int_sum_by (pair_least (parts_of l.known)) (take l.pair-index l.reason);
  small : unsigned_abs l.total ≤ l.pair-index * (10 ^ 12 * 2 ^ 65);
}
