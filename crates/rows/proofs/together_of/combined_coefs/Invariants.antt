use Rattle.std.proofs.Common.{◌≡◌, ℕ, ◌*◌, ◌^◌, ◌<◌, pos, get_or, take}
use Rattle.rows.specs.Row.{int_sum_by}
use Rattle.rows.specs.Known.{parts_of, variables}
use Rattle.rows.specs.Inner.Sums.{AreWithin}
use Rattle.rows.proofs.Combinations.{pair_coef}
use Rattle.rows.proofs.together_of.combined_coefs.Given as goal

abbrev pub invariant-loop-pair : goal.invariant-loop-pair
invariant-loop-pair l = record {
  sum : (v : ℕ) → v < variables (parts_of l.known) → get_or l.sums v (pos 0) ≡ int_sum_by (pair_coef (parts_of l.known) v) (take l.pair-index l.reason);
  small : AreWithin (variables (parts_of l.known)) (l.pair-index * 10 ^ 28) l.sums;
}
