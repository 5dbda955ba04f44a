use Rattle.std.proofs.Common.{◌≡◌, ◌-◌, length, option_map}
use Rattle.std.specs.Prelude.{IfSome}
use Rattle.proof_log.specs.Value.{IsSmall}
use Rattle.proof_log.specs.Inner.Reading.{number_at, folded_at, set_read, seen_by}
use Rattle.proof_log.proofs.Items.{added, left}
use Rattle.proof_log.proofs.fields.numbers.Given as goal

-- the set so far and the numbers that are left are all numbers, and the set is small
abbrev pub invariant-loop : goal.invariant-loop
invariant-loop g l = record {
  read : left added (number_at 0 l.limit) (seen_by g.S.NumberSet.numbers l.so_far) (length l.bytes - l.counter) l.rest ≡ folded_at (number_at 0 l.limit) (option_map set_read) (length l.bytes) l.bytes;
  small : IfSome l.so_far (λ p. IsSmall g.S.NumberSet.room (g.S.NumberSet.numbers p.0));
}
