use Rattle.std.proofs.Common.{◌≡◌, ◌-◌, map, option_map}
use Rattle.proof_log.specs.Value.{named_pair}
use Rattle.proof_log.specs.Inner.Reading.{pair_at, items_at}
use Rattle.proof_log.proofs.Items.{joined, left}
use Rattle.proof_log.proofs.fields.pairs.Given as goal

-- the pairs so far and those that are left are all pairs
abbrev pub invariant-loop : goal.invariant-loop
invariant-loop l = left joined pair_at (option_map (λ v. map named_pair v.items) l.pairs) (64 - l.counter) l.rest ≡ items_at pair_at 64 l.bytes
