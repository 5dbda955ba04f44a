use Rattle.std.proofs.lemmas.Int.{to_z-of_z}
use Rattle.rows.proofs.SetFacts.{no_member}
use Rattle.rows.proofs.cut.CutRow.new.Goals as goal

pub invariant_of-result : goal.invariant_of-result
invariant_of-result c = record {
  apart = rw c.new.ensures (λ v h. absurd (no_member v h));
  small_plus = rw c.new.ensures (λ v h. absurd (no_member v h));
  small_minus = rw c.new-2.ensures (λ v h. absurd (no_member v h));
  least = simp (to_z-of_z, c.ranges.least) c.requires;
}
