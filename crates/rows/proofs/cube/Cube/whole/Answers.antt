use Rattle.rows.proofs.SetFacts.{no_member}
use Rattle.rows.proofs.cube.Cube.whole.Goals as goal

pub invariant_of-result : goal.invariant_of-result
invariant_of-result c = record {
  within = rw (c.new.ensures, c.new-2.ensures) (λ v h. h);
  small = rw c.new.ensures (λ v h. absurd (no_member v h));
}
