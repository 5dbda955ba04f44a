use Rattle.rows.proofs.SetFacts.{put_within, put_below, has-put_keeps}
use Rattle.arch_model.specs.declared.limits.TheConstants.{MEMBERS}
use Rattle.rows.proofs.cube.Cube.fix.Goals as goal

pub invariant_of-self : goal.invariant_of-self
invariant_of-self c = record {
  within = rw (c.put-then-value.ensures, c.put.ensures) (put_within c.self.inside.ones c.self.inside.fixed c.args.v.0 c.self.invariant.within);
  small = rw c.put.ensures (put_below c.self.inside.fixed c.args.v.0 MEMBERS c.requires.small c.self.invariant.small);
}

pub invariant_of-self-else-value : goal.invariant_of-self-else-value
invariant_of-self-else-value c = record {
  within = rw c.put.ensures (λ v h. has-put_keeps c.self.inside.fixed c.args.v.0 v (c.self.invariant.within v h));
  small = rw c.put.ensures (put_below c.self.inside.fixed c.args.v.0 MEMBERS c.requires.small c.self.invariant.small);
}
