use Rattle.arch_model.specs.declared.limits.TheConstants.{MEMBERS}
use Rattle.std.proofs.Common.{◌∙◌, ap}
use Rattle.arch_model.specs.Set.{has}
use Rattle.rows.proofs.SetFacts.{absent, apart_left, apart_right, put_below}
use Rattle.rows.proofs.cut.CutRow.put.Goals as goal

pub invariant_of-self : goal.invariant_of-self
invariant_of-self c =
    let none = absent c.args.self.now c.args.v.0 c.requires.apart in
    record {
      apart = rw c.put.ensures (apart_left c.self.inside.plus c.self.inside.minus c.args.v.0 (ap (λ s. has s.minus c.args.v.0) c.self.view_is ∙ none.1) c.self.invariant.apart);
      small_plus = rw c.put.ensures (put_below c.self.inside.plus c.args.v.0 MEMBERS c.requires.small c.self.invariant.small_plus);
      small_minus = c.self.invariant.small_minus;
      least = c.self.invariant.least;
    }

pub invariant_of-self-else-plus : goal.invariant_of-self-else-plus
invariant_of-self-else-plus c =
    let none = absent c.args.self.now c.args.v.0 c.requires.apart in
    record {
      apart = rw c.put-else-plus.ensures (apart_right c.self.inside.plus c.self.inside.minus c.args.v.0 (ap (λ s. has s.plus c.args.v.0) c.self.view_is ∙ none.0) c.self.invariant.apart);
      small_plus = c.self.invariant.small_plus;
      small_minus = rw c.put-else-plus.ensures (put_below c.self.inside.minus c.args.v.0 MEMBERS c.requires.small c.self.invariant.small_minus);
      least = c.self.invariant.least;
    }
