use Rattle.std.proofs.Common.{◌≡◌, ℕ, ◌&&◌, ltb}
use Rattle.arch_model.specs.Set.{has}
use Rattle.fail_mass.specs.Inner.Cases.{may_fail}
use Rattle.fail_mass.proofs.undecided.undecided.Given as goal

abbrev pub invariant-loop-v : goal.invariant-loop-v
invariant-loop-v l = (v : ℕ) → has l.open v ≡ (ltb v l.v && may_fail l.lib l.arch v)
