use Rattle.std.proofs.Common.{◌≡◌, ℕ, ◌||◌, ◌&&◌, true}
use Rattle.arch_model.specs.Member.{is_in}
use Rattle.arch_model.specs.Set.{has}
use Rattle.fail_mass.specs.Inner.Cases.{is_between}
use Rattle.fail_mass.proofs.between.between.Given as goal

-- what was found, and those still to come that lie between, are all that do
abbrev pub invariant-loop-v : goal.invariant-loop-v
invariant-loop-v l = record {
  can : (goal.iterator-loop-v).can_next l.v-iterator;
  finite : (goal.iterator-loop-v).is_finite l.v-iterator;
  all : (d : ℕ) → (has l.found d || (is_in l.v-iterator d && is_between l.lib l.reached l.above d)) ≡ (has l.members d && is_between l.lib l.reached l.above d);
  inside : (d : ℕ) → is_in l.v-iterator d ≡ true → has l.members d ≡ true;
}
