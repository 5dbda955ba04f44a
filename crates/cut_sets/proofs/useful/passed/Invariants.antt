use Rattle.std.proofs.Common.{◌≡◌, ◌<◌, ◌&&◌, ◌||◌, ℕ, true}
use Rattle.arch_model.specs.declared.limits.TheConstants.{MEMBERS}
use Rattle.arch_model.specs.Set.{has, members_below}
use Rattle.arch_model.specs.Member.{is_in}
use Rattle.cut_sets.specs.Inner.Useful.{is_passed}
use Rattle.cut_sets.proofs.useful.passed.Given as goal

-- those found, and those still to come that pass
abbrev pub invariant-loop-v : goal.invariant-loop-v
invariant-loop-v l = record {
  can : (goal.iterator-loop-v).can_next l.v-iterator;
  finite : (goal.iterator-loop-v).is_finite l.v-iterator;
  all : (v : ℕ) → (has l.found v || (is_in l.v-iterator v && is_passed l.lib l.fn.sink.0 l.sides v)) ≡ (is_in (members_below l.among MEMBERS) v && is_passed l.lib l.fn.sink.0 l.sides v);
  inside : (v : ℕ) → is_in l.v-iterator v ≡ true → has l.among v ≡ true;
  low : (v : ℕ) → is_in l.v-iterator v ≡ true → v < MEMBERS;
}
