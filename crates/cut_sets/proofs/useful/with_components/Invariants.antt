use Rattle.std.proofs.Common.{◌≡◌, ◌<◌, ◌||◌, ℕ, true}
use Rattle.arch_model.specs.declared.limits.TheConstants.{COMPONENTS}
use Rattle.arch_model.specs.Set.{has, members_below}
use Rattle.arch_model.specs.Member.{is_in}
use Rattle.cut_sets.proofs.useful.with_components.Given as goal

abbrev pub invariant-loop-c : goal.invariant-loop-c
invariant-loop-c l = record {
  can : (goal.iterator-loop-c).can_next l.c-iterator;
  finite : (goal.iterator-loop-c).is_finite l.c-iterator;
  all : (v : ℕ) → (has l.both v || is_in l.c-iterator v) ≡ (has l.members v || is_in (members_below l.comps COMPONENTS) v);
  low : (v : ℕ) → is_in l.c-iterator v ≡ true → v < COMPONENTS;
}
