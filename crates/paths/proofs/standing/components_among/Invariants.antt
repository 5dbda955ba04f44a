use Rattle.std.proofs.Common.{◌≡◌, ◌&&◌, ◌||◌, ℕ, nat_lt}
use Rattle.arch_model.specs.declared.limits.TheConstants.{MEMBERS}
use Rattle.arch_model.specs.Set.{has, members_below}
use Rattle.arch_model.specs.Member.{is_in}
use Rattle.paths.proofs.standing.components_among.Given as goal

-- those found, and the components among those still to come
abbrev pub invariant-loop-v : goal.invariant-loop-v
invariant-loop-v l = record {
  can : (goal.iterator-loop-v).can_next l.v-iterator;
  finite : (goal.iterator-loop-v).is_finite l.v-iterator;
  all : (c : ℕ) → (has l.found c || (is_in l.v-iterator c && nat_lt c l.n)) ≡ (is_in (members_below l.members MEMBERS) c && nat_lt c l.n);
}
