use Rattle.std.proofs.Common.{◌≡◌, ◌||◌, ◌+◌, ◌<◌, ℕ}
use Rattle.arch_model.specs.declared.limits.TheConstants.{EDGES, MEMBERS}
use Rattle.arch_model.specs.Set.{has, members_below}
use Rattle.arch_model.specs.Member.{is_in}
use Rattle.paths.proofs.adjacency.edges_among.Given as goal

-- those found, and those still to come
abbrev pub invariant-loop-v : goal.invariant-loop-v
invariant-loop-v l = record {
  can : (goal.iterator-loop-v).can_next l.v-iterator;
  finite : (goal.iterator-loop-v).is_finite l.v-iterator;
  all : (e : ℕ) → e < EDGES → (has l.found e || is_in l.v-iterator (l.n + e)) ≡ is_in (members_below l.members MEMBERS) (l.n + e);
}
