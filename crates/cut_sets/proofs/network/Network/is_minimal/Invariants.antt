use Rattle.std.proofs.Common.{◌≡◌, ◌<◌, ℕ, true, not}
use Rattle.std.specs.List.{list_all}
use Rattle.arch_model.specs.declared.limits.TheConstants.{MEMBERS}
use Rattle.arch_model.specs.Set.{has, minus, put, empty, members_below}
use Rattle.arch_model.specs.Member.{is_in}
use Rattle.arch_model.specs.Path.{parts}
use Rattle.cut_sets.proofs.network.Network.is_minimal.Given as goal

-- the members left decide
abbrev pub invariant-loop-v : goal.invariant-loop-v
invariant-loop-v l = record {
  can : (goal.iterator-loop-v).can_next l.v-iterator;
  finite : (goal.iterator-loop-v).is_finite l.v-iterator;
  rest : list_all (λ c. not (parts l.self.lib l.self.arch l.self.sink (has (minus l.members (put empty c))))) (members_below l.members MEMBERS)
      ≡ list_all (λ c. not (parts l.self.lib l.self.arch l.self.sink (has (minus l.members (put empty c))))) l.v-iterator;
  low : (c : ℕ) → is_in l.v-iterator c ≡ true → c < MEMBERS;
}
