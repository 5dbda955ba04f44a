use Rattle.std.proofs.Common.{◌≡◌, ◌<◌, ◌≤◌, ℕ, true, ◌⊎◌}
use Rattle.arch_model.specs.declared.limits.TheConstants.{MEMBERS}
use Rattle.arch_model.specs.Set.{has, members_below}
use Rattle.arch_model.specs.Member.{is_in}
use Rattle.cut_sets.proofs.network.Network.undecided.Given as goal

abbrev pub invariant-loop-v : goal.invariant-loop-v
invariant-loop-v l = record {
  can : (goal.iterator-loop-v).can_next l.v-iterator;
  finite : (goal.iterator-loop-v).is_finite l.v-iterator;
  front : (c : ℕ) → is_in l.place.chosen c ≡ true → has l.wide c ≡ true;
  rest : (c : ℕ) → is_in (members_below l.self.candidates MEMBERS) c ≡ true → l.place.at ≤ c → (has l.wide c ≡ true) ⊎ (is_in l.v-iterator c ≡ true);
  inside : (c : ℕ) → has l.wide c ≡ true → has l.self.candidates c ≡ true;
  there : (c : ℕ) → is_in l.v-iterator c ≡ true → has l.self.candidates c ≡ true;
  low : (c : ℕ) → is_in l.v-iterator c ≡ true → c < MEMBERS;
}
