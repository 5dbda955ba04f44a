use Rattle.std.proofs.Common.{◌≡◌, ℕ, false, IsTrue}
use Rattle.std.specs.List.{AllByRecursion}
use Rattle.arch_model.specs.Set.{has}
use Rattle.redundancy_cut.proofs.right.are_apart.Given as goal

-- where none of the rest is in both sets, none is
abbrev pub invariant-loop-c : goal.invariant-loop-c
invariant-loop-c l = record {
  among : AllByRecursion (λ c. IsTrue (has l.far c)) l.c-iterator;
  rest : AllByRecursion (λ c. has l.set c ≡ false) l.c-iterator → (c : ℕ) → IsTrue (has l.far c) → has l.set c ≡ false;
}
