-- Worked rows: what a yes says of a library that asks for nothing.
use Rattle.std.proofs.Common.{◌≡◌, ℕ, ◌≤◌, false, [], IsTrue, refl, subst, arith}
use Rattle.std.proofs.lemmas.List.Elements.{All-from_recursion}
use Rattle.arch_model.specs.declared.template.Edge.{Edge}
use Rattle.arch_model.specs.declared.library.Pattern.{Pattern}
use Rattle.arch_model.specs.declared.library.Requirement.{Requirement}
use Rattle.arch_model.specs.Set.{has, empty}
use Rattle.arch_model.specs.Parts.{LibraryParts, ArchitectureParts}
use Rattle.arch_model.specs.Pattern.{MeetsPattern}
use Rattle.arch_model.specs.Weight.{weight_of}
use Rattle.arch_model.specs.Admissible.{IsAdmissible}
use Rattle.arch_model.proofs.SetLaws.{has-empty}
use Rattle.log_checker.specs.Yes.{IsCostOfOne, IsLeastCost}

asks_nothing : LibraryParts
asks_nothing = record { types = []; links = []; components = []; edges = []; patterns = []; requirements = [] }

nothing : ArchitectureParts
nothing = record { comps = empty; edges = empty }

none_there : (i : ℕ) → IsTrue (has empty i) → ⊥
none_there i there = let h : IsTrue false = subst IsTrue (has-empty i) there in cc

nothing-admissible : IsAdmissible asks_nothing nothing
unfolding asks_nothing nothing
nothing-admissible = record {
  meets = record {
    architecture = record {
      comps = λ c there. absurd (none_there c there);
      edges = λ e there. absurd (none_there e there);
      tails = All-from_recursion {X = Edge} (λ e. IsTrue (has empty e.tail.0)) [] tt;
      heads = All-from_recursion {X = Edge} (λ e. IsTrue (has empty e.head.0)) [] tt;
    };
    patterns = All-from_recursion {X = Pattern} (MeetsPattern asks_nothing nothing) [] tt;
  };
  sinks = All-from_recursion {X = Requirement} (λ r. IsTrue (has empty r.sink.0)) [] tt;
  weights = All-from_recursion {X = Requirement} (λ r. weight_of asks_nothing nothing r.sink.0 ≤ r.bound) [] tt;
}

-- what has no member is cheapest, at no cost
nothing-cheapest : IsLeastCost asks_nothing 0
unfolding asks_nothing nothing
nothing-cheapest = record { one = record { architecture = nothing; admissible = nothing-admissible; costs = refl }; none_less = λ arch admissible. omega arith }

-- and nothing costs 1
nothing_costs_one : IsCostOfOne asks_nothing 1 → ⊥
unfolding asks_nothing
nothing_costs_one x = let h : 0 ≡ 1 = x.costs in omega (arith, h)
