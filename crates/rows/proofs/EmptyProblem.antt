-- Without components and patterns, no rows decide: each vector is that of the empty architecture.
use Rattle.std.proofs.Common.{◌≡◌, List, [], length, ap, arith, IsTrue}
use Rattle.std.specs.List.{All}
use Rattle.arch_model.specs.Set.{has, empty}
use Rattle.arch_model.specs.declared.template.Edge.{Edge}
use Rattle.arch_model.specs.Parts.{LibraryParts, ArchitectureParts}
use Rattle.arch_model.specs.Architecture.{present}
use Rattle.arch_model.specs.Member.{member_count}
use Rattle.arch_model.specs.Pattern.{MeetsPattern}
use Rattle.rows.specs.Parts.{RowParts}
use Rattle.rows.specs.Row.{RowHolds, IsRowBelow}
use Rattle.rows.specs.Problem.{DecidePatterns, IsCandidate}
use Rattle.rows.proofs.SetFacts.{no_member}

all_none : {X : Type 0} (P : X → Type 0) (xs : List X) → xs ≡ [] → All P xs
all_none P xs e k d short = absurd (omega (arith, short, ap length e))

nothing : ArchitectureParts
nothing = record { comps = empty; edges = empty }

candidate : (lib : LibraryParts) → lib.edges ≡ [] → lib.patterns ≡ [] → lib.requirements ≡ [] → IsCandidate lib nothing
unfolding nothing
candidate lib edges patterns requirements = record {
  meets = record {
    architecture = record {
      comps = λ c h. absurd (no_member c h);
      edges = λ e h. absurd (no_member e h);
      tails = all_none (λ e. IsTrue (has empty e.tail.0)) _ (ap (λ (l : List Edge). present (has empty) l) edges);
      heads = all_none (λ e. IsTrue (has empty e.head.0)) _ (ap (λ (l : List Edge). present (has empty) l) edges);
    };
    patterns = all_none (MeetsPattern lib nothing) lib.patterns patterns;
  };
  sinks = all_none (λ r. IsTrue (has empty r.sink.0)) lib.requirements requirements;
}

pub empty_decides : (lib : LibraryParts) (rows : List RowParts) → lib.components ≡ [] → lib.edges ≡ [] → lib.patterns ≡ [] → lib.requirements ≡ [] → rows ≡ [] → DecidePatterns lib rows
empty_decides lib rows components edges patterns requirements none = record {
  few = omega (arith, ap length none);
  variables = all_none (IsRowBelow (member_count lib)) rows none;
  exact = λ x. (
    (λ all. (nothing, (λ v short. absurd (omega (arith, short, ap length components, ap length edges))), candidate lib edges patterns requirements)),
    (λ w. all_none (λ row. RowHolds row x) rows none),
  );
}
