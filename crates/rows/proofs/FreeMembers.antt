-- For tests: without edges, patterns and requirements no rows decide, and a list of cuts grows by one over the variables.
use Rattle.std.proofs.Common.{◌≡◌, ℕ, ◌<◌, List, [], ◌∷◌, ◌++◌, length, ap, subst, ◌∙◌, arith, IsTrue}
use Rattle.std.specs.List.{All}
use Rattle.std.proofs.lemmas.List.Elements.{All-push, All-same}
use Rattle.arch_model.specs.declared.template.Edge.{Edge}
use Rattle.arch_model.specs.declared.library.Requirement.{Requirement}
use Rattle.arch_model.specs.Set.{Set, has}
use Rattle.arch_model.specs.Parts.{LibraryParts}
use Rattle.arch_model.specs.Library.{IsLibrary}
use Rattle.arch_model.specs.Member.{member_count}
use Rattle.arch_model.specs.Pattern.{MeetsPattern}
use Rattle.rows.specs.Parts.{RowParts, CutParts}
use Rattle.rows.specs.Row.{RowHolds, IsRowBelow}
use Rattle.rows.specs.BaseRows.{edge_rows}
use Rattle.rows.specs.Known.{IsCutBelow}
use Rattle.rows.specs.Problem.{DecidePatterns}
use Rattle.rows.proofs.VectorLaws.{edge_rows_say}

all_none : {X : Type 0} (P : X → Type 0) (xs : List X) → xs ≡ [] → All P xs
all_none P xs e k d short = absurd (omega (arith, short, ap length e))

no_edge_rows : (lib : LibraryParts) → lib.edges ≡ [] → edge_rows lib ≡ []
no_edge_rows lib none = none_of lib.edges none where
  none_of : (edges : List Edge) → edges ≡ [] → edge_rows (record lib { edges = edges }) ≡ []
  none_of edges e = ap (λ (es : List Edge). edge_rows (record lib { edges = es })) e

pub free_decides : (lib : LibraryParts) (rows : List RowParts) → IsLibrary lib → lib.edges ≡ [] → lib.patterns ≡ [] → lib.requirements ≡ [] → rows ≡ [] → DecidePatterns lib rows
free_decides lib rows right edges patterns requirements none = record {
  few = omega (arith, ap length none);
  variables = all_none (IsRowBelow (member_count lib)) rows none;
  exact = λ x. (
    (λ all.
        let some = (edge_rows_say lib x right).0 (all_none (λ row. RowHolds row x) (edge_rows lib) (no_edge_rows lib edges)) in (
          some.0,
          some.1,
          record {
            meets = record { architecture = some.2; patterns = all_none (MeetsPattern lib some.0) lib.patterns patterns };
            sinks = all_none (λ (r : Requirement). IsTrue (has some.0.comps r.sink.0)) lib.requirements requirements;
          },
        )),
    (λ w. all_none (λ row. RowHolds row x) rows none),
  );
}

pub learned : (lib own : LibraryParts) (n : ℕ) (cuts next : List CutParts) (cut : CutParts) (plus minus : Set) → n ≡ member_count own → own ≡ lib → plus ≡ cut.plus → minus ≡ cut.minus → ((k : ℕ) → IsTrue (has plus k) → k < n)
    → ((k : ℕ) → IsTrue (has minus k) → k < n) → All (IsCutBelow (member_count lib)) cuts → next ≡ cuts ++ cut ∷ [] → All (IsCutBelow (member_count lib)) next
learned lib own n cuts next cut plus minus count same p m low_plus low_minus all grown =
    let P : ℕ → Type 0 = λ k. IsCutBelow k cut in
    let new : IsCutBelow n cut = record { plus = λ k h. low_plus k (ap (λ s. has s k) p ∙ h); minus = λ k h. low_minus k (ap (λ s. has s k) m ∙ h) } in
    All-same (IsCutBelow (member_count lib)) next (cuts ++ cut ∷ []) grown (All-push (IsCutBelow (member_count lib)) cuts cut all (subst P (count ∙ ap member_count same) new))
