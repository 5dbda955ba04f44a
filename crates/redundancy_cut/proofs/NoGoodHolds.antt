-- A right no-good's row holds in every admissible architecture.
use Rattle.std.proofs.Common.{◌≡◌, ℕ, ◌+◌, ◌<◌, ◌≤◌, Bool, true, ◌&&◌, length, Some, refl, sym, ◌∙◌, arith, inl, inr}
use Rattle.std.specs.Prelude.{slice_get}
use Rattle.std.proofs.lemmas.Option.{slice_get_within}
use Rattle.arch_model.specs.declared.template.Edge.{Edge}
use Rattle.arch_model.specs.Set.{Set, has}
use Rattle.arch_model.specs.Parts.{LibraryParts, ArchitectureParts}
use Rattle.arch_model.specs.Library.{IsLibrary}
use Rattle.arch_model.specs.Architecture.{IsArchitecture}
use Rattle.arch_model.specs.Member.{is_present, member_count}
use Rattle.arch_model.specs.Path.{is_source}
use Rattle.arch_model.specs.Weight.{weight_of}
use Rattle.arch_model.proofs.Members.{and_both, or_left, or_right}
use Rattle.rows.specs.Row.{RowHolds, row_of_cut}
use Rattle.rows.specs.Problem.{IsVectorOf}
use Rattle.rows.proofs.VectorLaws.{at_component, at_edge}
use Rattle.redundancy_cut.specs.CutRow.{is_edge_where, feeds, one_differs}
use Rattle.redundancy_cut.proofs.EdgeLaws.{edge_where}
use Rattle.redundancy_cut.proofs.RowValues.{differs_or_agrees}
use Rattle.redundancy_cut.proofs.PathLaws.{path_kept}
use Rattle.redundancy_cut.proofs.SameWeights.{KeepsPaths, same_weight}

-- a source and an edge that feed a set of components, as members
source_feeds : (lib : LibraryParts) (cone : Set) (c : ℕ) → is_source lib c ≡ true → has cone c ≡ true → feeds lib cone c ≡ true
source_feeds lib cone c source here = or_left (is_source lib c && has cone c) (is_edge_where lib (λ e. has cone e.head.0) c) (and_both (is_source lib c) (has cone c) source here)

edge_feeds : (lib : LibraryParts) (cone : Set) (k : ℕ) (e : Edge) → slice_get lib.edges k ≡ Some e → has cone e.head.0 ≡ true → feeds lib cone (length lib.components + k) ≡ true
edge_feeds lib cone k e at into =
    or_right (is_source lib (length lib.components + k) && has cone (length lib.components + k)) (is_edge_where lib (λ d. has cone d.head.0) (length lib.components + k)) (edge_where lib (λ d. has cone d.head.0) k e at ∙ into)

module _ (lib : LibraryParts) (a b : ArchitectureParts) (fits_a : IsArchitecture lib a) (fits_b : IsArchitecture lib b) (cone : Set) (sink : ℕ) (sink_in : has cone sink ≡ true)
    (closed : (k : ℕ) (e : Edge) → slice_get lib.edges k ≡ Some e → has a.edges k ≡ true → has cone e.head.0 ≡ true → has cone e.tail.0 ≡ true)
    (same : (v : ℕ) → v < member_count lib → feeds lib cone v ≡ true → is_present lib b v ≡ is_present lib a v) where
  same_edge : (k : ℕ) (e : Edge) → slice_get lib.edges k ≡ Some e → has cone e.head.0 ≡ true → has b.edges k ≡ has a.edges k
  same_edge k e at into =
      let short = slice_get_within lib.edges k e at in
      sym (at_edge lib b (is_present lib b) (λ v h. refl) k short)
      ∙ same (length lib.components + k) (omega (arith, short)) (edge_feeds lib cone k e at into)
      ∙ at_edge lib a (is_present lib a) (λ v h. refl) k short

  same_source : (c : ℕ) → c < length lib.components → is_source lib c ≡ true → has cone c ≡ true → has b.comps c ≡ has a.comps c
  same_source c short source here =
      sym (at_component lib b (is_present lib b) (λ v h. refl) c short)
      ∙ same c (omega (arith, short)) (source_feeds lib cone c source here)
      ∙ at_component lib a (is_present lib a) (λ v h. refl) c short

  forth : KeepsPaths lib sink a b
  forth = path_kept lib a b fits_b cone sink sink_in closed
      (λ k e at into here. same_edge k e at into ∙ here)
      (λ c source inside here. same_source c (fits_a.comps c here) source inside ∙ here)

  back : KeepsPaths lib sink b a
  back = path_kept lib b a fits_a cone sink sink_in
      (λ k e at here into. closed k e at (sym (same_edge k e at into) ∙ here) into)
      (λ k e at into here. sym (same_edge k e at into) ∙ here)
      (λ c source inside here. sym (same_source c (fits_b.comps c here) source inside) ∙ here)

  -- where what feeds the set is the same in both, the weight is the same
  pub fed_alike : weight_of lib a sink ≡ weight_of lib b sink
  fed_alike = same_weight lib sink a b fits_a fits_b forth back

pub no_good_holds : (lib : LibraryParts) → IsLibrary lib → (a b : ArchitectureParts) → IsArchitecture lib a → IsArchitecture lib b → (cone : Set) (sink bound : ℕ) → has cone sink ≡ true
    → ((k : ℕ) (e : Edge) → slice_get lib.edges k ≡ Some e → has a.edges k ≡ true → has cone e.head.0 ≡ true → has cone e.tail.0 ≡ true)
    → bound < weight_of lib a sink → weight_of lib b sink ≤ bound
    → (x : ℕ → Bool) → IsVectorOf lib b x → RowHolds (row_of_cut (one_differs lib a (feeds lib cone))) x
no_good_holds lib right a b fits_a fits_b cone sink bound sink_in closed above within x vector =
    elim (differs_or_agrees lib right a (feeds lib cone) x) [
      | inl holds ↦ holds
      | inr agrees ↦
          let alike = fed_alike lib a b fits_a fits_b cone sink sink_in closed (λ v short fed. sym (vector v short) ∙ agrees v short fed) in
          absurd (omega (arith, above, within, alike))
    ]
