-- Paths to a sink, component by component.
use Rattle.std.proofs.Common.{◌≡◌, ℕ, Bool, true, false, not, nat_eq, List, [], ◌∷◌, Some, refl, sym, ap, ◌∙◌, inl, inr}
use Rattle.std.specs.Prelude.{slice_get}
use Rattle.std.proofs.lemmas.Bool.{eqb-true, eq-eqb}
use Rattle.arch_model.specs.declared.template.Edge.{Edge}
use Rattle.arch_model.specs.Set.{Set, has}
use Rattle.arch_model.specs.Parts.{LibraryParts, ArchitectureParts}
use Rattle.arch_model.specs.Architecture.{IsArchitecture}
use Rattle.arch_model.specs.Member.{is_in}
use Rattle.arch_model.specs.Path.{is_source, LeadsTo, IsPath}
use Rattle.arch_model.proofs.Members.{or_left, or_cases}
use Rattle.arch_model.proofs.Reaching.{joins_head}
use Rattle.redundancy_cut.proofs.EdgeLaws.{joint_of, joined_by}

pub first_in : (c : ℕ) (rest : List ℕ) → is_in (c ∷ rest) c ≡ true
first_in c rest = or_left (nat_eq c c) (is_in rest c) (eq-eqb c c refl)

-- the first component has not failed
pub head_live : (lib : LibraryParts) (arch : ArchitectureParts) (failed : ℕ → Bool) (sink c : ℕ) (rest : List ℕ) → LeadsTo lib arch sink failed (c ∷ rest) → not (failed c) ≡ true
head_live lib arch failed sink c [] h = h.0
head_live lib arch failed sink c (d ∷ rest) h = h.0

-- where the first component is present, all are
pub all_present : (lib : LibraryParts) (arch : ArchitectureParts) → IsArchitecture lib arch → (failed : ℕ → Bool) (sink c : ℕ) (rest : List ℕ)
    → LeadsTo lib arch sink failed (c ∷ rest) → has arch.comps c ≡ true → (x : ℕ) → is_in (c ∷ rest) x ≡ true → has arch.comps x ≡ true
all_present lib arch fits failed sink c [] h here x i = elim (or_cases (nat_eq c x) false i) [
  | inl same ↦ ap (has arch.comps) (sym (eqb-true c x same)) ∙ here
  | inr none ↦ absurd (let e : false ≡ true = none in cc)
]
all_present lib arch fits failed sink c (d ∷ rest) h here x i = elim (or_cases (nat_eq c x) (is_in (d ∷ rest) x) i) [
  | inl same ↦ ap (has arch.comps) (sym (eqb-true c x same)) ∙ here
  | inr later ↦ all_present lib arch fits failed sink d rest h.2 (joins_head lib arch failed fits c d h.1) x later
]

-- Two architectures, and a set of components, the sink among them, such that no edge of the first leads into it from outside, and the second has all edges into it and all sources in it that the first has.
module _ (lib : LibraryParts) (a b : ArchitectureParts) (fits_b : IsArchitecture lib b) (cone : Set) (sink : ℕ) (sink_in : has cone sink ≡ true)
    (closed : (k : ℕ) (e : Edge) → slice_get lib.edges k ≡ Some e → has a.edges k ≡ true → has cone e.head.0 ≡ true → has cone e.tail.0 ≡ true)
    (edges_kept : (k : ℕ) (e : Edge) → slice_get lib.edges k ≡ Some e → has cone e.head.0 ≡ true → has a.edges k ≡ true → has b.edges k ≡ true)
    (sources_kept : (c : ℕ) → is_source lib c ≡ true → has cone c ≡ true → has a.comps c ≡ true → has b.comps c ≡ true) where
  leads_kept : (failed : ℕ → Bool) (c : ℕ) (rest : List ℕ) → LeadsTo lib a sink failed (c ∷ rest) → (has cone c ≡ true) × LeadsTo lib b sink failed (c ∷ rest)
  leads_kept failed c [] h = (ap (has cone) h.1 ∙ sink_in, h)
  leads_kept failed c (d ∷ rest) h =
      let later = leads_kept failed d rest h.2 in
      let e = joint_of lib a failed c d h.1 in
      let into : has cone e.edge.head.0 ≡ true = ap (has cone) e.head ∙ later.0 in (
        ap (has cone) (sym e.tail) ∙ closed e.number e.edge e.at e.here into,
        (
          h.0,
          joined_by lib b failed c d (record {
            number = e.number;
            edge = e.edge;
            at = e.at;
            here = edges_kept e.number e.edge e.at into e.here;
            live = e.live;
            tail = e.tail;
            head = e.head;
          }),
          later.1,
        ),
      )

  -- each path of the first to the sink is one of the second
  pub path_kept : (failed : ℕ → Bool) (path : List ℕ) → IsPath lib a sink failed path → IsPath lib b sink failed path
  path_kept failed [] h = absurd h.leads
  path_kept failed (c ∷ rest) h =
      let l = leads_kept failed c rest h.leads in
      record {
        present = all_present lib b fits_b failed sink c rest l.1 (sources_kept c h.source l.0 (h.present c (first_in c rest)));
        source = h.source;
        leads = l.1;
      }
