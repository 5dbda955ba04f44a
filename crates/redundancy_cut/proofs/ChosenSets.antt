-- The chosen cut sets of members and of components: a redundancy cut's two sets are right, and nothing of the candidate leads out.
use Rattle.std.proofs.Common.{◌≡◌, ℕ, ◌+◌, ◌<◌, Bool, true, false, not, ◌&&◌, ◌||◌, nat_eq, List, [], ◌∷◌, filter, length, Some, refl, sym, ap, subst, ◌∙◌, arith, inl, inr, eq-eqb}
use Rattle.std.specs.Prelude.{slice_get}
use Rattle.std.specs.List.{range_with_len}
use Rattle.std.proofs.lemmas.Option.{slice_get_within}
use Rattle.std.proofs.lemmas.Bool.{eqb-true}
use Rattle.arch_model.specs.declared.template.Edge.{Edge}
use Rattle.arch_model.specs.declared.library.Requirement.{Requirement}
use Rattle.arch_model.specs.Set.{Set, has, members_below}
use Rattle.arch_model.specs.Parts.{LibraryParts, ArchitectureParts}
use Rattle.arch_model.specs.Library.{IsLibrary}
use Rattle.arch_model.specs.Architecture.{IsArchitecture}
use Rattle.arch_model.specs.Member.{is_in, is_present, member_count, member_numbers}
use Rattle.arch_model.specs.Path.{is_source, LeadsTo, Parts}
use Rattle.arch_model.specs.Weight.{product_of, weight_of}
use Rattle.arch_model.proofs.Members.{and_left, and_right, and_both, or_left, or_right, or_cases, not_true, bool_cases, false_if, is_in-filter, is_in-range}
use Rattle.arch_model.proofs.Ranges.{edge_tails, edge_heads}
use Rattle.arch_model.proofs.Reaching.{source_below}
use Rattle.rows.proofs.VectorLaws.{at_component, at_edge}
use Rattle.redundancy_cut.specs.RightCut.{IsRightRedundancy, IsRightNoGood}
use Rattle.redundancy_cut.specs.CutRow.{set_of_numbers, is_edge_where, leads_out}
use Rattle.redundancy_cut.specs.Reaching.{reaches}
use Rattle.redundancy_cut.specs.ChosenCut.{far_of, cone_of}
use Rattle.redundancy_cut.proofs.NumberSets.{has-set_of_numbers, in_range}
use Rattle.redundancy_cut.proofs.EdgeLaws.{joined_by, edge_at, edge_member, closed_from}
use Rattle.redundancy_cut.proofs.SublistLaws.{kept_of_range}
use Rattle.redundancy_cut.proofs.PathLaws.{all_present}
use Rattle.redundancy_cut.proofs.ReachingLaws.{reaches_exact}
use Rattle.redundancy_cut.proofs.HeaviestLaws.{IsCutList, minimal_cut_set_of}

-- the set of the components that pass a test
in_components : (n : ℕ) (t : ℕ → Bool) (c : ℕ) → has (set_of_numbers (filter t (range_with_len 0 n))) c ≡ (t c && is_in (range_with_len 0 n) c)
in_components n t c = has-set_of_numbers (filter t (range_with_len 0 n)) c ∙ is_in-filter t (range_with_len 0 n) c

low_of : (n : ℕ) (t : ℕ → Bool) (c : ℕ) → has (set_of_numbers (filter t (range_with_len 0 n))) c ≡ true → c < n
low_of n t c h = let low = in_range 0 n c (and_right (t c) (is_in (range_with_len 0 n) c) (sym (in_components n t c) ∙ h)) in omega (arith, low)

test_of : (n : ℕ) (t : ℕ → Bool) (c : ℕ) → has (set_of_numbers (filter t (range_with_len 0 n))) c ≡ true → t c ≡ true
test_of n t c h = and_left (t c) (is_in (range_with_len 0 n) c) (sym (in_components n t c) ∙ h)

has_by : (n : ℕ) (t : ℕ → Bool) (c : ℕ) → c < n → t c ≡ true → has (set_of_numbers (filter t (range_with_len 0 n))) c ≡ true
has_by n t c low h = in_components n t c ∙ and_both (t c) (is_in (range_with_len 0 n) c) h (is_in-range 0 n c (omega arith) (omega (arith, low)))

-- a member that is present, as a component and as an edge
pub here_component : (lib : LibraryParts) (arch : ArchitectureParts) (c : ℕ) → c < length lib.components → is_present lib arch c ≡ true → has arch.comps c ≡ true
here_component lib arch c low h = sym (at_component lib arch (is_present lib arch) (λ v k. refl) c low) ∙ h

pub here_edge : (lib : LibraryParts) (arch : ArchitectureParts) (k : ℕ) → k < length lib.edges → is_present lib arch (length lib.components + k) ≡ true → has arch.edges k ≡ true
here_edge lib arch k low h = sym (at_edge lib arch (is_present lib arch) (λ v j. refl) k low) ∙ h

module _ (lib : LibraryParts) (right : IsLibrary lib) (arch : ArchitectureParts) (fits : IsArchitecture lib arch) (sink : ℕ) (low : sink < length lib.components)
    (m : List ℕ) (cut : IsCutList lib arch sink m) where
  abbrev set : Set
  set = set_of_numbers m

  abbrev far : Set
  far = far_of lib arch sink set

  abbrev is_far : ℕ → Bool
  is_far c = not (has set c) && not (reaches lib arch sink (has set) c)

  small : (v : ℕ) → has set v ≡ true → v < member_count lib
  small v h =
      let among = cut.inside v (sym (has-set_of_numbers m v) ∙ h) in
      let below = in_range 0 (member_count lib) v (and_right (is_present lib arch v) (is_in (member_numbers lib) v) (sym (is_in-filter (is_present lib arch) (member_numbers lib) v) ∙ among)) in
      omega (arith, below)

  -- the members of the set are the list
  whole : members_below set (member_count lib) ≡ m
  unfolding members_below
  whole =
      ap (λ t. filter t (range_with_len 0 (member_count lib))) (λ i v. has-set_of_numbers m v i)
      ∙ kept_of_range (member_count lib) 0 m cut.ascends (λ v i. let below = small v (has-set_of_numbers m v ∙ i) in omega (arith, below))

  cuts : Parts lib arch sink (has set)
  cuts = let same : is_in m ≡ has set = (λ i v. sym (has-set_of_numbers m v) i) in subst (Parts lib arch sink) same (minimal_cut_set_of lib arch fits sink m cut).cuts

  exact_to : (c : ℕ) → reaches lib arch sink (has set) c ≡ true → (rest : List ℕ) × LeadsTo lib arch sink (has set) (c ∷ rest)
  exact_to c = (reaches_exact lib right arch sink low (has set) c).0

  exact_from : (c : ℕ) (rest : List ℕ) → LeadsTo lib arch sink (has set) (c ∷ rest) → reaches lib arch sink (has set) c ≡ true
  exact_from c rest h = (reaches_exact lib right arch sink low (has set) c).1 (rest, h)

  far_set : (c : ℕ) → has far c ≡ true → has set c ≡ false
  far_set c h = false_if (has set c) (not_true (has set c) (and_left (not (has set c)) (not (reaches lib arch sink (has set) c)) (test_of (length lib.components) is_far c h)))

  far_reach : (c : ℕ) → has far c ≡ true → reaches lib arch sink (has set) c ≡ true → ⊥
  far_reach c h = not_true (reaches lib arch sink (has set) c) (and_right (not (has set c)) (not (reaches lib arch sink (has set) c)) (test_of (length lib.components) is_far c h))

  -- a component outside both reaches the sink
  near : (c : ℕ) → c < length lib.components → not (has set c) ≡ true → has far c ≡ false → reaches lib arch sink (has set) c ≡ true
  near c short out none = elim (bool_cases (reaches lib arch sink (has set) c)) [
    | inl reached ↦ reached
    | inr never ↦
        let e : false ≡ true = sym none ∙ has_by (length lib.components) is_far c short (and_both (not (has set c)) (not (reaches lib arch sink (has set) c)) out (ap not never)) in absurd cc
  ]

  sink_out : has far sink ≡ false
  sink_out = false_if (has far sink) (λ h. far_reach sink h (exact_from sink [] (ap not (far_set sink h), refl)))

  pub right_redundancy : (r : Requirement) → r.sink.0 ≡ sink → r.bound < product_of lib m → IsRightRedundancy lib r set far
  right_redundancy r is above = record {
    members = small;
    components = low_of (length lib.components) is_far;
    apart = far_set;
    sink = ap (has far) is ∙ sink_out;
    heavy = subst (λ (l : List ℕ). r.bound < product_of lib l) (sym whole) above;
  }

  -- a source and an edge of the candidate that lead out would reach the sink past the set
  no_source : (c : ℕ) → is_source lib c ≡ true → not (has set c) ≡ true → has far c ≡ false → has arch.comps c ≡ true → ⊥
  no_source c source out none here =
      let l = exact_to c (near c (source_below lib c source) out none) in
      cuts (c ∷ l.0) (record { present = all_present lib arch fits (has set) sink c l.0 l.1 here; source = source; leads = l.1 })

  no_edge : (k : ℕ) (e : Edge) → slice_get lib.edges k ≡ Some e → not (has set (length lib.components + k)) ≡ true → has far e.tail.0 ≡ true
      → not (has far e.head.0 || has set e.head.0) ≡ true → has arch.edges k ≡ true → ⊥
  no_edge k e at live inside past here =
      let head_low = edge_at (λ d. d.head.0 < length lib.components) lib.edges (edge_heads lib right) k e at in
      let none : has far e.head.0 ≡ false = false_if (has far e.head.0) (λ h. not_true (has far e.head.0 || has set e.head.0) past (or_left (has far e.head.0) (has set e.head.0) h)) in
      let out : not (has set e.head.0) ≡ true = ap not (false_if (has set e.head.0) (λ h. not_true (has far e.head.0 || has set e.head.0) past (or_right (has far e.head.0) (has set e.head.0) h))) in
      let l = exact_to e.head.0 (near e.head.0 head_low out none) in
      far_reach e.tail.0 inside (exact_from e.tail.0 (e.head.0 ∷ l.0) (
        ap not (far_set e.tail.0 inside),
        joined_by lib arch (has set) e.tail.0 e.head.0 (record { number = k; edge = e; at = at; here = here; live = live; tail = refl; head = refl }),
        l.1,
      ))

  pub nothing_leads_out : (v : ℕ) → leads_out lib set far v ≡ true → is_present lib arch v ≡ true → ⊥
  nothing_leads_out v leads here =
      let test : Edge → Bool = λ e. has far e.tail.0 && not (has far e.head.0 || has set e.head.0) in
      let out = and_left (not (has set v)) ((is_source lib v && not (has far v)) || is_edge_where lib test v) leads in
      elim (or_cases (is_source lib v && not (has far v)) (is_edge_where lib test v) (and_right (not (has set v)) ((is_source lib v && not (has far v)) || is_edge_where lib test v) leads)) [
        | inl source ↦
            let is = and_left (is_source lib v) (not (has far v)) source in
            no_source v is out (false_if (has far v) (not_true (has far v) (and_right (is_source lib v) (not (has far v)) source))) (here_component lib arch v (source_below lib v is) here)
        | inr edge ↦
            let e = edge_member lib test v edge in
            no_edge e.number e.edge e.at (ap (λ w. not (has set w)) e.is ∙ out)
            (and_left (has far e.edge.tail.0) (not (has far e.edge.head.0 || has set e.edge.head.0)) e.passes)
            (and_right (has far e.edge.tail.0) (not (has far e.edge.head.0 || has set e.edge.head.0)) e.passes)
            (here_edge lib arch e.number (slice_get_within lib.edges e.number e.edge e.at) (ap (is_present lib arch) e.is ∙ here))
      ]

-- the set of a no-good is right
module _ (lib : LibraryParts) (right : IsLibrary lib) (arch : ArchitectureParts) (sink : ℕ) (low : sink < length lib.components) where
  abbrev cone : Set
  cone = cone_of lib arch sink

  abbrev is_near : ℕ → Bool
  is_near c = nat_eq sink c || reaches lib arch sink (λ _. false) c

  leads_from : (c : ℕ) → has cone c ≡ true → (rest : List ℕ) × LeadsTo lib arch sink (λ _. false) (c ∷ rest)
  leads_from c h = elim (or_cases (nat_eq sink c) (reaches lib arch sink (λ _. false) c) (test_of (length lib.components) is_near c h)) [
    | inl same ↦ ([], (refl, sym (eqb-true sink c same)))
    | inr reached ↦ (reaches_exact lib right arch sink low (λ _. false) c).0 reached
  ]

  closed : (k : ℕ) (e : Edge) → slice_get lib.edges k ≡ Some e → has arch.edges k ≡ true → has cone e.head.0 ≡ true → has cone e.tail.0 ≡ true
  closed k e at here into =
      let tail_low = edge_at (λ d. d.tail.0 < length lib.components) lib.edges (edge_tails lib right) k e at in
      let l = leads_from e.head.0 into in
      has_by (length lib.components) is_near e.tail.0 tail_low (or_right (nat_eq sink e.tail.0) (reaches lib arch sink (λ _. false) e.tail.0)
      ((reaches_exact lib right arch sink low (λ _. false) e.tail.0).1 (
        e.head.0 ∷ l.0,
        (refl, joined_by lib arch (λ _. false) e.tail.0 e.head.0 (record { number = k; edge = e; at = at; here = here; live = refl; tail = refl; head = refl }), l.1),
      )))

  pub right_no_good : (r : Requirement) → r.sink.0 ≡ sink → r.bound < weight_of lib arch r.sink.0 → IsRightNoGood lib arch r cone
  right_no_good r is above = record {
    components = low_of (length lib.components) is_near;
    heavy = above;
    sink = ap (has cone) is ∙ has_by (length lib.components) is_near sink low (or_left (nat_eq sink sink) (reaches lib arch sink (λ _. false) sink) (eq-eqb sink sink refl));
    closed = closed_from lib arch cone closed;
  }
