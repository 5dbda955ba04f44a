-- A right redundancy cut's row holds in every admissible architecture.
use Rattle.std.proofs.Common.{◌≡◌, ℕ, ◌+◌, ◌<◌, ◌≤◌, Bool, true, false, cond, not, ◌&&◌, ◌||◌, List, [], ◌∷◌, filter, length, refl, sym, ap, subst, ◌∙◌, arith, inl, inr, le_refl, le_trans, eq-eqb}
use Rattle.std.specs.List.{list_any}
use Rattle.std.proofs.lemmas.Option.{slice_get_within}
use Rattle.arch_model.specs.Set.{Set, has, members_below}
use Rattle.arch_model.specs.Parts.{LibraryParts, ArchitectureParts}
use Rattle.arch_model.specs.Library.{IsLibrary}
use Rattle.arch_model.specs.Architecture.{IsArchitecture}
use Rattle.arch_model.specs.Member.{is_in, is_present, member_count, member_numbers, present_members}
use Rattle.arch_model.specs.Path.{is_source, live_edges, joins, LeadsTo, Parts}
use Rattle.arch_model.specs.CutSet.{is_minimal_cut_set}
use Rattle.arch_model.specs.Weight.{product_of, weight_of}
use Rattle.arch_model.proofs.Members.{and_right, and_both, or_left, or_right, bool_cases, same_test, some_of, any_of, is_in-filter, is_in-members, has-from_members}
use Rattle.arch_model.proofs.Reaching.{parts_exact, parts_more, present_component, present_edge}
use Rattle.arch_model.proofs.ProductLaws.{product_of-le-filter}
use Rattle.arch_model.proofs.Sublists.{some_filter}
use Rattle.arch_model.proofs.Boole.{filter_twice, minimal_inside}
use Rattle.rows.specs.Row.{RowHolds, row_of_cut}
use Rattle.rows.specs.Problem.{IsVectorOf}
use Rattle.redundancy_cut.specs.CutRow.{is_edge_where, leads_out, members_where, one_of}
use Rattle.redundancy_cut.proofs.NumberSets.{in_where, where_below, filter_same}
use Rattle.redundancy_cut.proofs.EdgeLaws.{joint_of, edge_where}
use Rattle.redundancy_cut.proofs.RowValues.{one_of_holds}
use Rattle.redundancy_cut.proofs.SublistLaws.{one-le-sum}
use Rattle.redundancy_cut.proofs.PathLaws.{head_live}

-- the product of a minimal cut set is at most the weight
pub product-le-weight : (lib : LibraryParts) (arch : ArchitectureParts) (sink : ℕ) (r : ℕ → Bool) → is_minimal_cut_set lib arch sink (filter r (present_members lib arch)) ≡ true
    → product_of lib (filter r (present_members lib arch)) ≤ weight_of lib arch sink
unfolding weight_of
product-le-weight lib arch sink r minimal =
    let f : List ℕ → ℕ = λ m. cond (is_minimal_cut_set lib arch sink m) (product_of lib m) 0 in
    let this : product_of lib (filter r (present_members lib arch)) ≤ f (filter r (present_members lib arch)) = rw minimal (le_refl _) in
    one-le-sum (product_of lib (filter r (present_members lib arch))) f (present_members lib arch)
    (some_filter (λ m. product_of lib (filter r (present_members lib arch)) ≤ f m) r (present_members lib arch) this)

-- the product of a set of members that part a sink is at most its weight
module _ (lib : LibraryParts) (right : IsLibrary lib) (arch : ArchitectureParts) (fits : IsArchitecture lib arch) (sink : ℕ) (set : Set)
    (small : (v : ℕ) → has set v ≡ true → v < member_count lib) where
  abbrev failed : List ℕ
  failed = members_below set (member_count lib)

  inside_product : (r : ℕ → Bool) → ((v : ℕ) → is_in (filter r (present_members lib arch)) v ≡ true → is_in failed v ≡ true) → product_of lib failed ≤ product_of lib (filter r (present_members lib arch))
  unfolding members_below
  inside_product r inside =
      let kept : ℕ → Bool = λ v. is_present lib arch v && r v in
      let once = filter_twice (is_present lib arch) r (member_numbers lib) in
      let same : filter kept (member_numbers lib) ≡ filter (λ v. has set v && kept v) (member_numbers lib)
      = filter_same kept (λ v. has set v && kept v) (member_numbers lib) (λ v among. same_test (kept v) (has set v && kept v)
      (λ h. and_both (has set v) (kept v) (has-from_members set (member_count lib) v (inside v (ap (λ l. is_in l v) once ∙ is_in-filter kept (member_numbers lib) v ∙ and_both (kept v) (is_in (member_numbers lib) v) h among))) h)
      (λ h. and_right (has set v) (kept v) h)) in
      let all = once ∙ same ∙ sym (filter_twice (has set) kept (member_numbers lib)) in
      subst (λ (m : List ℕ). product_of lib failed ≤ product_of lib m) (sym all) (product_of-le-filter lib right kept failed)

  pub parting-le-weight : Parts lib arch sink (has set) → product_of lib failed ≤ weight_of lib arch sink
  parting-le-weight cuts =
      let failed_cut = parts_more lib arch fits sink (has set) (is_in failed) (λ v here h. is_in-members set (member_count lib) v h (small v h)) ((parts_exact lib arch (has set) fits sink).1 cuts) in
      let found = minimal_inside lib arch sink fits failed failed_cut in
      le_trans (inside_product found.0 found.2) (product-le-weight lib arch sink found.0 found.1)

-- an architecture in which nothing leads out of R past C: C parts the sink
module _ (lib : LibraryParts) (arch : ArchitectureParts) (fits : IsArchitecture lib arch) (set far : Set)
    (none : (v : ℕ) → v < member_count lib → leads_out lib set far v ≡ true → is_present lib arch v ≡ true → ⊥) where
  enters : (c d : ℕ) → has far c ≡ true → not (has set d) ≡ true → joins (live_edges lib arch (has set)) c d ≡ true → has far d ≡ true
  enters c d inside live j = elim (bool_cases (has far d)) [
    | inl here ↦ here
    | inr out ↦
        let e = joint_of lib arch (has set) c d j in
        let n = length lib.components in
        let v = length lib.components + e.number in
        let short = slice_get_within lib.edges e.number e.edge e.at in
        let past : not (has far e.edge.head.0 || has set e.edge.head.0) ≡ true =
        ap (λ h. not (has far h || has set h)) e.head ∙ ap (λ b. not (b || has set d)) out ∙ live in
        let leads = edge_where lib (λ e. has far e.tail.0 && not (has far e.head.0 || has set e.head.0)) e.number e.edge e.at
        ∙ and_both (has far e.edge.tail.0) (not (has far e.edge.head.0 || has set e.edge.head.0)) (ap (has far) e.tail ∙ inside) past in
        absurd (none v (omega (arith, short))
        (and_both (not (has set v)) ((is_source lib v && not (has far v)) || is_edge_where lib (λ e. has far e.tail.0 && not (has far e.head.0 || has set e.head.0)) v) e.live
        (or_right (is_source lib v && not (has far v)) (is_edge_where lib (λ e. has far e.tail.0 && not (has far e.head.0 || has set e.head.0)) v) leads))
        (present_edge lib arch e.number e.here))
  ]

  stays : (sink c : ℕ) (rest : List ℕ) → LeadsTo lib arch sink (has set) (c ∷ rest) → has far c ≡ true → has far sink ≡ true
  stays sink c [] h inside = ap (has far) (sym h.1) ∙ inside
  stays sink c (d ∷ rest) h inside = stays sink d rest h.2 (enters c d inside (head_live lib arch (has set) sink d rest h.2) h.1)

  pub parted_by : (sink : ℕ) → has far sink ≡ false → Parts lib arch sink (has set)
  parted_by sink out [] h = h.leads
  parted_by sink out (c ∷ rest) h = elim (bool_cases (has far c)) [
    | inl inside ↦ let e : false ≡ true = sym out ∙ stays sink c rest h.leads inside in absurd cc
    | inr outside ↦
        let here = h.present c (or_left _ _ (eq-eqb c c refl)) in
        none c (let low = fits.comps c here in omega (arith, low))
        (and_both (not (has set c)) ((is_source lib c && not (has far c)) || is_edge_where lib (λ e. has far e.tail.0 && not (has far e.head.0 || has set e.head.0)) c) (head_live lib arch (has set) sink c rest h.leads)
        (or_left (is_source lib c && not (has far c)) (is_edge_where lib (λ e. has far e.tail.0 && not (has far e.head.0 || has set e.head.0)) c)
        (and_both (is_source lib c) (not (has far c)) h.source (ap not outside))))
        (present_component lib arch fits c here)
  ]

pub redundancy_holds : (lib : LibraryParts) → IsLibrary lib → (arch : ArchitectureParts) → IsArchitecture lib arch → (set far : Set) (sink bound : ℕ)
    → ((v : ℕ) → has set v ≡ true → v < member_count lib) → has far sink ≡ false
    → bound < product_of lib (members_below set (member_count lib)) → weight_of lib arch sink ≤ bound
    → (x : ℕ → Bool) → IsVectorOf lib arch x → RowHolds (row_of_cut (one_of (members_where lib (leads_out lib set far)))) x
redundancy_holds lib right arch fits set far sink bound small out above within x vector =
    let counted = members_where lib (leads_out lib set far) in
    elim (bool_cases (list_any x counted)) [
      | inl some ↦
          let v = some_of x counted some in
          let low = where_below lib (leads_out lib set far) v.0 v.1 in
          one_of_holds counted x v.0 (omega (arith, low, right.few_components, right.few_edges)) v.1 v.2
      | inr none ↦
          let cuts = parted_by lib arch fits set far (λ v short leads here.
          let e : true ≡ false = sym (any_of x counted v (in_where lib (leads_out lib set far) v short leads) (vector v short ∙ here)) ∙ none in cc) sink out in
          let most = parting-le-weight lib right arch fits sink set small cuts in
          absurd (omega (arith, most, above, within))
    ]
