-- A member that lies on no path that is left changes nothing.
use Rattle.std.proofs.Common.{◌≡◌, ℕ, ◌+◌, ◌-◌, ◌/◌, ◌^◌, ◌<◌, ◌≤◌, Bool, true, false, cond, not, ◌||◌, ◌&&◌, nat_eq, List, [], ◌∷◌, ◌++◌, filter, length, Some, refl, sym, ap, ◌∙◌, arith, inl, inr}
use Rattle.std.specs.Prelude.{IsTrue, ◌↔◌}
use Rattle.std.specs.List.{slice_get, range_with_len}
use Rattle.std.specs.Option.{option_map_or}
use Rattle.std.proofs.lemmas.Bool.{eqb-true, eq-eqb, lt-ltb, le-ltb}
use Rattle.arch_model.specs.declared.template.Edge.{Edge}
use Rattle.arch_model.specs.Set.{Set, has}
use Rattle.arch_model.specs.Inner.Sets.{members_from}
use Rattle.arch_model.specs.Parts.{LibraryParts, ArchitectureParts}
use Rattle.arch_model.specs.Library.{IsLibrary}
use Rattle.arch_model.specs.Architecture.{IsArchitecture}
use Rattle.arch_model.specs.Member.{is_in}
use Rattle.arch_model.specs.Path.{is_source, is_up, live_edges, joins, LeadsTo, IsPath, parts}
use Rattle.arch_model.specs.Mass.{over_failures}
use Rattle.arch_model.specs.Weight.{ceil_div}
use Rattle.arch_model.proofs.Members.{and_left, and_right, and_both, or_left, or_right, or_cases, not_of, not_true, same_test, false_if, is_in-append}
use Rattle.arch_model.proofs.Boole.{filter_twice}
use Rattle.arch_model.proofs.Present.{any_present-where}
use Rattle.arch_model.proofs.Reaching.{parts_exact, parts_from, parts_more, walk_or_path, joins_less, leads_less}
use Rattle.arch_model.proofs.Walks.{walk_up}
use Rattle.fail_mass.specs.Inner.Cases.{value_with, enclosure_with, is_between}
use Rattle.fail_mass.proofs.CaseLemmas.{IsWhole, Ignores, down_whole, up_whole, left_out}

-- the end of a path is present
pub end_in_range : (lib : LibraryParts) (arch : ArchitectureParts) → IsArchitecture lib arch → (sink : ℕ) (failed : ℕ → Bool) (p : List ℕ) → IsPath lib arch sink failed p → sink < length lib.components
end_in_range lib arch fits sink failed p path =
    let w = (walk_or_path lib arch failed sink).1 (p, path) in
    fits.comps sink (and_left (has arch.comps sink) (not (failed sink)) (walk_up (is_source lib) (is_up arch failed) (joins (live_edges lib arch failed)) sink w.0 w.1))

module _ (lib : LibraryParts) (arch : ArchitectureParts) (fits : IsArchitecture lib arch) (sink : ℕ) (failed reached : Set)
    (reaches : (c : ℕ) → IsTrue (has reached c) ↔ ((path : List ℕ) × IsPath lib arch c (has failed) path)) where
  -- a sink is parted where it isn't reached
  pub unreached : not (has reached sink) ≡ parts lib arch sink (has failed)
  unreached = same_test (not (has reached sink)) (parts lib arch sink (has failed))
      (λ none. (parts_exact lib arch (has failed) fits sink).1 (λ p path. not_true (has reached sink) none ((reaches sink).1 (p, path))))
      (λ cut. ap not (false_if (has reached sink) (λ h. let p = (reaches sink).0 h in (parts_exact lib arch (has failed) fits sink).0 cut p.0 p.1)))

module _ (lib : LibraryParts) (arch : ArchitectureParts) (fits : IsArchitecture lib arch) (sink : ℕ) (failed reached above : Set)
    (reaches : (c : ℕ) → IsTrue (has reached c) ↔ ((path : List ℕ) × IsPath lib arch c (has failed) path))
    (leads : (c : ℕ) → IsTrue (has above c) ↔ ((rest : List ℕ) × LeadsTo lib arch sink (has failed) (c ∷ rest))) where
  -- a path's next component is reached too
  reach_on : (c d : ℕ) → has reached c ≡ true → has arch.comps d ≡ true → not (has failed d) ≡ true → joins (live_edges lib arch (has failed)) c d ≡ true → has reached d ≡ true
  reach_on c d r here up j =
      let w = (walk_or_path lib arch (has failed) c).1 ((reaches c).0 r) in
      (reaches d).1 ((walk_or_path lib arch (has failed) d).0 (c ∷ w.0, (and_both (has arch.comps d) (not (has failed d)) here up, j, w.1)))

  module _ (x : ℕ) (off : is_between lib reached above x ≡ false) (g g' : ℕ → Bool) (wider : (v : ℕ) → has failed v ≡ true → g v ≡ true)
      (but_one : (v : ℕ) → (x ≡ v → ⊥) → g' v ≡ true → g v ≡ true) where
    alive_before : (c : ℕ) → not (g c) ≡ true → not (has failed c) ≡ true
    alive_before c h = not_of (g c) (has failed c) (wider c) h

    leads_from : (c : ℕ) (more : List ℕ) → LeadsTo lib arch sink g (c ∷ more) → has above c ≡ true
    leads_from c more l = (leads c).1 (more, leads_less lib arch (has failed) g (λ e h. wider (length lib.components + e)) sink (c ∷ more) (λ v among. wider v) l)

    head_alive : (c : ℕ) (more : List ℕ) → LeadsTo lib arch sink g (c ∷ more) → not (g c) ≡ true
    head_alive c [] l = l.0
    head_alive c (d ∷ more) l = l.0

    alive_after : (c : ℕ) → has arch.comps c ≡ true → has reached c ≡ true → has above c ≡ true → not (g c) ≡ true → not (g' c) ≡ true
    alive_after c here r a h = not_of (g c) (g' c) (but_one c (λ it.
        let on : is_between lib reached above c ≡ true = ap (λ b. cond b (has reached c && has above c) (option_map_or (λ (e : Edge). has reached e.tail.0 && has above e.head.0) (slice_get lib.edges (c - length lib.components)) false)) (lt-ltb c (length lib.components) (fits.comps c here)) ∙ and_both (has reached c) (has above c) r a in
        let e : true ≡ false = sym on ∙ ap (is_between lib reached above) (sym it) ∙ off in cc)) h

    edge_between : (c d k : ℕ) (edge : Edge) → has reached c ≡ true → has above d ≡ true → slice_get lib.edges k ≡ Some edge → (nat_eq edge.tail.0 c && nat_eq edge.head.0 d) ≡ true → is_between lib reached above (length lib.components + k) ≡ true
    edge_between c d k edge r a is ends =
        let far : length lib.components ≤ length lib.components + k = omega arith in
        let back : (length lib.components + k) - length lib.components ≡ k = omega arith in
        ap (λ b. cond b (has reached (length lib.components + k) && has above (length lib.components + k)) (option_map_or (λ (e : Edge). has reached e.tail.0 && has above e.head.0) (slice_get lib.edges ((length lib.components + k) - length lib.components)) false)) (le-ltb (length lib.components + k) (length lib.components) far)
        ∙ ap (λ j. option_map_or (λ (e : Edge). has reached e.tail.0 && has above e.head.0) (slice_get lib.edges j) false) back
        ∙ ap (λ o. option_map_or (λ (e : Edge). has reached e.tail.0 && has above e.head.0) o false) is
        ∙ and_both (has reached edge.tail.0) (has above edge.head.0)
        (ap (has reached) (eqb-true edge.tail.0 c (and_left (nat_eq edge.tail.0 c) (nat_eq edge.head.0 d) ends)) ∙ r)
        (ap (has above) (eqb-true edge.head.0 d (and_right (nat_eq edge.tail.0 c) (nat_eq edge.head.0 d) ends)) ∙ a)

    joins_after : (c d : ℕ) → has reached c ≡ true → has above d ≡ true → joins (live_edges lib arch g) c d ≡ true → joins (live_edges lib arch g') c d ≡ true
    joins_after c d r a j = any_present-where (λ (e : Edge). nat_eq e.tail.0 c && nat_eq e.head.0 d)
        (λ e. has arch.edges e && not (g (length lib.components + e))) (λ e. has arch.edges e && not (g' (length lib.components + e))) lib.edges
        (λ k edge is ends on.
        and_both (has arch.edges k) (not (g' (length lib.components + k))) (and_left (has arch.edges k) (not (g (length lib.components + k))) on)
        (not_of (g (length lib.components + k)) (g' (length lib.components + k)) (but_one (length lib.components + k) (λ it.
        let e : true ≡ false = sym (edge_between c d k edge r a is ends) ∙ ap (is_between lib reached above) (sym it) ∙ off in cc)) (and_right (has arch.edges k) (not (g (length lib.components + k))) on))) j

    leads_after : (c : ℕ) (more : List ℕ) → has reached c ≡ true → ((v : ℕ) → is_in (c ∷ more) v ≡ true → has arch.comps v ≡ true) → LeadsTo lib arch sink g (c ∷ more) → LeadsTo lib arch sink g' (c ∷ more)
    leads_after c [] r here l = (alive_after c (here c (or_left (nat_eq c c) false (eq-eqb c c refl))) r (leads_from c [] l) l.0, l.1)
    leads_after c (d ∷ more) r here l =
        let there = here d (or_right (nat_eq c d) (is_in (d ∷ more) d) (or_left (nat_eq d d) (is_in more d) (eq-eqb d d refl))) in (
          alive_after c (here c (or_left (nat_eq c c) (is_in (d ∷ more) c) (eq-eqb c c refl))) r (leads_from c (d ∷ more) l) l.0,
          joins_after c d r (leads_from d more l.2) l.1,
          leads_after d more (reach_on c d r there (alive_before d (head_alive d more l.2)) (joins_less lib arch (has failed) g (λ e h. wider (length lib.components + e)) c d l.1)) (λ v i. here v (or_right (nat_eq c v) (is_in (d ∷ more) v) i)) l.2,
        )

    path_after : (p : List ℕ) → IsPath lib arch sink g p → LeadsTo lib arch sink g' p
    path_after [] path = absurd path.leads
    path_after (c ∷ more) path =
        let here = path.present c (or_left (nat_eq c c) (is_in more c) (eq-eqb c c refl)) in
        leads_after c more
        ((reaches c).1 ((walk_or_path lib arch (has failed) c).0 ([], (and_both (has arch.comps c) (not (has failed c)) here (alive_before c (head_alive c more path.leads)), path.source))))
        path.present path.leads

    pub still_parts : parts lib arch sink g' ≡ true → parts lib arch sink g ≡ true
    still_parts cut = parts_from lib arch arch fits fits sink g' g (λ p path. record { present = path.present; source = path.source; leads = path_after p path }) cut

  pub off_path : (x : ℕ) → is_between lib reached above x ≡ false → Ignores (value_with lib arch sink failed) x
  off_path x off before after =
      let g : ℕ → Bool = λ v. has failed v || is_in (before ++ after) v in
      let g' : ℕ → Bool = λ v. has failed v || is_in (before ++ x ∷ after) v in
      ap (λ b. cond b (10 ^ 18) 0) (same_test (parts lib arch sink g') (parts lib arch sink g)
      (still_parts x off g g' (λ v h. or_left (has failed v) (is_in (before ++ after) v) h) (λ v other h. elim (or_cases (has failed v) (is_in (before ++ x ∷ after) v) h) [
        | inl old ↦ or_left (has failed v) (is_in (before ++ after) v) old
        | inr new ↦ or_right (has failed v) (is_in (before ++ after) v) (is_in-append before after v ∙ elim (or_cases (is_in before v) (nat_eq x v || is_in after v) (sym (is_in-append before (x ∷ after) v) ∙ new)) [
          | inl early ↦ or_left (is_in before v) (is_in after v) early
          | inr late ↦ elim (or_cases (nat_eq x v) (is_in after v) late) [
            | inl it ↦ absurd (other (eqb-true x v it))
            | inr later ↦ or_right (is_in before v) (is_in after v) later
          ]
        ])
      ]))
      (parts_more lib arch fits sink g g' (λ v here h. elim (or_cases (has failed v) (is_in (before ++ after) v) h) [
        | inl old ↦ or_left (has failed v) (is_in (before ++ x ∷ after) v) old
        | inr new ↦ or_right (has failed v) (is_in (before ++ x ∷ after) v) (is_in-append before (x ∷ after) v ∙ elim (or_cases (is_in before v) (is_in after v) (sym (is_in-append before after v) ∙ new)) [
          | inl early ↦ or_left (is_in before v) (nat_eq x v || is_in after v) early
          | inr late ↦ or_right (is_in before v) (nat_eq x v || is_in after v) (or_right (nat_eq x v) (is_in after v) late)
        ])
      ])))

  -- so conditioning may leave it out
  pub kept_between : IsLibrary lib → (round : ℕ → ℕ) → IsWhole round → (undecided kept : Set) (i n : ℕ) → ((v : ℕ) → has kept v ≡ (has undecided v && is_between lib reached above v))
      → over_failures lib round (value_with lib arch sink failed) (members_from undecided i n) ≡ over_failures lib round (value_with lib arch sink failed) (members_from kept i n)
  unfolding members_from
  kept_between right round whole undecided kept i n alike =
      left_out lib right round whole (is_between lib reached above) (value_with lib arch sink failed) (filter (has undecided) (range_with_len i (n - i))) (λ x among out. inr (off_path x out))
      ∙ ap (over_failures lib round (value_with lib arch sink failed)) (filter_twice (has undecided) (is_between lib reached above) (range_with_len i (n - i)))
      ∙ ap (λ (p : ℕ → Bool). over_failures lib round (value_with lib arch sink failed) (filter p (range_with_len i (n - i)))) (λ j v. sym (alike v) j)

  -- in both roundings
  pub kept_same : IsLibrary lib → (undecided kept : Set) (i n : ℕ) → ((v : ℕ) → has kept v ≡ (has undecided v && is_between lib reached above v))
      → enclosure_with lib arch sink failed (members_from undecided i n) ≡ enclosure_with lib arch sink failed (members_from kept i n)
  kept_same right undecided kept i n alike = λ j. (
    kept_between right (λ m. m / 10 ^ 6) down_whole undecided kept i n alike j,
    kept_between right (λ m. ceil_div m (10 ^ 6)) up_whole undecided kept i n alike j,
  )
