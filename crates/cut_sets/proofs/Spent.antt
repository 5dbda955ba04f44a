-- Where no set has the chosen members at its front.
use Rattle.std.proofs.Common.{◌≡◌, ◌≢◌, ℕ, ◌+◌, ◌-◌, ◌<◌, ◌≤◌, Bool, true, false, not, ◌&&◌, ◌||◌, nat_eq, nat_lt, List, [], ◌∷◌, ◌++◌, length, refl, sym, ap, ◌∙◌, subst, arith, ◌⊎◌, inl, inr}
use Rattle.std.specs.Prelude.{IsTrue, ◌↔◌}
use Rattle.std.proofs.lemmas.Bool.{eqb-true, eq-eqb, ltb-true}
use Rattle.arch_model.specs.declared.limits.TheConstants.{MEMBERS, COMPONENTS}
use Rattle.arch_model.specs.declared.template.Edge.{Edge}
use Rattle.arch_model.specs.Parts.{LibraryParts, ArchitectureParts}
use Rattle.arch_model.specs.Architecture.{IsArchitecture}
use Rattle.arch_model.specs.Set.{Set, has, union, minus, members_below}
use Rattle.arch_model.specs.Inner.Sets.{members_from}
use Rattle.std.specs.List.{range_with_len}
use Rattle.arch_model.proofs.NextMember.{members_first, members_none}
use Rattle.arch_model.specs.Member.{is_in, member_count}
use Rattle.arch_model.specs.Path.{is_source, is_up, live_edges, joins, LeadsTo, IsPath, parts}
use Rattle.arch_model.specs.CutSet.{without, is_minimal_cut_set}
use Rattle.arch_model.proofs.Members.{and_left, and_right, and_both, or_left, or_right, or_cases, not_true, false_if, bool_cases, is_in-append, is_in-filter, is_in-members, has-from_members}
use Rattle.arch_model.proofs.Present.{any_present-mono}
use Rattle.arch_model.proofs.SetLaws.{has-union, has-minus}
use Rattle.arch_model.proofs.Sublists.{map_all, members_inside}
use Rattle.arch_model.proofs.Reaching.{parts_exact, walk_or_path, joins_head, joins_tail}
use Rattle.arch_model.proofs.Walks.{walk_up}
use Rattle.arch_model.proofs.CutSets.{passes}
use Rattle.paths.proofs.LinkLaws.{links_beside}
use Rattle.paths.specs.Links.{LinksParts, AreLinks}
use Rattle.cut_sets.specs.declared.useful.Sides.{Sides}
use Rattle.cut_sets.specs.Inner.Upcoming.{NetworkParts, PlaceParts, IsNetwork, IsPlace, is_live_cut_set, candidates_from, sets_beyond, IsFirstUseful}
use Rattle.cut_sets.specs.Inner.Useful.{LeadsFrom, IsFar, IsNear, AreSides, is_passed, IsUseless}
use Rattle.cut_sets.proofs.Filters.{passing, passing_among, none_passes}
use Rattle.cut_sets.proofs.Beyond.{dead, beyond_cut, and_yes}
use Rattle.cut_sets.proofs.Places.{candidate_later, candidate_low, candidate_has, chosen_below}
use Rattle.cut_sets.proofs.Starts.{two_tests}
use Rattle.cut_sets.proofs.Pruning.{parts_without}

absorb : (a b : Bool) → (b ≡ true → a ≡ true) → (a && b) ≡ b
absorb true b h = refl
absorb false true h = h refl
absorb false false h = refl

-- candidates are members of the template, and below the limit
pub inside_template : (net : NetworkParts) → IsNetwork net → (v : ℕ) → has net.candidates v ≡ true → v < member_count net.lib
inside_template net right v h = ltb-true v (member_count net.lib) (and_left (nat_lt v (member_count net.lib)) _ (sym (right.candidates v) ∙ h))

pub inside_limit : (net : NetworkParts) → IsNetwork net → (v : ℕ) → has net.candidates v ≡ true → v < MEMBERS
inside_limit net right v h = let i = inside_template net right v h in omega (arith, i, right.small)

module _ (net : NetworkParts) (right : IsNetwork net) (chosen : List ℕ) (at : ℕ) (wide : Set)
    (front : (v : ℕ) → IsTrue (is_in chosen v) → IsTrue (has wide v)) (rest : (v : ℕ) → IsTrue (is_in (candidates_from net at) v) → IsTrue (has wide v)) where
  -- a choice lies in what is not decided
  choice_inside : (m : List ℕ) → ((c : ℕ) → is_in m c ≡ true → is_in (candidates_from net at) c ≡ true) → (v : ℕ) → is_in (chosen ++ m) v ≡ true → has wide v ≡ true
  choice_inside m inside v h = elim (or_cases (is_in chosen v) (is_in m v) (sym (is_in-append chosen m v) ∙ h)) [ inl a ↦ front v a | inr b ↦ rest v (inside v b) ]

  module _ (members : Set) (same : (v : ℕ) → has members v ≡ is_in chosen v) where
    -- no set of them has a member that can't be needed
    no_set : (v : ℕ) → IsUseless net.lib net.arch net.sink members wide v → (m : List ℕ) → ((c : ℕ) → is_in m c ≡ true → is_in (candidates_from net at) c ≡ true) → is_in (chosen ++ m) v ≡ true
        → is_minimal_cut_set net.lib net.arch net.sink (chosen ++ m) ≡ false
    no_set v useless m inside among = false_if _ (λ minimal.
        let whole = chosen ++ m in
        let within = λ (x : ℕ) (h : has members x ≡ true). is_in-append chosen m x ∙ or_left (is_in chosen x) (is_in m x) (sym (same x) ∙ h) in
        let cuts = (parts_exact net.lib net.arch (is_in whole) right.fits net.sink).0 (and_left (parts net.lib net.arch net.sink (is_in whole)) _ minimal) in
        let fewer = parts_without net.lib net.arch right.fits net.sink (is_in whole) cuts (has wide) (choice_inside m inside) (has members) within useless.0 useless.1 v (is_in (without v whole)) (others whole v) useless.2 in
        not_true (parts net.lib net.arch net.sink (is_in (without v whole)))
        (passes (λ c. not (parts net.lib net.arch net.sink (is_in (without c whole)))) whole (and_right (parts net.lib net.arch net.sink (is_in whole)) _ minimal) v among)
        ((parts_exact net.lib net.arch (is_in (without v whole)) right.fits net.sink).1 fewer)) where
          others : (whole : List ℕ) (c v : ℕ) → v ≢ c → is_in (without c whole) v ≡ is_in whole v
          others whole c v ne = is_in-filter (λ d. not (nat_eq d c)) whole v ∙ ap (λ b. not b && is_in whole v) (false_if (nat_eq v c) (λ e. ne (eqb-true v c e)))

    -- so there is none where it is chosen
    pub stranded_spent : (v : ℕ) → has members v ≡ true → IsUseless net.lib net.arch net.sink members wide v → sets_beyond net chosen at ≡ []
    unfolding sets_beyond
    stranded_spent v here useless =
        none_passes _ (λ m. chosen ++ m) (candidates_from net at)
        (map_all _ _ (λ m inside. dead net right.fits (chosen ++ m) (no_set v useless m inside (is_in-append chosen m v ∙ or_left (is_in chosen v) (is_in m v) (sym (same v) ∙ here)))) (candidates_from net at) (members_inside (candidates_from net at)))

    -- and all the sets are of those that can be needed
    module _ (useful : Set) (fewer : (v : ℕ) → has useful v ≡ true → has net.candidates v ≡ true)
        (others : (v : ℕ) → is_in (candidates_from net at) v ≡ true → has useful v ≡ false → IsUseless net.lib net.arch net.sink members wide v) where
      only_useful : (i : ℕ) → at ≤ i → sets_beyond net chosen i ≡ passing (is_live_cut_set net.lib net.arch net.sink) (λ m. chosen ++ m) (members_from useful i MEMBERS)
      unfolding sets_beyond members_from
      only_useful i later =
          passing_among (is_live_cut_set net.lib net.arch net.sink) (λ m. chosen ++ m) (has useful) (candidates_from net i)
          (λ v m out among inside.
          let first = λ (c : ℕ) (h : is_in m c ≡ true). candidate_later net at i c later (inside c h) in
          dead net right.fits (chosen ++ m) (no_set v (others v (first v among) out) m first (is_in-append chosen m v ∙ or_right (is_in chosen v) (is_in m v) among)))
          ∙ ap (passing (is_live_cut_set net.lib net.arch net.sink) (λ m. chosen ++ m))
          (sym (two_tests (has useful) (has useful) (has net.candidates) (range_with_len i (MEMBERS - i)) (λ v h. sym (absorb (has net.candidates v) (has useful v) (fewer v)))))

      pub none_useful : ((j : ℕ) → at ≤ j → has useful j ≡ false) → sets_beyond net chosen at ≡ []
      none_useful none = only_useful at (omega arith) ∙ ap (passing (is_live_cut_set net.lib net.arch net.sink) (λ m. chosen ++ m)) (members_none useful at MEMBERS none)

      pub first_useful : (v : ℕ) → at ≤ v → v < MEMBERS → ((j : ℕ) → at ≤ j → j < v → has useful j ≡ false) → has useful v ≡ true → sets_beyond net chosen at ≡ sets_beyond net chosen v
      first_useful v later low none here =
          only_useful at (omega arith)
          ∙ ap (passing (is_live_cut_set net.lib net.arch net.sink) (λ m. chosen ++ m))
          (members_first useful at v MEMBERS later low none here ∙ sym (members_first useful v v MEMBERS (omega arith) low (λ j from to. absurd (omega arith)) here))
          ∙ sym (only_useful v later)

-- no path leads to a number past the components
pub no_sink : (net : NetworkParts) → IsNetwork net → (place : PlaceParts) → IsPlace net place → length net.lib.components ≤ net.sink → sets_beyond net place.chosen place.at ≡ []
no_sink net right place stands high = beyond_cut net right.fits place.chosen place.at
    ((parts_exact net.lib net.arch (is_in place.chosen) right.fits net.sink).1 (λ p h.
    let walk = (walk_or_path net.lib net.arch (is_in place.chosen) net.sink).1 (p, h) in
    let here = walk_up (is_source net.lib) (is_up net.arch (is_in place.chosen)) (joins (live_edges net.lib net.arch (is_in place.chosen))) net.sink walk.0 walk.1 in
    let low = right.fits.comps net.sink (and_left (has net.arch.comps net.sink) _ here) in
    absurd (omega (arith, low, high))))
    (λ y h. false_if (is_in place.chosen y) (λ k.
    let short = chosen_below net 0 0 place.chosen place.at stands y k in
    let far = candidate_low net place.at y h in
    omega (arith, short, far)))

-- a sink that isn't reached is parted
pub uncut_path : (lib : LibraryParts) (arch : ArchitectureParts) → IsArchitecture lib arch → (sink : ℕ) (f : ℕ → Bool) (b : Bool) → (IsTrue b ↔ ((p : List ℕ) × IsPath lib arch sink f p)) → parts lib arch sink f ≡ not b
uncut_path lib arch fits sink f b exact = elim (bool_cases b) [
  | inl reached ↦
      let p = exact.0 reached in
      false_if (parts lib arch sink f) (λ cuts. (parts_exact lib arch f fits sink).0 cuts p.0 p.1) ∙ ap not (sym reached)
  | inr none ↦ (parts_exact lib arch f fits sink).1 (λ p h. let e : true ≡ false = sym (exact.1 (p, h)) ∙ none in cc) ∙ ap not (sym none)
]

here_in : (c : ℕ) (r : List ℕ) → is_in (c ∷ r) c ≡ true
here_in c r = or_left (nat_eq c c) (is_in r c) (eq-eqb c c refl)

-- the sides that are found by searches
module _ (lib : LibraryParts) (arch : ArchitectureParts) (fits : IsArchitecture lib arch) (sink : ℕ) (low : sink < length lib.components) (chosen wide : Set) where
  abbrev n : ℕ
  n = length lib.components

  near_low : (c : ℕ) → IsNear lib arch sink (has wide) c → c < n
  near_low c near = elim near [ inl l ↦ first c l.0 l.1 | inr l ↦ fits.comps c (joins_tail lib arch (has wide) fits c l.0 l.3) ] where
    first : (c : ℕ) (r : List ℕ) → LeadsTo lib arch sink (has wide) (c ∷ r) → c < length lib.components
    first c [] h = let e = h.1 in omega (arith, e, low)
    first c (d ∷ r) h = fits.comps c (joins_tail lib arch (has wide) fits c d h.1)

  far_low : (c : ℕ) → IsFar lib arch (has wide) c → c < n
  far_low c far = elim far [
    | inl w ↦ fits.comps c (and_left (has arch.comps c) _ (walk_up (is_source lib) (is_up arch (has wide)) (joins (live_edges lib arch (has wide))) c w.0 w.1))
    | inr w ↦ fits.comps c (joins_head lib arch (has wide) fits w.0 c w.3)
  ]

  -- failed members, and components that no part of a walk is
  module _ (P : ℕ → Type 0) (both : Set) (only : (v : ℕ) → has both v ≡ true → (has chosen v ≡ true) ⊎ P v) (short : (c : ℕ) → P c → c < n) where
    still_live : (v : ℕ) → not (has chosen v) ≡ true → (P v → ⊥) → not (has both v) ≡ true
    still_live v live apart = ap not (false_if (has both v) (λ h. elim (only v h) [ inl c ↦ not_true (has chosen v) live c | inr p ↦ apart p ]))

    still_joined : (a b : ℕ) → joins (live_edges lib arch (has chosen)) a b ≡ true → joins (live_edges lib arch (has both)) a b ≡ true
    still_joined a b j = any_present-mono (λ (e : Edge). nat_eq e.tail.0 a && nat_eq e.head.0 b) (λ e. has arch.edges e && not (has chosen (n + e))) (λ e. has arch.edges e && not (has both (n + e))) lib.edges
        (λ e h. and_both (has arch.edges e) (not (has both (n + e))) (and_left (has arch.edges e) (not (has chosen (n + e))) h)
        (still_live (n + e) (and_right (has arch.edges e) (not (has chosen (n + e))) h) (λ p. let s = short (n + e) p in absurd (omega (arith, s))))) j

    still_walks : (c : ℕ) (r : List ℕ) → LeadsFrom lib arch (has chosen) c r → ((x : ℕ) → IsTrue (is_in (c ∷ r) x) → P x → ⊥) → LeadsFrom lib arch (has both) c r
    still_walks c [] w apart = (
      and_both (has arch.comps c) (not (has both c)) (and_left (has arch.comps c) (not (has chosen c)) w.0) (still_live c (and_right (has arch.comps c) (not (has chosen c)) w.0) (apart c (here_in c []))),
      w.1,
    )
    still_walks c (b ∷ r) w apart = (
      and_both (has arch.comps c) (not (has both c)) (and_left (has arch.comps c) (not (has chosen c)) w.0) (still_live c (and_right (has arch.comps c) (not (has chosen c)) w.0) (apart c (here_in c (b ∷ r)))),
      still_joined b c w.1,
      still_walks b r w.2 (λ x i. apart x (or_right (nat_eq c x) (is_in (b ∷ r) x) i)),
    )

    still_leads : (c : ℕ) (r : List ℕ) → LeadsTo lib arch sink (has chosen) (c ∷ r) → ((x : ℕ) → IsTrue (is_in (c ∷ r) x) → P x → ⊥) → LeadsTo lib arch sink (has both) (c ∷ r)
    still_leads c [] h apart = (still_live c h.0 (apart c (here_in c [])), h.1)
    still_leads c (d ∷ r) h apart = (still_live c h.0 (apart c (here_in c (d ∷ r))), still_joined c d h.1, still_leads d r h.2 (λ x i. apart x (or_right (nat_eq c x) (is_in (d ∷ r) x) i)))

  -- what was found near, and far
  near_of : (above before_above near : Set)
      → ((c : ℕ) → IsTrue (has above c) ↔ ((r : List ℕ) × LeadsTo lib arch sink (has wide) (c ∷ r)))
      → ((c : ℕ) → IsTrue (has before_above c) ↔ ((d : ℕ) × IsTrue (has above d) × IsTrue (joins (live_edges lib arch (has wide)) c d)))
      → near ≡ union above before_above → (v : ℕ) → has near v ≡ true → IsNear lib arch sink (has wide) v
  near_of above before_above near above_is before_is near_is v h = elim (or_cases (has above v) (has before_above v) (sym (ap (λ x. has x v) near_is ∙ has-union above before_above v) ∙ h)) [
    | inl a ↦ inl ((above_is v).0 a)
    | inr b ↦ let d = (before_is v).0 b in let r = (above_is d.0).0 d.1 in inr (d.0, r.0, r.1, d.2)
  ]

  far_of : (reached after_reached far : Set)
      → ((c : ℕ) → IsTrue (has reached c) ↔ ((p : List ℕ) × IsPath lib arch c (has wide) p))
      → ((c : ℕ) → IsTrue (has after_reached c) ↔ ((b : ℕ) × IsTrue (has reached b) × IsTrue (joins (live_edges lib arch (has wide)) b c)))
      → far ≡ union reached after_reached → (v : ℕ) → has far v ≡ true → IsFar lib arch (has wide) v
  far_of reached after_reached far reached_is after_is far_is v h = elim (or_cases (has reached v) (has after_reached v) (sym (ap (λ x. has x v) far_is ∙ has-union reached after_reached v) ∙ h)) [
    | inl a ↦ inl ((walk_or_path lib arch (has wide) v).1 ((reached_is v).0 a))
    | inr b ↦ let d = (after_is v).0 b in let w = (walk_or_path lib arch (has wide) d.0).1 ((reached_is d.0).0 d.1) in inr (d.0, w.0, w.1, d.2)
  ]

  -- no edge is among components, so a table of edges serves with them too
  past_same : (P : ℕ → Type 0) (set both : Set) → ((v : ℕ) → has set v ≡ true → P v) → ((c : ℕ) → P c → c < n) → ((v : ℕ) → has both v ≡ (has chosen v || is_in (members_below set COMPONENTS) v))
      → (e : ℕ) → has chosen (n + e) ≡ has both (n + e)
  past_same P set both of short both_is e =
      sym (both_is (n + e) ∙ ap (λ b. has chosen (n + e) || b) (false_if (is_in (members_below set COMPONENTS) (n + e)) (λ i. let s = short (n + e) (of (n + e) (has-from_members set COMPONENTS (n + e) i)) in absurd (omega (arith, s)))) ∙ or_none (has chosen (n + e))) where
        or_none : (b : Bool) → (b || false) ≡ b
        or_none true = refl
        or_none false = refl

  pub links_past_near : (table : LinksParts) → AreLinks lib arch (has chosen) table → (above before_above near past_near : Set)
      → ((c : ℕ) → IsTrue (has above c) ↔ ((r : List ℕ) × LeadsTo lib arch sink (has wide) (c ∷ r)))
      → ((c : ℕ) → IsTrue (has before_above c) ↔ ((d : ℕ) × IsTrue (has above d) × IsTrue (joins (live_edges lib arch (has wide)) c d)))
      → near ≡ union above before_above → ((v : ℕ) → has past_near v ≡ (has chosen v || is_in (members_below near COMPONENTS) v)) → AreLinks lib arch (has past_near) table
  links_past_near table right above before_above near past_near above_is before_is near_is past_is =
      links_beside lib arch (has chosen) (has past_near) table right
      (past_same (IsNear lib arch sink (has wide)) near past_near (near_of above before_above near above_is before_is near_is) near_low past_is)

  pub links_past_far : (table : LinksParts) → AreLinks lib arch (has chosen) table → (reached after_reached far past_far : Set)
      → ((c : ℕ) → IsTrue (has reached c) ↔ ((p : List ℕ) × IsPath lib arch c (has wide) p))
      → ((c : ℕ) → IsTrue (has after_reached c) ↔ ((b : ℕ) × IsTrue (has reached b) × IsTrue (joins (live_edges lib arch (has wide)) b c)))
      → far ≡ union reached after_reached → ((v : ℕ) → has past_far v ≡ (has chosen v || is_in (members_below far COMPONENTS) v)) → AreLinks lib arch (has past_far) table
  links_past_far table right reached after_reached far past_far reached_is after_is far_is past_is =
      links_beside lib arch (has chosen) (has past_far) table right
      (past_same (IsFar lib arch (has wide)) far past_far (far_of reached after_reached far reached_is after_is far_is) far_low past_is)

  module _ (reached after_reached far above before_above near past_near past_far : Set) (s : Sides)
      (reached_is : (c : ℕ) → IsTrue (has reached c) ↔ ((p : List ℕ) × IsPath lib arch c (has wide) p))
      (after_is : (c : ℕ) → IsTrue (has after_reached c) ↔ ((b : ℕ) × IsTrue (has reached b) × IsTrue (joins (live_edges lib arch (has wide)) b c)))
      (far_is : far ≡ union reached after_reached)
      (above_is : (c : ℕ) → IsTrue (has above c) ↔ ((r : List ℕ) × LeadsTo lib arch sink (has wide) (c ∷ r)))
      (before_is : (c : ℕ) → IsTrue (has before_above c) ↔ ((d : ℕ) × IsTrue (has above d) × IsTrue (joins (live_edges lib arch (has wide)) c d)))
      (near_is : near ≡ union above before_above)
      (past_near_is : (v : ℕ) → has past_near v ≡ (has chosen v || is_in (members_below near COMPONENTS) v))
      (past_far_is : (v : ℕ) → has past_far v ≡ (has chosen v || is_in (members_below far COMPONENTS) v))
      (s_before : (c : ℕ) → IsTrue (has s.before c) ↔ ((p : List ℕ) × IsPath lib arch c (has past_near) p))
      (s_after : (c : ℕ) → IsTrue (has s.after c) ↔ ((r : List ℕ) × LeadsTo lib arch sink (has past_far) (c ∷ r)))
      (s_entered : (c : ℕ) → IsTrue (has s.entered c) ↔ ((b : ℕ) × IsTrue (has s.before b) × IsTrue (joins (live_edges lib arch (has chosen)) b c)))
      (s_left : (c : ℕ) → IsTrue (has s.left c) ↔ ((d : ℕ) × IsTrue (has s.after d) × IsTrue (joins (live_edges lib arch (has chosen)) c d))) where
    is_near : (v : ℕ) → has past_near v ≡ true → (has chosen v ≡ true) ⊎ IsNear lib arch sink (has wide) v
    is_near v h = elim (or_cases (has chosen v) (is_in (members_below near COMPONENTS) v) (sym (past_near_is v) ∙ h)) [
      | inl c ↦ inl c
      | inr i ↦ inr (near_of above before_above near above_is before_is near_is v (has-from_members near COMPONENTS v i))
    ]

    is_far : (v : ℕ) → has past_far v ≡ true → (has chosen v ≡ true) ⊎ IsFar lib arch (has wide) v
    is_far v h = elim (or_cases (has chosen v) (is_in (members_below far COMPONENTS) v) (sym (past_far_is v) ∙ h)) [
      | inl c ↦ inl c
      | inr i ↦ inr (far_of reached after_reached far reached_is after_is far_is v (has-from_members far COMPONENTS v i))
    ]

    pub are_sides : AreSides lib arch sink (has chosen) (has wide) s
    are_sides = record {
      before = λ c r w apart. (s_before c).1 ((walk_or_path lib arch (has past_near) c).0 (r, still_walks (IsNear lib arch sink (has wide)) past_near is_near near_low c r w apart));
      after = λ c r h apart. (s_after c).1 (r, still_leads (IsFar lib arch (has wide)) past_far is_far far_low c r h apart);
      entered = λ b c h j. (s_entered c).1 (b, h, j);
      left = λ c d h j. (s_left c).1 (d, h, j);
    }

-- members that were found to pass: all others are useless, also seen in a network that is the same
pub useless_in : (inner net : NetworkParts) → inner ≡ net → (members wide useful : Set) (s : Sides) → AreSides inner.lib inner.arch inner.sink (has members) (has wide) s
    → ((v : ℕ) → has useful v ≡ (is_in (members_below wide MEMBERS) v && is_passed inner.lib inner.sink s v)) → (v : ℕ) → v < MEMBERS → has wide v ≡ true → has useful v ≡ false → IsUseless net.lib net.arch net.sink members wide v
useless_in inner net is members wide useful s sides found v low here out = subst (λ (n : NetworkParts). IsUseless n.lib n.arch n.sink members wide v) is
    (s, sides, sym (and_yes (is_in (members_below wide MEMBERS) v) (is_passed inner.lib inner.sink s v) (is_in-members wide MEMBERS v here low)) ∙ sym (found v) ∙ out)

pub useful_inside : (lib : LibraryParts) (sink : ℕ) (wide useful : Set) (s : Sides) → ((v : ℕ) → has useful v ≡ (is_in (members_below wide MEMBERS) v && is_passed lib sink s v)) → (v : ℕ) → has useful v ≡ true → has wide v ≡ true
useful_inside lib sink wide useful s found v h = has-from_members wide MEMBERS v (and_left (is_in (members_below wide MEMBERS) v) (is_passed lib sink s v) (sym (found v) ∙ h))

-- where an enumeration goes on from a place, by the members that can be needed
module _ (net : NetworkParts) (right : IsNetwork net) (place : PlaceParts) (members wide useful : Set)
    (same : (v : ℕ) → has members v ≡ is_in place.chosen v)
    (front : (v : ℕ) → IsTrue (is_in place.chosen v) → IsTrue (has wide v))
    (rest : (v : ℕ) → IsTrue (is_in (candidates_from net place.at) v) → IsTrue (has wide v))
    (inside : (v : ℕ) → has wide v ≡ true → has net.candidates v ≡ true)
    (fewer : (v : ℕ) → has useful v ≡ true → has wide v ≡ true)
    (others : (v : ℕ) → v < MEMBERS → has wide v ≡ true → has useful v ≡ false → IsUseless net.lib net.arch net.sink members wide v) where
  pub a_stranded : (s : Set) → s ≡ minus members useful → (k : ℕ) → has s k ≡ true → sets_beyond net place.chosen place.at ≡ []
  a_stranded s is k h =
      let both = sym (ap (λ x. has x k) is ∙ has-minus members useful k) ∙ h in
      let here = and_left (has members k) (not (has useful k)) both in
      let wider = front k (sym (same k) ∙ here) in
      let out = false_if (has useful k) (λ t. not_true (has useful k) (and_right (has members k) (not (has useful k)) both) t) in
      stranded_spent net right place.chosen place.at wide front rest members same k here (others k (inside_limit net right k (inside k wider)) wider out)

  among : (v : ℕ) → is_in (candidates_from net place.at) v ≡ true → has useful v ≡ false → IsUseless net.lib net.arch net.sink members wide v
  among v h out = others v (inside_limit net right v (candidate_has net place.at v h)) (rest v h) out

  pub none_next : (at : ℕ) → at ≡ place.at → ((j : ℕ) → at ≤ j → has useful j ≡ false) → sets_beyond net place.chosen place.at ≡ []
  none_next at is none = none_useful net right place.chosen place.at wide front rest members same useful (λ v h. inside v (fewer v h)) among (λ j from. none j (omega (arith, is, from)))

  pub first_next : (at : ℕ) → at ≡ place.at → (v : ℕ) → at ≤ v → v < MEMBERS → ((j : ℕ) → at ≤ j → j < v → has useful j ≡ false) → has useful v ≡ true → IsFirstUseful net place v
  first_next at is v later low none here = record {
    later = omega (arith, is, later);
    candidate = inside v (fewer v here);
    same = first_useful net right place.chosen place.at wide front rest members same useful (λ w h. inside w (fewer w h)) among v (omega (arith, is, later)) low (λ j from to. none j (omega (arith, is, from)) to) here;
  }
