-- A choice is left where one of its members can no longer be the only failed one on a path.
use Rattle.std.proofs.Common.{◌≡◌, ℕ, suc, ◌+◌, ◌-◌, ◌<◌, ◌≤◌, ◌≢◌, Bool, true, false, cond, not, ◌&&◌, ◌||◌, nat_eq, List, [], ◌∷◌, map, filter, length, refl, sym, ap, ◌∙◌, subst, arith, ◌⊎◌, inl, inr, slice_get, Some}
use Rattle.std.specs.List.{list_any, enumerate_from}
use Rattle.std.specs.Option.{option_map_or}
use Rattle.std.proofs.lemmas.Bool.{eqb-true, eq-eqb, lt-ltb, le-ltb}
use Rattle.std.proofs.lemmas.Bool.{cases_lt}
use Rattle.std.proofs.lemmas.Bool.Decides.{eqb_tells}
use Rattle.arch_model.specs.declared.template.Edge.{Edge}
use Rattle.arch_model.specs.Set.{has}
use Rattle.arch_model.specs.Parts.{LibraryParts, ArchitectureParts}
use Rattle.arch_model.specs.Architecture.{IsArchitecture}
use Rattle.arch_model.specs.Member.{is_in}
use Rattle.arch_model.specs.Path.{is_source, is_up, live_edges, joins, LeadsTo, IsPath, Parts}
use Rattle.arch_model.proofs.Members.{and_left, and_right, and_both, or_left, or_right, or_cases, not_of, false_if, bool_cases}
use Rattle.arch_model.proofs.Present.{any_chosen, any_present-mono}
use Rattle.arch_model.proofs.Reaching.{walk_or_path, joins_head, joins_less, leads_less}
use Rattle.arch_model.proofs.Walks.{walk_up}
use Rattle.cut_sets.specs.declared.useful.Sides.{Sides}
use Rattle.cut_sets.specs.Inner.Useful.{LeadsFrom, IsFar, IsNear, AreSides, is_passed}

-- where an item passes a test only by the one more that is chosen, it is that one
the_one : (q : Edge → Bool) (p more : ℕ → Bool) (k n : ℕ) (xs : List Edge) → ((j : ℕ) → j ≢ k → more j ≡ true → p j ≡ true)
    → list_any q (map (λ e. e.1) (filter (λ e. more e.0) (enumerate_from n xs))) ≡ true → list_any q (map (λ e. e.1) (filter (λ e. p e.0) (enumerate_from n xs))) ≡ false
    → (x : Edge) × (slice_get xs (k - n) ≡ Some x) × (q x ≡ true) × (n ≤ k)
the_one q p more k n [] same h none = absurd (let e : false ≡ true = h in cc)
the_one q p more k n (x ∷ xs) same h none = elim (or_cases (more n && q x) _ (sym (any_chosen q more n x xs) ∙ h)) [
  | inl here ↦ elim (eqb_tells n k) [
    | inl w ↦ let z : k - n ≡ 0 = omega (arith, w.1) in (x, ap (slice_get (x ∷ xs)) z, and_right (more n) (q x) here, omega (arith, w.1))
    | inr w ↦
        let passes = or_left (p n && q x) _ (and_both (p n) (q x) (same n w.1 (and_left (more n) (q x) here)) (and_right (more n) (q x) here)) in
        absurd (let e : true ≡ false = sym (any_chosen q p n x xs ∙ passes) ∙ none in cc)
  ]
  | inr later ↦
      let rest_none : list_any q (map (λ (e : ℕ × Edge). e.1) (filter (λ (e : ℕ × Edge). p e.0) (enumerate_from (n + 1) xs))) ≡ false =
      false_if _ (λ t. let e : true ≡ false = sym (any_chosen q p n x xs ∙ or_right (p n && q x) _ t) ∙ none in cc) in
      let r = the_one q p more k (n + 1) xs same later rest_none in
      let l = r.3 in
      let s : k - n ≡ suc (k - (n + 1)) = omega (arith, l) in
      (r.0, ap (slice_get (x ∷ xs)) s ∙ r.1, r.2, omega (arith, l))
]

module _ (lib : LibraryParts) (arch : ArchitectureParts) (fits : IsArchitecture lib arch) (sink : ℕ) where
  abbrev n : ℕ
  n = length lib.components

  -- fewer failures
  walk_less : (f g : ℕ → Bool) → ((v : ℕ) → f v ≡ true → g v ≡ true) → (c : ℕ) (r : List ℕ) → LeadsFrom lib arch g c r → LeadsFrom lib arch f c r
  walk_less f g wider c [] w = (and_both (has arch.comps c) (not (f c)) (and_left (has arch.comps c) (not (g c)) w.0) (not_of (g c) (f c) (wider c) (and_right (has arch.comps c) (not (g c)) w.0)), w.1)
  walk_less f g wider c (b ∷ r) w = (
    and_both (has arch.comps c) (not (f c)) (and_left (has arch.comps c) (not (g c)) w.0) (not_of (g c) (f c) (wider c) (and_right (has arch.comps c) (not (g c)) w.0)),
    joins_less lib arch f g (λ e here. wider (n + e)) b c w.1,
    walk_less f g wider b r w.2,
  )

  -- the parts of a walk, and of a path
  walk_at : (f : ℕ → Bool) (c : ℕ) (r : List ℕ) → LeadsFrom lib arch f c r → (x : ℕ) → is_in (c ∷ r) x ≡ true → (s : List ℕ) × LeadsFrom lib arch f x s
  walk_at f c [] w x i = elim (or_cases (nat_eq c x) false i) [
    | inl here ↦ ([], subst (λ y. LeadsFrom lib arch f y []) (eqb-true c x here) w)
    | inr none ↦ absurd (let e : false ≡ true = none in cc)
  ]
  walk_at f c (b ∷ r) w x i = elim (or_cases (nat_eq c x) (is_in (b ∷ r) x) i) [
    | inl here ↦ (b ∷ r, subst (λ y. LeadsFrom lib arch f y (b ∷ r)) (eqb-true c x here) w)
    | inr later ↦ walk_at f b r w.2 x later
  ]

  leads_at : (f : ℕ → Bool) (c : ℕ) (r : List ℕ) → LeadsTo lib arch sink f (c ∷ r) → (x : ℕ) → is_in (c ∷ r) x ≡ true → (s : List ℕ) × LeadsTo lib arch sink f (x ∷ s)
  leads_at f c [] h x i = elim (or_cases (nat_eq c x) false i) [
    | inl here ↦ ([], subst (λ y. LeadsTo lib arch sink f (y ∷ [])) (eqb-true c x here) h)
    | inr none ↦ absurd (let e : false ≡ true = none in cc)
  ]
  leads_at f c (d ∷ r) h x i = elim (or_cases (nat_eq c x) (is_in (d ∷ r) x) i) [
    | inl here ↦ (d ∷ r, subst (λ y. LeadsTo lib arch sink f (y ∷ d ∷ r)) (eqb-true c x here) h)
    | inr later ↦ leads_at f d r h.2 x later
  ]

  head_live : (f : ℕ → Bool) (c : ℕ) (r : List ℕ) → LeadsTo lib arch sink f (c ∷ r) → not (f c) ≡ true
  head_live f c [] h = h.0
  head_live f c (d ∷ r) h = h.0

  -- a walk goes on
  walk_on : (f : ℕ → Bool) (c : ℕ) (r more : List ℕ) → LeadsFrom lib arch f c r → LeadsTo lib arch sink f (c ∷ more) → (s : List ℕ) × LeadsFrom lib arch f sink s
  walk_on f c r [] w h = (r, subst (λ y. LeadsFrom lib arch f y r) h.1 w)
  walk_on f c r (d ∷ more) w h =
      walk_on f d (c ∷ r) more (and_both (has arch.comps d) (not (f d)) (joins_head lib arch f fits c d h.1) (head_live f d more h.2), h.1, w) h.2

  module _ (f : ℕ → Bool) (cuts : Parts lib arch sink f) where
    -- no walk reaches the sink
    uncut : (c : ℕ) (r more : List ℕ) → LeadsFrom lib arch f c r → LeadsTo lib arch sink f (c ∷ more) → ⊥
    uncut c r more w h =
        let s = walk_on f c r more w h in
        let p = (walk_or_path lib arch f sink).0 s in cuts p.0 p.1

    module _ (wide : ℕ → Bool) (wider : (v : ℕ) → f v ≡ true → wide v ≡ true) where
      not_near : (c : ℕ) (r : List ℕ) → LeadsFrom lib arch f c r → IsNear lib arch sink wide c → ⊥
      not_near c r w near = elim near [
        | inl l ↦ uncut c r l.0 w (leads_less lib arch f wide (λ e here. wider (n + e)) sink (c ∷ l.0) (λ v among. wider v) l.1)
        | inr l ↦ uncut c r (l.0 ∷ l.1) w (
          and_right (has arch.comps c) (not (f c)) (walk_up (is_source lib) (is_up arch f) (joins (live_edges lib arch f)) c r w),
          joins_less lib arch f wide (λ e here. wider (n + e)) c l.0 l.3,
          leads_less lib arch f wide (λ e here. wider (n + e)) sink (l.0 ∷ l.1) (λ v among. wider v) l.2,
        )
      ]

      not_far : (c : ℕ) (r : List ℕ) → LeadsTo lib arch sink f (c ∷ r) → IsFar lib arch wide c → ⊥
      not_far c r h far = elim far [
        | inl w ↦ uncut c w.0 r (walk_less f wide wider c w.0 w.1) h
        | inr w ↦
            let before = walk_less f wide wider w.0 w.1 w.2 in
            uncut w.0 w.1 (c ∷ r) before (
              and_right (has arch.comps w.0) (not (f w.0)) (walk_up (is_source lib) (is_up arch f) (joins (live_edges lib arch f)) w.0 w.1 before),
              joins_less lib arch f wide (λ e here. wider (n + e)) w.0 c w.3,
              h,
            )
      ]

      module _ (chosen : ℕ → Bool) (within : (v : ℕ) → chosen v ≡ true → f v ≡ true) (s : Sides) (right : AreSides lib arch sink chosen wide s) where
        has_before : (c : ℕ) (r : List ℕ) → LeadsFrom lib arch f c r → has s.before c ≡ true
        has_before c r w = right.before c r (walk_less chosen f within c r w) (λ x i. let t = walk_at f c r w x i in not_near x t.0 t.1)

        has_after : (c : ℕ) (r : List ℕ) → LeadsTo lib arch sink f (c ∷ r) → has s.after c ≡ true
        has_after c r h = right.after c r (leads_less lib arch chosen f (λ e here. within (n + e)) sink (c ∷ r) (λ v among. within v) h) (λ x i. let t = leads_at f c r h x i in not_far x t.0 t.1)

        -- all but one of the failed
        module _ (c : ℕ) (less : ℕ → Bool) (but_one : (v : ℕ) → v ≢ c → less v ≡ f v) where
          same_up : (v : ℕ) → v ≢ c → is_up arch less v ≡ true → is_up arch f v ≡ true
          same_up v ne u = ap (λ b. has arch.comps v && not b) (sym (but_one v ne)) ∙ u

          -- where it is a component
          module _ (low : c < n) where
            same_joins : (a b : ℕ) → joins (live_edges lib arch less) a b ≡ true → joins (live_edges lib arch f) a b ≡ true
            same_joins a b j = any_present-mono (λ (e : Edge). nat_eq e.tail.0 a && nat_eq e.head.0 b) (λ e. has arch.edges e && not (less (n + e))) (λ e. has arch.edges e && not (f (n + e))) lib.edges
                (λ e h. let ne : n + e ≢ c = omega (arith, low) in ap (λ x. has arch.edges e && not x) (sym (but_one (n + e) ne)) ∙ h) j

            to_it : (v : ℕ) (r : List ℕ) → LeadsFrom lib arch less v r → ((is_source lib c || has s.entered c) ≡ true) ⊎ LeadsFrom lib arch f v r
            to_it v [] w = elim (eqb_tells v c) [
              | inl same ↦ inl (or_left (is_source lib c) (has s.entered c) (ap (is_source lib) (sym same.1) ∙ w.1))
              | inr other ↦ inr (same_up v other.1 w.0, w.1)
            ]
            to_it v (b ∷ r) w = elim (to_it b r w.2) [
              | inl found ↦ inl found
              | inr before ↦ elim (eqb_tells v c) [
                | inl same ↦ inl (or_right (is_source lib c) (has s.entered c) (right.entered b c (has_before b r before) (joins_less lib arch chosen f (λ e here. within (n + e)) b c (subst (λ x. joins (live_edges lib arch f) b x ≡ true) same.1 (same_joins b v w.1)))))
                | inr other ↦ inr (same_up v other.1 w.0, same_joins b v w.1, before)
              ]
            ]

            from_it : (v : ℕ) (r : List ℕ) → LeadsTo lib arch sink less (v ∷ r) → ((nat_eq c sink || has s.left c) ≡ true) ⊎ LeadsTo lib arch sink f (v ∷ r)
            from_it v [] h = elim (eqb_tells v c) [
              | inl same ↦ inl (or_left (nat_eq c sink) (has s.left c) (eq-eqb c sink (sym same.1 ∙ h.1)))
              | inr other ↦ inr (ap not (sym (but_one v other.1)) ∙ h.0, h.1)
            ]
            from_it v (d ∷ r) h = elim (from_it d r h.2) [
              | inl found ↦ inl found
              | inr later ↦ elim (eqb_tells v c) [
                | inl same ↦ inl (or_right (nat_eq c sink) (has s.left c) (right.left c d (has_after d r later) (joins_less lib arch chosen f (λ e here. within (n + e)) c d (subst (λ x. joins (live_edges lib arch f) x d ≡ true) same.1 (same_joins v d h.1)))))
                | inr other ↦ inr (ap not (sym (but_one v other.1)) ∙ h.0, same_joins v d h.1, later)
              ]
            ]

          -- where it is an edge
          module _ (high : n ≤ c) where
            not_it : (v : ℕ) → has arch.comps v ≡ true → v ≢ c
            not_it v here = let short = fits.comps v here in omega (arith, short, high)

            the_edge : (a b : ℕ) → joins (live_edges lib arch less) a b ≡ true → joins (live_edges lib arch f) a b ≡ false → (e : Edge) × (slice_get lib.edges (c - n) ≡ Some e) × (e.tail.0 ≡ a) × (e.head.0 ≡ b)
            the_edge a b j none =
                let r = the_one (λ (e : Edge). nat_eq e.tail.0 a && nat_eq e.head.0 b) (λ e. has arch.edges e && not (f (n + e))) (λ e. has arch.edges e && not (less (n + e))) (c - n) 0 lib.edges
                (λ e ne h. let other : n + e ≢ c = omega (arith, ne, high) in ap (λ x. has arch.edges e && not x) (sym (but_one (n + e) other)) ∙ h) j none in
                let z : c - n - 0 ≡ c - n = omega arith in (
                  r.0,
                  ap (slice_get lib.edges) (sym z) ∙ r.1,
                  eqb-true r.0.tail.0 a (and_left (nat_eq r.0.tail.0 a) (nat_eq r.0.head.0 b) r.2),
                  eqb-true r.0.head.0 b (and_right (nat_eq r.0.tail.0 a) (nat_eq r.0.head.0 b) r.2),
                )

            to_edge : (v : ℕ) (r : List ℕ) → LeadsFrom lib arch less v r → ((e : Edge) × (slice_get lib.edges (c - n) ≡ Some e) × (has s.before e.tail.0 ≡ true)) ⊎ LeadsFrom lib arch f v r
            to_edge v [] w = inr (same_up v (not_it v (and_left (has arch.comps v) (not (less v)) w.0)) w.0, w.1)
            to_edge v (b ∷ r) w = elim (to_edge b r w.2) [
              | inl found ↦ inl found
              | inr before ↦ elim (bool_cases (joins (live_edges lib arch f) b v)) [
                | inl joined ↦ inr (same_up v (not_it v (and_left (has arch.comps v) (not (less v)) w.0)) w.0, joined, before)
                | inr not_joined ↦ let e = the_edge b v w.1 not_joined in inl (e.0, e.1, ap (has s.before) e.2 ∙ has_before b r before)
              ]
            ]

            -- the sink of a path is present
            from_edge : (v : ℕ) (r : List ℕ) → has arch.comps v ≡ true → LeadsTo lib arch sink less (v ∷ r) → ((e : Edge) × (slice_get lib.edges (c - n) ≡ Some e) × (has s.after e.head.0 ≡ true)) ⊎ LeadsTo lib arch sink f (v ∷ r)
            from_edge v [] here h = inr (ap not (sym (but_one v (not_it v here))) ∙ h.0, h.1)
            from_edge v (d ∷ r) here h = elim (from_edge d r (joins_head lib arch less fits v d h.1) h.2) [
              | inl found ↦ inl found
              | inr later ↦ elim (bool_cases (joins (live_edges lib arch f) v d)) [
                | inl joined ↦ inr (ap not (sym (but_one v (not_it v here))) ∙ h.0, joined, later)
                | inr not_joined ↦ let e = the_edge v d h.1 not_joined in inl (e.0, e.1, ap (has s.after) e.3 ∙ has_after d r later)
              ]
            ]

          no_path : (p : List ℕ) → IsPath lib arch sink f p → ⊥
          no_path p h = cuts p h

          passed_component : c < n → (p : List ℕ) → IsPath lib arch sink less p → is_passed lib sink s c ≡ true
          passed_component low [] h = absurd h.leads
          passed_component low (v ∷ r) h =
              let walk = (walk_or_path lib arch less sink).1 (v ∷ r, h) in
              ap (λ b. cond b ((is_source lib c || has s.entered c) && (nat_eq c sink || has s.left c)) (option_map_or (λ (e : Edge). has s.before e.tail.0 && has s.after e.head.0) (slice_get lib.edges (c - n)) false)) (lt-ltb c n low)
              ∙ elim (to_it low sink walk.0 walk.1) [
                | inl entered ↦ elim (from_it low v r h.leads) [
                  | inl left ↦ and_both (is_source lib c || has s.entered c) (nat_eq c sink || has s.left c) entered left
                  | inr whole ↦ absurd (no_path (v ∷ r) (record { present = h.present; source = h.source; leads = whole }))
                ]
                | inr whole ↦ let p = (walk_or_path lib arch f sink).0 (walk.0, whole) in absurd (no_path p.0 p.1)
              ]

          passed_edge : n ≤ c → (p : List ℕ) → IsPath lib arch sink less p → is_passed lib sink s c ≡ true
          passed_edge high [] h = absurd h.leads
          passed_edge high (v ∷ r) h =
              let walk = (walk_or_path lib arch less sink).1 (v ∷ r, h) in
              ap (λ b. cond b ((is_source lib c || has s.entered c) && (nat_eq c sink || has s.left c)) (option_map_or (λ (e : Edge). has s.before e.tail.0 && has s.after e.head.0) (slice_get lib.edges (c - n)) false)) (le-ltb c n high)
              ∙ elim (to_edge high sink walk.0 walk.1) [
                | inl tail ↦ elim (from_edge high v r (h.present v (or_left (nat_eq v v) (is_in r v) (eq-eqb v v refl))) h.leads) [
                  | inl head ↦
                      let one : Some tail.0 ≡ Some head.0 = sym tail.1 ∙ head.1 in
                      let same : tail.0 ≡ head.0 = cc in
                      ap (λ o. option_map_or (λ (e : Edge). has s.before e.tail.0 && has s.after e.head.0) o false) tail.1
                      ∙ and_both (has s.before tail.0.tail.0) (has s.after tail.0.head.0) tail.2 (ap (λ (e : Edge). has s.after e.head.0) same ∙ head.2)
                  | inr whole ↦ absurd (no_path (v ∷ r) (record { present = h.present; source = h.source; leads = whole }))
                ]
                | inr whole ↦ let p = (walk_or_path lib arch f sink).0 (walk.0, whole) in absurd (no_path p.0 p.1)
              ]

          -- so without it they part the sink too
          pub parts_without : is_passed lib sink s c ≡ false → Parts lib arch sink less
          parts_without out p path =
              let passed : is_passed lib sink s c ≡ true = elim (cases_lt c n) [ inl low ↦ passed_component low p path | inr high ↦ passed_edge high p path ] in
              let e : true ≡ false = sym passed ∙ out in absurd cc
