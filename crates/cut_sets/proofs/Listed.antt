-- The list of cut sets has exactly the minimal cut sets of positive product.
use Rattle.std.proofs.Common.{◌≡◌, ℕ, zero, suc, ◌+◌, ◌<◌, ◌≤◌, ◌≢◌, Bool, true, false, cond, nat_eq, nat_lt, List, [], ◌∷◌, ◌++◌, map, filter, get_or, refl, sym, ap, ◌∙◌, subst, arith, ◌⊎◌, inl, inr, Contains, ◌↔◌}
use Rattle.std.specs.Prelude.{IsTrue}
use Rattle.std.specs.List.{range_with_len}
use Rattle.std.specs.List.Sorted.{IsStrictlyIncreasing}
use Rattle.std.proofs.lemmas.Bool.{eqb-true, eq-eqb, ltb-true, lt-ltb}
use Rattle.std.proofs.lemmas.Bool.Decides.{eqb_tells}
use Rattle.arch_model.specs.Parts.{LibraryParts, ArchitectureParts}
use Rattle.arch_model.specs.Architecture.{IsArchitecture}
use Rattle.arch_model.specs.Member.{is_in, is_present, member_count, member_numbers, present_members}
use Rattle.arch_model.specs.CutSet.{IsMinimalCutSet, is_minimal_cut_set, nonempty_sublists, sublists}
use Rattle.arch_model.specs.Weight.{product_of}
use Rattle.arch_model.proofs.Members.{and_left, and_right, and_both, or_left, or_right, or_cases, is_in-filter, is_in-range, bool_cases}
use Rattle.arch_model.proofs.CutSets.{minimal_exact}
use Rattle.arch_model.proofs.Reaching.{present_small}
use Rattle.cut_sets.specs.CutSets.{cut_sets_of}
use Rattle.cut_sets.specs.Inner.Upcoming.{is_live_cut_set}
use Rattle.cut_sets.proofs.Filters.{filter_yes, filter_no, live_sublists}

-- a list is one of some lists
abbrev pub Among : List (List ℕ) → List ℕ → Type 0
Among [] m = ⊥
Among (x ∷ xs) m = (x ≡ m) ⊎ Among xs m

pub contains_among : (ls : List (List ℕ)) (m : List ℕ) → Contains ls m ↔ Among ls m
contains_among ls m = (to ls m, from ls m) where
  to : (ls : List (List ℕ)) (m : List ℕ) → Contains ls m → Among ls m
  to [] m h = absurd (let l = h.1 in omega (arith, l))
  to (x ∷ xs) m (zero, h, e) = inl e
  to (x ∷ xs) m (suc k, h, e) = inr (to xs m (k, omega (arith, h), e))

  from : (ls : List (List ℕ)) (m : List ℕ) → Among ls m → Contains ls m
  from [] m h = absurd h
  from (x ∷ xs) m h = elim h [
    | inl e ↦ (0, omega arith, e)
    | inr later ↦ let k = from xs m later in let l = k.1 in (suc k.0, omega (arith, l), k.2)
  ]

among_left : (xs ys : List (List ℕ)) (m : List ℕ) → Among xs m → Among (xs ++ ys) m
among_left [] ys m h = absurd h
among_left (x ∷ xs) ys m h = elim h [ inl e ↦ inl e | inr later ↦ inr (among_left xs ys m later) ]

among_right : (xs ys : List (List ℕ)) (m : List ℕ) → Among ys m → Among (xs ++ ys) m
among_right [] ys m h = h
among_right (x ∷ xs) ys m h = inr (among_right xs ys m h)

among_either : (xs ys : List (List ℕ)) (m : List ℕ) → Among (xs ++ ys) m → Among xs m ⊎ Among ys m
among_either [] ys m h = inr h
among_either (x ∷ xs) ys m h = elim h [
  | inl e ↦ inl (inl e)
  | inr later ↦ elim (among_either xs ys m later) [ inl a ↦ inl (inr a) | inr b ↦ inr b ]
]

among_with : (c : ℕ) (xs : List (List ℕ)) (m : List ℕ) → Among xs m → Among (map (λ x. c ∷ x) xs) (c ∷ m)
among_with c [] m h = absurd h
among_with c (x ∷ xs) m h = elim h [ inl e ↦ inl (ap (λ l. c ∷ l) e) | inr later ↦ inr (among_with c xs m later) ]

among_from : (c : ℕ) (xs : List (List ℕ)) (m : List ℕ) → Among (map (λ x. c ∷ x) xs) m → (r : List ℕ) × Among xs r × (m ≡ c ∷ r)
among_from c [] m h = absurd h
among_from c (x ∷ xs) m h = elim h [
  | inl e ↦ (x, inl refl, sym e)
  | inr later ↦ let r = among_from c xs m later in (r.0, inr r.1, r.2)
]

among_filter : (p : List ℕ → Bool) (xs : List (List ℕ)) (m : List ℕ) → Among xs m → p m ≡ true → Among (filter p xs) m
among_filter p [] m h k = absurd h
among_filter p (x ∷ xs) m h k = elim (bool_cases (p x)) [
  | inl passes ↦ subst (λ l. Among l m) (sym (filter_yes p x xs passes)) (elim h [ inl e ↦ inl e | inr later ↦ inr (among_filter p xs m later k) ])
  | inr fails ↦ subst (λ l. Among l m) (sym (filter_no p x xs fails)) (elim h [ inl e ↦ absurd (let f : true ≡ false = sym k ∙ ap p (sym e) ∙ fails in cc) | inr later ↦ among_filter p xs m later k ])
]

filter_among : (p : List ℕ → Bool) (xs : List (List ℕ)) (m : List ℕ) → Among (filter p xs) m → Among xs m × (p m ≡ true)
filter_among p [] m h = absurd h
filter_among p (x ∷ xs) m h = elim (bool_cases (p x)) [
  | inl passes ↦ elim (subst (λ l. Among l m) (filter_yes p x xs passes) h) [
    | inl e ↦ (inl e, ap p (sym e) ∙ passes)
    | inr later ↦ let r = filter_among p xs m later in (inr r.0, r.1)
  ]
  | inr fails ↦ let r = filter_among p xs m (subst (λ l. Among l m) (filter_no p x xs fails) h) in (inr r.0, r.1)
]

-- numbers that ascend from a number on
abbrev pub Up : ℕ → List ℕ → Type 0
Up low [] = Unit {0}
Up low (c ∷ cs) = (low ≤ c) × Up (suc c) cs

pub up_lower : (low to : ℕ) (m : List ℕ) → to ≤ low → Up low m → Up to m
up_lower low to [] le h = tt
up_lower low to (c ∷ cs) le h = let l = h.0 in (omega (arith, le, l), h.1)

up_low : (low : ℕ) (m : List ℕ) → Up low m → (x : ℕ) → is_in m x ≡ true → low ≤ x
up_low low [] h x i = absurd (let e : false ≡ true = i in cc)
up_low low (c ∷ cs) h x i = elim (or_cases (nat_eq c x) (is_in cs x) i) [
  | inl here ↦ let l = h.0 in let e = eqb-true c x here in omega (arith, l, e)
  | inr later ↦ let l = h.0 in let r = up_low (suc c) cs h.1 x later in omega (arith, l, r)
]

increasing_up : (low : ℕ) (m : List ℕ) → ((c : ℕ) (cs : List ℕ) → m ≡ c ∷ cs → low ≤ c) → IsStrictlyIncreasing m → Up low m
increasing_up low [] first h = tt
increasing_up low (c ∷ []) first h = (first c [] refl, tt)
increasing_up low (c ∷ d ∷ ds) first h = (
  first c (d ∷ ds) refl,
  increasing_up (suc c) (d ∷ ds) (λ x xs e. let l : c < d = h 0 (omega arith) in let same : d ≡ x = cc in omega (arith, l, same)) (λ k short. let e : suc k + 1 ≡ suc (k + 1) = omega arith in subst (λ n. get_or (c ∷ d ∷ ds) (suc k) 0 < get_or (c ∷ d ∷ ds) n 0) e (h (suc k) (omega (arith, short)))),
)

up_increasing : (low : ℕ) (m : List ℕ) → Up low m → IsStrictlyIncreasing m
up_increasing low [] h k short = absurd (omega (arith, short))
up_increasing low (c ∷ []) h k short = absurd (omega (arith, short))
up_increasing low (c ∷ d ∷ ds) h zero short = let l = h.1.0 in omega (arith, l)
up_increasing low (c ∷ d ∷ ds) h (suc k) short =
    let e : suc (k + 1) ≡ suc k + 1 = omega arith in
    subst (λ n. get_or (c ∷ d ∷ ds) (suc k) 0 < get_or (c ∷ d ∷ ds) n 0) e (up_increasing (suc c) (d ∷ ds) h.1 k (omega (arith, short)))

-- the sublists of an ascending list are its ascending parts
sublist_of : (low : ℕ) (cs : List ℕ) → Up low cs → (x : ℕ) (m : List ℕ) → Up low (x ∷ m) → ((y : ℕ) → is_in (x ∷ m) y ≡ true → is_in cs y ≡ true) → Among (nonempty_sublists cs) (x ∷ m)
sublist_of low [] up x m h inside = absurd (let e : false ≡ true = inside x (or_left (nat_eq x x) (is_in m x) (eq-eqb x x refl)) in cc)
sublist_of low (d ∷ ds) up x m h inside =
    let here : is_in (x ∷ m) x ≡ true = or_left (nat_eq x x) (is_in m x) (eq-eqb x x refl) in
    elim (eqb_tells d x) [
      | inl w ↦ elim m as (λ l. Up low (x ∷ l) → ((y : ℕ) → is_in (x ∷ l) y ≡ true → is_in (d ∷ ds) y ≡ true) → Among (nonempty_sublists (d ∷ ds)) (x ∷ l)) [
        | [] ↦ λ up_m among. inl (ap (λ c. c ∷ []) w.1)
        | (y ∷ ys) ↦ λ up_m among.
            let later : (z : ℕ) → is_in (y ∷ ys) z ≡ true → is_in ds z ≡ true = λ z i. elim (or_cases (nat_eq d z) (is_in ds z) (among z (or_right (nat_eq x z) (is_in (y ∷ ys) z) i))) [
              | inl same ↦ let l = up_low (suc x) (y ∷ ys) up_m.1 z i in let e = eqb-true d z same in let f = w.1 in absurd (omega (arith, l, e, f))
              | inr there ↦ there
            ] in
            let rest = sublist_of (suc d) ds up.1 y ys (subst (λ n. Up (suc n) (y ∷ ys)) (sym w.1) up_m.1) later in
            inr (among_left (map (λ l. d ∷ l) (nonempty_sublists ds)) (nonempty_sublists ds) (x ∷ y ∷ ys)
            (subst (λ n. Among (map (λ l. d ∷ l) (nonempty_sublists ds)) (n ∷ y ∷ ys)) w.1 (among_with d (nonempty_sublists ds) (y ∷ ys) rest)))
      ] h inside
      | inr w ↦
          let ne : d ≢ x = w.1 in
          let first : is_in ds x ≡ true = elim (or_cases (nat_eq d x) (is_in ds x) (inside x here)) [ inl same ↦ absurd (ne (eqb-true d x same)) | inr there ↦ there ] in
          let above = up_low (suc d) ds up.1 x first in
          let later : (z : ℕ) → is_in (x ∷ m) z ≡ true → is_in ds z ≡ true = λ z i. elim (or_cases (nat_eq d z) (is_in ds z) (inside z i)) [
            | inl same ↦ let l = up_low x (x ∷ m) (omega arith, h.1) z i in let e = eqb-true d z same in absurd (omega (arith, l, e, above))
            | inr there ↦ there
          ] in
          inr (among_right (map (λ l. d ∷ l) (nonempty_sublists ds)) (nonempty_sublists ds) (x ∷ m) (sublist_of (suc d) ds up.1 x m (omega (arith, above), h.1) later))
    ]

of_sublist : (low : ℕ) (cs : List ℕ) → Up low cs → (m : List ℕ) → Among (nonempty_sublists cs) m → Up low m × ((y : ℕ) → is_in m y ≡ true → is_in cs y ≡ true)
of_sublist low [] up m h = absurd h
of_sublist low (d ∷ ds) up m h = elim h [
  | inl e ↦ subst (λ l. Up low l × ((y : ℕ) → is_in l y ≡ true → is_in (d ∷ ds) y ≡ true)) e
      ((up.0, tt), λ y i. elim (or_cases (nat_eq d y) false i) [ inl same ↦ or_left (nat_eq d y) (is_in ds y) same | inr none ↦ absurd (let f : false ≡ true = none in cc) ])
  | inr later ↦ elim (among_either (map (λ l. d ∷ l) (nonempty_sublists ds)) (nonempty_sublists ds) m later) [
    | inl a ↦
        let r = among_from d (nonempty_sublists ds) m a in
        let t = of_sublist (suc d) ds up.1 r.0 r.1 in
        subst (λ l. Up low l × ((y : ℕ) → is_in l y ≡ true → is_in (d ∷ ds) y ≡ true)) (sym r.2)
        ((up.0, t.0), λ y i. elim (or_cases (nat_eq d y) (is_in r.0 y) i) [ inl same ↦ or_left (nat_eq d y) (is_in ds y) same | inr there ↦ or_right (nat_eq d y) (is_in ds y) (t.1 y there) ])
    | inr b ↦
        let t = of_sublist (suc d) ds up.1 m b in
        let l = up.0 in
        (up_lower (suc d) low m (omega (arith, l)) t.0, λ y i. or_right (nat_eq d y) (is_in ds y) (t.1 y i))
  ]
]

-- the present members ascend
filter_up : (p : ℕ → Bool) (a n : ℕ) → Up a (filter p (range_with_len a n))
filter_up p a zero = tt
filter_up p a (suc n) =
    let rest = filter_up p (a + 1) n in
    let next : a + 1 ≡ suc a = omega arith in
    elim (p a) as (λ b. Up a (cond b (a ∷ filter p (range_with_len (a + 1) n)) (filter p (range_with_len (a + 1) n)))) [
      | true ↦ (omega arith, subst (λ k. Up k (filter p (range_with_len (a + 1) n))) next rest)
      | false ↦ up_lower (a + 1) a (filter p (range_with_len (a + 1) n)) (omega arith) rest
    ]

pub present_up : (lib : LibraryParts) (arch : ArchitectureParts) → Up 0 (present_members lib arch)
present_up lib arch = filter_up (is_present lib arch) 0 (member_count lib)

module _ (lib : LibraryParts) (arch : ArchitectureParts) (fits : IsArchitecture lib arch) (sink : ℕ) (members : List ℕ) where
  inside_present : ((c : ℕ) → IsTrue (is_in members c) → IsTrue (is_present lib arch c)) → (c : ℕ) → is_in members c ≡ true → is_in (present_members lib arch) c ≡ true
  inside_present each c i =
      let here = each c i in
      is_in-filter (is_present lib arch) (member_numbers lib) c
      ∙ and_both (is_present lib arch c) (is_in (member_numbers lib) c) here (is_in-range 0 (member_count lib) c (omega arith) (let short = present_small lib arch fits c here in omega (arith, short)))

  present_inside : ((c : ℕ) → is_in members c ≡ true → is_in (present_members lib arch) c ≡ true) → (c : ℕ) → is_in members c ≡ true → is_present lib arch c ≡ true
  present_inside each c i = and_left (is_present lib arch c) _ (sym (is_in-filter (is_present lib arch) (member_numbers lib) c) ∙ each c i)

  of_listed : Among (sublists (present_members lib arch)) members → Up 0 members × ((c : ℕ) → is_in members c ≡ true → is_present lib arch c ≡ true)
  of_listed h = elim h [
    | inl e ↦ subst (λ l. Up 0 l × ((c : ℕ) → is_in l c ≡ true → is_present lib arch c ≡ true)) e (tt, λ c i. absurd (let f : false ≡ true = i in cc))
    | inr later ↦ let t = of_sublist 0 (present_members lib arch) (present_up lib arch) members later in (t.0, present_inside t.1)
  ]

  pub listed_exact : Contains (cut_sets_of lib arch sink) members ↔ (IsMinimalCutSet lib arch sink members × (0 < product_of lib members))
  listed_exact = (
    (λ h.
        let t = filter_among (is_live_cut_set lib arch sink) (sublists (present_members lib arch)) members (subst (λ l. Among l members) (live_sublists lib arch sink) ((contains_among _ members).0 h)) in
        let r = of_listed t.0 in (
          (minimal_exact lib arch fits sink members (up_increasing 0 members r.0) r.1).0 (and_left (is_minimal_cut_set lib arch sink members) _ t.1),
          ltb-true 0 (product_of lib members) (and_right (is_minimal_cut_set lib arch sink members) _ t.1),
        )),
    (λ h.
        let minimal = (minimal_exact lib arch fits sink members h.0.ascending h.0.present).1 h.0 in
        let passes = and_both (is_minimal_cut_set lib arch sink members) (nat_lt 0 (product_of lib members)) minimal (lt-ltb 0 (product_of lib members) h.1) in
        (contains_among _ members).1 (subst (λ l. Among l members) (sym (live_sublists lib arch sink)) (among_filter (is_live_cut_set lib arch sink) (sublists (present_members lib arch)) members
        (listed members (increasing_up 0 members (λ c cs e. omega arith) h.0.ascending) (inside_present h.0.present)) passes))),
  ) where
    listed : (m : List ℕ) → Up 0 m → ((c : ℕ) → is_in m c ≡ true → is_in (present_members lib arch) c ≡ true) → Among (sublists (present_members lib arch)) m
    listed [] up each = inl refl
    listed (x ∷ m) up each = inr (sublist_of 0 (present_members lib arch) (present_up lib arch) x m up each)
