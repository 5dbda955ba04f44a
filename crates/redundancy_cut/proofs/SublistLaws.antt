-- Sums over sublists of the members that pass a test, and the order in sublists.
use Rattle.std.proofs.Common.{◌≡◌, ℕ, zero, suc, ◌+◌, ◌<◌, ◌≤◌, Bool, true, false, cond, ◌&&◌, ◌||◌, nat_eq, List, [], ◌∷◌, filter, refl, sym, ap, subst, ◌∙◌, arith, inl, inr, add-one, add-zero, le_refl, eq-eqb}
use Rattle.std.specs.Prelude.{slice_index}
use Rattle.std.specs.List.{list_all, range_with_len}
use Rattle.std.specs.List.Sorted.{IsStrictlyIncreasing}
use Rattle.std.proofs.lemmas.Bool.{eqb-true}
use Rattle.arch_model.specs.Member.{is_in}
use Rattle.arch_model.specs.Weight.{sum_over_sublists}
use Rattle.arch_model.specs.Set.{Set, has, members_below}
use Rattle.arch_model.proofs.Members.{and_left, and_both, or_left, or_right, or_cases, bool_cases, false_if, same_test, is_in-filter, is_in-range}
use Rattle.arch_model.proofs.Sublists.{AllSublists, SomeSublist, map_all}
use Rattle.redundancy_cut.proofs.NumberSets.{filter_same}

-- numbers that rise, from a on
abbrev pub Ascends : ℕ → List ℕ → Type 0
Ascends a [] = Unit {0}
Ascends a (x ∷ xs) = (a ≤ x) × Ascends (suc x) xs

pub ascends_from : (a b : ℕ) (xs : List ℕ) → a ≤ b → Ascends b xs → Ascends a xs
ascends_from a b [] le h = tt
ascends_from a b (x ∷ xs) le h = (omega (arith, h.0), h.1)

pub range_ascends : (a n : ℕ) → Ascends a (range_with_len a n)
range_ascends a zero = tt
range_ascends a (suc n) = (omega arith, subst (λ (b : ℕ). Ascends b (range_with_len (a + 1) n)) (add-one a) (range_ascends (a + 1) n))

pub sublists_ascend : (a : ℕ) (cs : List ℕ) → Ascends a cs → AllSublists (Ascends a) cs
sublists_ascend a [] h = tt
sublists_ascend a (c ∷ cs) h =
    let rest = sublists_ascend (suc c) cs h.1 in (
      map_all (Ascends (suc c)) (Ascends a) (λ m k. ascends_from a (suc c) m (omega (arith, h.0)) k) cs rest,
      map_all (Ascends (suc c)) (λ m. Ascends a (c ∷ m)) (λ m k. (h.0, k)) cs rest,
    )

pub ascends_filter : (p : ℕ → Bool) (a : ℕ) (xs : List ℕ) → Ascends a xs → Ascends a (filter p xs)
ascends_filter p a [] h = tt
ascends_filter p a (x ∷ xs) h = one (p x) (ascends_filter p (suc x) xs h.1) where
  one : (b : Bool) → Ascends (suc x) (filter p xs) → Ascends a (cond b (x ∷ filter p xs) (filter p xs))
  one true rest = (h.0, rest)
  one false rest = ascends_from a (suc x) (filter p xs) (omega (arith, h.0)) rest

pub rises : (a : ℕ) (xs : List ℕ) → Ascends a xs → IsStrictlyIncreasing xs
rises a [] h k short = absurd (omega (arith, short))
rises a (x ∷ []) h k short = absurd (omega (arith, short))
rises a (x ∷ y ∷ xs) h zero short = omega (arith, h.1.0)
rises a (x ∷ y ∷ xs) h (suc k) short =
    let later = rises (suc x) (y ∷ xs) h.1 k (omega (arith, short)) in
    let next : suc k + 1 ≡ suc (k + 1) = omega arith in
    subst (λ (j : ℕ). slice_index (y ∷ xs) k < slice_index (x ∷ y ∷ xs) j) (sym next) later

-- sums
pub sum-same : (f g : List ℕ → ℕ) (cs : List ℕ) → AllSublists (λ m. f m ≡ g m) cs → sum_over_sublists f cs ≡ sum_over_sublists g cs
sum-same f g [] h = h
sum-same f g (c ∷ cs) h =
    ap (λ s. s + sum_over_sublists (λ m. f (c ∷ m)) cs) (sum-same f g cs h.0)
    ∙ ap (λ s. sum_over_sublists g cs + s) (sum-same (λ m. f (c ∷ m)) (λ m. g (c ∷ m)) cs h.1)

pub sum-zero : (cs : List ℕ) → sum_over_sublists (λ m. 0) cs ≡ 0
sum-zero [] = refl
sum-zero (c ∷ cs) = ap (λ s. s + s) (sum-zero cs)

-- a number that one sublist has is at most the sum
pub one-le-sum : (k : ℕ) (f : List ℕ → ℕ) (cs : List ℕ) → SomeSublist (λ m. k ≤ f m) cs → k ≤ sum_over_sublists f cs
one-le-sum k f [] h = h
one-le-sum k f (c ∷ cs) h = elim h [
  | inl skip ↦ let a = one-le-sum k f cs skip in omega arith
  | inr take ↦ let a = one-le-sum k (λ m. f (c ∷ m)) cs take in omega arith
]

-- the sum over the sublists of the members that pass a test is one over all sublists
pub sum-filter : (f : List ℕ → ℕ) (p : ℕ → Bool) (cs : List ℕ) → sum_over_sublists f (filter p cs) ≡ sum_over_sublists (λ m. cond (list_all p m) (f m) 0) cs
sum-filter f p [] = refl
sum-filter f p (c ∷ cs) =
    elim (p c) as (λ b. sum_over_sublists f (cond b (c ∷ filter p cs) (filter p cs))
    ≡ sum_over_sublists (λ m. cond (list_all p m) (f m) 0) cs + sum_over_sublists (λ m. cond (b && list_all p m) (f (c ∷ m)) 0) cs) [
      | true ↦
          ap (λ s. s + sum_over_sublists (λ m. f (c ∷ m)) (filter p cs)) (sum-filter f p cs)
          ∙ ap (λ s. sum_over_sublists (λ m. cond (list_all p m) (f m) 0) cs + s) (sum-filter (λ m. f (c ∷ m)) p cs)
      | false ↦
          sum-filter f p cs ∙ sym (add-zero (sum_over_sublists (λ m. cond (list_all p m) (f m) 0) cs))
          ∙ ap (λ s. sum_over_sublists (λ m. cond (list_all p m) (f m) 0) cs + s) (sym (sum-zero cs))
    ]

-- each sublist's number is at most the sum
pub each-le-sum : (f : List ℕ → ℕ) (cs : List ℕ) → AllSublists (λ m. f m ≤ sum_over_sublists f cs) cs
each-le-sum f [] = le_refl (f [])
each-le-sum f (c ∷ cs) = (
  map_all (λ m. f m ≤ sum_over_sublists f cs) (λ m. f m ≤ sum_over_sublists f (c ∷ cs)) (λ m h. omega arith) cs (each-le-sum f cs),
  map_all (λ m. f (c ∷ m) ≤ sum_over_sublists (λ m. f (c ∷ m)) cs) (λ m. f (c ∷ m) ≤ sum_over_sublists f (c ∷ cs)) (λ m h. omega arith) cs (each-le-sum (λ m. f (c ∷ m)) cs),
)

-- numbers of a list that rises from a on are at least a
pub at_least : (a : ℕ) (xs : List ℕ) → Ascends a xs → (v : ℕ) → is_in xs v ≡ true → a ≤ v
at_least a [] h v i = absurd (let e : false ≡ true = i in cc)
at_least a (x ∷ xs) h v i = elim (or_cases (nat_eq x v) (is_in xs v) i) [
  | inl here ↦ let e : x ≡ v = eqb-true x v here in omega (arith, h.0)
  | inr later ↦ let more = at_least (suc x) xs h.1 v later in omega (arith, h.0, more)
]

keeps_none : (n a : ℕ) → filter (is_in []) (range_with_len a n) ≡ []
keeps_none zero a = refl
keeps_none (suc n) a = keeps_none n (a + 1)

first_kept : (a x : ℕ) (xs rest : List ℕ) → nat_eq x a ≡ true → rest ≡ xs → cond (nat_eq x a || is_in xs a) (a ∷ rest) rest ≡ x ∷ xs
first_kept a x xs rest here e = ap (λ b. cond (b || is_in xs a) (a ∷ rest) rest) here ∙ ap (λ y. y ∷ rest) (sym (eqb-true x a here)) ∙ ap (λ l. x ∷ l) e

first_left : (a : ℕ) (b : Bool) (xs rest : List ℕ) → b ≡ false → rest ≡ xs → cond b (a ∷ rest) rest ≡ xs
first_left a b xs rest none e = ap (λ c. cond c (a ∷ rest) rest) none ∙ e

-- a list that rises is what a range keeps of it
pub kept_of_range : (n a : ℕ) (xs : List ℕ) → Ascends a xs → ((v : ℕ) → is_in xs v ≡ true → v < a + n) → filter (is_in xs) (range_with_len a n) ≡ xs
kept_of_range n a [] up inside = keeps_none n a
kept_of_range zero a (x ∷ xs) up inside =
    let short = inside x (or_left (nat_eq x x) (is_in xs x) (eq-eqb x x refl)) in
    absurd (omega (arith, up.0, short))
kept_of_range (suc n) a (x ∷ xs) up inside =
    elim (bool_cases (nat_eq x a)) [
      | inl here ↦
          let same : x ≡ a = eqb-true x a here in
          let later : Ascends (a + 1) xs = ascends_from (a + 1) (suc x) xs (omega arith) up.1 in
          let rest = kept_of_range n (a + 1) xs later (λ v i. let short = inside v (or_right (nat_eq x v) (is_in xs v) i) in omega (arith, short)) in
          let drop : filter (is_in (x ∷ xs)) (range_with_len (a + 1) n) ≡ filter (is_in xs) (range_with_len (a + 1) n)
          = filter_same (is_in (x ∷ xs)) (is_in xs) (range_with_len (a + 1) n) (λ v i.
          let far = at_least (a + 1) (range_with_len (a + 1) n) (range_ascends (a + 1) n) v i in
          ap (λ b. b || is_in xs v) (false_if (nat_eq x v) (λ e. let k : x ≡ v = eqb-true x v e in omega (arith, far)))) in
          first_kept a x xs (filter (is_in (x ∷ xs)) (range_with_len (a + 1) n)) here (drop ∙ rest)
      | inr other ↦
          let apart : x ≡ a → ⊥ = λ e. let f : true ≡ false = sym (eq-eqb x a e) ∙ other in cc in
          let above : suc a ≤ x = omega (arith, up.0) in
          let later : Ascends (a + 1) (x ∷ xs) = (omega arith, up.1) in
          let rest = kept_of_range n (a + 1) (x ∷ xs) later (λ v i. let short = inside v i in omega (arith, short)) in
          let none : is_in (x ∷ xs) a ≡ false = false_if (is_in (x ∷ xs) a) (λ i. let more = at_least (a + 1) (x ∷ xs) later a i in omega (arith, more)) in
          first_left a (is_in (x ∷ xs) a) (x ∷ xs) (filter (is_in (x ∷ xs)) (range_with_len (a + 1) n)) none rest
    ]

-- the members of a set are the same below each number that is beyond them
pub same_members : (s : Set) (n m : ℕ) → n ≤ m → ((v : ℕ) → has s v ≡ true → v < n) → members_below s m ≡ members_below s n
unfolding members_below
same_members s n m le small =
    let kept = filter (has s) (range_with_len 0 n) in
    let in_kept : (v : ℕ) → is_in kept v ≡ (has s v && is_in (range_with_len 0 n) v) = λ v. is_in-filter (has s) (range_with_len 0 n) v in
    filter_same (has s) (is_in kept) (range_with_len 0 m) (λ v among. same_test (has s v) (is_in kept v)
    (λ h. let low = small v h in in_kept v ∙ and_both (has s v) (is_in (range_with_len 0 n) v) h (is_in-range 0 n v (omega arith) (omega (arith, low))))
    (λ h. and_left (has s v) (is_in (range_with_len 0 n) v) (sym (in_kept v) ∙ h)))
    ∙ kept_of_range m 0 kept (ascends_filter (has s) 0 (range_with_len 0 n) (range_ascends 0 n)) (λ v h.
    let low = small v (and_left (has s v) (is_in (range_with_len 0 n) v) (sym (in_kept v) ∙ h)) in omega (arith, low, le))
