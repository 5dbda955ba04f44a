-- Sets of numbers that pass a test, and lists of numbers in their order.
use Rattle.std.proofs.Common.{◌≡◌, ℕ, zero, suc, ◌+◌, ◌<◌, ◌≤◌, Bool, true, false, cond, ◌||◌, nat_eq, List, [], ◌∷◌, fold, filter, length, refl, sym, ap, ◌∙◌, arith, inl, inr}
use Rattle.std.specs.List.{range_with_len}
use Rattle.std.proofs.lemmas.Bool.{eqb-true, eq-eqb}
use Rattle.arch_model.specs.Set.{Set, has, empty, put}
use Rattle.arch_model.specs.Parts.{LibraryParts}
use Rattle.arch_model.specs.Member.{is_in, member_count, member_numbers}
use Rattle.arch_model.proofs.Members.{and_left, and_right, and_both, or_left, or_right, or_cases, bool_cases, is_in-filter, is_in-range}
use Rattle.arch_model.proofs.SetLaws.{has-put, has-empty}
use Rattle.redundancy_cut.specs.CutRow.{set_of_numbers, members_where}

or_false : (a : Bool) → (a || false) ≡ a
or_false true = refl
or_false false = refl

or_assoc : (a b c : Bool) → ((a || b) || c) ≡ (a || (b || c))
or_assoc true b c = refl
or_assoc false b c = refl

has-folded : (s : Set) (xs : List ℕ) (v : ℕ) → has (fold put s xs) v ≡ (has s v || is_in xs v)
has-folded s [] v = sym (or_false (has s v))
has-folded s (x ∷ xs) v = has-folded (put s x) xs v ∙ ap (λ b. b || is_in xs v) (has-put s x v) ∙ or_assoc (has s v) (nat_eq x v) (is_in xs v)

-- the members of the set of some numbers
pub has-set_of_numbers : (xs : List ℕ) (v : ℕ) → has (set_of_numbers xs) v ≡ is_in xs v
unfolding set_of_numbers
has-set_of_numbers xs v = has-folded empty xs v ∙ ap (λ b. b || is_in xs v) (has-empty v)

-- a number of a range is below its end, and from its beginning on
pub in_range : (a n v : ℕ) → is_in (range_with_len a n) v ≡ true → v < a + n
in_range a zero v h = absurd (let e : false ≡ true = h in cc)
in_range a (suc n) v h = elim (or_cases (nat_eq a v) (is_in (range_with_len (a + 1) n) v) h) [
  | inl here ↦ let e : a ≡ v = eqb-true a v here in omega arith
  | inr later ↦ let below = in_range (a + 1) n v later in omega arith
]

-- the members that pass a test
pub in_where : (lib : LibraryParts) (test : ℕ → Bool) (v : ℕ) → v < member_count lib → test v ≡ true → is_in (members_where lib test) v ≡ true
in_where lib test v short h = is_in-filter test (member_numbers lib) v ∙ and_both (test v) (is_in (member_numbers lib) v) h (is_in-range 0 (member_count lib) v (omega arith) (omega arith))

pub where_passes : (lib : LibraryParts) (test : ℕ → Bool) (v : ℕ) → is_in (members_where lib test) v ≡ true → test v ≡ true
where_passes lib test v h = and_left (test v) (is_in (member_numbers lib) v) (sym (is_in-filter test (member_numbers lib) v) ∙ h)

pub where_below : (lib : LibraryParts) (test : ℕ → Bool) (v : ℕ) → is_in (members_where lib test) v ≡ true → v < member_count lib
where_below lib test v h = let short = in_range 0 (member_count lib) v (and_right (test v) (is_in (member_numbers lib) v) (sym (is_in-filter test (member_numbers lib) v) ∙ h)) in omega arith

-- two tests that agree on a list keep the same of it
filter_one : (p q : ℕ → Bool) (x : ℕ) (ps qs : List ℕ) → p x ≡ q x → ps ≡ qs → cond (p x) (x ∷ ps) ps ≡ cond (q x) (x ∷ qs) qs
filter_one p q x ps qs e h = ap (λ b. cond b (x ∷ ps) ps) e ∙ ap (λ l. cond (q x) (x ∷ l) l) h

pub filter_same : (p q : ℕ → Bool) (xs : List ℕ) → ((x : ℕ) → is_in xs x ≡ true → p x ≡ q x) → filter p xs ≡ filter q xs
filter_same p q [] same = refl
filter_same p q (x ∷ xs) same =
    filter_one p q x (filter p xs) (filter q xs) (same x (or_left (nat_eq x x) (is_in xs x) (eq-eqb x x refl))) (filter_same p q xs (λ y h. same y (or_right (nat_eq x y) (is_in xs y) h)))

-- how many of some numbers pass a test
pub one_passes : (p : ℕ → Bool) (xs : List ℕ) (v : ℕ) → is_in xs v ≡ true → p v ≡ true → 1 ≤ length (filter p xs)
one_passes p [] v h k = absurd (let e : false ≡ true = h in cc)
one_passes p (x ∷ xs) v h k = elim (bool_cases (p x)) [
  | inl yes_p ↦ let e = ap (λ b. length (cond b (x ∷ filter p xs) (filter p xs))) yes_p in omega (arith, e)
  | inr no_p ↦ elim (or_cases (nat_eq x v) (is_in xs v) h) [
    | inl here ↦ absurd (let e : true ≡ false = sym k ∙ ap p (sym (eqb-true x v here)) ∙ no_p in cc)
    | inr later ↦ let e = ap (λ b. length (cond b (x ∷ filter p xs) (filter p xs))) no_p in let rest = one_passes p xs v later k in omega (arith, e, rest)
  ]
]

pub none_passes : (p : ℕ → Bool) (xs : List ℕ) → ((v : ℕ) → is_in xs v ≡ true → p v ≡ false) → length (filter p xs) ≡ 0
none_passes p [] none = refl
none_passes p (x ∷ xs) none =
    ap (λ b. length (cond b (x ∷ filter p xs) (filter p xs))) (none x (or_left (nat_eq x x) (is_in xs x) (eq-eqb x x refl)))
    ∙ none_passes p xs (λ v h. none v (or_right (nat_eq x v) (is_in xs v) h))
