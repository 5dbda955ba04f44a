-- What holds of each number of a list, and of the members of a set.
use Rattle.std.proofs.Common.{◌≡◌, ℕ, ◌+◌, true, false, refl, ◌<◌, ◌≤◌, nat_eq, List, [], ◌∷◌, ◌++◌, map, length, ap, sym, ◌∙◌, subst, inl, inr, eq-eqb, arith}
use Rattle.std.specs.Prelude.{slice_index}
use Rattle.std.specs.List.{All, AllByRecursion, range_with_len}
use Rattle.std.specs.List.Sorted.{IsStrictlyIncreasing}
use Rattle.std.proofs.Math.ListN.{get_or-map}
use Rattle.std.proofs.lemmas.List.{append-nil, length-map}
use Rattle.std.proofs.lemmas.List.Elements.{All-from_recursion}
use Rattle.std.proofs.lemmas.List.Kept.{IsStrictlyIncreasing-filter}
use Rattle.std.proofs.lemmas.List.FromFn.{length-range_with_len, get_or-range_with_len}
use Rattle.std.proofs.lemmas.Bool.{eqb-true}
use Rattle.arch_model.specs.declared.sets.VarId.{VarId}
use Rattle.arch_model.specs.Set.{Set, has, members_below}
use Rattle.arch_model.specs.Member.{is_in}
use Rattle.arch_model.proofs.Members.{or_left, or_right, or_cases, is_in-members, has-from_members, length-filter-le}

pub all_in : (P : ℕ → Type 0) (xs : List ℕ) → ((v : ℕ) → is_in xs v ≡ true → P v) → AllByRecursion P xs
all_in P [] each = tt
all_in P (x ∷ xs) each = (each x (or_left (nat_eq x x) (is_in xs x) (eq-eqb x x refl)), all_in P xs (λ v h. each v (or_right (nat_eq x v) (is_in xs v) h)))

pub in_all : (P : ℕ → Type 0) (xs : List ℕ) → AllByRecursion P xs → (v : ℕ) → is_in xs v ≡ true → P v
in_all P [] all v h = absurd (let e : false ≡ true = h in cc)
in_all P (x ∷ xs) all v h = elim (or_cases (nat_eq x v) (is_in xs v) h) [
  | inl here ↦ subst P (eqb-true x v here) all.0
  | inr later ↦ in_all P xs all.1 v later
]

-- a loop over the members of a set: what each member has, all that it goes over have
pub of_members : (P : ℕ → Type 0) (s : Set) (n : ℕ) (items : List ℕ) → items ≡ members_below s n → ((v : ℕ) → has s v ≡ true → P v) → AllByRecursion P items
of_members P s n items e each = all_in P items (λ v h. each v (has-from_members s n v (subst (λ (l : List ℕ). is_in l v ≡ true) e h)))

-- and back
pub to_members : (P : ℕ → Type 0) (s : Set) (n : ℕ) (items : List ℕ) → items ≡ members_below s n → ((v : ℕ) → has s v ≡ true → v < n) → AllByRecursion P items → (v : ℕ) → has s v ≡ true → P v
to_members P s n items e small all v h = in_all P (members_below s n) (subst (AllByRecursion P) e all) v (is_in-members s n v h (small v h))

-- a set's members ascend, and are no more than the numbers among which they are
range_ascends : (a n : ℕ) → IsStrictlyIncreasing (range_with_len a n)
range_ascends a n k short =
    let long = length-range_with_len a n in
    let here : slice_index (range_with_len a n) k ≡ a + k = get_or-range_with_len a n k 0 (omega (arith, short, long)) in
    let next : slice_index (range_with_len a n) (k + 1) ≡ a + (k + 1) = get_or-range_with_len a n (k + 1) 0 (omega (arith, short, long)) in
    omega (arith, here, next)

pub members_ascend : (s : Set) (n : ℕ) → IsStrictlyIncreasing (members_below s n)
unfolding members_below
members_ascend s n = IsStrictlyIncreasing-filter (has s) (range_with_len 0 n) (range_ascends 0 n)

pub members_few : (s : Set) (n : ℕ) → length (members_below s n) ≤ n
unfolding members_below
members_few s n = let few = length-filter-le (has s) (range_with_len 0 n) in let long = length-range_with_len 0 n in omega (arith, few, long)

-- what each of them has, all of a list of them have
pub each_listed : (P : ℕ → Type 0) (members : List VarId) (s : Set) (n : ℕ) → map (λ m. m.0) members ≡ members_below s n → ((v : ℕ) → has s v ≡ true → P v) → All (λ m. P m.0) members
each_listed P members s n e each k d short =
    let numbers = map (λ (m : VarId). m.0) members in
    let long = length-map members (λ (m : VarId). m.0) in
    subst P (get_or-map (λ (m : VarId). m.0) members k d) (All-from_recursion P numbers (of_members P s n numbers e each) k d.0 (omega (arith, short, long)))

-- a list with the members of a set of which none is still to come
pub all_listed : (members : List VarId) (rest all : List ℕ) → rest ≡ [] → map (λ m. m.0) members ++ rest ≡ all → map (λ m. m.0) members ≡ all
all_listed members rest all none so_far = sym (append-nil (map (λ (m : VarId). m.0) members)) ∙ ap (λ l. map (λ (m : VarId). m.0) members ++ l) (sym none) ∙ so_far
