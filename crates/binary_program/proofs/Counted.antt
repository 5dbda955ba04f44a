-- Sums over variables with coefficients 1 and -1, and what they count.
use Rattle.std.proofs.Common.{◌≡◌, ℕ, zero, suc, ◌+◌, ◌-◌, ◌≤◌, ◌<◌, ℤ, pos, negsuc, neg_ℤ, ◌+ℤ◌, ◌≤ℤ◌, Bool, true, false, cond, ◌&&◌, nat_eq, nat_lt, IsTrue, List, [], ◌∷◌, ◌++◌, map, filter, length, Option, Some, None, IfSome, ◌↔◌, refl, sym, ap, subst, ◌∙◌, inl, inr, arith, zero-add, if◌then◌else◌}
use Rattle.std.specs.List.{All, AllByRecursion, flat_map, enumerate_from, count_by, slice_get}
use Rattle.std.specs.Option.{option_map_or}
use Rattle.std.proofs.lemmas.Int.{ints}
use Rattle.std.proofs.lemmas.Bool.{ltb-false, lt-ltb, le-ltb, eqb-true}
use Rattle.std.proofs.lemmas.List.Sums.{sum_by-cons}
use Rattle.std.proofs.lemmas.List.Elements.{All-from_recursion, recursion_from_All}
use Rattle.arch_model.specs.Parts.{LibraryParts, ArchitectureParts}
use Rattle.arch_model.specs.Set.{has}
use Rattle.arch_model.specs.declared.template.Component.{Component}
use Rattle.arch_model.specs.declared.template.Edge.{Edge}
use Rattle.arch_model.specs.Template.{instances_of}
use Rattle.arch_model.specs.Architecture.{IsArchitecture, present_components, present_edges}
use Rattle.arch_model.specs.Member.{member_count}
use Rattle.arch_model.specs.Pattern.{is_instance, EachInstance, edges_into, edges_out_of, in_degree, out_degree, IsBetween}
use Rattle.arch_model.proofs.Members.{bool_cases, and_left}
use Rattle.rows.specs.declared.row.Term.{Term}
use Rattle.rows.specs.Parts.{RowParts}
use Rattle.rows.specs.Problem.{IsVectorOf}
use Rattle.rows.specs.Row.{term, value_of, row_of, RowHolds}
use Rattle.rows.specs.BaseRows.{plus, minus, member_row, at_least, at_most, degree_rows, edge_variables, in_variables, out_variables}
use Rattle.rows.proofs.AllParts.{all_left, all_right, all_joined, all_parts, all_flat as parts_all, all_then}
use Rattle.rows.proofs.EdgeRows.{holds_from, holds_to}
use Rattle.rows.proofs.IntSums.{int_sum_by-append}

-- two equivalences in a row are one
pub chain : {A B C : Type 0} → (A ↔ B) → (B ↔ C) → (A ↔ C)
chain f g = (λ a. g.0 (f.0 a), λ c. f.1 (g.1 c))

-- an equivalence, turned round
pub back : {A B : Type 0} → (A ↔ B) → (B ↔ A)
back f = (f.1, f.0)

-- an equivalence of pairs, from one of each part
pub pair : {A B C D : Type 0} → (A ↔ B) → (C ↔ D) → (A × C) ↔ (B × D)
pair f g = (λ h. (f.0 h.0, g.0 h.1), λ h. (f.1 h.0, g.1 h.1))

-- what two equal numbers have is the same
pub moved : (P : ℕ → Type 0) (m n : ℕ) → m ≡ n → P m ↔ P n
moved P m n e = (λ h. subst P e h, λ h. subst P (sym e) h)

-- two facts that are equivalent at each element are so of all
pub all_same : {X : Type 0} (P Q : X → Type 0) (xs : List X) → AllByRecursion (λ x. P x ↔ Q x) xs → AllByRecursion P xs ↔ AllByRecursion Q xs
all_same P Q [] same = (λ h. tt, λ h. tt)
all_same P Q (x ∷ xs) same = let rest = all_same P Q xs same.1 in (λ h. (same.0.0 h.0, rest.0 h.1), λ h. (same.0.1 h.0, rest.1 h.1))

-- what holds of everything holds of each element
pub all_any : {X : Type 0} (P : X → Type 0) → ((x : X) → P x) → (xs : List X) → AllByRecursion P xs
all_any P f [] = tt
all_any P f (x ∷ xs) = (f x, all_any P f xs)

-- a fact of all that is made by a function is one of all elements
pub all_map : {X Y : Type 0} (P : Y → Type 0) (f : X → Y) (xs : List X) → AllByRecursion P (map f xs) ↔ AllByRecursion (λ x. P (f x)) xs
all_map P f [] = (λ h. tt, λ h. tt)
all_map P f (x ∷ xs) = let rest = all_map P f xs in (λ h. (h.0, rest.0 h.1), λ h. (h.0, rest.1 h.1))

-- a fact of two lists in a row is one of each list
pub all_append : {X : Type 0} (P : X → Type 0) (xs ys : List X) → AllByRecursion P (xs ++ ys) ↔ (AllByRecursion P xs × AllByRecursion P ys)
all_append P xs ys = (λ h. (all_left P xs ys h, all_right P xs ys h), λ h. all_joined P xs ys h.0 h.1)

-- a fact of all elements by number is one by recursion on the list
pub all_listed : {X : Type 0} (P : X → Type 0) (xs : List X) → All P xs ↔ AllByRecursion P xs
all_listed P xs = (recursion_from_All P xs, All-from_recursion P xs)

-- a fact of all that is made of each element is one of each element
pub all_flat : {X Y : Type 0} (P : Y → Type 0) (f : X → List Y) (xs : List X) → AllByRecursion P (flat_map f xs) ↔ AllByRecursion (λ x. AllByRecursion P (f x)) xs
all_flat P f xs = (all_parts P f xs, parts_all P f xs)

-- how many elements pass a test
abbrev pub tally : {X : Type 0} → (X → Bool) → List X → ℕ
tally p [] = 0
tally p (x ∷ xs) = cond (p x) 1 0 + tally p xs

-- a tally is std's count
pub tally_is : {X : Type 0} (p : X → Bool) (xs : List X) → tally p xs ≡ count_by p xs
tally_is p [] = refl
tally_is p (x ∷ xs) = ap (λ n. cond (p x) 1 0 + n) (tally_is p xs) ∙ sym (sum_by-cons (λ y. cond (p y) 1 0) x xs)

-- how many of the elements that pass one test pass another is how many pass both
pub tally-filter : {X : Type 0} (p q : X → Bool) (xs : List X) → tally q (filter p xs) ≡ tally (λ x. p x && q x) xs
tally-filter p q [] = refl
tally-filter p q (x ∷ xs) =
    let rest = tally-filter p q xs in
    elim (p x) as (λ b. tally q (cond b (x ∷ filter p xs) (filter p xs)) ≡ cond (b && q x) 1 0 + tally (λ y. p y && q y) xs) [
      | true ↦ ap (λ n. cond (q x) 1 0 + n) rest
      | false ↦ rest ∙ sym (zero-add _)
    ]

-- a tally is at most the length of its list
pub tally-le : {X : Type 0} (p : X → Bool) (xs : List X) → tally p xs ≤ length xs
tally-le p [] = omega arith
tally-le p (x ∷ xs) = let rest = tally-le p xs in elim (p x) as (λ b. cond b 1 0 + tally p xs ≤ length (x ∷ xs)) [ true ↦ omega arith | false ↦ omega arith ]

-- a fact that follows from each element that passes follows where one passes
pub any_counts : {X : Type 0} (P : Type 0) (p : X → Bool) (xs : List X) → AllByRecursion (λ x. p x ≡ true → P) xs ↔ (0 < tally p xs → P)
any_counts P p [] = (λ h some. absurd (omega arith), λ h. tt)
any_counts P p (x ∷ xs) =
    let rest = any_counts P p xs in (
      (λ h some. elim (bool_cases (p x)) [
        | inl on ↦ h.0 on
        | inr off ↦ let none : ◌≡◌ {A = ℕ} (cond (p x) 1 0) 0 = ap (λ b. cond b 1 0) off in rest.0 h.1 (omega (arith, some, none))
      ]),
      (λ h. ((λ on. let one : ◌≡◌ {A = ℕ} (cond (p x) 1 0) 1 = ap (λ b. cond b 1 0) on in h (omega (arith, one))), rest.1 (λ some. h (omega (arith, some))))),
    )

-- where no element passes, none is counted
pub none_counts : {X : Type 0} (p : X → Bool) (xs : List X) → AllByRecursion (λ x. p x ≡ true → ⊥) xs → tally p xs ≡ 0
none_counts p xs h = let none = (any_counts ⊥ p xs).0 h in omega (arith, none)

-- the numbers of the elements that pass a test, counted from b on
abbrev pub numbers_from : {X : Type 0} → (X → Bool) → ℕ → List X → List ℕ
numbers_from test b xs = map (λ p. p.0) (filter (λ p. test p.1) (enumerate_from b xs))

-- the elements whose numbers pass a test, counted from b on
abbrev pub chosen_from : {X : Type 0} → (ℕ → Bool) → ℕ → List X → List X
chosen_from s b xs = map (λ p. p.1) (filter (λ p. s p.0) (enumerate_from b xs))

-- how many of the numbers are chosen, with one more element in front
tally_numbers-cons : {X : Type 0} (x : ℕ → Bool) (test : X → Bool) (b : ℕ) (a : X) (xs : List X)
    → tally x (numbers_from test b (a ∷ xs)) ≡ cond (test a) (cond (x b) 1 0) 0 + tally x (numbers_from test (b + 1) xs)
tally_numbers-cons {X = X} x test b a xs =
    elim (test a) as (λ v. tally x (map (λ (p : ℕ × X). p.0) (cond v ((b, a) ∷ filter (λ (p : ℕ × X). test p.1) (enumerate_from (b + 1) xs)) (filter (λ (p : ℕ × X). test p.1) (enumerate_from (b + 1) xs))))
    ≡ cond v (cond (x b) 1 0) 0 + tally x (numbers_from test (b + 1) xs)) [ true ↦ refl | false ↦ sym (zero-add _) ]

-- how many of the chosen elements pass, with one more element in front
tally_chosen-cons : {X : Type 0} (test : X → Bool) (s : ℕ → Bool) (b : ℕ) (a : X) (xs : List X)
    → tally test (chosen_from s b (a ∷ xs)) ≡ cond (s b) (cond (test a) 1 0) 0 + tally test (chosen_from s (b + 1) xs)
tally_chosen-cons {X = X} test s b a xs =
    elim (s b) as (λ v. tally test (map (λ (p : ℕ × X). p.1) (cond v ((b, a) ∷ filter (λ (p : ℕ × X). s p.0) (enumerate_from (b + 1) xs)) (filter (λ (p : ℕ × X). s p.0) (enumerate_from (b + 1) xs))))
    ≡ cond v (cond (test a) 1 0) 0 + tally test (chosen_from s (b + 1) xs)) [ true ↦ refl | false ↦ sym (zero-add _) ]

-- two tests in either order
cond_swap : (b c : Bool) → ◌≡◌ {A = ℕ} (cond b (cond c 1 0) 0) (cond c (cond b 1 0) 0)
cond_swap true true = refl
cond_swap true false = refl
cond_swap false true = refl
cond_swap false false = refl

-- n and no more is n
none_more : (n : ℕ) → n + 0 ≡ n
none_more n = omega arith

-- k places after n + 1 is one place more after n
one_later : (n k : ℕ) → (n + 1) + k ≡ n + suc k
one_later n k = omega arith

-- two tests that agree no places further agree there
first_same : (x s : ℕ → Bool) (b c : ℕ) → x (b + 0) ≡ s (c + 0) → x b ≡ s c
first_same x s b c h = ap x (sym (none_more b)) ∙ h ∙ ap s (none_more c)

-- two tests that agree at place k + 1 from a start agree at place k from the next
later_same : (x s : ℕ → Bool) (b c k : ℕ) → x (b + suc k) ≡ s (c + suc k) → x ((b + 1) + k) ≡ s ((c + 1) + k)
later_same x s b c k h = ap x (one_later b k) ∙ h ∙ ap s (sym (one_later c k))

-- with one more element, equal counts stay equal
count_step : (t u v : Bool) (m n all one : ℕ) → u ≡ v → m ≡ n → all ≡ cond t (cond u 1 0) 0 + m → one ≡ cond v (cond t 1 0) 0 + n → all ≡ one
count_step t u v m n all one e f g h = g ∙ ap (λ k. cond t (cond u 1 0) 0 + k) f ∙ ap (λ k. k + n) (ap (λ w. cond t (cond w 1 0) 0) e ∙ cond_swap t v) ∙ sym h

-- how many numbers of the elements that pass are chosen is how many chosen elements pass
pub tally_numbers : {X : Type 0} (x s : ℕ → Bool) (test : X → Bool) (b c : ℕ) (xs : List X) → ((k : ℕ) → k < length xs → x (b + k) ≡ s (c + k))
    → tally x (numbers_from test b xs) ≡ tally test (chosen_from s c xs)
tally_numbers x s test b c [] same = refl
tally_numbers x s test b c (a ∷ xs) same =
    count_step (test a) (x b) (s c) (tally x (numbers_from test (b + 1) xs)) (tally test (chosen_from s (c + 1) xs)) (tally x (numbers_from test b (a ∷ xs))) (tally test (chosen_from s c (a ∷ xs)))
    (first_same x s b c (same 0 (omega arith)))
    (tally_numbers x s test (b + 1) (c + 1) xs (λ k short. later_same x s b c k (same (suc k) (omega arith))))
    (tally_numbers-cons x test b a xs) (tally_chosen-cons test s c a xs)

-- where b and the length come to at most n, these numbers are below n
pub numbers_below : {X : Type 0} (test : X → Bool) (b n : ℕ) (xs : List X) → b + length xs ≤ n → AllByRecursion (λ v. v < n) (numbers_from test b xs)
numbers_below test b n [] short = tt
numbers_below {X = X} test b n (a ∷ xs) short =
    let rest = numbers_below test (b + 1) n xs (omega arith) in
    let here : b < n = omega arith in
    elim (test a) as (λ v. AllByRecursion (λ w. w < n) (map (λ (p : ℕ × X). p.0) (cond v ((b, a) ∷ filter (λ (p : ℕ × X). test p.1) (enumerate_from (b + 1) xs)) (filter (λ (p : ℕ × X). test p.1) (enumerate_from (b + 1) xs))))) [
      | true ↦ (here, rest)
      | false ↦ rest
    ]

-- a fact of the numbers, with one more element in front
all_numbers-cons : {X : Type 0} (Q : ℕ → Type 0) (test : X → Bool) (b : ℕ) (a : X) (xs : List X)
    → AllByRecursion Q (numbers_from test b (a ∷ xs)) ↔ ((test a ≡ true → Q b) × AllByRecursion Q (numbers_from test (b + 1) xs))
all_numbers-cons {X = X} Q test b a xs =
    elim (test a) as (λ v. AllByRecursion Q (map (λ (p : ℕ × X). p.0) (cond v ((b, a) ∷ filter (λ (p : ℕ × X). test p.1) (enumerate_from (b + 1) xs)) (filter (λ (p : ℕ × X). test p.1) (enumerate_from (b + 1) xs))))
    ↔ ((v ≡ true → Q b) × AllByRecursion Q (numbers_from test (b + 1) xs))) [
      | true ↦ (λ h. ((λ on. h.0), h.1), λ h. (h.0 refl, h.1))
      | false ↦ (λ h. ((λ on. absurd (let e : false ≡ true = on in cc)), h), λ h. h.1)
    ]

-- a fact of all numbers of elements that pass, number by number
pub all_numbers : {X : Type 0} (Q : ℕ → Type 0) (test : X → Bool) (b : ℕ) (xs : List X)
    → AllByRecursion Q (numbers_from test b xs) ↔ ((k : ℕ) → option_map_or test (slice_get xs k) false ≡ true → Q (b + k))
all_numbers Q test b [] = (λ h k on. absurd (let e : false ≡ true = on in cc), λ h. tt)
all_numbers Q test b (a ∷ xs) =
    let parts = all_numbers-cons Q test b a xs in
    let rest = all_numbers Q test (b + 1) xs in (
      each parts rest,
      (λ h. parts.1 ((λ on. let same : b + 0 ≡ b = omega arith in subst Q same (h 0 on)), rest.1 (λ k on. let same : b + suc k ≡ (b + 1) + k = omega arith in subst Q same (h (suc k) on)))),
    ) where
      -- forward, at one number
      each : AllByRecursion Q (numbers_from test b (a ∷ xs)) ↔ ((test a ≡ true → Q b) × AllByRecursion Q (numbers_from test (b + 1) xs))
          → (AllByRecursion Q (numbers_from test (b + 1) xs) ↔ ((k : ℕ) → option_map_or test (slice_get xs k) false ≡ true → Q ((b + 1) + k)))
          → AllByRecursion Q (numbers_from test b (a ∷ xs)) → (k : ℕ) → option_map_or test (slice_get (a ∷ xs) k) false ≡ true → Q (b + k)
      each parts rest h zero on = let same : b ≡ b + 0 = omega arith in subst Q same ((parts.0 h).0 on)
      each parts rest h (suc k) on = let same : (b + 1) + k ≡ b + suc k = omega arith in subst Q same (rest.0 (parts.0 h).1 k on)

-- one more variable with coefficient 1
plus_step : (b : Bool) (z : ℤ) (n : ℕ) → z ≡ pos n → (if b then pos 1 else pos 0) +ℤ z ≡ pos (cond b 1 0 + n)
plus_step true z n e = ap (λ y. pos 1 +ℤ y) e
plus_step false z n e = ap (λ y. pos 0 +ℤ y) e

-- a sum with coefficients 1 is how many variables are 1
pub value_of-plus : (x : ℕ → Bool) (vs : List ℕ) → value_of (map plus vs) x ≡ pos (tally x vs)
value_of-plus x [] = refl
value_of-plus x (v ∷ vs) = plus_step (x v) (value_of (map plus vs) x) (tally x vs) (value_of-plus x vs)

-- one more variable with coefficient -1
minus_step : (b : Bool) (z : ℤ) (n : ℕ) → z ≡ neg_ℤ (pos n) → (if b then negsuc 0 else pos 0) +ℤ z ≡ neg_ℤ (pos (cond b 1 0 + n))
minus_step true z n e = omega (arith, ints)
minus_step false z n e = omega (arith, ints)

-- a sum with coefficients -1 is minus how many variables are 1
pub value_of-minus : (x : ℕ → Bool) (vs : List ℕ) → value_of (map minus vs) x ≡ neg_ℤ (pos (tally x vs))
value_of-minus x [] = refl
value_of-minus x (v ∷ vs) = minus_step (x v) (value_of (map minus vs) x) (tally x vs) (value_of-minus x vs)

-- n - min*b is at least 0 exactly where n is at least min if b holds
least_one : (b : Bool) (min n : ℕ) (z : ℤ) → z ≡ pos n → (pos 0 ≤ℤ (z +ℤ ((if b then neg_ℤ (pos min) else pos 0) +ℤ pos 0))) ↔ (b ≡ true → min ≤ n)
least_one true min n z e = (λ h on. omega (arith, ints), λ h. let le = h refl in omega (arith, ints))
least_one false min n z e = (λ h on. absurd (let f : false ≡ true = on in cc), λ h. omega (arith, ints))

-- -f*b - n is at least -f, for n up to f, exactly where n is 0 if b holds
apart_one : (b : Bool) (f n : ℕ) (z : ℤ) → z ≡ neg_ℤ (pos n) → 0 < f → n ≤ f → (neg_ℤ (pos f) ≤ℤ ((if b then neg_ℤ (pos f) else pos 0) +ℤ z)) ↔ (b ≡ true → n ≡ 0)
apart_one true f n z e some le = (λ h on. omega (arith, ints), λ h. let none = h refl in omega (arith, ints))
apart_one false f n z e some le = (λ h on. absurd (let g : false ≡ true = on in cc), λ h. omega (arith, ints))

-- -b is at least 0 exactly where b doesn't hold
none_one : (b : Bool) → (pos 0 ≤ℤ ((if b then negsuc 0 else pos 0) +ℤ pos 0)) ↔ (b ≡ true → ⊥)
none_one true = (λ h on. omega (arith, ints), λ h. absurd (h refl))
none_one false = (λ h on. let g : false ≡ true = on in cc, λ h. omega (arith, ints))

-- rows over the variables below n
module _ (n : ℕ) (x : ℕ → Bool) where
  -- a row of terms over the variables below n says what its terms come to
  row_says : (terms : List Term) (least : ℤ) → AllByRecursion (λ t. t.var.0 < n) terms → RowHolds (row_of n terms least) x ↔ (least ≤ℤ value_of terms x)
  row_says terms least below = (holds_to n terms least x below, holds_from n terms least x below)

  -- terms with coefficient 1 have the variables that they are made of
  plus_below : (vs : List ℕ) → AllByRecursion (λ v. v < n) vs → AllByRecursion (λ t. t.var.0 < n) (map plus vs)
  plus_below vs below = (all_map (λ (t : Term). t.var.0 < n) plus vs).1 below

  -- terms with coefficient -1 have the variables that they are made of
  minus_below : (vs : List ℕ) → AllByRecursion (λ v. v < n) vs → AllByRecursion (λ t. t.var.0 < n) (map minus vs)
  minus_below vs below = (all_map (λ (t : Term). t.var.0 < n) minus vs).1 below

  -- the row says that at least min of some variables are 1
  pub least_row : (vs : List ℕ) (min : ℕ) → AllByRecursion (λ v. v < n) vs → RowHolds (row_of n (map plus vs) (pos min)) x ↔ (min ≤ tally x vs)
  least_row vs min below =
      let row = row_says (map plus vs) (pos min) (plus_below vs below) in
      let value = value_of-plus x vs in (
        (λ h. let le = row.0 h in omega (arith, ints)),
        (λ h. row.1 (omega (arith, ints))),
      )

  -- the row says that at most max of some variables are 1
  pub most_row : (vs : List ℕ) (max : ℕ) → AllByRecursion (λ v. v < n) vs → RowHolds (row_of n (map minus vs) (neg_ℤ (pos max))) x ↔ (tally x vs ≤ max)
  most_row vs max below =
      let row = row_says (map minus vs) (neg_ℤ (pos max)) (minus_below vs below) in
      let value = value_of-minus x vs in (
        (λ h. let le = row.0 h in omega (arith, ints)),
        (λ h. row.1 (omega (arith, ints))),
      )

  -- the row says that at least min of some variables are 1 where variable i is
  pub wanted_row : (vs : List ℕ) (i min : ℕ) → AllByRecursion (λ v. v < n) vs → i < n → RowHolds (row_of n (map plus vs ++ term i (neg_ℤ (pos min)) ∷ []) (pos 0)) x ↔ (x i ≡ true → min ≤ tally x vs)
  wanted_row vs i min below short =
      let terms = map plus vs ++ term i (neg_ℤ (pos min)) ∷ [] in
      let row = row_says terms (pos 0) ((all_append (λ (t : Term). t.var.0 < n) (map plus vs) (term i (neg_ℤ (pos min)) ∷ [])).1 (plus_below vs below, (short, tt))) in
      let value = int_sum_by-append (λ (t : Term). if x t.var.0 then t.coef else pos 0) (map plus vs) (term i (neg_ℤ (pos min)) ∷ []) in
      let P : ℤ → Type 0 = λ z. pos 0 ≤ℤ z in
      let one = least_one (x i) min (tally x vs) (value_of (map plus vs) x) (value_of-plus x vs) in (
        (λ h. one.0 (subst P value (row.0 h))),
        (λ h. row.1 (subst P (sym value) (one.1 h))),
      )

  -- the row says that one of some variables is 1 where variable e is
  pub needed_row : (vs : List ℕ) (e : ℕ) → AllByRecursion (λ v. v < n) vs → e < n → RowHolds (row_of n (map plus vs ++ minus e ∷ []) (pos 0)) x ↔ (x e ≡ true → 0 < tally x vs)
  needed_row vs e below short =
      let row = wanted_row vs e 1 below short in (
        (λ h on. let one : 1 ≤ tally x vs = row.0 h on in omega arith),
        (λ h. row.1 (λ on. let some : 0 < tally x vs = h on in omega arith)),
      )

  -- the row says that none of some variables is 1 where variable e is
  pub apart_row : (vs : List ℕ) (e : ℕ) → AllByRecursion (λ v. v < n) vs → e < n → 0 < length vs
      → RowHolds (row_of n (term e (neg_ℤ (pos (length vs))) ∷ map minus vs) (neg_ℤ (pos (length vs)))) x ↔ (x e ≡ true → tally x vs ≡ 0)
  apart_row vs e below short some =
      let f = neg_ℤ (pos (length vs)) in
      chain (row_says (term e f ∷ map minus vs) f (short, minus_below vs below)) (apart_one (x e) (length vs) (tally x vs) (value_of (map minus vs) x) (value_of-minus x vs) some (tally-le x vs))

  -- the row says that variable e is 0
  pub absent_row : (e : ℕ) → e < n → RowHolds (row_of n (minus e ∷ []) (pos 0)) x ↔ (x e ≡ true → ⊥)
  absent_row e short = chain (row_says (minus e ∷ []) (pos 0) (short, tt)) (none_one (x e))

-- the rows of bounds
module _ (x : ℕ → Bool) where
  -- the vector meets a row
  abbrev pub Holds : RowParts → Type 0
  Holds row = RowHolds row x

  -- the row for min says what it says, also where min is 0 and there is none
  pub at_least_says : (min : ℕ) (row : RowParts) (P : Type 0) → (Holds row ↔ P) → (min ≡ 0 → P) → AllByRecursion Holds (at_least min row) ↔ P
  at_least_says min row P says free = elim (bool_cases (nat_lt 0 min)) [
    | inl some ↦ subst (λ b. AllByRecursion Holds (if b then row ∷ [] else []) ↔ P) (sym some) ((λ h. says.0 h.0), (λ h. (says.1 h, tt)))
    | inr none ↦
        let low : min ≤ 0 = ltb-false 0 min none in
        let zero_min : min ≡ 0 = omega arith in
        subst (λ b. AllByRecursion Holds (if b then row ∷ [] else []) ↔ P) (sym none) ((λ h. free zero_min), (λ h. tt))
  ]

  -- the row for max says that at most max of some variables are 1, and nothing where no max is given
  pub at_most_says : (lib : LibraryParts) (max : Option ℕ) (vs : List ℕ) → AllByRecursion (λ v. v < member_count lib) vs → AllByRecursion Holds (at_most lib max vs) ↔ IfSome max (λ m. tally x vs ≤ m)
  at_most_says lib None vs below = (λ h. tt, λ h. tt)
  at_most_says lib (Some m) vs below = let row = most_row (member_count lib) x vs m below in (λ h. row.0 h.0, λ h. (row.1 h, tt))

  -- a row for each of some variables, which says that a fact follows where the variable is 1
  pub each_says : (n : ℕ) (P : Type 0) (row : ℕ → RowParts) (vs : List ℕ) → AllByRecursion (λ v. v < n) vs → ((v : ℕ) → v < n → Holds (row v) ↔ (x v ≡ true → P))
      → AllByRecursion Holds (map row vs) ↔ (0 < tally x vs → P)
  each_says n P row vs below says =
      chain (all_map Holds row vs)
      (chain (all_same (λ v. Holds (row v)) (λ v. x v ≡ true → P) vs (all_then (λ v. v < n) (λ v. Holds (row v) ↔ (x v ≡ true → P)) says vs below)) (any_counts P x vs))

  -- for a number that is 0 where a test fails, a greatest holds where it holds if the test does
  most_alike : (max : Option ℕ) (on : Bool) (n : ℕ) → (on ≡ false → n ≡ 0) → (on ≡ true → IfSome max (λ m. n ≤ m)) → IfSome max (λ m. n ≤ m)
  most_alike None on n none h = tt
  most_alike (Some m) true n none h = h refl
  most_alike (Some m) false n none h = let e = none refl in omega arith

  -- the rows of a degree of instance i, where an absent instance has degree 0
  pub degree_says : (lib : LibraryParts) (i : ℕ) (vs : List ℕ) (min : ℕ) (max : Option ℕ) → i < member_count lib → AllByRecursion (λ v. v < member_count lib) vs → (x i ≡ false → tally x vs ≡ 0)
      → AllByRecursion Holds (degree_rows lib i vs min max) ↔ (x i ≡ true → IsBetween min max (tally x vs))
  degree_says lib i vs min max short below none =
      let row = member_row lib (map plus vs ++ term i (neg_ℤ (pos min)) ∷ []) (pos 0) in
      chain (all_append Holds (at_least min row) (at_most lib max vs))
      (chain (pair (at_least_says min row (x i ≡ true → min ≤ tally x vs) (wanted_row (member_count lib) x vs i min below short) (λ e on. omega arith)) (at_most_says lib max vs below))
      ((λ h on. (h.0 on, h.1)), (λ h. ((λ on. (h on).0), most_alike max (x i) (tally x vs) none (λ on. (h on).1)))))

-- what variables of instances and edges count, where they are those of an architecture
module _ (lib : LibraryParts) (arch : ArchitectureParts) (x : ℕ → Bool) (vector : IsVectorOf lib arch x) where
  -- the variable of a component says whether it is present
  pub component_value : (c : ℕ) → c < length lib.components → x c ≡ has arch.comps c
  component_value c short =
      vector c (omega arith) ∙ ap (λ b. if b then has arch.comps c else has arch.edges (c - length lib.components)) (lt-ltb c (length lib.components) short)

  -- the variable of an edge says whether it is present
  edge_value : (e : ℕ) → e < length lib.edges → x (length lib.components + e) ≡ has arch.edges e
  edge_value e short =
      let n = length lib.components in
      let far : length lib.components ≤ length lib.components + e = omega arith in
      let same : (length lib.components + e) - length lib.components ≡ e = omega arith in
      vector (n + e) (omega arith) ∙ ap (λ b. if b then has arch.comps (n + e) else has arch.edges ((n + e) - n)) (le-ltb (n + e) n far) ∙ ap (has arch.edges) same

  -- how many instances of a type are 1 is how many are present
  pub instances_count : (t : ℕ) → tally x (instances_of lib.components t) ≡ count_by (λ c. nat_eq c.of t) (present_components lib arch)
  instances_count t =
      tally_numbers x (has arch.comps) (λ (c : Component). nat_eq c.of t) 0 0 lib.components (λ k short. ap x (zero-add k) ∙ component_value k short ∙ ap (has arch.comps) (sym (zero-add k)))
      ∙ tally_is (λ (c : Component). nat_eq c.of t) (present_components lib arch)

  -- how many edges that pass a test are 1 is how many present edges pass it
  pub edges_count : (test : Edge → Bool) → tally x (edge_variables lib test) ≡ tally test (present_edges lib arch)
  edges_count test = tally_numbers x (has arch.edges) test (length lib.components) 0 lib.edges (λ k short. edge_value k short ∙ ap (has arch.edges) (sym (zero-add k)))

  -- how many edges into i from instances of type t are 1 is i's degree
  pub in_count : (t i : ℕ) → tally x (in_variables lib t i) ≡ in_degree lib arch t i
  in_count t i =
      edges_count (λ e. nat_eq e.head.0 i && is_instance lib t e.tail.0)
      ∙ sym (tally-filter (λ (e : Edge). nat_eq e.head.0 i) (λ e. is_instance lib t e.tail.0) (present_edges lib arch))
      ∙ tally_is (λ (e : Edge). is_instance lib t e.tail.0) (edges_into lib arch i)

  -- how many edges from i to instances of type t are 1 is i's degree
  pub out_count : (t i : ℕ) → tally x (out_variables lib t i) ≡ out_degree lib arch t i
  out_count t i =
      edges_count (λ e. nat_eq e.tail.0 i && is_instance lib t e.head.0)
      ∙ sym (tally-filter (λ (e : Edge). nat_eq e.tail.0 i) (λ e. is_instance lib t e.head.0) (present_edges lib arch))
      ∙ tally_is (λ (e : Edge). is_instance lib t e.head.0) (edges_out_of lib arch i)

-- the variables of instances are those of components
pub instances_below : (lib : LibraryParts) (t : ℕ) → AllByRecursion (λ v. v < length lib.components) (instances_of lib.components t)
instances_below lib t = numbers_below (λ (c : Component). nat_eq c.of t) 0 (length lib.components) lib.components (omega arith)

-- the variables of instances are members
pub instances_members : (lib : LibraryParts) (t : ℕ) → AllByRecursion (λ v. v < member_count lib) (instances_of lib.components t)
instances_members lib t = numbers_below (λ (c : Component). nat_eq c.of t) 0 (member_count lib) lib.components (omega arith)

-- the variables of edges are members
pub edges_below : (lib : LibraryParts) (test : Edge → Bool) → AllByRecursion (λ v. v < member_count lib) (edge_variables lib test)
edges_below lib test = numbers_below test (length lib.components) (member_count lib) lib.edges (omega arith)

-- a fact of all instances of a type, instance by instance
pub each_instance : (lib : LibraryParts) (t : ℕ) (Q : ℕ → Type 0) → AllByRecursion Q (instances_of lib.components t) ↔ EachInstance lib t Q
each_instance lib t Q =
    let all = all_numbers Q (λ (c : Component). nat_eq c.of t) 0 lib.components in (
      (λ h i is. subst Q (zero-add i) (all.0 h i is)),
      (λ h. all.1 (λ i is. subst Q (sym (zero-add i)) (h i is))),
    )

-- an absent component has no present edges
module _ (lib : LibraryParts) (arch : ArchitectureParts) (fits : IsArchitecture lib arch) (t i : ℕ) (absent : has arch.comps i ≡ false) where
  -- a present component isn't i
  not_there : (c : ℕ) (b : Bool) → has arch.comps c ≡ true → (nat_eq c i && b) ≡ true → ⊥
  not_there c b here h =
      let same : c ≡ i = eqb-true c i (and_left (nat_eq c i) b h) in
      let e : true ≡ false = sym here ∙ ap (has arch.comps) same ∙ absent in cc

  -- no present edge leads to an absent component
  pub no_in_edges : in_degree lib arch t i ≡ 0
  no_in_edges =
      sym (tally_is (λ (e : Edge). is_instance lib t e.tail.0) (edges_into lib arch i))
      ∙ tally-filter (λ (e : Edge). nat_eq e.head.0 i) (λ e. is_instance lib t e.tail.0) (present_edges lib arch)
      ∙ none_counts (λ (e : Edge). nat_eq e.head.0 i && is_instance lib t e.tail.0) (present_edges lib arch)
      (all_then (λ (e : Edge). IsTrue (has arch.comps e.head.0)) _ (λ e here. not_there e.head.0 (is_instance lib t e.tail.0) here) (present_edges lib arch) (recursion_from_All _ (present_edges lib arch) fits.heads))

  -- no present edge leads from an absent component
  pub no_out_edges : out_degree lib arch t i ≡ 0
  no_out_edges =
      sym (tally_is (λ (e : Edge). is_instance lib t e.head.0) (edges_out_of lib arch i))
      ∙ tally-filter (λ (e : Edge). nat_eq e.tail.0 i) (λ e. is_instance lib t e.head.0) (present_edges lib arch)
      ∙ none_counts (λ (e : Edge). nat_eq e.tail.0 i && is_instance lib t e.head.0) (present_edges lib arch)
      (all_then (λ (e : Edge). IsTrue (has arch.comps e.tail.0)) _ (λ e here. not_there e.tail.0 (is_instance lib t e.head.0) here) (present_edges lib arch) (recursion_from_All _ (present_edges lib arch) fits.tails))
