-- Terms of numbered items, and the sums over the items that a vector chooses.
use Rattle.std.proofs.Common.{◌≡◌, ℕ, suc, ◌+◌, ◌<◌, ℤ, pos, neg_ℤ, ◌+ℤ◌, ◌-ℤ◌, Bool, true, false, cond, List, [], ◌∷◌, ◌++◌, map, filter, length, refl, sym, ap, ◌∙◌, arith, if◌then◌else◌}
use Rattle.std.specs.List.{enumerate_from, sum_by}
use Rattle.std.proofs.lemmas.Int.{ints}
use Rattle.std.proofs.Math.IntN.{+ℤ_idl}
use Rattle.std.proofs.lemmas.List.Sums.{sum_by-cons}
use Rattle.rows.specs.Row.{int_sum_by, term, value_of}

-- the items whose numbers, from b on, are chosen
abbrev pub chosen_from : {X : Type 0} → (ℕ → Bool) → ℕ → List X → List X
chosen_from x b xs = map (λ p. p.1) (filter (λ p. x p.0) (enumerate_from b xs))

chosen_step : {X : Type 0} (x : ℕ → Bool) (b : ℕ) (y : X) (ys : List X) → chosen_from x b (y ∷ ys) ≡ cond (x b) (y ∷ chosen_from x (b + 1) ys) (chosen_from x (b + 1) ys)
chosen_step {X = X} x b y ys =
    elim (x b) as (λ c. map (λ (p : ℕ × X). p.1) (cond c ((b, y) ∷ filter (λ (p : ℕ × X). x p.0) (enumerate_from (b + 1) ys)) (filter (λ (p : ℕ × X). x p.0) (enumerate_from (b + 1) ys)))
    ≡ cond c (y ∷ chosen_from x (b + 1) ys) (chosen_from x (b + 1) ys)) [ true ↦ refl | false ↦ refl ]

-- two vectors that agree at the items' numbers choose the same
pub chosen_alike : {X : Type 0} (x y : ℕ → Bool) (b c : ℕ) (xs : List X) → ((i : ℕ) → i < length xs → x (b + i) ≡ y (c + i)) → chosen_from x b xs ≡ chosen_from y c xs
chosen_alike x y b c [] same = refl
chosen_alike {X = X} x y b c (z ∷ xs) same =
    let here : x b ≡ y c = (let f : b + 0 ≡ b = omega arith in let g : c + 0 ≡ c = omega arith in sym (ap x f) ∙ same 0 (omega arith) ∙ ap y g) in
    let rest = chosen_alike x y (b + 1) (c + 1) xs (λ i h. let f : b + suc i ≡ (b + 1) + i = omega arith in let g : c + suc i ≡ (c + 1) + i = omega arith in sym (ap x f) ∙ same (suc i) (omega arith) ∙ ap y g) in
    chosen_step x b z xs ∙ ap (λ (v : Bool). cond v (z ∷ chosen_from x (b + 1) xs) (chosen_from x (b + 1) xs)) here
    ∙ ap (λ (l : List X). cond (y c) (z ∷ l) l) rest ∙ sym (chosen_step y c z xs)

cond_both : {X Y : Type 0} (f : List X → Y) (b : Bool) (p q : List X) → f (cond b p q) ≡ cond b (f p) (f q)
cond_both f true p q = refl
cond_both f false p q = refl

pub chosen_map : {X Y : Type 0} (f : X → Y) (x : ℕ → Bool) (b : ℕ) (xs : List X) → chosen_from x b (map f xs) ≡ map f (chosen_from x b xs)
chosen_map f x b [] = refl
chosen_map f x b (y ∷ xs) =
    chosen_step x b (f y) (map f xs) ∙ ap (λ l. cond (x b) (f y ∷ l) l) (chosen_map f x (b + 1) xs)
    ∙ sym (ap (map f) (chosen_step x b y xs) ∙ cond_both (map f) (x b) (y ∷ chosen_from x (b + 1) xs) (chosen_from x (b + 1) xs))

pub chosen_append : {X : Type 0} (x : ℕ → Bool) (b c : ℕ) (xs ys : List X) → b + length xs ≡ c → chosen_from x b (xs ++ ys) ≡ chosen_from x b xs ++ chosen_from x c ys
chosen_append x b c [] ys e = let same : b ≡ c = omega arith in ap (λ n. chosen_from x n ys) same
chosen_append {X = X} x b c (z ∷ xs) ys e =
    let further : (b + 1) + length xs ≡ c = omega arith in
    chosen_step x b z (xs ++ ys) ∙ ap (λ (l : List X). cond (x b) (z ∷ l) l) (chosen_append x (b + 1) c xs ys further)
    ∙ sym (ap (λ (l : List X). l ++ chosen_from x c ys) (chosen_step x b z xs) ∙ cond_both (λ (l : List X). l ++ chosen_from x c ys) (x b) (z ∷ chosen_from x (b + 1) xs) (chosen_from x (b + 1) xs))

-- the sum of terms of numbered items that pass a test is the sum over the chosen ones that do
one_term : {X : Type 0} (test on : Bool) (a : ℤ) (here : ℕ × X) (x : ℕ → Bool) (f : X → ℤ) (rest : List (ℕ × X)) → x here.0 ≡ on → f here.1 ≡ a
    → value_of (map (λ (p : ℕ × X). term p.0 (f p.1)) (cond test (here ∷ rest) rest)) x ≡ (if test then (if on then a else pos 0) else pos 0) +ℤ value_of (map (λ (p : ℕ × X). term p.0 (f p.1)) rest) x
one_term {X = X} true on a here x f rest e h =
    ap (λ b. (if b then f here.1 else pos 0) +ℤ value_of (map (λ (p : ℕ × X). term p.0 (f p.1)) rest) x) e
    ∙ ap (λ z. (if on then z else pos 0) +ℤ value_of (map (λ (p : ℕ × X). term p.0 (f p.1)) rest) x) h
one_term {X = X} false on a here x f rest e h = sym (+ℤ_idl (value_of (map (λ (p : ℕ × X). term p.0 (f p.1)) rest) x))

one_chosen : {X : Type 0} (f : X → ℤ) (p : X → Bool) (on : Bool) (y : X) (ys : List X) → int_sum_by f (filter p (cond on (y ∷ ys) ys)) ≡ (if p y then (if on then f y else pos 0) else pos 0) +ℤ int_sum_by f (filter p ys)
one_chosen {X = X} f p true y ys = elim (p y) as (λ b. int_sum_by f (cond b (y ∷ filter p ys) (filter p ys)) ≡ (if b then f y else pos 0) +ℤ int_sum_by f (filter p ys)) [
  | true ↦ refl
  | false ↦ sym (+ℤ_idl (int_sum_by f (filter p ys)))
]
one_chosen {X = X} f p false y ys = elim (p y) as (λ b. int_sum_by f (filter p ys) ≡ (if b then pos 0 else pos 0) +ℤ int_sum_by f (filter p ys)) [
  | true ↦ sym (+ℤ_idl (int_sum_by f (filter p ys)))
  | false ↦ sym (+ℤ_idl (int_sum_by f (filter p ys)))
]

pub value_of-numbered : {X : Type 0} (f : X → ℤ) (test : X → Bool) (x : ℕ → Bool) (b : ℕ) (xs : List X)
    → value_of (map (λ (p : ℕ × X). term p.0 (f p.1)) (filter (λ (p : ℕ × X). test p.1) (enumerate_from b xs))) x ≡ int_sum_by f (filter test (chosen_from x b xs))
value_of-numbered f test x b [] = refl
value_of-numbered {X = X} f test x b (y ∷ xs) =
    one_term (test y) (x b) (f y) (b, y) x f (filter (λ (p : ℕ × X). test p.1) (enumerate_from (b + 1) xs)) refl refl
    ∙ ap (λ z. (if test y then (if x b then f y else pos 0) else pos 0) +ℤ z) (value_of-numbered f test x (b + 1) xs)
    ∙ sym (ap (λ (l : List X). int_sum_by f (filter test l)) (chosen_step x b y xs) ∙ one_chosen f test (x b) y (chosen_from x (b + 1) xs))

-- a filter that keeps all
filter_yes : {X : Type 0} (xs : List X) → filter (λ _. true) xs ≡ xs
filter_yes [] = refl
filter_yes (y ∷ xs) = ap (λ l. y ∷ l) (filter_yes xs)

pub value_of-enumerated : {X : Type 0} (f : X → ℤ) (x : ℕ → Bool) (b : ℕ) (xs : List X) → value_of (map (λ (p : ℕ × X). term p.0 (f p.1)) (enumerate_from b xs)) x ≡ int_sum_by f (chosen_from x b xs)
value_of-enumerated {X = X} f x b xs =
    sym (ap (λ (l : List (ℕ × X)). value_of (map (λ (p : ℕ × X). term p.0 (f p.1)) l) x) (filter_yes (enumerate_from b xs)))
    ∙ value_of-numbered f (λ _. true) x b xs ∙ ap (int_sum_by f) (filter_yes (chosen_from x b xs))

-- sums of natural numbers as sums of integers
regroup : (a b c d : ℕ) → (pos a -ℤ pos b) +ℤ (pos c -ℤ pos d) ≡ pos (a + c) -ℤ pos (b + d)
regroup a b c d = omega (arith, ints)

pub int_sum_by-differences : {X : Type 0} (f g : X → ℕ) (xs : List X) → int_sum_by (λ x. pos (f x) -ℤ pos (g x)) xs ≡ pos (sum_by f xs) -ℤ pos (sum_by g xs)
int_sum_by-differences f g [] = refl
int_sum_by-differences f g (x ∷ xs) =
    ap (λ z. (pos (f x) -ℤ pos (g x)) +ℤ z) (int_sum_by-differences f g xs) ∙ regroup (f x) (g x) (sum_by f xs) (sum_by g xs)
    ∙ sym (ap (λ n. pos n -ℤ pos (sum_by g (x ∷ xs))) (sum_by-cons f x xs) ∙ ap (λ n. pos (f x + sum_by f xs) -ℤ pos n) (sum_by-cons g x xs))

pub int_sum_by-naturals : {X : Type 0} (f : X → ℕ) (xs : List X) → int_sum_by (λ x. pos (f x)) xs ≡ pos (sum_by f xs)
int_sum_by-naturals f [] = refl
int_sum_by-naturals f (x ∷ xs) = ap (λ z. pos (f x) +ℤ z) (int_sum_by-naturals f xs) ∙ ap pos (sym (sum_by-cons f x xs))

less_both : (a b : ℕ) → neg_ℤ (pos a) +ℤ neg_ℤ (pos b) ≡ neg_ℤ (pos (a + b))
less_both a b = omega (arith, ints)

pub int_sum_by-negated : {X : Type 0} (f : X → ℕ) (xs : List X) → int_sum_by (λ x. neg_ℤ (pos (f x))) xs ≡ neg_ℤ (pos (sum_by f xs))
int_sum_by-negated f [] = refl
int_sum_by-negated f (x ∷ xs) = ap (λ z. neg_ℤ (pos (f x)) +ℤ z) (int_sum_by-negated f xs) ∙ less_both (f x) (sum_by f xs) ∙ ap (λ n. neg_ℤ (pos n)) (sym (sum_by-cons f x xs))
