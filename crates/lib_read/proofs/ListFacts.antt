-- Facts of each item of a list.
use Rattle.std.proofs.Common.{◌≡◌, ℕ, zero, suc, ◌+◌, ◌<◌, ◌≤◌, Bool, true, false, cond, ◌||◌, List, [], ◌∷◌, ◌++◌, map, filter, length, get_or, Option, Some, None, IfSome, refl, sym, ap, ◌∙◌, arith}
use Rattle.std.specs.List.{All, AllByRecursion, cons_option, list_any, filter_map, flat_map, enumerate_from}

-- parts of an empty list are empty
pub append_nil : {X : Type 0} (xs ys : List X) → xs ++ ys ≡ [] → (xs ≡ []) × (ys ≡ [])
append_nil [] ys e = (refl, e)
append_nil (x ∷ xs) ys e = absurd (cc)

pub map_nil : {X Y : Type 0} (f : X → Y) (xs : List X) → map f xs ≡ [] → xs ≡ []
map_nil f [] e = refl
map_nil f (x ∷ xs) e = absurd (cc)

chosen_nil : {X : Type 0} (b : Bool) (x : X) (xs ys : List X) → cond b (x ∷ xs) ys ≡ [] → (b ≡ false) × (ys ≡ [])
chosen_nil true x xs ys e = absurd (cc)
chosen_nil false x xs ys e = (refl, e)

pub one_nil : {X : Type 0} (b : Bool) (x : X) → cond b (x ∷ []) [] ≡ [] → b ≡ false
one_nil b x e = (chosen_nil b x [] [] e).0

pub filter_nil : {X : Type 0} (p : X → Bool) (xs : List X) → filter p xs ≡ [] → AllByRecursion (λ x. p x ≡ false) xs
filter_nil p [] e = tt
filter_nil p (x ∷ xs) e = let parts = chosen_nil (p x) x (filter p xs) (filter p xs) e in (parts.0, filter_nil p xs parts.1)

pub flat_map_nil : {X Y : Type 0} (f : ℕ × X → List Y) (n : ℕ) (xs : List X) → flat_map f (enumerate_from n xs) ≡ [] → (i : ℕ) (d : X) → i < length xs → f (n + i, get_or xs i d) ≡ []
flat_map_nil f n [] e i d here = absurd (omega arith)
flat_map_nil f n (x ∷ xs) e zero d here = let same : n + 0 ≡ n = omega arith in ap (λ k. f (k, x)) same ∙ (append_nil (f (n, x)) (flat_map f (enumerate_from (n + 1) xs)) e).0
flat_map_nil f n (x ∷ xs) e (suc i) d here =
    let same : n + suc i ≡ n + 1 + i = omega arith in
    ap (λ k. f (k, get_or xs i d)) same ∙ flat_map_nil f (n + 1) xs (append_nil (f (n, x)) (flat_map f (enumerate_from (n + 1) xs)) e).1 i d (omega arith)

-- two ways to say that a fact holds of each item
pub all_index : {X : Type 0} (P : X → Type 0) (xs : List X) → AllByRecursion P xs → All P xs
all_index P [] h i d here = absurd (omega arith)
all_index P (x ∷ xs) h zero d here = h.0
all_index P (x ∷ xs) h (suc i) d here = all_index P xs h.1 i d (omega arith)

pub all_rec : {X : Type 0} (P : X → Type 0) (xs : List X) → All P xs → AllByRecursion P xs
all_rec P [] h = tt
all_rec P (x ∷ xs) h = (h 0 x (omega arith), all_rec P xs (λ i d here. h (suc i) d (omega arith)))

pub all_mapped : {X Y : Type 0} (P : Y → Type 0) (f : X → Y) (xs : List X) → AllByRecursion (λ x. P (f x)) xs → AllByRecursion P (map f xs)
all_mapped P f [] h = tt
all_mapped P f (x ∷ xs) h = (h.0, all_mapped P f xs h.1)

some_joined : {Y : Type 0} (P : Y → Type 0) (o : Option Y) (ys : List Y) → IfSome o P → AllByRecursion P ys → AllByRecursion P (cons_option o ys)
some_joined P None ys p rest = rest
some_joined P (Some y) ys p rest = (p, rest)

pub all_some : {X Y : Type 0} (P : Y → Type 0) (f : X → Option Y) (xs : List X) → AllByRecursion (λ x. IfSome (f x) P) xs → AllByRecursion P (filter_map f xs)
all_some P f [] h = tt
all_some P f (x ∷ xs) h = some_joined P (f x) (filter_map f xs) h.0 (all_some P f xs h.1)

all_joined : {X : Type 0} (P : X → Type 0) (xs ys : List X) → AllByRecursion P xs → AllByRecursion P ys → AllByRecursion P (xs ++ ys)
all_joined P [] ys h k = k
all_joined P (x ∷ xs) ys h k = (h.0, all_joined P xs ys h.1 k)

pub all_flat : {X Y : Type 0} (Q : X → Type 0) (P : Y → Type 0) (f : X → List Y) → ((x : X) → Q x → AllByRecursion P (f x)) → (xs : List X) → AllByRecursion Q xs → AllByRecursion P (flat_map f xs)
all_flat Q P f each [] h = tt
all_flat Q P f each (x ∷ xs) h = all_joined P (f x) (flat_map f xs) (each x h.0) (all_flat Q P f each xs h.1)

pub all_of_map : {X Y : Type 0} (P : Y → Type 0) (f : X → Y) → ((x : X) → P (f x)) → (xs : List X) → AllByRecursion P (map f xs)
all_of_map P f h [] = tt
all_of_map P f h (x ∷ xs) = (h x, all_of_map P f h xs)

-- what items are called, where each has a name
pub values_all : {X Y : Type 0} (value : X → Option Y) (f : X → Y) (xs : List X) → AllByRecursion (λ x. Some (f x) ≡ value x) xs → filter_map value xs ≡ map f xs
values_all value f [] h = refl
values_all value f (x ∷ xs) h = ap (λ o. cons_option o (filter_map value xs)) (sym h.0) ∙ ap (λ l. f x ∷ l) (values_all value f xs h.1)

length-some-le : {Y : Type 0} (o : Option Y) (ys : List Y) (n : ℕ) → length ys ≤ n → length (cons_option o ys) ≤ suc n
length-some-le None ys n h = omega arith
length-some-le (Some y) ys n h = omega arith

pub length-values-le : {X Y : Type 0} (value : X → Option Y) (xs : List X) → length (filter_map value xs) ≤ length xs
length-values-le value [] = omega arith
length-values-le value (x ∷ xs) = length-some-le (value x) (filter_map value xs) (length xs) (length-values-le value xs)

-- no item passes a test
neither : (a b : Bool) → (a || b) ≡ false → (a ≡ false) × (b ≡ false)
neither true b e = absurd (cc)
neither false b e = (refl, e)

pub none_passes : {X : Type 0} (p : X → Bool) (xs : List X) → list_any p xs ≡ false → (i : ℕ) (d : X) → i < length xs → p (get_or xs i d) ≡ false
none_passes p [] e i d here = absurd (omega arith)
none_passes p (x ∷ xs) e zero d here = (neither (p x) (list_any p xs) e).0
none_passes p (x ∷ xs) e (suc i) d here = none_passes p xs (neither (p x) (list_any p xs) e).1 i d (omega arith)
