-- What holds of each item of lists that were put together.
use Rattle.std.proofs.Common.{◌≡◌, ℕ, zero, suc, ◌+◌, List, [], ◌∷◌, ◌++◌, Some, None, refl, subst, arith}
use Rattle.std.specs.List.{AllByRecursion, flat_map, enumerate_from, slice_get}

pub all_left : {X : Type 0} (P : X → Type 0) (xs ys : List X) → AllByRecursion P (xs ++ ys) → AllByRecursion P xs
all_left P [] ys all = tt
all_left P (x ∷ xs) ys all = (all.0, all_left P xs ys all.1)

pub all_right : {X : Type 0} (P : X → Type 0) (xs ys : List X) → AllByRecursion P (xs ++ ys) → AllByRecursion P ys
all_right P [] ys all = all
all_right P (x ∷ xs) ys all = all_right P xs ys all.1

pub all_joined : {X : Type 0} (P : X → Type 0) (xs ys : List X) → AllByRecursion P xs → AllByRecursion P ys → AllByRecursion P (xs ++ ys)
all_joined P [] ys left right = right
all_joined P (x ∷ xs) ys left right = (left.0, all_joined P xs ys left.1 right)

pub all_parts : {X Y : Type 0} (P : Y → Type 0) (f : X → List Y) (xs : List X) → AllByRecursion P (flat_map f xs) → AllByRecursion (λ x. AllByRecursion P (f x)) xs
all_parts P f [] all = tt
all_parts P f (x ∷ xs) all = (all_left P (f x) (flat_map f xs) all, all_parts P f xs (all_right P (f x) (flat_map f xs) all))

pub all_flat : {X Y : Type 0} (P : Y → Type 0) (f : X → List Y) (xs : List X) → AllByRecursion (λ x. AllByRecursion P (f x)) xs → AllByRecursion P (flat_map f xs)
all_flat P f [] all = tt
all_flat P f (x ∷ xs) all = all_joined P (f x) (flat_map f xs) all.0 (all_flat P f xs all.1)

pub all_then : {X : Type 0} (P Q : X → Type 0) → ((x : X) → P x → Q x) → (xs : List X) → AllByRecursion P xs → AllByRecursion Q xs
all_then P Q then' [] all = tt
all_then P Q then' (x ∷ xs) all = (then' x all.0, all_then P Q then' xs all.1)

-- numbered items, one at a time
pub all_numbered : {X : Type 0} (P : ℕ × X → Type 0) (b : ℕ) (xs : List X) → AllByRecursion P (enumerate_from b xs) → (i : ℕ) (x : X) → slice_get xs i ≡ Some x → P (b + i, x)
all_numbered P b [] all i x is = absurd (let e : None ≡ Some x = is in cc)
all_numbered {X = X} P b (y ∷ xs) all zero x is =
    let same : y ≡ x = cc in
    let here : b ≡ b + 0 = omega arith in
    subst (λ (n : ℕ). P (n, x)) here (subst (λ (z : X). P (b, z)) same all.0)
all_numbered {X = X} P b (y ∷ xs) all (suc i) x is =
    let further : (b + 1) + i ≡ b + suc i = omega arith in
    subst (λ (n : ℕ). P (n, x)) further (all_numbered P (b + 1) xs all.1 i x is)

pub numbered_all : {X : Type 0} (P : ℕ × X → Type 0) (b : ℕ) (xs : List X) → ((i : ℕ) (x : X) → slice_get xs i ≡ Some x → P (b + i, x)) → AllByRecursion P (enumerate_from b xs)
numbered_all P b [] each = tt
numbered_all {X = X} P b (y ∷ xs) each =
    let here : b + 0 ≡ b = omega arith in (
      subst (λ (n : ℕ). P (n, y)) here (each 0 y refl),
      numbered_all P (b + 1) xs (λ i x is. let further : b + suc i ≡ (b + 1) + i = omega arith in subst (λ (n : ℕ). P (n, x)) further (each (suc i) x is)),
    )
