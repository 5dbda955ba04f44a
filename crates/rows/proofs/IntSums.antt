-- Sums of integers over lists.
use Rattle.std.proofs.Common.{◌≡◌, ℕ, zero, suc, add-one, ◌+◌, ◌≤◌, ◌<◌, ℤ, pos, negsuc, ◌+ℤ◌, ◌≤ℤ◌, unsigned_abs, Bool, true, false, List, [], ◌∷◌, ◌++◌, map, filter, cond, take, length, get_or, refl, sym, ap, ◌∙◌, arith}
use Rattle.std.specs.List.{range_with_len}
use Rattle.std.proofs.lemmas.Int.{ints}
use Rattle.std.proofs.lemmas.List.{take_more}
use Rattle.std.proofs.Math.IntN.{+ℤ_assoc, +ℤ_idl, +ℤ_idr}
use Rattle.rows.specs.Row.{int_sum_by}

pub int_sum_by-append : {X : Type 0} (f : X → ℤ) (xs ys : List X) → int_sum_by f (xs ++ ys) ≡ int_sum_by f xs +ℤ int_sum_by f ys
int_sum_by-append f [] ys = sym (+ℤ_idl (int_sum_by f ys))
int_sum_by-append f (x ∷ xs) ys = ap (λ s. f x +ℤ s) (int_sum_by-append f xs ys) ∙ sym (+ℤ_assoc (f x) (int_sum_by f xs) (int_sum_by f ys))

-- a loop's step: one more item of the list
pub int_sum_by-more : {X : Type 0} (f : X → ℤ) (xs : List X) (i : ℕ) (d : X) → i < length xs → int_sum_by f (take (i + 1) xs) ≡ int_sum_by f (take i xs) +ℤ f (get_or xs i d)
int_sum_by-more f xs i d here =
    ap (int_sum_by f) (take_more xs i d here) ∙ int_sum_by-append f (take i xs) (get_or xs i d ∷ []) ∙ ap (λ s. int_sum_by f (take i xs) +ℤ s) (+ℤ_idr (f (get_or xs i d)))

-- a number of at most m in absolute value, as two bounds
pub sized_low : (a : ℤ) (m : ℕ) → unsigned_abs a ≤ m → pos 0 ≤ℤ (a +ℤ pos m)
sized_low (pos n) m h = omega (arith, ints)
sized_low (negsuc n) m h = omega (arith, ints)

pub sized_high : (a : ℤ) (m : ℕ) → unsigned_abs a ≤ m → a ≤ℤ pos m
sized_high (pos n) m h = omega (arith, ints)
sized_high (negsuc n) m h = omega (arith, ints)

pub sized_from : (a : ℤ) (m : ℕ) → pos 0 ≤ℤ (a +ℤ pos m) → a ≤ℤ pos m → unsigned_abs a ≤ m
sized_from (pos n) m low high = omega (arith, ints)
sized_from (negsuc n) m low high = omega (arith, ints)

-- a sum is at most the sum of the sizes
pub sized_sum : (a b : ℤ) (m n : ℕ) → unsigned_abs a ≤ m → unsigned_abs b ≤ n → unsigned_abs (a +ℤ b) ≤ m + n
sized_sum a b m n h k =
    let alow = sized_low a m h in
    let ahigh = sized_high a m h in
    let blow = sized_low b n k in
    let bhigh = sized_high b n k in
    sized_from (a +ℤ b) (m + n) (omega (arith, ints)) (omega (arith, ints))

-- the same for a loop's variable
pub int_sum_by-step : {X : Type 0} (f : X → ℤ) (xs : List X) (i : ℕ) (d : X) (total r after : ℤ) → i < length xs → total ≡ int_sum_by f (take i xs) → r ≡ f (get_or xs i d) → after ≡ total +ℤ r → after ≡ int_sum_by f (take (i + 1) xs)
int_sum_by-step f xs i d total r after here sum is step =
    step ∙ ap (λ z. z +ℤ r) sum ∙ ap (λ z. int_sum_by f (take i xs) +ℤ z) is ∙ sym (int_sum_by-more f xs i d here)

pub int_sum_by-map : {X Y : Type 0} (f : Y → ℤ) (g : X → Y) (xs : List X) → int_sum_by f (map g xs) ≡ int_sum_by (λ x. f (g x)) xs
int_sum_by-map f g [] = refl
int_sum_by-map f g (x ∷ xs) = ap (λ s. f (g x) +ℤ s) (int_sum_by-map f g xs)

pub int_sum_by-same : {X : Type 0} (f g : X → ℤ) → ((x : X) → f x ≡ g x) → (xs : List X) → int_sum_by f xs ≡ int_sum_by g xs
int_sum_by-same f g same [] = refl
int_sum_by-same f g same (x ∷ xs) = ap (λ s. f x +ℤ s) (int_sum_by-same f g same xs) ∙ ap (λ a. a +ℤ int_sum_by g xs) (same x)

-- items that add nothing may be left out
skipped : {X : Type 0} (f : X → ℤ) (b : Bool) (x : X) (xs : List X) → (b ≡ false → f x ≡ pos 0) → int_sum_by f (cond b (x ∷ xs) xs) ≡ f x +ℤ int_sum_by f xs
skipped f true x xs none = refl
skipped f false x xs none = sym (+ℤ_idl (int_sum_by f xs)) ∙ ap (λ a. a +ℤ int_sum_by f xs) (sym (none refl))

pub int_sum_by-filter : {X : Type 0} (f : X → ℤ) (p : X → Bool) → ((x : X) → p x ≡ false → f x ≡ pos 0) → (xs : List X) → int_sum_by f (filter p xs) ≡ int_sum_by f xs
int_sum_by-filter f p none [] = refl
int_sum_by-filter f p none (x ∷ xs) = skipped f (p x) x (filter p xs) (none x) ∙ ap (λ s. f x +ℤ s) (int_sum_by-filter f p none xs)

-- a loop over numbers: one more of them
pub range_more : (a n j : ℕ) → a + n ≡ j → range_with_len a (suc n) ≡ range_with_len a n ++ j ∷ []
range_more a zero j e = let same : a ≡ j = omega arith in ap (λ v. v ∷ []) same
range_more a (suc n) j e = let further : (a + 1) + n ≡ j = omega arith in ap (λ vs. a ∷ vs) (range_more (a + 1) n j further)

pub range_step : (f : ℕ → ℤ) (i : ℕ) (total r after : ℤ) → total ≡ int_sum_by f (range_with_len 0 i) → r ≡ f i → after ≡ total +ℤ r → after ≡ int_sum_by f (range_with_len 0 (i + 1))
range_step f i total r after sum is step =
    step ∙ ap (λ z. z +ℤ r) sum ∙ ap (λ z. int_sum_by f (range_with_len 0 i) +ℤ z) (is ∙ sym (+ℤ_idr (f i)))
    ∙ sym (ap (λ n. int_sum_by f (range_with_len 0 n)) (add-one i) ∙ ap (int_sum_by f) (range_more 0 i i (omega arith)) ∙ int_sum_by-append f (range_with_len 0 i) (i ∷ []))
