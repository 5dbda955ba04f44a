-- What a row says whose terms were added up variable by variable.
use Rattle.std.proofs.Common.{◌≡◌, ℕ, zero, suc, ◌+◌, ◌≤◌, ◌<◌, ℤ, pos, negsuc, ◌+ℤ◌, Bool, true, false, nat_eq, List, [], ◌∷◌, map, refl, sym, ap, ◌∙◌, arith, inl, inr, if◌then◌else◌}
use Rattle.std.specs.List.{AllByRecursion, range_with_len}
use Rattle.std.proofs.lemmas.Int.{ints}
use Rattle.std.proofs.lemmas.Bool.Decides.{eqb_tells}
use Rattle.std.proofs.Math.IntN.{+ℤ_idl, +ℤ_idr}
use Rattle.rows.specs.declared.row.Term.{Term}
use Rattle.rows.specs.Row.{int_sum_by, term, value_of, coef_at, is_nonzero, collected}
use Rattle.rows.proofs.Costs.{unlike}
use Rattle.rows.proofs.IntSums.{int_sum_by-map, int_sum_by-filter}

-- what a coefficient adds to a row's sum
abbrev taken : Bool → ℤ → ℤ
taken on a = if on then a else pos 0

no_value : (on : Bool) (a : ℤ) → is_nonzero a ≡ false → taken on a ≡ pos 0
no_value true (pos zero) h = refl
no_value true (pos (suc n)) h = let e : true ≡ false = h in cc
no_value true (negsuc n) h = let e : true ≡ false = h in cc
no_value false a h = refl

-- a sum over the numbers from a on, in which only v counts
sum_none : (v a n : ℕ) (f : ℕ → ℤ) → v < a → int_sum_by (λ w. if nat_eq v w then f w else pos 0) (range_with_len a n) ≡ pos 0
sum_none v a zero f h = refl
sum_none v a (suc n) f h =
    let ne : v ≡ a → ⊥ = λ e. absurd (omega arith) in
    let later : v < a + 1 = omega arith in
    ap (λ b. (if b then f a else pos 0) +ℤ int_sum_by (λ w. if nat_eq v w then f w else pos 0) (range_with_len (a + 1) n)) (unlike v a ne)
    ∙ +ℤ_idl _ ∙ sum_none v (a + 1) n f later

pub sum_one : (v a n : ℕ) (f : ℕ → ℤ) → a ≤ v → v < a + n → int_sum_by (λ w. if nat_eq v w then f w else pos 0) (range_with_len a n) ≡ f v
sum_one v a zero f low high = absurd (omega arith)
sum_one v a (suc n) f low high = elim (eqb_tells v a) [
  | inl w ↦
      let later : v < a + 1 = omega (arith, w.1) in
      ap (λ b. (if b then f a else pos 0) +ℤ int_sum_by (λ w. if nat_eq v w then f w else pos 0) (range_with_len (a + 1) n)) w.0
      ∙ ap (λ z. f a +ℤ z) (sum_none v (a + 1) n f later) ∙ +ℤ_idr (f a) ∙ ap f (sym w.1)
  | inr w ↦
      let ne : v ≡ a → ⊥ = w.1 in
      let up : a + 1 ≤ v = omega arith in
      let down : v < (a + 1) + n = omega arith in
      ap (λ b. (if b then f a else pos 0) +ℤ int_sum_by (λ w. if nat_eq v w then f w else pos 0) (range_with_len (a + 1) n)) w.0
      ∙ +ℤ_idl _ ∙ sum_one v (a + 1) n f up down
]

-- a sum of sums
regroup : (x y a b : ℤ) → (x +ℤ y) +ℤ (a +ℤ b) ≡ (x +ℤ a) +ℤ (y +ℤ b)
regroup x y a b = omega (arith, ints)

taken_both : (on : Bool) (x y : ℤ) → taken on (x +ℤ y) ≡ taken on x +ℤ taken on y
taken_both true x y = refl
taken_both false x y = refl

taken_swap : (on b : Bool) (a : ℤ) → taken on (if b then a else pos 0) ≡ (if b then taken on a else pos 0)
taken_swap true true a = refl
taken_swap true false a = refl
taken_swap false true a = refl
taken_swap false false a = refl

pub sum_both : (f g h : ℕ → ℤ) (vs : List ℕ) → ((v : ℕ) → h v ≡ f v +ℤ g v) → int_sum_by h vs ≡ int_sum_by f vs +ℤ int_sum_by g vs
sum_both f g h [] e = refl
sum_both f g h (v ∷ vs) e =
    ap (λ z. z +ℤ int_sum_by h vs) (e v) ∙ ap (λ z. (f v +ℤ g v) +ℤ z) (sum_both f g h vs e) ∙ regroup (f v) (g v) (int_sum_by f vs) (int_sum_by g vs)

sum_zeros : (x : ℕ → Bool) (vs : List ℕ) → int_sum_by (λ v. taken (x v) (pos 0)) vs ≡ pos 0
sum_zeros x [] = refl
sum_zeros x (v ∷ vs) = elim (x v) as (λ b. taken b (pos 0) +ℤ int_sum_by (λ w. taken (x w) (pos 0)) vs ≡ pos 0) [
  | true ↦ +ℤ_idl _ ∙ sum_zeros x vs
  | false ↦ +ℤ_idl _ ∙ sum_zeros x vs
]

-- the sum over all variables, each with its terms added up, is the sum over the terms
by_variable : (x : ℕ → Bool) (n : ℕ) (terms : List Term) → AllByRecursion (λ t. t.var.0 < n) terms
    → int_sum_by (λ v. taken (x v) (coef_at terms v)) (range_with_len 0 n) ≡ value_of terms x
by_variable x n [] below = sum_zeros x (range_with_len 0 n)
by_variable x n (t ∷ terms) below =
    let low : 0 ≤ t.var.0 = omega arith in
    let high : t.var.0 < 0 + n = omega (arith, below.0) in
    sum_both (λ v. if nat_eq t.var.0 v then taken (x v) t.coef else pos 0) (λ v. taken (x v) (coef_at terms v)) (λ v. taken (x v) (coef_at (t ∷ terms) v)) (range_with_len 0 n)
    (λ v. taken_both (x v) (if nat_eq t.var.0 v then t.coef else pos 0) (coef_at terms v) ∙ ap (λ z. z +ℤ taken (x v) (coef_at terms v)) (taken_swap (x v) (nat_eq t.var.0 v) t.coef))
    ∙ ap (λ z. z +ℤ int_sum_by (λ v. taken (x v) (coef_at terms v)) (range_with_len 0 n)) (sum_one t.var.0 0 n (λ v. taken (x v) t.coef) low high)
    ∙ ap (λ z. taken (x t.var.0) t.coef +ℤ z) (by_variable x n terms below.1)

-- collected terms come to what the terms come to
pub value_of-collected : (n : ℕ) (terms : List Term) (x : ℕ → Bool) → AllByRecursion (λ t. t.var.0 < n) terms → value_of (collected n terms) x ≡ value_of terms x
value_of-collected n terms x below =
    int_sum_by-filter (λ t. taken (x t.var.0) t.coef) (λ t. is_nonzero t.coef) (λ t h. no_value (x t.var.0) t.coef h) (map (λ v. term v (coef_at terms v)) (range_with_len 0 n))
    ∙ int_sum_by-map (λ t. taken (x t.var.0) t.coef) (λ v. term v (coef_at terms v)) (range_with_len 0 n)
    ∙ by_variable x n terms below
