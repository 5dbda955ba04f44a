-- The first of what is made of numbered items.
use Rattle.std.proofs.Common.{◌≡◌, ℕ, zero, suc, ◌+◌, List, [], ◌∷◌, ◌++◌, Option, Some, None, refl, subst, ◌∙◌, arith, ◌⊎◌, inl, inr}
use Rattle.std.specs.Prelude.{slice_get}
use Rattle.std.specs.List.{enumerate_from, filter_map, cons_option}

pub first_of : {Y : Type 0} (xs ys : List Y) (y : Y) → slice_get (xs ++ ys) 0 ≡ Some y → (slice_get xs 0 ≡ Some y) ⊎ (slice_get ys 0 ≡ Some y)
first_of [] ys y h = inr h
first_of (x ∷ xs) ys y h = inl h

pub none_left : {Y : Type 0} (xs ys : List Y) → slice_get (xs ++ ys) 0 ≡ None → slice_get ys 0 ≡ None
none_left [] ys h = h
none_left (x ∷ xs) ys h = absurd (let e : Some x ≡ None = h in cc)

-- an item that makes y, with its number
pub record Made {X Y : Type 0} (f : ℕ × X → Option Y) (b : ℕ) (xs : List X) (y : Y) : Type 0 where
  pub number : ℕ
  pub item : X
  pub at : slice_get xs number ≡ Some item
  pub makes : f (b + number, item) ≡ Some y

pub made : {X Y : Type 0} (f : ℕ × X → Option Y) (b : ℕ) (xs : List X) (y : Y) → slice_get (filter_map f (enumerate_from b xs)) 0 ≡ Some y → Made f b xs y
made f b [] y h = absurd (let e : None ≡ Some y = h in cc)
made {X} {Y} f b (x ∷ xs) y h = by (f (b, x)) refl (made f (b + 1) xs y) h where
  by : (o : Option Y) → f (b, x) ≡ o → (slice_get (filter_map f (enumerate_from (b + 1) xs)) 0 ≡ Some y → Made f (b + 1) xs y)
      → slice_get (cons_option o (filter_map f (enumerate_from (b + 1) xs))) 0 ≡ Some y → Made f b (x ∷ xs) y
  by None e rest k =
      let r = rest k in
      let further : (b + 1) + r.number ≡ b + suc r.number = omega arith in
      record { number = suc r.number; item = r.item; at = r.at; makes = subst (λ (n : ℕ). f (n, r.item) ≡ Some y) further r.makes }
  by (Some z) e rest k =
      let here : b ≡ b + 0 = omega arith in
      record { number = 0; item = x; at = refl; makes = subst (λ (n : ℕ). f (n, x) ≡ Some y) here (e ∙ k) }

pub none_made : {X Y : Type 0} (f : ℕ × X → Option Y) (b : ℕ) (xs : List X) → slice_get (filter_map f (enumerate_from b xs)) 0 ≡ None → (i : ℕ) (x : X) → slice_get xs i ≡ Some x → f (b + i, x) ≡ None
none_made f b [] h i x at = absurd (let e : None ≡ Some x = at in cc)
none_made {X} {Y} f b (z ∷ xs) h i x at = by (f (b, z)) refl (λ k j. none_made f (b + 1) xs k j x) h i at where
  by : (o : Option Y) → f (b, z) ≡ o → (slice_get (filter_map f (enumerate_from (b + 1) xs)) 0 ≡ None → (j : ℕ) → slice_get xs j ≡ Some x → f ((b + 1) + j, x) ≡ None)
      → slice_get (cons_option o (filter_map f (enumerate_from (b + 1) xs))) 0 ≡ None → (i : ℕ) → slice_get (z ∷ xs) i ≡ Some x → f (b + i, x) ≡ None
  by (Some y) e rest k i at = absurd (let d : Some y ≡ None = k in cc)
  by None e rest k zero at =
      let here : b ≡ b + 0 = omega arith in
      let same : z ≡ x = cc in
      subst (λ (n : ℕ). f (n, x) ≡ None) here (subst (λ (w : X). f (b, w) ≡ None) same e)
  by None e rest k (suc i) at =
      let further : (b + 1) + i ≡ b + suc i = omega arith in
      subst (λ (n : ℕ). f (n, x) ≡ None) further (rest k i at)
