-- Which members make no case, and where all cases are the same.
use Rattle.std.proofs.Common.{◌≡◌, ℕ, ◌+◌, ◌-◌, ◌*◌, ◌/◌, ◌^◌, Bool, true, false, cond, nat_eq, List, [], ◌∷◌, ◌++◌, filter, refl, sym, ap, ◌∙◌, arith, ◌⊎◌, inl, inr}
use Rattle.std.proofs.lemmas.Bool.{eq-eqb}
use Rattle.arch_model.specs.Parts.{LibraryParts}
use Rattle.arch_model.specs.Library.{IsLibrary}
use Rattle.arch_model.specs.Member.{is_in, fail_of}
use Rattle.arch_model.specs.Weight.{ceil_div}
use Rattle.arch_model.specs.Mass.{mixed, over_failures}
use Rattle.arch_model.proofs.Members.{bool_cases, or_left, or_right}
use Rattle.arch_model.proofs.Ranges.{fail_of_le}
use Rattle.arch_model.proofs.Sublists.{AllSublists}

-- a step's rounding keeps 10^6 times a number as that number
abbrev pub IsWhole : (ℕ → ℕ) → Type 0
IsWhole round = (a : ℕ) → round (10 ^ 6 * a) ≡ a

pub down_whole : IsWhole (λ m. m / 10 ^ 6)
down_whole a = omega arith

pub up_whole : IsWhole (λ m. ceil_div m (10 ^ 6))
up_whole a = omega arith

-- a mixture of one value is 10^6 times it
mixed_same : (p q a : ℕ) → p + q ≡ 10 ^ 6 → p * a + q * a ≡ 10 ^ 6 * a
mixed_same p q a whole = let all : (p + q) * a ≡ 10 ^ 6 * a = ap (λ w. w * a) whole in omega (arith, all)

-- a function of a list that a member in it doesn't change
abbrev pub Ignores : (List ℕ → ℕ) → ℕ → Type 0
Ignores f x = (before after : List ℕ) → f (before ++ x ∷ after) ≡ f (before ++ after)

module _ (lib : LibraryParts) (right : IsLibrary lib) (round : ℕ → ℕ) (whole : IsWhole round) where
  pub same_cases : (x a : ℕ) → round (mixed (fail_of lib x) a a) ≡ a
  same_cases x a =
      let rest : fail_of lib x + (10 ^ 6 - fail_of lib x) ≡ 10 ^ 6 = omega (arith, fail_of_le lib right x) in
      ap round (mixed_same (fail_of lib x) (10 ^ 6 - fail_of lib x) a rest) ∙ whole a

  -- a member that never fails makes one case, and so does one that always fails
  pub never_fails : (x a b : ℕ) → fail_of lib x ≡ 0 → round (mixed (fail_of lib x) a b) ≡ b
  never_fails x a b e = let n : 0 * a + (10 ^ 6 - 0) * b ≡ 10 ^ 6 * b = omega arith in ap (λ p. round (mixed p a b)) e ∙ ap round n ∙ whole b

  pub always_fails : (x a b : ℕ) → fail_of lib x ≡ 10 ^ 6 → round (mixed (fail_of lib x) a b) ≡ a
  always_fails x a b e = let n : 10 ^ 6 * a + (10 ^ 6 - 10 ^ 6) * b ≡ 10 ^ 6 * a = omega arith in ap (λ p. round (mixed p a b)) e ∙ ap round n ∙ whole a

  -- where all cases are the same
  pub all_same : (f : List ℕ → ℕ) (a : ℕ) (xs : List ℕ) → AllSublists (λ m. f m ≡ a) xs → over_failures lib round f xs ≡ a
  all_same f a [] h = h
  all_same f a (x ∷ xs) h =
      ap (λ b. round (mixed (fail_of lib x) b (over_failures lib round f xs))) (all_same (λ m. f (x ∷ m)) a xs h.1)
      ∙ ap (λ b. round (mixed (fail_of lib x) a b)) (all_same f a xs h.0)
      ∙ same_cases x a

  -- members that never fail or change nothing may be left out
  pub left_out : (q : ℕ → Bool) (f : List ℕ → ℕ) (xs : List ℕ) → ((x : ℕ) → is_in xs x ≡ true → q x ≡ false → (fail_of lib x ≡ 0) ⊎ Ignores f x)
      → over_failures lib round f xs ≡ over_failures lib round f (filter q xs)
  left_out q f [] h = refl
  left_out q f (x ∷ xs) h =
      let later : (y : ℕ) → is_in xs y ≡ true → is_in (x ∷ xs) y ≡ true = λ y among. or_right (nat_eq x y) (is_in xs y) among in
      elim (bool_cases (q x)) [
        | inl kept ↦
            ap (λ b. round (mixed (fail_of lib x) b (over_failures lib round f xs)))
            (left_out q (λ m. f (x ∷ m)) xs (λ y among out. elim (h y (later y among) out) [ inl never ↦ inl never | inr ignored ↦ inr (λ before after. ignored (x ∷ before) after) ]))
            ∙ ap (λ b. round (mixed (fail_of lib x) (over_failures lib round (λ m. f (x ∷ m)) (filter q xs)) b)) (left_out q f xs (λ y among. h y (later y among)))
            ∙ ap (λ b. over_failures lib round f (cond b (x ∷ filter q xs) (filter q xs))) (sym kept)
        | inr out ↦
            elim (h x (or_left (nat_eq x x) (is_in xs x) (eq-eqb x x refl)) out) [
              | inl never ↦ never_fails x (over_failures lib round (λ m. f (x ∷ m)) xs) (over_failures lib round f xs) never
              | inr ignored ↦
                  ap (λ (g : List ℕ → ℕ). round (mixed (fail_of lib x) (over_failures lib round g xs) (over_failures lib round f xs))) (λ i m. ignored [] m i)
                  ∙ same_cases x (over_failures lib round f xs)
            ]
            ∙ left_out q f xs (λ y among. h y (later y among))
            ∙ ap (λ b. over_failures lib round f (cond b (x ∷ filter q xs) (filter q xs))) (sym out)
      ]
