-- A relation between each row and each later one, row by row.
use Rattle.std.proofs.Common.{◌≡◌, ℕ, ◌+◌, ◌<◌, ◌≤◌, List, length, get_or, take, sym, subst, ◌∙◌, arith}
use Rattle.std.specs.List.{All, AllPairs}
use Rattle.std.proofs.lemmas.List.{take_more, take_all, get_or-take, get_or_default, length-take-le}
use Rattle.std.proofs.lemmas.List.Quantifiers.{all_pairs_push}

module _ {X : Type 0} (R : X → X → Type 0) (xs : List X) where
  -- one more row to which each earlier one is related
  pub pairs_more : (i : ℕ) (x : X) → i < length xs → x ≡ get_or xs i x → AllPairs R (take i xs) → All (λ a. R a x) (take i xs) → AllPairs R (take (i + 1) xs)
  pairs_more i x here is before earlier =
      subst (λ l. AllPairs R l) (sym (take_more xs i x here))
      (all_pairs_push R (take i xs) (get_or xs i x) before (λ k d low. subst (λ y. R (get_or (take i xs) k d) y) is (earlier k d low)))

  -- each earlier row is related to a row
  pub pairs_at : (i : ℕ) (x : X) → i < length xs → x ≡ get_or xs i x → AllPairs R xs → All (λ a. R a x) (take i xs)
  pairs_at i x here is all k d low =
      let le : i ≤ length xs = omega arith in
      let short : k < i = omega (arith, length-take-le i xs le) in
      subst (λ y. R (get_or (take i xs) k d) y) (get_or_default xs i d x here ∙ sym is)
      (subst (λ a. R a (get_or xs i d)) (sym (get_or-take i xs k d short)) (all k i d short here))

  -- and at the end each pair is
  pub pairs_done : (i : ℕ) → length xs ≤ i → AllPairs R (take i xs) → AllPairs R xs
  pairs_done i end all = subst (λ l. AllPairs R l) (take_all i xs end) all
