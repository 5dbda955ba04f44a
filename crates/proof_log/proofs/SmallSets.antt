-- Sets whose numbers stay below a bound, as they are read.
use Rattle.std.proofs.Common.{◌≡◌, ℕ, ◌^◌, ◌≤◌, ◌<◌, Bool, true, false, ◌||◌, Option, Some, None, option_map, refl, sym, subst, ◌∙◌, arith}
use Rattle.std.specs.Prelude.{IfSome, nat_eq}
use Rattle.arch_model.specs.Set.{Set, has, empty, put}
use Rattle.arch_model.proofs.SetLaws.{has-empty, has-put}
use Rattle.proof_log.specs.Value.{IsSmall}
use Rattle.proof_log.specs.Inner.Reading.{seen_by, set_by}

pub empty_small : (n : ℕ) (s : Set) → s ≡ empty → IsSmall n s
empty_small n s e i h = let t : true ≡ false = sym h ∙ (λ k. has (e k) i) ∙ has-empty i in absurd cc

pub put_small : (n : ℕ) (s t : Set) (k : ℕ) → t ≡ put s k → k < n → IsSmall n s → IsSmall n t
put_small n s t k e lt small i h = by (has s i) refl
  where
    all : (has s i || nat_eq k i) ≡ true
    all = sym (has-put s k i) ∙ sym (λ j. has (e j) i) ∙ h

    by : (b : Bool) → has s i ≡ b → i < n
    by true y = small i y
    by false y = let last : nat_eq k i ≡ true = subst (λ b. (b || nat_eq k i) ≡ true) y all in grind (arith, last, lt)

-- one number more, where there is a set and a number
pub one_more_small : {S : Type 0} (room : ℕ) (numbers : S → Set) (so_far : Option (S × ℕ × Bool)) (n : Option ℕ) (s : S) (next : ℕ) (ascend : Bool) (t : Set) (k : ℕ) → so_far ≡ Some (s, next, ascend) → n ≡ Some k → t ≡ put (numbers s) k
    → IfSome n (λ n. (n < room) × (n < 2 ^ 32)) → IfSome so_far (λ p. IsSmall room (numbers p.0)) → IsSmall room t
one_more_small {S} room numbers so_far n s next ascend t k is number e below small =
    let P : Option ℕ → Type 0 = λ o. IfSome o (λ n. (n < room) × (n < 2 ^ 32)) in
    let Q : Option (S × ℕ × Bool) → Type 0 = λ o. IfSome o (λ p. IsSmall room (numbers p.0)) in
    let lt : (k < room) × (k < 2 ^ 32) = subst P number below in
    put_small room (numbers s) t k e lt.0 (subst Q is small)

-- what is below a limit is below what a set has room for
pub in_room : (o : Option ℕ) (limit room : ℕ) → limit ≤ room → limit ≤ 2 ^ 32 → IfSome o (λ n. n < limit) → IfSome o (λ n. (n < room) × (n < 2 ^ 32))
in_room None limit room le few h = tt
in_room (Some n) limit room le few h = (omega (arith, h), omega (arith, h))

-- the set of what was read so far, seen by its numbers
pub seen_set : {S : Type 0} (numbers : S → Set) (o : Option (S × ℕ × Bool)) → option_map (λ p. (p.0, p.2)) (seen_by numbers o) ≡ set_by numbers (option_map (λ p. (p.0, p.2)) o)
seen_set numbers None = refl
seen_set numbers (Some p) = refl

pub small_set : {S : Type 0} (room : ℕ) (numbers : S → Set) (o : Option (S × ℕ × Bool)) (r : Option (S × Bool)) → r ≡ option_map (λ p. (p.0, p.2)) o → IfSome o (λ p. IsSmall room (numbers p.0)) → IfSome r (λ p. IsSmall room (numbers p.0))
small_set {S} room numbers o r e h = let P : Option (S × Bool) → Type 0 = λ x. IfSome x (λ p. IsSmall room (numbers p.0)) in subst P (sym e) (seen o h)
  where
    seen : (o : Option (S × ℕ × Bool)) → IfSome o (λ p. IsSmall room (numbers p.0)) → IfSome {T = S × Bool} (option_map (λ p. (p.0, p.2)) o) (λ p. IsSmall room (numbers p.0))
    seen None h = tt
    seen (Some p) h = h
