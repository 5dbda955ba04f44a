-- Lists that ascend, and the sets that they are read as.
use Rattle.std.proofs.Common.{◌≡◌, ℕ, zero, suc, ◌+◌, ◌≤◌, ◌<◌, Bool, true, false, ◌&&◌, ◌||◌, List, [], ◌∷◌, length, get_or, filter, refl, sym, ap, subst, ◌∙◌, arith, ⊎_elim}
use Rattle.std.specs.Prelude.{nat_le, nat_eq}
use Rattle.std.specs.List.{range_with_len, AllByRecursion}
use Rattle.std.specs.List.Sorted.{IsStrictlyIncreasing}
use Rattle.std.proofs.lemmas.Bool.{cases_eq}
use Rattle.arch_model.specs.Set.{Set, has, empty, put, members_below}
use Rattle.arch_model.proofs.SetLaws.{has-empty, has-put}
use Rattle.proof_log.specs.Inner.Reading.{set_of, ascend_from}

and_true : (a b : Bool) → (a && b) ≡ true → (a ≡ true) × (b ≡ true)
and_true true b e = (refl, e)
and_true false b e = absurd cc

-- a list that ascends from one number on
unfoldable pub AscendFrom : ℕ → List ℕ → Type 0
AscendFrom low [] = Unit {0}
AscendFrom low (n ∷ ns) = (low ≤ n) × AscendFrom (n + 1) ns

pub ascend_yes : (low : ℕ) (ns : List ℕ) → ascend_from low ns ≡ true → AscendFrom low ns
unfolding AscendFrom
ascend_yes low [] e = tt
ascend_yes low (n ∷ ns) e = let t = and_true (nat_le low n) (ascend_from (n + 1) ns) e in (grind (arith, t.0), ascend_yes (n + 1) ns t.1)

pub ascend_back : (low : ℕ) (ns : List ℕ) → AscendFrom low ns → ascend_from low ns ≡ true
unfolding AscendFrom
ascend_back low [] a = refl
ascend_back low (n ∷ ns) a = let h : nat_le low n ≡ true = grind (arith, a.0) in rw h (ascend_back (n + 1) ns a.1)

pub increasing : (low : ℕ) (ns : List ℕ) → AscendFrom low ns → IsStrictlyIncreasing ns
unfolding AscendFrom
increasing low [] a k h = absurd (omega arith)
increasing low (n ∷ []) a k h = absurd (omega arith)
increasing low (n ∷ m ∷ ns) a zero h = omega (arith, a.1.0)
increasing low (n ∷ m ∷ ns) a (suc k) h = let e : suc (k + 1) ≡ suc k + 1 = omega arith in subst (λ j. get_or (m ∷ ns) k 0 < get_or (n ∷ m ∷ ns) j 0) e (increasing (n + 1) (m ∷ ns) a.1 k (omega arith))

pub from_increasing : (low : ℕ) (ns : List ℕ) → IsStrictlyIncreasing ns → ((k : ℕ) → 0 < length ns → low ≤ get_or ns 0 k) → AscendFrom low ns
unfolding AscendFrom
from_increasing low [] up first = tt
from_increasing low (n ∷ []) up first = (first 0 (omega arith), tt)
from_increasing low (n ∷ m ∷ ns) up first =
    (first 0 (omega arith), from_increasing (n + 1) (m ∷ ns) (λ k h. let e : suc k + 1 ≡ suc (k + 1) = omega arith in subst (λ j. get_or (m ∷ ns) k 0 < get_or (n ∷ m ∷ ns) j 0) e (up (suc k) (omega arith))) (λ k h. omega (arith, up 0 (omega arith))))

-- ---- sets

-- whether a number is among some
unfoldable pub is_among : List ℕ → ℕ → Bool
is_among [] i = false
is_among (n ∷ ns) i = nat_eq n i || is_among ns i

or_assoc : (a b c : Bool) → ((a || b) || c) ≡ (a || (b || c))
or_assoc true b c = refl
or_assoc false b c = refl

pub has-set_of : (s : Set) (ns : List ℕ) (i : ℕ) → has (set_of s ns) i ≡ (has s i || is_among ns i)
unfolding is_among
has-set_of s [] i = or_false (has s i)
  where
    or_false : (a : Bool) → a ≡ (a || false)
    or_false true = refl
    or_false false = refl
has-set_of s (n ∷ ns) i = has-set_of (put s n) ns i ∙ ap (λ b. b || is_among ns i) (has-put s n i) ∙ or_assoc (has s i) (nat_eq n i) (is_among ns i)

not_among : (low : ℕ) (ns : List ℕ) (i : ℕ) → AscendFrom low ns → i < low → is_among ns i ≡ false
unfolding AscendFrom is_among
not_among low [] i a h = refl
not_among low (n ∷ ns) i a h = let e : nat_eq n i ≡ false = grind (arith, a.0) in rw e (not_among (n + 1) ns i a.1 (omega (arith, a.0)))

-- the numbers from i on that pass, below i + n
kept : (p q : ℕ → Bool) (i n : ℕ) → ((k : ℕ) → i ≤ k → p k ≡ q k) → filter p (range_with_len i n) ≡ filter q (range_with_len i n)
kept p q i zero same = refl
kept p q i (suc n) same = by (p i) (q i) refl refl (same i (omega arith)) (kept p q (i + 1) n (λ k h. same k (omega arith)))
  where
    by : (a b : Bool) → p i ≡ a → q i ≡ b → p i ≡ q i → filter p (range_with_len (i + 1) n) ≡ filter q (range_with_len (i + 1) n) → filter p (range_with_len i (suc n)) ≡ filter q (range_with_len i (suc n))
    by true true e f s ih = rw (e, f) (ap (λ (l : List ℕ). i ∷ l) ih)
    by true false e f s ih = absurd (let h : true ≡ false = sym e ∙ s ∙ f in cc)
    by false true e f s ih = absurd (let h : false ≡ true = sym e ∙ s ∙ f in cc)
    by false false e f s ih = rw (e, f) ih

listed : (ns : List ℕ) (i n : ℕ) → AscendFrom i ns → AllByRecursion (λ m. m < i + n) ns → filter (is_among ns) (range_with_len i n) ≡ ns
unfolding AscendFrom is_among
listed [] i zero a b = refl
listed (m ∷ ns) i zero a b = absurd (omega (arith, a.0, b.0))
listed [] i (suc n) a b = listed [] (i + 1) n tt tt
listed (m ∷ ns) i (suc n) a b = ⊎_elim (same (λ up wide. listed ns (i + 1) n up wide)) (later (λ up wide. listed (m ∷ ns) (i + 1) n up wide)) (cases_eq m i)
  where
    wider : (ns : List ℕ) → AllByRecursion (λ k. k < i + suc n) ns → AllByRecursion (λ k. k < (i + 1) + n) ns
    wider [] b = tt
    wider (k ∷ ks) b = (omega (arith, b.0), wider ks b.1)

    same : (AscendFrom (i + 1) ns → AllByRecursion (λ k. k < (i + 1) + n) ns → filter (is_among ns) (range_with_len (i + 1) n) ≡ ns) → m ≡ i → filter (is_among (m ∷ ns)) (range_with_len i (suc n)) ≡ m ∷ ns
    same rest e =
        let here : nat_eq m i ≡ true = grind arith in
        let up : AscendFrom (i + 1) ns = subst (λ k. AscendFrom k ns) (omega arith) a.1 in
        let tail = kept (is_among (m ∷ ns)) (is_among ns) (i + 1) n (λ k h. let t : nat_eq m k ≡ false = grind arith in rw t refl) ∙ rest up (wider ns b.1) in
        rw here (λ j. sym e j ∷ tail j)

    later : (AscendFrom (i + 1) (m ∷ ns) → AllByRecursion (λ k. k < (i + 1) + n) (m ∷ ns) → filter (is_among (m ∷ ns)) (range_with_len (i + 1) n) ≡ m ∷ ns) → (m ≡ i → ⊥)
        → filter (is_among (m ∷ ns)) (range_with_len i (suc n)) ≡ m ∷ ns
    later rest ne =
        let away : is_among (m ∷ ns) i ≡ false = not_among (i + 1) (m ∷ ns) i (omega (arith, a.0), a.1) (omega arith) in
        rw away (rest (omega (arith, a.0), a.1) (wider (m ∷ ns) b))

-- the members of a set that was read from an ascending list are that list
pub members_read : (ns : List ℕ) (limit n : ℕ) → AscendFrom 0 ns → AllByRecursion (λ m. m < limit) ns → limit ≤ n → members_below (set_of empty ns) n ≡ ns
unfolding members_below
members_read ns limit n up small le =
    kept (has (set_of empty ns)) (is_among ns) 0 n (λ k h. has-set_of empty ns k ∙ ap (λ b. b || is_among ns k) (has-empty k))
    ∙ listed ns 0 n up (wide ns small)
  where
    wide : (ns : List ℕ) → AllByRecursion (λ m. m < limit) ns → AllByRecursion (λ m. m < 0 + n) ns
    wide [] b = tt
    wide (k ∷ ks) b = (omega (arith, b.0), wide ks b.1)
