-- Greatest activities: what a term adds, and how large that is.
use Rattle.std.proofs.Common.{◌≡◌, ℕ, zero, suc, neg_ℤ, int_lt, ◌+◌, ◌*◌, ◌^◌, ◌≤◌, ◌<◌, ℤ, pos, negsuc, ◌+ℤ◌, ◌-ℤ◌, unsigned_abs, Bool, true, false, List, length, get_or, Option, Some, None, arith, ap, ◌∙◌, FitsSigned, to_z, of_z}
use Rattle.std.specs.Int.{w128}
use Rattle.std.specs.List.{All}
use Rattle.std.proofs.lemmas.Int.{ints, to_z-of_z, fits_signed_from_abs}
use Rattle.rows.specs.declared.row.Term.{Term}
use Rattle.rows.specs.Parts.{CubeParts}
use Rattle.rows.specs.Row.{term, IsSized}
use Rattle.rows.specs.Cube.{value_at}
use Rattle.rows.specs.Activity.{best_of, worst_of}
use Rattle.rows.specs.declared.activity.End.{End}
use Rattle.rows.specs.declared.activity.End.TheVariants.{Greatest, Least}
use Rattle.rows.specs.Inner.Ends.{taken_at, adds_at}
use Rattle.rows.proofs.IntSums.{sized_sum}

sized_max : (n m : ℕ) → n ≤ m → unsigned_abs (best_of None (pos n)) ≤ m
sized_max n m h = grind arith

-- it is at most as large as the coefficient
pub best_of-sized : (value : Option Bool) (a : ℤ) (m : ℕ) → unsigned_abs a ≤ m → unsigned_abs (best_of value a) ≤ m
best_of-sized (Some true) a m h = h
best_of-sized (Some false) a m h = omega arith
best_of-sized None (pos n) m h = sized_max n m h
best_of-sized None (negsuc n) m h = omega arith

sized_min : (n m : ℕ) → n ≤ m → unsigned_abs (worst_of None (pos n)) ≤ m
sized_min n m h = grind arith

worst_of-sized : (value : Option Bool) (a : ℤ) (m : ℕ) → unsigned_abs a ≤ m → unsigned_abs (worst_of value a) ≤ m
worst_of-sized (Some true) a m h = h
worst_of-sized (Some false) a m h = omega arith
worst_of-sized None (pos n) m h = sized_min n m h
worst_of-sized None (negsuc n) m h = omega arith

pub taken-sized : (end : End) (value : Option Bool) (a : ℤ) (m : ℕ) → unsigned_abs a ≤ m → unsigned_abs (taken_at end value a) ≤ m
taken-sized Greatest = best_of-sized
taken-sized Least = worst_of-sized

-- a loop that adds up what the terms add: each number that it meets, as the code has it
abbrev pub blank : Term
blank = term 0 (pos 0)

pub plain : (a : ℤ) → unsigned_abs a ≤ 10 ^ 16 → to_z w128 (of_z w128 a) ≡ a
plain a h = to_z-of_z w128 a (fits_signed_from_abs w128 a (omega (arith, h)))

pub added_is : (end : End) (cube : CubeParts) (xs : List Term) (i : ℕ) (value : Option Bool) (r : ℤ) → All (λ t. IsSized t.coef) xs → i < length xs → value ≡ value_at cube (get_or xs i blank).var.0
    → r ≡ taken_at end value (to_z w128 (of_z w128 (get_or xs i blank).coef)) → r ≡ adds_at end cube (get_or xs i blank)
added_is end cube xs i value r sized here is e = e ∙ ap (taken_at end value) (plain (get_or xs i blank).coef (sized i blank here)) ∙ ap (λ v. taken_at end v (get_or xs i blank).coef) is

pub added_sized : (end : End) (cube : CubeParts) (xs : List Term) (i : ℕ) (r : ℤ) → All (λ t. IsSized t.coef) xs → i < length xs → r ≡ adds_at end cube (get_or xs i blank) → unsigned_abs r ≤ 10 ^ 16
added_sized end cube xs i r sized here e = rw e (taken-sized end (value_at cube (get_or xs i blank).var.0) (get_or xs i blank).coef (10 ^ 16) (sized i blank here))

-- a sum of at most i + 1 numbers of a row fits
pub sum_fits : (total r : ℤ) (i n : ℕ) → unsigned_abs total ≤ i * 10 ^ 16 → unsigned_abs r ≤ 10 ^ 16 → i < n → n < 2 ^ 64 → FitsSigned w128 (total +ℤ r)
sum_fits total r i n h k below few =
    let size = sized_sum total r (i * 10 ^ 16) (10 ^ 16) h k in
    fits_signed_from_abs w128 (total +ℤ r) (omega (arith, size, below, few))

-- the sum, as the code has it
pub sum_is : (total r : ℤ) (i n : ℕ) → unsigned_abs total ≤ i * 10 ^ 16 → unsigned_abs r ≤ 10 ^ 16 → i < n → n < 2 ^ 64
    → to_z w128 (of_z w128 (total +ℤ to_z w128 (of_z w128 r))) ≡ total +ℤ r
sum_is total r i n h k below few =
    ap (λ z. to_z w128 (of_z w128 (total +ℤ z))) (plain r k) ∙ to_z-of_z w128 (total +ℤ r) (sum_fits total r i n h k below few)

pub sum_small : (total r : ℤ) (i n : ℕ) → unsigned_abs total ≤ i * 10 ^ 16 → unsigned_abs r ≤ 10 ^ 16 → i < n → n < 2 ^ 64
    → unsigned_abs (to_z w128 (of_z w128 (total +ℤ to_z w128 (of_z w128 r)))) ≤ (i + 1) * 10 ^ 16
sum_small total r i n h k below few =
    let size = sized_sum total r (i * 10 ^ 16) (10 ^ 16) h k in
    rw (sum_is total r i n h k below few) (omega (arith, size))

-- a difference of two counts, as the code has it
pub difference_is : (m n : ℕ) → m < 2 ^ 32 → n < 2 ^ 32 → to_z w128 (of_z w128 (to_z w128 m -ℤ to_z w128 n)) ≡ pos m -ℤ pos n
difference_is m n h k = omega (arith, ints)

-- minus a cost, as the code has it
pub minus_is : (n : ℕ) → n ≤ 10 ^ 12 → to_z w128 (of_z w128 (pos 0 -ℤ to_z w128 n)) ≡ neg_ℤ (pos n)
minus_is n h = omega (arith, ints)

pub minus_sized : (n : ℕ) → n ≤ 10 ^ 12 → unsigned_abs (neg_ℤ (pos n)) ≤ 10 ^ 16
minus_sized zero h = omega arith
minus_sized (suc n) h = omega arith

-- how far one number is above another, as the code has it
pub plain_to : (a : ℤ) → unsigned_abs a ≤ 2 ^ 118 → to_z w128 (of_z w128 a) ≡ a
plain_to a h = to_z-of_z w128 a (fits_signed_from_abs w128 a (omega (arith, h)))

-- a test of two numbers is that of what they are
pub test_is : (a b x y : ℤ) → a ≡ x → b ≡ y → int_lt a b ≡ int_lt x y
test_is a b x y e f = ap (λ z. int_lt z b) e ∙ ap (int_lt x) f
