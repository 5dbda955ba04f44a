-- Worked rows: where counts of faults stop, the greatest place that is read, and what a failed `fresh` may leave.
use Rattle.std.proofs.Common.{◌≡◌, ℕ, List, [], Option, Some, None, codes, inl, inr, refl, arith, lit≤}
use Rattle.outside.specs.declared.shelf.TheConstants.{LAST_PLACE}
use Rattle.outside.specs.Faults.{Rose}
use Rattle.outside.specs.Told.{KeptOrEmpty}
use Rattle.outside.specs.Counts.{one_more}

last_place : LAST_PLACE ≡ 4294967297
last_place = refl

-- a count rises by one, up to 2^64 - 1, where it stays
counts : (one_more 0 ≡ 1) × (one_more 18446744073709551614 ≡ 18446744073709551615) × (one_more 18446744073709551615 ≡ 18446744073709551615)
counts = (refl, refl, refl)

-- which counts rose
rose : Rose 3 4 × Rose 18446744073709551614 18446744073709551615 × Rose 18446744073709551615 18446744073709551615
rose = (lit≤ tt, lit≤ tt, lit≤ tt)

stood : Rose 3 3 → ⊥
stood h = omega (arith, h)

stood_high : Rose 18446744073709551614 18446744073709551614 → ⊥
stood_high h = omega (arith, h)

-- a file after a failed `fresh`: as it was, empty, or told no longer; not cut short
abbrev left : Option (List ℕ) → Type 0
left now = KeptOrEmpty (Some (codes "ab")) now

kept : left (Some (codes "ab")) × left (Some []) × left None
kept = (inl refl, inr refl, inr tt)

cut_short : left (Some (codes "a")) → ⊥
cut_short h = elim h [ inl e ↦ cc | inr e ↦ cc ]
