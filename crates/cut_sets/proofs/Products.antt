-- Which products are above 0.
use Rattle.std.proofs.Common.{◌≡◌, ℕ, zero, suc, ◌*◌, ◌^◌, ◌<◌, ◌≤◌, true, nat_eq, List, [], ◌∷◌, refl, arith}
use Rattle.std.specs.List.{fold}
use Rattle.std.proofs.lemmas.Bool.{eq-eqb}
use Rattle.arch_model.specs.Parts.{LibraryParts}
use Rattle.arch_model.specs.Member.{is_in, fail_of}
use Rattle.arch_model.specs.Weight.{product_of, ceil_div}
use Rattle.arch_model.proofs.Members.{or_left, or_right}

abbrev step : LibraryParts → ℕ → ℕ → ℕ
step lib v c = ceil_div (v * fail_of lib c) (10 ^ 6)

positive : (v p : ℕ) → 0 < v → 0 < p → 0 < ceil_div (v * p) (10 ^ 6)
positive (suc v) (suc p) h k = let more : 1 ≤ suc v * suc p = grind arith in omega arith
positive zero p h k = absurd (omega arith)
positive (suc v) zero h k = absurd (omega arith)

stays_positive : (lib : LibraryParts) (members : List ℕ) (v : ℕ) → 0 < v → ((c : ℕ) → is_in members c ≡ true → 0 < fail_of lib c) → 0 < fold (step lib) v members
stays_positive lib [] v h each = h
stays_positive lib (c ∷ cs) v h each =
    stays_positive lib cs (step lib v c) (positive v (fail_of lib c) h (each c (or_left (nat_eq c c) (is_in cs c) (eq-eqb c c refl)))) (λ d k. each d (or_right (nat_eq c d) (is_in cs d) k))

-- members that all may fail have a product above 0
pub product_positive : (lib : LibraryParts) (members : List ℕ) → ((c : ℕ) → is_in members c ≡ true → 0 < fail_of lib c) → 0 < product_of lib members
product_positive lib members each = stays_positive lib members (10 ^ 18) (omega arith) each
