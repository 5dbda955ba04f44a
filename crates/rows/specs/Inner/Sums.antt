-- What the code's own contracts say of coefficients that are added up, one for each variable.
use Rattle.std.specs.Prelude.{◌≡◌, ℕ, ◌≤◌, ◌<◌, ℤ, pos, ◌+ℤ◌, ◌*ℤ◌, unsigned_abs, List, slice_index_or}
use Rattle.rows.specs.declared.row.Term.{Term}
use Rattle.rows.specs.Row.{coef_at}

-- the numbers of the variables below n are at most m in absolute value
abbrev pub AreWithin : ℕ → ℕ → List ℤ → Type 0
AreWithin n m sums = (v : ℕ) → v < n → unsigned_abs (slice_index_or sums v (pos 0)) ≤ m

-- the coefficients of terms, taken a number of times, were added to the numbers of the variables below n
abbrev pub AreAdded : ℕ → ℕ → List Term → List ℤ → List ℤ → Type 0
AreAdded n times terms before after =
    (v : ℕ) → v < n → slice_index_or after v (pos 0) ≡ slice_index_or before v (pos 0) +ℤ (pos times *ℤ coef_at terms v)
