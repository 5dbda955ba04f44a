-- The rows of learned cuts.
use Rattle.std.specs.Prelude.{ℕ, ℤ, ◌≡◌, ◌<◌, Bool, false, IsTrue, if◌then◌else◌}
use Rattle.arch_model.specs.Set.{has, empty, put}
use Rattle.arch_model.specs.declared.limits.TheConstants.{MEMBERS}
use Rattle.rows.specs.Parts.{CutParts}
use Rattle.rows.specs.Row.{IsSized}

-- no variable has both coefficients, each is a number that a variable can have, and the least is at most 10^16 in absolute value
pub record IsCut (cut : CutParts) : Type 0 where
  pub apart : (v : ℕ) → IsTrue (has cut.plus v) → has cut.minus v ≡ false
  pub small_plus : (v : ℕ) → IsTrue (has cut.plus v) → v < MEMBERS
  pub small_minus : (v : ℕ) → IsTrue (has cut.minus v) → v < MEMBERS
  pub least : IsSized cut.least

-- a cut without terms
abbrev pub empty_cut : ℤ → CutParts
empty_cut least = record { plus = empty; minus = empty; least = least }

-- a cut with coefficient 1 or -1 at one more variable
abbrev pub cut_put : CutParts → ℕ → Bool → CutParts
cut_put cut v b =
    record { plus = if b then put cut.plus v else cut.plus; minus = if b then cut.minus else put cut.minus v; least = cut.least }
