-- Calls that are made to fail, by their numbers.
use Rattle.std.specs.Prelude.{ℕ, Bool, not, List, ◌==◌}
use Rattle.std.specs.List.{list_any}
use Rattle.outside.specs.Counts.{one_more}

-- the numbers of the calls that fail, from 0, and how many calls were made, up to 2^64 - 1
pub record FailingCalls : Type 0 where
  pub numbers : List ℕ
  pub calls : ℕ

-- whether the next call is let through: its number isn't among those that fail
abbrev pub passes : FailingCalls → Bool
passes f = not (list_any (λ n. n == f.calls) f.numbers)

-- once one more call was made
abbrev pub after_call : FailingCalls → FailingCalls
after_call f = record { numbers = f.numbers; calls = one_more f.calls }
