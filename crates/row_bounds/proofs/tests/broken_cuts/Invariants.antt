use Rattle.std.proofs.Common.{◌≡◌, ℕ, length}
use Rattle.std.specs.List.{All}
use Rattle.rows.specs.Known.{IsCutBelow}
use Rattle.row_bounds.proofs.tests.broken_cuts.Given as goal

abbrev pub invariant-loop : goal.invariant-loop
invariant-loop l = record {
  long : length l.cuts.cuts ≡ l.counter;
  below : (n : ℕ) → All (IsCutBelow n) l.cuts.cuts;
}
