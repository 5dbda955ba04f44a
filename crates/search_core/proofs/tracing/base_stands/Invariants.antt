use Rattle.std.proofs.Common.{◌≡◌, ℕ, ◌<◌, false, get_or}
use Rattle.rows.specs.Parts.{RowParts}
use Rattle.rows.specs.Activity.{is_refuted}
use Rattle.rows.specs.Known.{parts_of}
use Rattle.search_core.proofs.tracing.base_stands.Given as goal

abbrev pub invariant-loop-i : goal.invariant-loop-i
invariant-loop-i l = (k : ℕ) → k < l.i → (d : RowParts) → is_refuted (get_or (parts_of l.known).problem.base k d) l.cube ≡ false
