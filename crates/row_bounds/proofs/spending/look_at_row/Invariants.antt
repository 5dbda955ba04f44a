use Rattle.std.proofs.Common.{◌≡◌, ◌≤◌, ◌^◌, min, fold, take}
use Rattle.std.specs.Prelude.{filter_map, slice_index}
use Rattle.rows.specs.Ascent.{quotient_at}
use Rattle.row_bounds.proofs.spending.look_at_row.Given as goal

abbrev pub invariant-loop-term : goal.invariant-loop-term
invariant-loop-term l = record {
  least : l.times ≡ fold min (10 ^ 12) (filter_map (quotient_at l.cube (slice_index l.residue)) (take l.term-index l.term-items));
  few : l.times ≤ 10 ^ 12;
  helpers : l.helpers ≤ l.term-index;
}
