use Rattle.std.proofs.Common.{◌≡◌, ℕ, ◌≤◌, ◌-◌, List, vec_len}
use Rattle.archex_app.specs.declared.reading.TheConstants.{READ_LIMIT}
use Rattle.outside.specs.Faults.{Stay}
use Rattle.archex_app.specs.Inner.Reading.{IsFront}
use Rattle.archex_app.proofs.reading.read_file.Given as goal

abbrev pub invariant-loop-shelf : goal.invariant-loop-shelf
invariant-loop-shelf g l = record {
  front : IsFront (g.F.Shelf.told l.fn.shelf l.name) l.bytes.items;
  within : vec_len l.bytes ≤ READ_LIMIT;
  told_stays : (other : List ℕ) → g.F.Shelf.told l.shelf other ≡ g.F.Shelf.told l.fn.shelf other;
  reads_never_fall : (other : List ℕ) → g.F.Shelf.read_faults l.fn.shelf other ≤ g.F.Shelf.read_faults l.shelf other;
  reads_stay : Stay (g.F.Shelf.read_faults l.fn.shelf) (g.F.Shelf.read_faults l.shelf);
  writes_stay : Stay (g.F.Shelf.write_faults l.fn.shelf) (g.F.Shelf.write_faults l.shelf);
}

abbrev pub decreases-loop-shelf : goal.decreases-loop-shelf
decreases-loop-shelf g l = READ_LIMIT - vec_len l.bytes
