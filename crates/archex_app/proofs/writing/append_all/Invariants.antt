use Rattle.std.proofs.Common.{◌≡◌, ◌≢◌, ℕ, length, ◌-◌, ◌≤◌, take, List}
use Rattle.outside.specs.Faults.{Stay}
use Rattle.outside.specs.Told.{Appends}
use Rattle.archex_app.proofs.writing.append_all.Given as goal

abbrev pub invariant-loop-done : goal.invariant-loop-done
invariant-loop-done g l = record {
  within : l.done ≤ length l.text;
  appended : Appends (g.F.Shelf.told l.fn.shelf l.name) (g.F.Shelf.told l.shelf l.name) (take l.done l.text);
  told_stays : (other : List ℕ) → other ≢ l.name → g.F.Shelf.told l.shelf other ≡ g.F.Shelf.told l.fn.shelf other;
  reads_stay : Stay (g.F.Shelf.read_faults l.fn.shelf) (g.F.Shelf.read_faults l.shelf);
  writes_never_fall : (other : List ℕ) → g.F.Shelf.write_faults l.fn.shelf other ≤ g.F.Shelf.write_faults l.shelf other;
  writes_stay : Stay (g.F.Shelf.write_faults l.fn.shelf) (g.F.Shelf.write_faults l.shelf);
}

abbrev pub decreases-loop-done : goal.decreases-loop-done
decreases-loop-done g l = length l.text - l.done
