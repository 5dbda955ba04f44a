use Rattle.std.proofs.Common.{◌≡◌, ◌≢◌, ℕ, ◌≤◌, ◌++◌, take, List}
use Rattle.outside.specs.Faults.{Stay}
use Rattle.archex_app.specs.Inner.Log.{IsAppended, entry_lines}
use Rattle.archex_app.proofs.log_file.push_entries.Given as goal

-- the lines so far were appended but for what the buffer has
abbrev pub invariant-loop-entry : goal.invariant-loop-entry
invariant-loop-entry g l = record {
  appended : IsAppended (g.F.Shelf.told l.fn.shelf l.name) (g.F.Shelf.told l.shelf l.name) (l.fn.buffer.items ++ entry_lines (take l.entry-index l.entries)) l.buffer.items;
  told_stays : (other : List ℕ) → other ≢ l.name → g.F.Shelf.told l.shelf other ≡ g.F.Shelf.told l.fn.shelf other;
  reads_stay : Stay (g.F.Shelf.read_faults l.fn.shelf) (g.F.Shelf.read_faults l.shelf);
  writes_never_fall : (other : List ℕ) → g.F.Shelf.write_faults l.fn.shelf other ≤ g.F.Shelf.write_faults l.shelf other;
  writes_stay : Stay (g.F.Shelf.write_faults l.fn.shelf) (g.F.Shelf.write_faults l.shelf);
}
