use Rattle.std.proofs.Common.{◌≡◌, ℕ, ◌<◌, ◌≤◌, ◌-◌, List, vec_len}
use Rattle.outside.specs.Faults.{Stay}
use Rattle.proof_log.specs.Log.{LOG_BYTES}
use Rattle.archex_app.specs.Inner.Checking.{HasFed}
use Rattle.archex_app.proofs.check.judge.Given as goal

abbrev pub invariant-loop-piece : goal.invariant-loop-piece
invariant-loop-piece g l = record {
  fed : HasFed (g.F.Shelf.told l.fn.shelf l.name) l.reader;
  problem : l.reader.checker.problem ≡ l.problem;
  room : 0 < vec_len l.piece;
  told_stays : (other : List ℕ) → g.F.Shelf.told l.shelf other ≡ g.F.Shelf.told l.fn.shelf other;
  reads_never_fall : (other : List ℕ) → g.F.Shelf.read_faults l.fn.shelf other ≤ g.F.Shelf.read_faults l.shelf other;
  reads_stay : Stay (g.F.Shelf.read_faults l.fn.shelf) (g.F.Shelf.read_faults l.shelf);
  writes_stay : Stay (g.F.Shelf.write_faults l.fn.shelf) (g.F.Shelf.write_faults l.shelf);
}

abbrev pub decreases-loop-piece : goal.decreases-loop-piece
decreases-loop-piece g l = LOG_BYTES - l.reader.bytes
