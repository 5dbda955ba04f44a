use Rattle.std.proofs.Common.{◌≡◌, ℕ, ◌<◌, true, IfSome, IfNone, IsTrue}
use Rattle.arch_model.specs.Set.{has}
use Rattle.rows.specs.Cube.{is_free}
use Rattle.row_bounds.proofs.branching.branching_variable.Given as goal

abbrev pub invariant-loop-i : goal.invariant-loop-i
invariant-loop-i l = record {
  free : IfSome l.best (λ v. is_free l.cube v.0 ≡ true);
  near : IfSome l.best (λ v. v.0 < l.i);
  none : IfNone l.best ((k : ℕ) → k < l.i → IsTrue (has l.cube.fixed k));
}
