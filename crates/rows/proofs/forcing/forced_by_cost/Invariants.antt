use Rattle.std.proofs.Common.{◌≡◌, ℕ, ◌<◌, pos, neg_ℤ, None}
use Rattle.arch_model.specs.Set.{has}
use Rattle.rows.specs.Inner.Room.{forced_value}
use Rattle.rows.specs.BaseRows.{member_cost_of}
use Rattle.rows.proofs.forcing.forced_by_cost.Given as goal

abbrev pub invariant-loop-i : goal.invariant-loop-i
invariant-loop-i l = (j : ℕ) → j < l.i → None ≡ forced_value (has l.cube.fixed j) (neg_ℤ (pos (member_cost_of l.lib j))) l.room
