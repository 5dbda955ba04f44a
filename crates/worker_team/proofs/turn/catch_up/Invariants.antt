-- All cuts so far are over the problem's variables, and there are fewer still to come.
use Rattle.std.proofs.Common.{◌-◌, length}
use Rattle.worker_team.specs.Inner.Turns.{AreCutsOf}
use Rattle.worker_team.proofs.turn.catch_up.Given as goal

abbrev pub invariant-loop-cuts : goal.invariant-loop-cuts
invariant-loop-cuts l = AreCutsOf l.pool.problem l.cuts.cuts

abbrev pub decreases-loop-cuts : goal.decreases-loop-cuts
decreases-loop-cuts l = length l.pool.state.cuts - length l.cuts.cuts
