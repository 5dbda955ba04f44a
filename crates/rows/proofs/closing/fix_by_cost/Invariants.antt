use Rattle.rows.proofs.ClosingLoops.{CostTurn}
use Rattle.rows.proofs.closing.fix_by_cost.Given as goal

abbrev pub invariant-loop-i : goal.invariant-loop-i
invariant-loop-i l = CostTurn l.lib l.bound l.initial.cube l.cube l.i l.count l.room
