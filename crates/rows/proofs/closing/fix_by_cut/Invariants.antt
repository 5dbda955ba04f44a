use Rattle.rows.proofs.ClosingLoops.{CutTurn}
use Rattle.rows.proofs.closing.fix_by_cut.Given as goal

abbrev pub invariant-loop-v : goal.invariant-loop-v
invariant-loop-v l = CutTurn l.cut l.initial.cube l.cube l.v-iterator l.count l.room
