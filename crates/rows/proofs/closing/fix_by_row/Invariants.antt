use Rattle.rows.proofs.ForcedTimes.{RowTurn}
use Rattle.rows.proofs.closing.fix_by_row.Given as goal

abbrev pub invariant-loop-term : goal.invariant-loop-term
invariant-loop-term l = RowTurn l.row l.initial.cube l.cube l.term-items l.term-index l.count l.room
