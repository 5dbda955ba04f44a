use Rattle.std.proofs.Common.{take}
use Rattle.std.specs.List.{All}
use Rattle.rows.specs.Row.{IsRow}
use Rattle.rows.proofs.problem.are_rows.Given as goal

abbrev pub invariant-loop-row : goal.invariant-loop-row
invariant-loop-row l = All IsRow (take l.row-index l.rows)
