use Rattle.std.proofs.Common.{◌≡◌, ◌++◌, map, take}
use Rattle.binary_program.proofs.BuildEdgeRows.{row_of_sink}
use Rattle.binary_program.proofs.edge_rows.push_requirement_rows.Given as goal

abbrev pub invariant-loop-requirement : goal.invariant-loop-requirement
invariant-loop-requirement l = l.rows.items ≡ l.initial.rows.items ++ map (row_of_sink l.lib) (take l.requirement-index l.requirement-items)
