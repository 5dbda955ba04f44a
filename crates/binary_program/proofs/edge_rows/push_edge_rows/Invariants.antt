use Rattle.std.proofs.Common.{◌≡◌, ◌++◌, length, take}
use Rattle.std.specs.List.{flat_map, enumerate_from}
use Rattle.binary_program.proofs.BuildEdgeRows.{rows_of_edge}
use Rattle.binary_program.proofs.edge_rows.push_edge_rows.Given as goal

abbrev pub invariant-loop-e : goal.invariant-loop-e
invariant-loop-e l = l.rows.items ≡ l.initial.rows.items ++ flat_map (rows_of_edge l.lib) (enumerate_from (length l.lib.components) (take l.e l.edge-items))
