use Rattle.std.proofs.Common.{◌≡◌, map, take}
use Rattle.toml.specs.View.{view}
use Rattle.lib_read.specs.Rows.{type_row}
use Rattle.lib_read.proofs.rows.type_rows.Given as goal

abbrev pub invariant-loop-row : goal.invariant-loop-row
invariant-loop-row l = l.types.items ≡ map type_row (map view (take l.row-index l.rows))
