use Rattle.std.proofs.Common.{◌≡◌, map, take, string_bytes}
use Rattle.toml.specs.View.{view}
use Rattle.lib_read.specs.Rows.{requirement_row}
use Rattle.lib_read.proofs.rows.requirement_rows.Given as goal

abbrev pub invariant-loop-row : goal.invariant-loop-row
invariant-loop-row l = l.requirements.items ≡ map (requirement_row (map string_bytes l.components)) (map view (take l.row-index l.rows))
