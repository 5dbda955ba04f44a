use Rattle.std.proofs.Common.{◌≡◌, map, take, string_bytes}
use Rattle.std.specs.List.{filter_map}
use Rattle.toml.specs.View.{view}
use Rattle.lib_read.specs.Rows.{pattern_row}
use Rattle.lib_read.proofs.rows.pattern_rows.Given as goal

abbrev pub invariant-loop-row : goal.invariant-loop-row
invariant-loop-row l = l.patterns.items ≡ filter_map (pattern_row l.names (map string_bytes l.components)) (map view (take l.row-index l.rows))
