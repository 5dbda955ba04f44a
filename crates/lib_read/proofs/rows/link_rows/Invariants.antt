use Rattle.std.proofs.Common.{◌≡◌, map, take}
use Rattle.toml.specs.View.{view}
use Rattle.lib_read.specs.Rows.{link_row}
use Rattle.lib_read.proofs.rows.link_rows.Given as goal

abbrev pub invariant-loop-row : goal.invariant-loop-row
invariant-loop-row l = l.links.items ≡ map (link_row l.names) (map view (take l.row-index l.rows))
