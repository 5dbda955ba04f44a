use Rattle.std.proofs.Common.{◌≡◌, map, drop}
use Rattle.std.specs.List.{find}
use Rattle.toml.specs.View.{view}
use Rattle.lib_read.specs.Schema.{type_of_component}
use Rattle.lib_read.proofs.ComponentLemmas.{owns}
use Rattle.lib_read.proofs.components.type_of.Given as goal

abbrev pub invariant-loop-row : goal.invariant-loop-row
invariant-loop-row l = find (owns l.text) (map view (drop l.row-index l.rows)) ≡ type_of_component (view l.top) l.text
