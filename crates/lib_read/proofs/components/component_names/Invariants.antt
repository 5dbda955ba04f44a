use Rattle.std.proofs.Common.{◌≡◌, map, take, string_bytes}
use Rattle.std.specs.List.{flat_map}
use Rattle.lib_read.specs.Inner.Building.{names_of_type}
use Rattle.lib_read.proofs.components.component_names.Given as goal

abbrev pub invariant-loop-row : goal.invariant-loop-row
invariant-loop-row l = map string_bytes l.names.items ≡ flat_map names_of_type (take l.row-index l.types)
