use Rattle.std.proofs.Common.{◌≡◌, ◌++◌, map, string_bytes}
use Rattle.std.specs.List.{range_with_len}
use Rattle.template.specs.Names.{instance_name}
use Rattle.lib_read.proofs.components.push_names.Given as goal

abbrev pub invariant-loop-i : goal.invariant-loop-i
invariant-loop-i l = map string_bytes l.names.items ≡ map string_bytes l.initial.names.items ++ map (instance_name l.row.name) (range_with_len 1 l.i)
