use Rattle.std.proofs.Common.{◌≡◌, ◌++◌, take}
use Rattle.std.specs.List.{flat_map}
use Rattle.rows.specs.BaseRows.{pattern_rows}
use Rattle.binary_program.proofs.building.base_rows.Given as goal

abbrev pub invariant-loop-pattern : goal.invariant-loop-pattern
invariant-loop-pattern l = l.rows.items ≡ l.initial.rows.items ++ flat_map (pattern_rows l.lib) (take l.pattern-index l.pattern-items)
