use Rattle.std.proofs.Common.{◌≡◌, ◌+◌, map, drop}
use Rattle.std.specs.List.{flat_map, enumerate_from}
use Rattle.toml.specs.View.{view}
use Rattle.lib_read.specs.Fault.{least}
use Rattle.lib_read.specs.Faults.{row_faults, table_faults}
use Rattle.lib_read.proofs.passes.table_fault.Given as goal

abbrev pub invariant-loop-i : goal.invariant-loop-i
invariant-loop-i l =
    least (flat_map (λ p. row_faults (view l.top) l.names l.class l.table p.0 p.1) (enumerate_from (l.i + 1) (map view (drop l.i l.rows))))
    ≡ least (table_faults l.names l.class l.table (view l.top))
