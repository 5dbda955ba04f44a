use Rattle.std.proofs.Common.{◌≡◌, ◌+◌, ◌-◌, codes, [], ◌∷◌, cond, map, drop, take}
use Rattle.std.specs.Str.{bytes_eq}
use Rattle.std.specs.List.{flat_map, filter_map, enumerate_from}
use Rattle.toml.specs.View.{view}
use Rattle.lib_read.specs.declared.fault.LibClass.TheVariants.{Duplicate}
use Rattle.lib_read.specs.declared.fault.TableName.TheVariants.{Types}
use Rattle.lib_read.specs.Fault.{least}
use Rattle.lib_read.specs.Tree.{text_at, rows_of}
use Rattle.lib_read.specs.Faults.{fault, is_repeat, repeated_names}
use Rattle.lib_read.proofs.repeats.type_names.Given as goal

abbrev pub invariant-loop-i : goal.invariant-loop-i
invariant-loop-i l = record {
  names : l.names ≡ filter_map (text_at (codes "name")) (map view (take l.i l.rows));
  first : least (flat_map (λ p. cond (is_repeat bytes_eq (text_at (codes "name")) (take (p.0 - 1) (rows_of Types (view l.top))) p.1) (fault Duplicate Types p.0 (codes "name") ∷ []) []) (enumerate_from (l.i + 1) (map view (drop l.i l.rows)))) ≡ least (repeated_names (view l.top));
}
