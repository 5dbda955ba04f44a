use Rattle.std.proofs.Common.{◌≡◌, ◌+◌, ◌-◌, codes, [], ◌∷◌, cond, map, drop, take}
use Rattle.std.specs.List.{flat_map, filter_map, enumerate_from}
use Rattle.toml.specs.View.{view}
use Rattle.lib_read.specs.declared.fault.LibClass.TheVariants.{Duplicate}
use Rattle.lib_read.specs.declared.fault.TableName.TheVariants.{Links}
use Rattle.lib_read.specs.Fault.{least}
use Rattle.lib_read.specs.Tree.{rows_of}
use Rattle.lib_read.specs.Faults.{fault, is_repeat, link_ends, same_ends, repeated_links}
use Rattle.lib_read.proofs.repeats.check_links.Given as goal

abbrev pub invariant-loop-i : goal.invariant-loop-i
invariant-loop-i l = record {
  pairs : l.pairs ≡ filter_map link_ends (map view (take l.i l.rows));
  first : least (flat_map (λ p. cond (is_repeat same_ends link_ends (take (p.0 - 1) (rows_of Links (view l.top))) p.1) (fault Duplicate Links p.0 (codes "to") ∷ []) []) (enumerate_from (l.i + 1) (map view (drop l.i l.rows)))) ≡ least (repeated_links (view l.top));
}
