use Rattle.std.proofs.Common.{◌≡◌, map, drop}
use Rattle.std.specs.List.{filter}
use Rattle.toml.specs.View.{view}
use Rattle.lib_read.specs.Inner.Passes.{first}
use Rattle.lib_read.specs.Schema as spec
use Rattle.lib_read.specs.Inner.Keys.{key_view}
use Rattle.lib_read.proofs.passes.faulty_key.Given as goal

abbrev pub invariant-loop-key : goal.invariant-loop-key
invariant-loop-key l =
    first (map (λ key. key.name) (filter (spec.is_faulty (view l.top) l.names l.class (view l.row)) (map key_view (drop l.key-index l.keys))))
    ≡ first (map (λ key. key.name) (filter (spec.is_faulty (view l.top) l.names l.class (view l.row)) (map key_view l.keys)))
