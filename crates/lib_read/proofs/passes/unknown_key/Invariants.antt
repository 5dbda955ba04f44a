use Rattle.std.proofs.Common.{◌≡◌, map, not}
use Rattle.std.specs.List.{filter}
use Rattle.toml.specs.View.{members_view, table_view}
use Rattle.lib_read.specs.Inner.Passes.{first}
use Rattle.lib_read.specs.Tree.{keys_of}
use Rattle.lib_read.specs.Faults.{is_known}
use Rattle.lib_read.specs.Inner.Keys.{key_view}
use Rattle.lib_read.proofs.passes.unknown_key.Given as goal

abbrev pub invariant-loop-name : goal.invariant-loop-name
invariant-loop-name l =
    first (filter (λ name. not (is_known (map key_view l.keys) name)) (keys_of (members_view l.name-iterator)))
    ≡ first (filter (λ name. not (is_known (map key_view l.keys) name)) (keys_of (table_view l.row)))
