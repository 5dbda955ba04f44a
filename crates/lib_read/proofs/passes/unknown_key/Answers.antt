use Rattle.std.proofs.Common.{map, not}
use Rattle.toml.specs.View.{table_view}
use Rattle.lib_read.specs.Tree.{keys_of}
use Rattle.lib_read.specs.Inner.Keys.{key_view}
use Rattle.lib_read.specs.Faults.{is_known}
use Rattle.lib_read.proofs.KeyOrder.{ascend_some, ascend_entries}
use Rattle.lib_read.proofs.passes.unknown_key.Goals as goal

pub returns-then-not-is_known-clause-ascend : goal.returns-then-not-is_known-clause-ascend
returns-then-not-is_known-clause-ascend c =
    ascend_some (λ name. not (is_known (map key_view c.args.keys.now) name)) (keys_of (table_view c.args.row.now)) (ascend_entries c.args.row.now.entries c.into_iter-name-iterator.ensures.into_iter_gives.5)

pub returns-clause-ascend : goal.returns-clause-ascend
returns-clause-ascend c =
    ascend_some (λ name. not (is_known (map key_view c.args.keys.now) name)) (keys_of (table_view c.args.row.now)) (ascend_entries c.args.row.now.entries c.into_iter-name-iterator.ensures.into_iter_gives.5)
