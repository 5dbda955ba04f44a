use Rattle.std.proofs.Common.{map}
use Rattle.toml.specs.View.{view}
use Rattle.lib_read.specs.Schema.{is_faulty}
use Rattle.lib_read.specs.Inner.Keys.{key_view}
use Rattle.lib_read.proofs.KeyOrder.{ascend_names}
use Rattle.lib_read.proofs.passes.faulty_key.Goals as goal

pub returns-then-is_faulty-clause-ascend : goal.returns-then-is_faulty-clause-ascend
returns-then-is_faulty-clause-ascend c = ascend_names (is_faulty (view c.args.top.now) c.args.names.now c.args.class (view c.args.row.now)) (map key_view c.args.keys.now) c.requires

pub returns-clause-ascend : goal.returns-clause-ascend
returns-clause-ascend c = ascend_names (is_faulty (view c.args.top.now) c.args.names.now c.args.class (view c.args.row.now)) (map key_view c.args.keys.now) c.requires
