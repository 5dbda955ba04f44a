use Rattle.std.proofs.Common.{sym, ◌∙◌}
use Rattle.toml.specs.View.{view}
use Rattle.lib_read.specs.Inner.Keys.{fault_view}
use Rattle.lib_read.proofs.PartLemmas.{in_library, in_types, in_links, in_patterns, past_patterns}
use Rattle.lib_read.proofs.passes.class_fault.Goals as goal

pub returns-in-Some : goal.returns-in-Some
returns-in-Some c = in_library c.args.names.now c.args.class (view c.args.top.now) (fault_view c.in-Some.fault) c.in-Some.ensures

pub returns-in-Some-table_fault : goal.returns-in-Some-table_fault
returns-in-Some-table_fault c = in_types c.args.names.now c.args.class (view c.args.top.now) (fault_view c.in-Some-table_fault.fault) c.in_default.ensures c.in-Some-table_fault.ensures

pub returns-in-Some-table_fault-2 : goal.returns-in-Some-table_fault-2
returns-in-Some-table_fault-2 c =
    in_links c.args.names.now c.args.class (view c.args.top.now) (fault_view c.in-Some-table_fault-2.fault) c.in_default.ensures c.in_default-table_fault.ensures c.in-Some-table_fault-2.ensures

pub returns-in-Some-table_fault-3 : goal.returns-in-Some-table_fault-3
returns-in-Some-table_fault-3 c =
    in_patterns c.args.names.now c.args.class (view c.args.top.now) (fault_view c.in-Some-table_fault-3.fault) c.in_default.ensures c.in_default-table_fault.ensures c.in_default-table_fault-2.ensures c.in-Some-table_fault-3.ensures

pub returns : goal.returns
returns c =
    c.table_fault-4.ensures
    ∙ sym (past_patterns c.args.names.now c.args.class (view c.args.top.now) c.in_default.ensures c.in_default-table_fault.ensures c.in_default-table_fault-2.ensures c.in_default-table_fault-3.ensures)
