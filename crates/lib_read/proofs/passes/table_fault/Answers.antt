use Rattle.std.proofs.Common.{◌+◌, ap, ◌∙◌}
use Rattle.toml.specs.View.{view}
use Rattle.lib_read.specs.Fault.{least}
use Rattle.lib_read.specs.Schema.{table_keys}
use Rattle.lib_read.specs.Inner.Keys.{fault_view}
use Rattle.lib_read.specs.Faults.{faulty_keys, row_faults, table_faults}
use Rattle.lib_read.proofs.LeastLemmas.{row_faults_in, turn_here}
use Rattle.lib_read.proofs.passes.table_fault.Goals as goal

pub returns-in-Some : goal.returns-in-Some
returns-in-Some c =
    let top = view c.args.top.now in
    let names = c.args.names.now in
    let class = c.args.class in
    let t = c.args.table in
    turn_here class t (λ p. row_faults top names class t p.0 p.1) (λ p. row_faults_in class t p.0 (faulty_keys top names class (table_keys t p.1) p.1)) view
    c.rows_of-rows.result.now (c.loop-i.i + 1) c.loop-i.i c.index-rows-i.result (least (table_faults names class t (view c.args.top.now))) (fault_view c.in-Some.fault) c.loop-i-test.true
    (c.in-Some.ensures ∙ ap (λ v. least (row_faults top names class t (c.loop-i.i + 1) (view v))) c.index-rows-i.is)
    c.loop-i.invariant
