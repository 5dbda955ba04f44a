use Rattle.rows.specs.BaseRows.{local_supply_row}
use Rattle.binary_program.proofs.BuildLists.{each_number_more}
use Rattle.binary_program.proofs.BuildTerms.{number, blank_var}
use Rattle.binary_program.proofs.sum_rows.push_local_supply_rows.Goals as goal

pub loop-i-preserved : goal.loop-i-preserved
loop-i-preserved c =
    each_number_more number (local_supply_row c.args.lib.now) c.deref-i-items.result.now c.loop-i.i-index blank_var c.args.rows.now.items c.loop-i.rows.items c.push_local_supply_row.new.rows.items c.loop-i-test.true c.loop-i.invariant c.in_ok-push_local_supply_row.ensures
