use Rattle.binary_program.specs.Inner.Asked.{asked_rows}
use Rattle.binary_program.proofs.BuildLists.{joined_number_more}
use Rattle.binary_program.proofs.BuildTerms.{number, blank_var}
use Rattle.binary_program.proofs.asked.push_asked_rows.Goals as goal

pub loop-i-preserved : goal.loop-i-preserved
loop-i-preserved c =
    joined_number_more number (asked_rows c.args.lib.now c.args.asked) c.deref-i-items.result.now c.loop-i.i-index blank_var c.args.rows.now.items c.loop-i.rows.items c.push_rows_at.new.rows.items c.loop-i-test.true c.loop-i.invariant c.in_ok-push_rows_at.ensures
