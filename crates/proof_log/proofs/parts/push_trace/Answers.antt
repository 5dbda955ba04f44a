use Rattle.std.specs.Fmt.{decimal}
use Rattle.proof_log.specs.Field.{row_text}
use Rattle.proof_log.specs.Value.{row_name}
use Rattle.proof_log.proofs.Written.{list_done}
use Rattle.proof_log.proofs.parts.push_trace.Goals as goal

pub returns-clause-ok : goal.returns-clause-ok
returns-clause-ok c =
    list_done (row_text decimal) row_name c.args.steps.now c.in-Some.first.now c.in-Some.others.now c.loop-row.row-index _ _ _ c.in-Some.ensures.cases.0 c.in_ok-push_row.ensures.ok c.loop-row.invariant.text c.loop-row-test.false
