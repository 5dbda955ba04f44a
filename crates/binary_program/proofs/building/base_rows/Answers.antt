use Rattle.std.proofs.Common.{subst, sym}
use Rattle.rows.specs.Problem.{DecidePatterns}
use Rattle.binary_program.proofs.BuildPatternRows.{base_rows_are}
use Rattle.binary_program.proofs.Deciding.{decides}
use Rattle.binary_program.proofs.building.base_rows.Goals as goal

pub returns-clause-rows : goal.returns-clause-rows
returns-clause-rows c =
    base_rows_are c.args.lib.now c.patterns-pattern-items.result.now c.loop-pattern.pattern-index c.new-rows.result.items c.push_edge_rows.new.rows.items c.push_requirement_rows.new.rows.items c.loop-pattern.rows.items
    c.new-rows.ensures.items c.in_ok-push_edge_rows.ensures c.in_ok-push_requirement_rows.ensures c.patterns-pattern-items.ensures.rows c.loop-pattern-test.false c.loop-pattern.invariant

pub returns-clause-decides : goal.returns-clause-decides
returns-clause-decides c =
    subst (DecidePatterns c.args.lib.now)
    (sym (base_rows_are c.args.lib.now c.patterns-pattern-items.result.now c.loop-pattern.pattern-index c.new-rows.result.items c.push_edge_rows.new.rows.items c.push_requirement_rows.new.rows.items c.loop-pattern.rows.items
    c.new-rows.ensures.items c.in_ok-push_edge_rows.ensures c.in_ok-push_requirement_rows.ensures c.patterns-pattern-items.ensures.rows c.loop-pattern-test.false c.loop-pattern.invariant))
    (decides c.args.lib.now c.patterns-pattern-items.ensures.library)
