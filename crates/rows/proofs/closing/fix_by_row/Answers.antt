use Rattle.std.proofs.Common.{get_or, ap, ◌∙◌}
use Rattle.arch_model.specs.Set.{has}
use Rattle.rows.proofs.Activities.{blank}
use Rattle.rows.proofs.ClosingLoops.{row_loop_hit, row_loop_past, row_loop_end}
use Rattle.rows.proofs.closing.fix_by_row.Goals as goal
use Rattle.rows.proofs.closing.fix_by_row.Goals.{in-Some, in_default}

pub loop-term-preserved : goal.loop-term-preserved
loop-term-preserved c =
    let xs = c.terms-term-items.result.now in
    let is = c.has.ensures.member ∙ ap (λ s. has s (get_or xs c.loop-term.term-index blank).var.0) c.fixed.ensures.fixed in
    elim c.match-forced_to.branch [
      | in-Some w ↦
          row_loop_hit c.args.row.now c.args.cube.now c.loop-term.cube xs c.loop-term.term-index c.loop-term.count c.args.room c.has.result c.forced_to.result c.terms-term-items.ensures.row c.terms-term-items.ensures.terms c.fixed.ensures.cube
          c.ranges.room c.loop-term.invariant c.loop-term-test.true is c.forced_to.ensures c.match-forced_to.cube c.match-forced_to.count w.in-Some.value c.requires.small w.in-Some.is (w.cube-is ∙ w.fix.ensures.fixed) w.count-is
      | in_default w ↦
          row_loop_past c.args.row.now c.args.cube.now c.loop-term.cube xs c.loop-term.term-index c.loop-term.count c.args.room c.has.result c.forced_to.result c.terms-term-items.ensures.row c.terms-term-items.ensures.terms c.fixed.ensures.cube
          c.ranges.room c.loop-term.invariant c.loop-term-test.true is c.forced_to.ensures c.match-forced_to.cube c.match-forced_to.count w.in_default.is w.cube-is w.count-is
    ]

pub returns-clause-quiet : goal.returns-clause-quiet
returns-clause-quiet c = row_loop_end c.args.row.now c.args.cube.now c.loop-term.cube c.terms-term-items.result.now c.loop-term.term-index c.loop-term.count _ c.terms-term-items.ensures.terms c.loop-term-test.false c.loop-term.invariant
