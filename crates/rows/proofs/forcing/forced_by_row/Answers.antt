use Rattle.std.proofs.Common.{◌∙◌, ap, get_or}
use Rattle.rows.proofs.Activities.{blank}
use Rattle.arch_model.specs.Set.{has}
use Rattle.rows.proofs.ForcedTurns.{row_hit, row_past, row_end}
use Rattle.rows.proofs.forcing.forced_by_row.Goals as goal

pub loop-term-preserved : goal.loop-term-preserved
loop-term-preserved c =
    row_past c.args.row.now c.args.cube.now c.terms-term-items.result.now c.loop-term.term-index c.args.room c.has.result c.forced_to.result c.terms-term-items.ensures.terms c.terms-term-items.ensures.row c.fixed-fixed.ensures.cube c.requires.stands
    c.requires.room c.ranges.room c.loop-term-test.true (c.has.ensures.member ∙ ap (λ s. has s (get_or c.terms-term-items.result.now c.loop-term.term-index blank).var.0) c.fixed-fixed.ensures.fixed) c.forced_to.ensures c.loop-term.invariant c.in_default.is

pub returns-in-Some : goal.returns-in-Some
returns-in-Some c =
    row_hit c.args.row.now c.args.cube.now c.terms-term-items.result.now c.loop-term.term-index c.args.room c.has.result c.forced_to.result c.in-Some.value c.terms-term-items.ensures.terms c.terms-term-items.ensures.row c.fixed-fixed.ensures.cube c.requires.stands
    c.requires.room c.ranges.room c.loop-term-test.true (c.has.ensures.member ∙ ap (λ s. has s (get_or c.terms-term-items.result.now c.loop-term.term-index blank).var.0) c.fixed-fixed.ensures.fixed) c.forced_to.ensures c.loop-term.invariant c.in-Some.is

pub returns : goal.returns
returns c = row_end c.args.row.now c.args.cube.now c.terms-term-items.result.now c.loop-term.term-index c.terms-term-items.ensures.terms c.loop-term-test.false c.loop-term.invariant
