use Rattle.std.proofs.Common.{◌∙◌, ◌+◌, Option, not, sym, subst, get_or, length, ap, arith}
use Rattle.std.proofs.lemmas.Option.{slice_get_within}
use Rattle.redundancy_cut.specs.declared.cut.Cut.{Cut}
use Rattle.redundancy_cut.specs.ChosenCut.{redundancy_of, no_good_of}
use Rattle.analyst.proofs.FirstCut.{IsFirst, returned, returned_none, none_more, first_none, first_step, first_kept, first_done}
use Rattle.analyst.proofs.ChosenSteps.{no_requirement, requirement_at}
use Rattle.analyst.proofs.Verdicts.{by_some, by_sum}
use Rattle.analyst.proofs.choosing.chosen_cut.Goals as goal
use Rattle.analyst.proofs.choosing.chosen_cut.Goals.{then-is_none, else-is_none}

pub loop-i-init : goal.loop-i-init
loop-i-init c = record {
  alone = λ k r low at. absurd (omega (arith, low));
  sum = first_none (no_good_of c.args.lib.now c.args.arch.now) c.args.lib.now.requirements;
}

pub returns-then-is_some-clause-chosen : goal.returns-then-is_some-clause-chosen
returns-then-is_some-clause-chosen c =
    let rows = c.requirements-r-items.result.now in
    let at = requirement_at rows c.args.lib.now.requirements c.loop-i.i no_requirement c.requirements-r-items.ensures.rows c.loop-i-test.true in
    let some = sym c.is_some.ensures ∙ c.if-is_some.true in
    by_some c.args.lib.now c.args.arch.now c.redundancy_of-alone.result some
    (returned (redundancy_of c.args.lib.now c.args.arch.now) c.args.lib.now.requirements c.loop-i.i (get_or rows c.loop-i.i no_requirement) c.redundancy_of-alone.result at c.loop-i.invariant.alone some c.redundancy_of-alone.ensures)

pub loop-i-preserved : goal.loop-i-preserved
loop-i-preserved c =
    let rows = c.requirements-r-items.result.now in
    let reqs = c.args.lib.now.requirements in
    let at = requirement_at rows c.args.lib.now.requirements c.loop-i.i no_requirement c.requirements-r-items.ensures.rows c.loop-i-test.true in
    record {
      alone = none_more (redundancy_of c.args.lib.now c.args.arch.now) reqs c.loop-i.i (get_or rows c.loop-i.i no_requirement) c.redundancy_of-alone.result at c.loop-i.invariant.alone (sym c.is_some.ensures ∙ c.if-is_some.false) c.redundancy_of-alone.ensures;
      sum = elim c.if-is_none.branch [
        | then-is_none w ↦ first_step (no_good_of c.args.lib.now c.args.arch.now) reqs c.loop-i.i (get_or rows c.loop-i.i no_requirement) c.loop-i.no_good c.if-is_none.no_good at c.loop-i.invariant.sum
            (c.is_none.ensures ∙ ap not w.if-is_none.true) (w.no_good-is ∙ w.no_good_of-no_good.ensures)
        | else-is_none w ↦ subst (λ (o : Option Cut). IsFirst (no_good_of c.args.lib.now c.args.arch.now) reqs (c.loop-i.i + 1) o) (sym w.no_good-is)
            (first_kept (no_good_of c.args.lib.now c.args.arch.now) reqs c.loop-i.i c.loop-i.no_good c.loop-i.invariant.sum (c.is_none.ensures ∙ ap not w.if-is_none.false))
      ];
    }

pub returns-clause-chosen : goal.returns-clause-chosen
returns-clause-chosen c =
    let reqs = c.args.lib.now.requirements in
    by_sum c.args.lib.now c.args.arch.now c.loop-i.no_good
    (returned_none (redundancy_of c.args.lib.now c.args.arch.now) reqs (λ k r at.
    let short = slice_get_within reqs k r at in
    c.loop-i.invariant.alone k r (omega (arith, short, c.loop-i-test.false, ap length c.requirements-r-items.ensures.rows)) at))
    (first_done (no_good_of c.args.lib.now c.args.arch.now) reqs c.loop-i.i c.loop-i.no_good c.loop-i.invariant.sum (λ k r at.
    let short = slice_get_within reqs k r at in
    omega (arith, short, c.loop-i-test.false, ap length c.requirements-r-items.ensures.rows)))
