use Rattle.arch_model.specs.Set.{has}
use Rattle.arch_model.proofs.Present.{all_present_more}
use Rattle.arch_model.proofs.Ranges.{blank_edge}
use Rattle.patterns.proofs.Judged.{elsewhere, none_goes_exact, fails, passes}
use Rattle.patterns.proofs.degrees.none_goes.Goals as goal
use Rattle.patterns.proofs.degrees.none_goes.Goals.{then-not-is_allowed, else-not-is_allowed}

pub loop-e-preserved : goal.loop-e-preserved
loop-e-preserved c = all_present_more (elsewhere c.args.tail.0 c.args.head.0) (has c.edges-chosen.result) c.edges-edges.result.now c.loop-e.e blank_edge c.loop-e.none c.if-not-is_allowed.none c.is_allowed.result
    c.loop-e-test.true c.is_allowed.ensures c.loop-e.invariant
    (elim c.if-not-is_allowed.branch [
      | then-not-is_allowed w ↦ fails c.loop-e.none c.is_allowed.result c.if-not-is_allowed.none w.if-not-is_allowed.true w.none-is
      | else-not-is_allowed w ↦ passes c.loop-e.none c.is_allowed.result c.if-not-is_allowed.none w.if-not-is_allowed.false w.none-is
    ])

pub returns : goal.returns
returns c = none_goes_exact c.args.tail c.args.head c.edges-chosen.result c.args.arch.now.edges c.edges-edges.result.now c.args.lib.now.edges c.loop-e.e c.loop-e.none c.loop-e-test.false c.edges-edges.ensures.rows c.edges-chosen.ensures c.loop-e.invariant
