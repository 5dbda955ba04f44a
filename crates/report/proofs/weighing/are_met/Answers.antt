use Rattle.report.specs.Weighing.{is_met}
use Rattle.report.proofs.TextLaws.{blank_requirement, pair_met, pair_broken, pairs_met}
use Rattle.report.proofs.weighing.are_met.Goals as goal

pub returns-then-not-is_met : goal.returns-then-not-is_met
returns-then-not-is_met c =
    pair_broken (is_met c.args.arch.now) c.requirements-requirement-items.result.now c.args.lib.now.requirements c.args.weights.now c.loop-i.i blank_requirement 0
    c.requirements-requirement-items.ensures.rows c.loop-i-test.true c.requires c.is_met.ensures c.if-not-is_met.true c.loop-i.invariant

pub loop-i-preserved : goal.loop-i-preserved
loop-i-preserved c =
    pair_met (is_met c.args.arch.now) c.requirements-requirement-items.result.now c.args.lib.now.requirements c.args.weights.now c.loop-i.i blank_requirement 0
    c.requirements-requirement-items.ensures.rows c.loop-i-test.true c.requires c.is_met.ensures c.if-not-is_met.false c.loop-i.invariant

pub returns : goal.returns
returns c =
    pairs_met (is_met c.args.arch.now) c.requirements-requirement-items.result.now c.args.lib.now.requirements c.args.weights.now c.loop-i.i
    c.requirements-requirement-items.ensures.rows c.loop-i-test.false c.loop-i.invariant
