use Rattle.std.proofs.lemmas.Result.{on_ok_weaker}
use Rattle.rows.proofs.FreeMembers.{learned}
use Rattle.branch_worker.proofs.tests.learn.Goals as goal

pub returns : goal.returns
returns g c =
    on_ok_weaker c.push.result
    (learned c.args.problem.now.library c.library.result.now c.variable_count-n.result c.args.cuts.now.cuts c.push.new.self.cuts c.args.cut c.plus.result c.minus.result c.variable_count-n.ensures.count c.library.ensures.library c.plus.ensures.plus c.minus.ensures.minus
    (c.is_below.ensures.0 c.if-assert.false) (c.is_below-2.ensures.0 c.if-assert-2.false) c.requires) c.push.ensures.ok
