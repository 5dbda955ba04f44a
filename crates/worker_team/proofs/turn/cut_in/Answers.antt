use Rattle.std.proofs.Common.{sym, ap, ◌∙◌, slice_get}
use Rattle.worker_team.proofs.TurnLaws.{cut_is_below}
use Rattle.worker_team.proofs.turn.cut_in.Goals as goal

pub returns-clause-below : goal.returns-clause-below
returns-clause-below c =
    let pool = c.problem_in-problem.ensures in
    let at = ap (λ cuts. slice_get cuts c.args.number) (sym c.cuts.ensures.cuts) ∙ c.get.ensures in cut_is_below c.args.pool.now pool.pool pool.right pool.rows c.get.result c.args.number at c.requires
