use Rattle.worker_team.proofs.RoundLaws.{history_is_bounded}
use Rattle.worker_team.proofs.rounds.is_within_limit.Goals as goal

pub returns : goal.returns
returns c =
    let pool = c.problem_in-problem.ensures in history_is_bounded c.args.pool.now pool.pool pool.right pool.rows
