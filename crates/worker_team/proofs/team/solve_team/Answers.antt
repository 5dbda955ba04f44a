use Rattle.std.proofs.Common.{subst}
use Rattle.std.proofs.lemmas.Result.{IfOk-weaker}
use Rattle.arch_model.specs.Library.{IsLibrary}
use Rattle.worker_team.proofs.SeatLaws.{opened_first, same_out}
use Rattle.worker_team.proofs.Ending.{team_solved, team_never_limited}
use Rattle.worker_team.proofs.team.solve_team.Goals as goal

pub all_work-seat-requires-clause-seat : goal.all_work-seat-requires-clause-seat
all_work-seat-requires-clause-seat g c κs within =
    let new = c.in_ok-pool.ensures in opened_first c.args.problem.now c.in_ok-pool.pool c.args.workers c.in-Ok.seat.view c.in-Ok.ensures.seat new.problem_is new.workers_are c.requires.team.some_workers

pub returns-clause-solved : goal.returns-clause-solved
returns-clause-solved g c =
    let same = same_out c.in_ok-pool.pool c.close.result c.args.workers c.in-Ok.seat.view c.all_work-seat.result.view c.in-Ok.ensures.seat c.all_work-seat.ensures.about c.close.ensures.about in
    IfOk-weaker c.ended.result _ _ (team_solved c.args.problem.now c.args.limit c.args.workers c.args.analysts c.in_ok-pool.pool c.close.result c.in_ok-pool.ensures same c.requires.limit) c.ended.ensures.solved

pub returns-clause-enough : goal.returns-clause-enough
returns-clause-enough g c far =
    let same = same_out c.in_ok-pool.pool c.close.result c.args.workers c.in-Ok.seat.view c.all_work-seat.result.view c.in-Ok.ensures.seat c.all_work-seat.ensures.about c.close.ensures.about in
    let right = subst IsLibrary c.library.ensures.library c.variable_count-count.ensures.library in
    IfOk-weaker
    c.ended.result
    _
    _
    (team_never_limited c.args.problem.now c.args.limit c.args.workers c.args.analysts c.in_ok-pool.pool c.close.result c.in_ok-pool.ensures same right c.library.ensures.problem far)
    c.ended.ensures.solved
