use Rattle.std.proofs.Common.{subst}
use Rattle.node_pool.proofs.Ready.{ticket_is_candidate}
use Rattle.worker_team.specs.Inner.Turns.{IsWorkOf}
use Rattle.worker_team.proofs.TurnLaws.{ready_with}
use Rattle.worker_team.proofs.turn.take_up.Goals as goal

pub returns-in_ok-catch_up-in-Node-clause-task : goal.returns-in_ok-catch_up-in-Node-clause-task
returns-in_ok-catch_up-in-Node-clause-task c =
    let pool = c.problem_in-problem.ensures in
    let told = subst (IsWorkOf c.args.pool.now c.args.worker) c.in-Node.is c.requires.work in
    ready_with c.args.pool.now pool.pool pool.right pool.rows c.in-Node.ticket told.1 c.catch_up.new.cuts.cuts c.catch_up.ensures.cuts c.in_ok-catch_up-in-Node.ensures.all

pub returns-in-Candidate-clause-task : goal.returns-in-Candidate-clause-task
returns-in-Candidate-clause-task c =
    let pool = c.problem_in-problem.ensures in
    let told = subst (IsWorkOf c.args.pool.now c.args.worker) c.in-Candidate.is c.requires.work in ticket_is_candidate c.args.pool.now pool.right pool.rows pool.pool c.in-Candidate.ticket told.1
