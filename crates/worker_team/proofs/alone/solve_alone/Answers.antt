use Rattle.std.proofs.Common.{subst}
use Rattle.arch_model.specs.Library.{IsLibrary}
use Rattle.worker_team.proofs.Ending.{solved_by, never_limited}
use Rattle.worker_team.proofs.alone.solve_alone.Goals as goal

pub returns-clause-solved : goal.returns-clause-solved
returns-clause-solved c =
    let rounds = c.in_ok-finish_alone.ensures in
    solved_by c.args.problem.now c.args.limit 1 1 c.in_ok-pool.pool c.finish_alone.new.pool c.left_of.result c.in_ok-pool.ensures rounds.same c.left_of.ensures c.requires rounds.rest

pub returns-clause-enough : goal.returns-clause-enough
returns-clause-enough c far =
    let right = subst IsLibrary c.library.ensures.library c.variable_count-count.ensures.library in
    never_limited c.args.problem.now c.args.limit 1 1 c.in_ok-pool.pool c.finish_alone.new.pool c.left_of.result c.in_ok-pool.ensures c.in_ok-finish_alone.ensures.same c.left_of.ensures right c.library.ensures.problem far
