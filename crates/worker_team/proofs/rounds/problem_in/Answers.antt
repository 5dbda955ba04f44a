use Rattle.std.proofs.Common.{subst}
use Rattle.arch_model.specs.Library.{IsLibrary}
use Rattle.rows.specs.Parts.{ProblemParts}
use Rattle.rows.specs.Problem.{IsProblem}
use Rattle.worker_team.proofs.rounds.problem_in.Goals as goal

pub returns-clause-right : goal.returns-clause-right
returns-clause-right c =
    let P : ProblemParts → Type 0 = λ p. IsLibrary p.library in
    subst P c.problem-problem.ensures.problem (subst IsLibrary c.library.ensures.library c.variable_count-count.ensures.library)

pub returns-clause-rows : goal.returns-clause-rows
returns-clause-rows c = subst IsProblem c.problem-problem.ensures.problem c.library.ensures.problem
