use Rattle.search_core.proofs.CutRows.{right_cuts}
use Rattle.search_core.proofs.Runs.{reached_is_kept}
use Rattle.search_core.proofs.AnswerLaws.{optimal_is_least, infeasible_is_none, limit_is_spent, limit_is_enough}
use Rattle.search_core.proofs.laws.answers_are_right.Goals as goal

pub returns-clause-optimal : goal.returns-clause-optimal
returns-clause-optimal c problem state cost right is reached = optimal_is_least problem state (reached_is_kept problem right is (right_cuts problem.library right) state reached).holds cost

pub returns-clause-infeasible : goal.returns-clause-infeasible
returns-clause-infeasible c problem state right is reached = infeasible_is_none problem state (reached_is_kept problem right is (right_cuts problem.library right) state reached).holds

pub returns-clause-limit : goal.returns-clause-limit
returns-clause-limit c problem state incumbent right is reached answer = (limit_is_spent problem state (reached_is_kept problem right is (right_cuts problem.library right) state reached).holds incumbent answer).0

pub returns-clause-incumbent : goal.returns-clause-incumbent
returns-clause-incumbent c problem state incumbent right is reached answer = (limit_is_spent problem state (reached_is_kept problem right is (right_cuts problem.library right) state reached).holds incumbent answer).1

pub returns-clause-enough : goal.returns-clause-enough
returns-clause-enough c problem state incumbent right is reached far = limit_is_enough problem state (reached_is_kept problem right is (right_cuts problem.library right) state reached).holds far incumbent
