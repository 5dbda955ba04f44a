use Rattle.log_checker.proofs.YesLaws.{yes_optimal, yes_infeasible, yes_limit, yes_incumbent}
use Rattle.log_checker.proofs.laws.a_yes_is_right.Goals as goal

pub returns-clause-optimal : goal.returns-clause-optimal
returns-clause-optimal c = yes_optimal

pub returns-clause-infeasible : goal.returns-clause-infeasible
returns-clause-infeasible c = yes_infeasible

pub returns-clause-limit : goal.returns-clause-limit
returns-clause-limit c = yes_limit

pub returns-clause-incumbent : goal.returns-clause-incumbent
returns-clause-incumbent c = yes_incumbent
