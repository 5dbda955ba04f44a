use Rattle.worker_team.proofs.Agreeing.{same_costs, never_both}
use Rattle.worker_team.proofs.laws.searches_agree.Goals as goal

pub returns-clause-same_cost : goal.returns-clause-same_cost
returns-clause-same_cost c = same_costs

pub returns-clause-infeasible : goal.returns-clause-infeasible
returns-clause-infeasible c = never_both
