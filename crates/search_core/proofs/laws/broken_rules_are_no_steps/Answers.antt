use Rattle.search_core.proofs.NoStep.{no_step}
use Rattle.search_core.proofs.OneRule.{one_rule}
use Rattle.search_core.proofs.laws.broken_rules_are_no_steps.Goals as goal

pub returns-clause-none : goal.returns-clause-none
returns-clause-none c = no_step

pub returns-clause-one : goal.returns-clause-one
returns-clause-one c = one_rule
