use Rattle.search_core.proofs.Determined.{step_is_determined, steps_are_determined}
use Rattle.search_core.proofs.laws.steps_are_determined.Goals as goal

pub returns-clause-step : goal.returns-clause-step
returns-clause-step c = step_is_determined

pub returns-clause-steps : goal.returns-clause-steps
returns-clause-steps c = steps_are_determined
