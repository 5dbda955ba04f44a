-- Each entry so far led to a state of the problem.
use Rattle.search_core.specs.Parts.{IsStateOf}
use Rattle.worker_team.proofs.tests.replaying.replayed.Given as goal

abbrev pub invariant-loop-entry : goal.invariant-loop-entry
invariant-loop-entry g l = IsStateOf l.problem l.state
