use Rattle.search_core.specs.Parts.{IsStateOf}
use Rattle.search_core.proofs.tests.entering.expect_broken.Given as goal

abbrev pub invariant-loop-entry : goal.invariant-loop-entry
invariant-loop-entry g l = IsStateOf l.problem l.state
