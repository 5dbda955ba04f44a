use Rattle.search_core.specs.Parts.{IsStateOf}
use Rattle.search_core.proofs.tests.rules.expect_broken_at.Given as goal

abbrev pub invariant-loop-at : goal.invariant-loop-at
invariant-loop-at g l = IsStateOf l.problem l.state
