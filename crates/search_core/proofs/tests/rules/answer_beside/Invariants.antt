use Rattle.search_core.specs.Parts.{IsStateOf}
use Rattle.search_core.proofs.tests.rules.answer_beside.Given as goal

abbrev pub invariant-loop-place : goal.invariant-loop-place
invariant-loop-place g l = IsStateOf l.problem l.state
