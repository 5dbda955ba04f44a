use Rattle.search_core.proofs.CutRows.{right_cuts}
use Rattle.search_core.proofs.KeptWhole.{start_is_kept}
use Rattle.search_core.proofs.Moves.{step_keeps}
use Rattle.search_core.proofs.Runs.{reached_is_kept}
use Rattle.search_core.proofs.laws.every_step_keeps_the_invariant.Goals as goal

pub returns-clause-start_over : goal.returns-clause-start_over
returns-clause-start_over c problem limit = (start_is_kept problem limit).over

pub returns-clause-start : goal.returns-clause-start
returns-clause-start c problem limit = (start_is_kept problem limit).holds

pub returns-clause-step : goal.returns-clause-step
returns-clause-step c problem old new entry right is over holds step =
    let kept = step_keeps problem right is (right_cuts problem.library right) old entry new (record { over = over; holds = holds }) step in (kept.over, kept.holds)

pub returns-clause-reached_over : goal.returns-clause-reached_over
returns-clause-reached_over c problem state right is reached = (reached_is_kept problem right is (right_cuts problem.library right) state reached).over

pub returns-clause-reached : goal.returns-clause-reached
returns-clause-reached c problem state right is reached = (reached_is_kept problem right is (right_cuts problem.library right) state reached).holds

pub returns-clause-legal : goal.returns-clause-legal
returns-clause-legal c problem limit entries right is legal = (reached_is_kept problem right is (right_cuts problem.library right) legal.0 (limit, entries, legal.1)).holds
