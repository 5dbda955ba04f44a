-- What a finished search leaves.
use Rattle.std.specs.Prelude.{◌≡◌, ℕ, length, Some}
use Rattle.std.specs.List.{All}
use Rattle.rows.specs.Parts.{ProblemParts}
use Rattle.search_core.specs.State.{SearchState, start_of}
use Rattle.search_core.specs.Step.{NamesWorkerBelow}
use Rattle.search_core.specs.History.{Reaches, IsAtRest, HasNoReopen}
use Rattle.search_core.specs.Diligent.{IsDiligent}
use Rattle.search_core.specs.Answers.{answer_of}
use Rattle.worker_team.specs.declared.solved.Solved.{Solved}

-- a search for a problem under a limit of branchings came to its end, with this many workers and analysts: its history is legal, diligent, changes no limit and names these workers alone; it leads to a state at rest; and the answer, the best, and the two numbers are that state's
pub record IsSolved (problem : ProblemParts) (limit workers analysts : ℕ) (solved : Solved) : Type 0 where
  pub state : SearchState
  pub legal : Reaches problem limit solved.history.entries state
  pub diligent : IsDiligent problem analysts (start_of limit) solved.history.entries
  pub no_reopen : HasNoReopen solved.history.entries
  pub workers_below : All (NamesWorkerBelow workers) solved.history.entries
  pub rest : IsAtRest state
  pub answer : answer_of state ≡ Some solved.answer
  pub best : solved.best ≡ state.best
  pub branchings : solved.branchings ≡ state.branchings
  pub cuts : solved.cuts ≡ length state.cuts
