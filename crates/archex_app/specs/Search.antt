-- A search of a library, from its start to its answer.
use Rattle.std.specs.Prelude.{◌≡◌, ℕ, List, length, Some}
use Rattle.std.specs.List.{All}
use Rattle.arch_model.specs.Parts.{LibraryParts}
use Rattle.arch_model.specs.Library.{IsLibrary}
use Rattle.rows.specs.Parts.{ProblemParts}
use Rattle.rows.specs.BaseRows.{base_rows_of}
use Rattle.rows.specs.Problem.{IsProblem, problem_parts}
use Rattle.search_core.specs.declared.entry.Entry.{Entry}
use Rattle.search_core.specs.declared.answer.Answer.{Answer}
use Rattle.search_core.specs.State.{SearchState, start_of}
use Rattle.search_core.specs.Step.{NamesWorkerBelow}
use Rattle.search_core.specs.History.{Reaches, HasNoReopen}
use Rattle.search_core.specs.Diligent.{IsDiligent}
use Rattle.search_core.specs.Answers.{answer_of}
use Rattle.proof_log.specs.Log.{log_text_of}

-- a library with its base rows
abbrev pub base_problem : LibraryParts → ProblemParts
base_problem lib = problem_parts lib (base_rows_of lib)

-- a history is a search of a library under a limit of branchings, by so many workers of whom so many are analysts, which leads to a state that has an answer
pub record IsSearch (lib : LibraryParts) (limit workers analysts : ℕ) (entries : List Entry) (state : SearchState) (answer : Answer) : Type 0 where
  -- the library is one, and its base rows decide its patterns
  pub library : IsLibrary lib
  pub problem : IsProblem (base_problem lib)
  -- the history is legal, diligent, changes no limit, and names these workers alone
  pub legal : Reaches (base_problem lib) limit entries state
  pub diligent : IsDiligent (base_problem lib) analysts (start_of limit) entries
  pub no_reopen : HasNoReopen entries
  pub workers_below : All (NamesWorkerBelow workers) entries
  -- the answer is its state's
  pub answers : answer_of state ≡ Some answer

-- the text of the log of a search
abbrev pub search_log : LibraryParts → ℕ → List Entry → SearchState → Answer → List ℕ
search_log lib limit entries state answer = log_text_of (base_problem lib) limit entries answer state.branchings (length state.cuts)
