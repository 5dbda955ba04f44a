-- What a verdict shows of the bytes of a library and of a log, and which status always comes of `check`.
use Rattle.std.specs.Prelude.{◌≡◌, ℕ, Option, List, ◌⊎◌, Ok, IfSome, MatchResult, filter, length}
use Rattle.arch_model.specs.Parts.{LibraryParts}
use Rattle.lib_read.specs.LibraryOf.{library_of}
use Rattle.search_core.specs.declared.answer.Answer.{Answer}
use Rattle.search_core.specs.declared.answer.Answer.TheVariants.{Optimal, Infeasible, NodeLimit}
use Rattle.search_core.specs.History.{is_branch}
use Rattle.search_core.specs.Solved.{NoneAdmissible}
use Rattle.proof_log.specs.Log.{Accepts}
use Rattle.log_checker.specs.declared.error.No.{No}
use Rattle.log_checker.specs.Yes.{IsCostOfOne, IsLeastCost, last_limit}
use Rattle.archex_app.specs.declared.status.Status.{Status}
use Rattle.archex_app.specs.Status.{status_of, done, library_refused, log_refused, no_memory}
use Rattle.archex_app.specs.Search.{base_problem}
use Rattle.archex_app.specs.Verdict.{IsBroken}
use Rattle.report.specs.Verdict.{yes_text, no_text}

-- an answer is right for a library: some admissible architecture has its cost and none costs less; none is admissible; or the cost that it names is that of an admissible one
abbrev pub IsRight : LibraryParts → Answer → Type 0
IsRight lib (Optimal cost) = IsLeastCost lib cost
IsRight lib Infeasible = NoneAdmissible lib
IsRight lib (NodeLimit incumbent) = IfSome incumbent (IsCostOfOne lib)

-- the bytes are a library and a log that passes for it, and the text says yes, with the log's answer
pub record ShowsYes (lib_bytes log_bytes text : List ℕ) : Type 0 where
  pub lib : LibraryParts
  pub read : library_of lib_bytes ≡ Ok lib
  pub answer : Answer
  pub passes : Accepts (base_problem lib) log_bytes answer
  -- the answer is right for the library, whoever or whatever made the log
  pub right : IsRight lib answer
  -- at the node limit, the log has as many branchings as the last limit that it states
  pub spent : (incumbent : Option ℕ) → answer ≡ NodeLimit incumbent → length (filter is_branch passes.entries) ≡ last_limit passes.limit passes.entries
  pub report : text ≡ yes_text answer

-- the bytes are a library and a log that passes with no answer, and the text says no, with the log's first broken line and the first rule that this breaks
pub record ShowsNo (lib_bytes log_bytes text : List ℕ) : Type 0 where
  pub lib : LibraryParts
  pub read : library_of lib_bytes ≡ Ok lib
  pub refused : No
  pub first : IsBroken lib log_bytes refused
  pub fails : (answer : Answer) → Accepts (base_problem lib) log_bytes answer → ⊥
  pub report : text ≡ no_text refused.line refused.rule

-- which status comes of these bytes: bytes that aren't a library are refused; a log that passes is done, and another is refused
abbrev pub CheckEnds : List ℕ → List ℕ → Status → Type 0
CheckEnds lib_bytes log_bytes status = MatchResult (library_of lib_bytes)
    (λ lib. ((status ≡ status_of done) × (answer : Answer) × Accepts (base_problem lib) log_bytes answer)
    ⊎ ((status ≡ status_of log_refused) × ((answer : Answer) → Accepts (base_problem lib) log_bytes answer → ⊥)))
    (λ _. status ≡ status_of library_refused)

-- that one comes, unless there was no memory
abbrev pub CompletesCheck : List ℕ → List ℕ → Status → Type 0
CompletesCheck lib_bytes log_bytes status = (status ≡ status_of no_memory) ⊎ CheckEnds lib_bytes log_bytes status
