-- What a run of `generate` shows: what `solve` shows over the text of the number.
use Rattle.std.specs.Prelude.{◌≡◌, ℕ, Option, Some, List, ◌++◌, ◌⊎◌, Ok, IfSome}
use Rattle.outside.specs.Told.{Appends}
use Rattle.arch_model.specs.Parts.{LibraryParts}
use Rattle.generate.specs.Generated.{library_text}
use Rattle.lib_read.specs.LibraryOf.{library_of}
use Rattle.search_core.specs.declared.limits.TheConstants.{BRANCHINGS}
use Rattle.search_core.specs.declared.entry.Entry.{Entry}
use Rattle.search_core.specs.declared.answer.Answer.{Answer}
use Rattle.search_core.specs.State.{SearchState}
use Rattle.report.specs.Summary.{generated_text}
use Rattle.archex_app.specs.declared.status.Status.{Status}
use Rattle.archex_app.specs.Status.{status_of, ending_of}
use Rattle.archex_app.specs.Words.{SolveWords, GenerateWords}
use Rattle.archex_app.specs.Search.{search_log}
use Rattle.archex_app.specs.Files.{IsWhole, IsFrontOf}
use Rattle.archex_app.specs.ComesTo.{ALONE}
use Rattle.archex_app.specs.Searched.{ShowsAnswer, SomeSearch, LeavesLog}

-- what `solve` would be asked for over the file that is written, with the greatest limit of branchings
abbrev pub solving : GenerateWords → SolveWords
solving ask = record { lib = ask.file; log = ask.log; branchings = BRANCHINGS; workers = ALONE; analysts = ALONE }

-- the text of the number
abbrev pub made_text : GenerateWords → List ℕ
made_text ask = library_text ask.number ask.size

-- what a run shows with these words and this status: the text of the number is a library, and stands under its name; of one history of a search of that all is shown that `solve` shows, and its log stands under the log's name; and the answer's summary was printed, and nothing else
pub record ShowsGenerated (ask : GenerateWords) (status : Status) (file_told log_told before now : Option (List ℕ)) : Type 0 where
  pub lib : LibraryParts
  pub read : library_of (made_text ask) ≡ Ok lib
  pub file : IfSome file_told (λ bytes. bytes ≡ made_text ask)
  pub entries : List Entry
  pub state : SearchState
  pub answer : Answer
  pub shows : ShowsAnswer ALONE ALONE lib BRANCHINGS entries state answer
  pub log : IfSome log_told (λ log. log ≡ search_log lib BRANCHINGS entries state answer)
  pub ended_so : status ≡ status_of (ending_of answer)
  pub printed : Appends before now (generated_text lib answer)

-- what a run left under its names that stopped before its end: under the library's what stood there or a front of the text of the number, and under the log's what stood there; or the text whole, and under the log's what stood there or the front of a log of a search of that
abbrev pub LeavesGenerated : GenerateWords → Option (List ℕ) → Option (List ℕ) → Option (List ℕ) → Option (List ℕ) → Type 0
LeavesGenerated ask file_before file_now log_before log_now =
    (IsFrontOf file_before file_now (made_text ask) × (log_now ≡ log_before))
    ⊎ (IsWhole file_now (made_text ask) × LeavesLog (solving ask) (Some (made_text ask)) log_before log_now)

-- both files stand whole, and a front of the summary was printed
pub record CutsSummary (ask : GenerateWords) (file_told log_told before now : Option (List ℕ)) : Type 0 where
  pub one : SomeSearch (solving ask) (Some (made_text ask))
  pub file : IfSome file_told (λ bytes. bytes ≡ made_text ask)
  pub log : IfSome log_told (λ log. log ≡ search_log one.lib BRANCHINGS one.entries one.state one.answer)
  pub front : List ℕ
  pub rest : List ℕ
  pub summary : generated_text one.lib one.answer ≡ front ++ rest
  pub printed : Appends before now front
