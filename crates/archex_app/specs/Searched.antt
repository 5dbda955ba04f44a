-- What a run of `solve` that came to an answer shows: one history of a search, and what holds of it.
use Rattle.std.specs.Prelude.{◌≡◌, ℕ, ◌^◌, ◌<◌, Option, Some, List, ◌∷◌, ◌++◌, ◌⊎◌, filter, length, Ok, IfSome}
use Rattle.std.specs.FinMap.{get}
use Rattle.std.specs.Option.{IsSomeAnd}
use Rattle.outside.specs.Told.{Appends}
use Rattle.arch_model.specs.Parts.{LibraryParts}
use Rattle.arch_model.specs.Member.{member_count}
use Rattle.lib_read.specs.LibraryOf.{library_of}
use Rattle.rows.specs.Parts.{CubeParts}
use Rattle.redundancy_cut.specs.declared.cut.Cut.{Cut}
use Rattle.redundancy_cut.specs.CutRow.{cut_row_of}
use Rattle.search_core.specs.declared.entry.Entry.{Entry}
use Rattle.search_core.specs.declared.entry.Entry.TheVariants.{Publish}
use Rattle.search_core.specs.declared.answer.Answer.{Answer}
use Rattle.search_core.specs.declared.answer.Answer.TheVariants.{Optimal, Infeasible, NodeLimit}
use Rattle.search_core.specs.Node.{Parked}
use Rattle.search_core.specs.State.{SearchState}
use Rattle.search_core.specs.Candidate.{candidate_of}
use Rattle.search_core.specs.Step.{IsStudied}
use Rattle.search_core.specs.History.{Reaches, IsComplete, is_branch}
use Rattle.search_core.specs.Invariant.{IsAdmissibleBest, HoldsInAll}
use Rattle.search_core.specs.Solved.{IsLeastBest, NoneAdmissible}
use Rattle.proof_log.specs.Log.{Accepts}
use Rattle.archex_app.specs.declared.status.Status.{Status}
use Rattle.archex_app.specs.Status.{status_of, done, infeasible, node_limit, ending_of}
use Rattle.archex_app.specs.Words.{SolveWords}
use Rattle.archex_app.specs.Answer.{ShowsRefusal, PrintsFront}
use Rattle.report.specs.Report.{search_report}
use Rattle.archex_app.specs.Search.{base_problem, IsSearch, search_log}

-- a run of `solve` came to an answer: Optimal, Infeasible or NodeLimit
abbrev pub Answered : Status → Type 0
Answered status = (status ≡ status_of done) ⊎ ((status ≡ status_of infeasible) ⊎ (status ≡ status_of node_limit))

-- an entry of a history publishes a cut, after these entries: they lead to a state in which its worker studies a candidate, and the row that the cut says of that holds in every admissible architecture
pub record CutHolds (lib : LibraryParts) (limit : ℕ) (before : List Entry) (worker node : ℕ) (cut : Cut) : Type 0 where
  pub state : SearchState
  pub reached : Reaches (base_problem lib) limit before state
  pub study : IsStudied state worker node
  pub holds : HoldsInAll lib (cut_row_of lib cut (candidate_of lib study.cube))

-- a history made exactly as many branchings as its limit, which is less than the number of vectors over the library's members, and left a parked node
pub record IsLimitSpent (lib : LibraryParts) (limit : ℕ) (entries : List Entry) (state : SearchState) : Type 0 where
  pub spent : length (filter is_branch entries) ≡ limit
  pub short : limit < 2 ^ member_count lib
  pub number : ℕ
  pub cube : CubeParts
  pub parked : get state.nodes number ≡ Some (Parked cube)

-- what a history by a team of workers and analysts shows of a library and a limit, with the state to which it leads and its answer
pub record ShowsAnswer (workers analysts : ℕ) (lib : LibraryParts) (limit : ℕ) (entries : List Entry) (state : SearchState) (answer : Answer) : Type 0 where
  -- the history is legal for the library and the limit, diligent for the team, changes no limit, and the answer is its state's
  pub search : IsSearch lib limit workers analysts entries state answer
  -- where the answer is optimal, the state's best is admissible, has the answer's cost, and nothing admissible costs less
  pub optimal : (cost : ℕ) → answer ≡ Optimal cost → IsSomeAnd state.best (IsLeastBest lib cost)
  -- where it is infeasible, nothing is admissible
  pub none_meets : answer ≡ Infeasible → NoneAdmissible lib
  -- the limit of branchings is the answer only where it was spent
  pub at_limit : (incumbent : Option ℕ) → answer ≡ NodeLimit incumbent → IsLimitSpent lib limit entries state
  -- unless the limit came first, the history is complete: nothing is left that might be searched
  pub complete : ((incumbent : Option ℕ) → answer ≡ NodeLimit incumbent → ⊥) → IsComplete state
  -- whatever the answer, the state's best is admissible
  pub best : IfSome state.best (IsAdmissibleBest lib)
  -- the history's log passes, with the same answer
  pub passes : Accepts (base_problem lib) (search_log lib limit entries state answer) answer
  -- each cut that was published holds in every admissible architecture
  pub cuts_hold : (first rest : List Entry) (worker node : ℕ) (cut : Cut) → entries ≡ first ++ Publish worker node cut ∷ rest
      → CutHolds lib limit first worker node cut

-- what a run shows with these words, whose workers and analysts searched, and this status, from what the shelf told of the library at the start, what it tells of the log at the end, and what was printed before and after
pub record ShowsSearch (ask : SolveWords) (status : Status) (lib_told log_told before now : Option (List ℕ)) : Type 0 where
  -- the library that was read: that of the bytes that the shelf told, or where it told none, of some bytes
  pub bytes : List ℕ
  pub told : IfSome lib_told (λ all. bytes ≡ all)
  pub lib : LibraryParts
  pub read : library_of bytes ≡ Ok lib
  -- one history of it, the state to which it leads, and its answer
  pub entries : List Entry
  pub state : SearchState
  pub answer : Answer
  pub shows : ShowsAnswer ask.workers ask.analysts lib ask.branchings entries state answer
  -- the status is the answer's
  pub ended_so : status ≡ status_of (ending_of answer)
  -- the answer's report was printed, and nothing else
  pub printed : Appends before now (search_report lib state answer)
  -- the bytes under the log's name are the log of this history
  pub log : IfSome log_told (λ log. log ≡ search_log lib ask.branchings entries state answer)

-- a search with these words, by their workers and analysts, of the library that the shelf told, or where it told none, of some library
pub record SomeSearch (ask : SolveWords) (lib_told : Option (List ℕ)) : Type 0 where
  pub bytes : List ℕ
  pub told : IfSome lib_told (λ all. bytes ≡ all)
  pub lib : LibraryParts
  pub read : library_of bytes ≡ Ok lib
  pub entries : List Entry
  pub state : SearchState
  pub answer : Answer
  pub search : IsSearch lib ask.branchings ask.workers ask.analysts entries state answer

-- bytes are the front of the log of such a search
pub record IsLogFront (ask : SolveWords) (lib_told : Option (List ℕ)) (front : List ℕ) : Type 0 where
  pub one : SomeSearch ask lib_told
  pub rest : List ℕ
  pub log : search_log one.lib ask.branchings one.entries one.state one.answer ≡ front ++ rest

-- a run that stopped before its end left under the log's name what stood there, or where its bytes are told, such a front
abbrev pub LeavesLog : SolveWords → Option (List ℕ) → Option (List ℕ) → Option (List ℕ) → Type 0
LeavesLog ask lib_told log_before log_now = (log_now ≡ log_before) ⊎ IfSome log_now (IsLogFront ask lib_told)

-- the log of one such search stands whole under its name, and a front of that search's report was printed
pub record IsReportCut (ask : SolveWords) (lib_told log_told before now : Option (List ℕ)) : Type 0 where
  pub one : SomeSearch ask lib_told
  pub log : IfSome log_told (λ log. log ≡ search_log one.lib ask.branchings one.entries one.state one.answer)
  pub front : List ℕ
  pub rest : List ℕ
  pub report : search_report one.lib one.state one.answer ≡ front ++ rest
  pub printed : Appends before now front

-- a front of the refusal of bytes that are no library was printed, and the log's name keeps its bytes
pub record IsRefusalCut (lib_told log_before log_now before now : Option (List ℕ)) : Type 0 where
  pub refusal : PrintsFront ShowsRefusal lib_told before now
  pub log_stays : log_now ≡ log_before

-- what is left by a run whose text couldn't be printed whole: the one or the other
abbrev pub CutsText : SolveWords → Option (List ℕ) → Option (List ℕ) → Option (List ℕ) → Option (List ℕ) → Option (List ℕ) → Type 0
CutsText ask lib_told log_before log_now before now =
    IsReportCut ask lib_told log_now before now ⊎ IsRefusalCut lib_told log_before log_now before now
