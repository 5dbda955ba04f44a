-- What a line that breaks no rule does.
use Rattle.std.specs.Prelude.{◌≡◌, ℕ, ◌≤◌, List, [], ◌∷◌, length, Some}
use Rattle.rows.specs.Parts.{ProblemParts}
use Rattle.search_core.specs.declared.limits.TheConstants.{BRANCHINGS}
use Rattle.search_core.specs.declared.entry.Entry.{Entry}
use Rattle.search_core.specs.declared.answer.Answer.{Answer}
use Rattle.search_core.specs.State.{SearchState, start_of}
use Rattle.search_core.specs.Step.{Step}
use Rattle.search_core.specs.Answers.{answer_of}
use Rattle.proof_log.specs.declared.log_line.LogLine.{LogLine}
use Rattle.proof_log.specs.declared.log_line.LogLine.TheVariants as lines
use Rattle.proof_log.specs.Value.{log_line, text_of}
use Rattle.proof_log.specs.Log.{IsReadable}
use Rattle.log_checker.specs.Phase.{Phase, Begun, Versioned, Sized, Running, Closed}

-- a line of these bytes says this
pub record SaysLine (bytes : List ℕ) (said : LogLine) : Type 0 where
  pub readable : IsReadable said
  pub text : bytes ≡ text_of (log_line said)

-- the first line states the version
pub record Versions (old new : Phase) : Type 0 where
  pub before : old ≡ Begun
  pub after : new ≡ Versioned

-- the second line states how many components and edges the problem's template has
pub record Sizes (problem : ProblemParts) (old : Phase) (m n : ℕ) (new : Phase) : Type 0 where
  pub before : old ≡ Versioned
  pub components : m ≡ length problem.library.components
  pub edges : n ≡ length problem.library.edges
  pub after : new ≡ Sized

-- the third line states the limit on branchings, at most 100000, under which the search starts
pub record Limits (old : Phase) (limit : ℕ) (new : Phase) : Type 0 where
  pub before : old ≡ Sized
  pub few : limit ≤ BRANCHINGS
  pub after : new ≡ Running (start_of limit)

-- an entry's line is a step from the state that was reached
pub record Enters (problem : ProblemParts) (old : Phase) (entry : Entry) (new : Phase) : Type 0 where
  pub state : SearchState
  pub next : SearchState
  pub before : old ≡ Running state
  pub step : Step problem state entry next
  pub after : new ≡ Running next

-- the answer of a state and the numbers of its branchings and cuts are those of a closing line
pub record IsAnswer (state : SearchState) (stated : Answer) (b k : ℕ) : Type 0 where
  pub answers : answer_of state ≡ Some stated
  pub branchings : b ≡ state.branchings
  pub cuts : k ≡ length state.cuts

-- the closing line states the answer of the state that was reached
pub record Closes (old : Phase) (stated : Answer) (b k : ℕ) (new : Phase) : Type 0 where
  pub state : SearchState
  pub before : old ≡ Running state
  pub answer : IsAnswer state stated b k
  pub after : new ≡ Closed state stated

-- what a line says leads from one phase to the next
abbrev pub Leads : ProblemParts → Phase → LogLine → Phase → Type 0
Leads problem old lines.Version new = Versions old new
Leads problem old (lines.Vars components edges) new = Sizes problem old components edges new
Leads problem old (lines.Limit limit) new = Limits old limit new
Leads problem old (lines.Entry entry) new = Enters problem old entry new
Leads problem old (lines.Closing answer branchings cuts) new = Closes old answer branchings cuts new

-- the bytes of a line lead from one phase to the next
pub record LineLeads (problem : ProblemParts) (old : Phase) (bytes : List ℕ) (new : Phase) : Type 0 where
  pub said : LogLine
  pub says : SaysLine bytes said
  pub leads : Leads problem old said new

-- lines, one after another, lead from one phase to another
abbrev pub LinesLead : ProblemParts → Phase → List (List ℕ) → Phase → Type 0
LinesLead problem old [] new = new ≡ old
LinesLead problem old (line ∷ rest) new = (mid : Phase) × LineLeads problem old line mid × LinesLead problem mid rest new
