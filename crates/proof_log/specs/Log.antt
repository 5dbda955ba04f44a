-- Whole logs: their text, and which of them pass.
use Rattle.std.specs.Prelude.{◌≡◌, ℕ, ◌^◌, ◌≤◌, List, [], ◌∷◌, ◌++◌, map, length, Some}
use Rattle.std.specs.List.{All, flat_map, AllByRecursion}
use Rattle.arch_model.specs.Parts.{LibraryParts}
use Rattle.rows.specs.Parts.{ProblemParts}
use Rattle.search_core.specs.declared.entry.Entry.{Entry}
use Rattle.search_core.specs.declared.answer.Answer.{Answer}
use Rattle.search_core.specs.State.{SearchState}
use Rattle.search_core.specs.History.{Reaches}
use Rattle.search_core.specs.Answers.{answer_of}
use Rattle.proof_log.specs.declared.log_line.TheConstants.{LINE_BYTES}
use Rattle.proof_log.specs.declared.log_line.LogLine.{LogLine}
use Rattle.proof_log.specs.declared.log_line.LogLine.TheVariants as lines
use Rattle.proof_log.specs.Fault.{IsInRange}
use Rattle.proof_log.specs.Value.{log_line, text_of, ended, HasSmallSets}

-- a line that can be logged: its numbers are in range, and its sets hold members of some template
abbrev pub IsLoggable : LogLine → Type 0
IsLoggable x = IsInRange (log_line x) × HasSmallSets x

-- a line that can be logged and has no more bytes than are read
abbrev pub IsReadable : LogLine → Type 0
IsReadable x = IsLoggable x × (length (text_of (log_line x)) ≤ LINE_BYTES)

-- the lines of a log: three header lines, one for each entry, and the closing line
abbrev pub log_lines : ProblemParts → ℕ → List Entry → Answer → ℕ → ℕ → List LogLine
log_lines problem limit entries answer branchings cuts =
    lines.Version
    ∷ lines.Vars (length problem.library.components) (length problem.library.edges)
    ∷ lines.Limit limit
    ∷ (map (λ e. lines.Entry e) entries ++ lines.Closing answer branchings cuts ∷ [])

-- no edge of the template can fail
abbrev pub NoEdgeFails : LibraryParts → Type 0
NoEdgeFails lib = All (λ e. e.fail ≡ 0) lib.edges

-- the text of lines, each ended by a line feed
abbrev pub lines_text : List LogLine → List ℕ
lines_text xs = flat_map (λ x. ended (text_of (log_line x))) xs

-- the text of a whole log
abbrev pub log_text_of : ProblemParts → ℕ → List Entry → Answer → ℕ → ℕ → List ℕ
log_text_of problem limit entries answer branchings cuts = lines_text (log_lines problem limit entries answer branchings cuts)

-- the greatest number of bytes of a log
abbrev pub LOG_BYTES : ℕ
LOG_BYTES = 2 ^ 32

-- a log passes with an answer: some history is legal for the limit that the log states, the state that it leads to has that answer, and the bytes are the text of all that
pub record Accepts (problem : ProblemParts) (bytes : List ℕ) (answer : Answer) : Type 0 where
  pub limit : ℕ
  pub entries : List Entry
  pub state : SearchState
  pub legal : Reaches problem limit entries state
  pub answers : answer_of state ≡ Some answer
  pub text : bytes ≡ log_text_of problem limit entries answer state.branchings (length state.cuts)
  pub readable : AllByRecursion IsReadable (log_lines problem limit entries answer state.branchings (length state.cuts))
  pub few : length bytes ≤ LOG_BYTES
