-- How far a log has come, line by line.
use Rattle.std.specs.Prelude.{◌≡◌, ℕ, ◌+◌, ◌-◌, ◌^◌, min, Some}
use Rattle.rows.specs.Parts.{ProblemParts}
use Rattle.search_core.specs.declared.answer.Answer.{Answer}
use Rattle.search_core.specs.State.{SearchState}
use Rattle.search_core.specs.History.{IsReached}
use Rattle.search_core.specs.Answers.{answer_of}

-- no line was fed; the version was; the numbers of members too; all three header lines, and entries that led from the start under their limit to this state; or the closing line as well, with this answer
pub data Phase : Type 0 where
  Begun : Phase
  Versioned : Phase
  Sized : Phase
  Running : SearchState → Phase
  Closed : SearchState → Answer → Phase

-- what contracts see of a checker: its problem, how many lines were fed, up to 2^64 - 1, and how far they have come
pub record CheckerParts : Type 0 where
  pub problem : ProblemParts
  pub lines : ℕ
  pub phase : Phase

-- the number of the line that comes after this many, up to 2^64 - 1
abbrev pub next_line : ℕ → ℕ
next_line lines = min (lines + 1) (2 ^ 64 - 1)

-- some legal history of a problem leads to the state that the entries reached, and a closing answer is that state's
abbrev pub IsPhaseOf : ProblemParts → Phase → Type 0
IsPhaseOf problem Begun = Unit {0}
IsPhaseOf problem Versioned = Unit {0}
IsPhaseOf problem Sized = Unit {0}
IsPhaseOf problem (Running state) = IsReached problem state
IsPhaseOf problem (Closed state answer) = IsReached problem state × (answer_of state ≡ Some answer)

-- the closing line was fed, with this answer
abbrev pub IsClosedWith : Answer → Phase → Type 0
IsClosedWith answer Begun = ⊥
IsClosedWith answer Versioned = ⊥
IsClosedWith answer Sized = ⊥
IsClosedWith answer (Running state) = ⊥
IsClosedWith answer (Closed state a) = a ≡ answer

-- no closing line was fed
abbrev pub IsUnclosed : Phase → Type 0
IsUnclosed phase = (answer : Answer) → IsClosedWith answer phase → ⊥
