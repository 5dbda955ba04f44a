-- The rules that a line breaks, in the order in which they are judged.
use Rattle.std.specs.Prelude.{◌≡◌, ◌⊎◌, ℕ, ◌≤◌, List, length}
use Rattle.rows.specs.Parts.{ProblemParts}
use Rattle.search_core.specs.declared.limits.TheConstants.{BRANCHINGS}
use Rattle.search_core.specs.declared.rule.Rule.{Rule}
use Rattle.search_core.specs.declared.rule.Rule.TheVariants as rule
use Rattle.search_core.specs.State.{SearchState}
use Rattle.search_core.specs.Rules.{Breaks, FirstBroken}
use Rattle.proof_log.specs.declared.log_line.LogLine.{LogLine}
use Rattle.proof_log.specs.declared.log_line.LogLine.TheVariants as lines
use Rattle.proof_log.specs.declared.log_line.LineFault.{LineFault}
use Rattle.proof_log.specs.declared.log_line.LineFault.TheVariants.{Form, Number, Order, TooLong}
use Rattle.proof_log.specs.Fault.{LineBreaksFirst}
use Rattle.log_checker.specs.Phase.{Phase, Begun, Versioned, Sized, Running, Closed, IsUnclosed}
use Rattle.log_checker.specs.Feeding.{SaysLine, IsAnswer}

-- the rule of a fault of a line on its own
abbrev pub rule_of : LineFault → Rule
rule_of Form = rule.Form
rule_of Number = rule.Number
rule_of Order = rule.Order
rule_of TooLong = rule.TooLong

-- a line says an entry or an answer
abbrev pub IsNoHeader : LogLine → Type 0
IsNoHeader lines.Version = ⊥
IsNoHeader (lines.Vars components edges) = ⊥
IsNoHeader (lines.Limit limit) = ⊥
IsNoHeader (lines.Entry entry) = Unit {0}
IsNoHeader (lines.Closing answer branchings cuts) = Unit {0}

-- a line stands where its kind may stand: the first three state the version, the numbers of the problem's components and edges, and a limit of at most 100000, and no such line comes later
abbrev pub IsInPlace : ProblemParts → Phase → LogLine → Type 0
IsInPlace problem Begun said = said ≡ lines.Version
IsInPlace problem Versioned said = said ≡ lines.Vars (length problem.library.components) (length problem.library.edges)
IsInPlace problem Sized said = (limit : ℕ) × (said ≡ lines.Limit limit) × (limit ≤ BRANCHINGS)
IsInPlace problem (Running state) said = IsNoHeader said
IsInPlace problem (Closed state answer) said = IsNoHeader said

-- what a line breaks first behind the header lines: an entry what it breaks at the state, a closing line Answer where it doesn't state that state's
abbrev pub StateBreaks : ProblemParts → SearchState → LogLine → Rule → Type 0
StateBreaks problem state lines.Version first = ⊥
StateBreaks problem state (lines.Vars components edges) first = ⊥
StateBreaks problem state (lines.Limit limit) first = ⊥
StateBreaks problem state (lines.Entry entry) first = FirstBroken problem state entry first
StateBreaks problem state (lines.Closing answer branchings cuts) first = Breaks rule.Answer (IsAnswer state answer branchings cuts) first ⊥

-- what a line in its place breaks first: a header line nothing
abbrev pub PlacedBreaks : ProblemParts → Phase → LogLine → Rule → Type 0
PlacedBreaks problem Begun said first = ⊥
PlacedBreaks problem Versioned said first = ⊥
PlacedBreaks problem Sized said first = ⊥
PlacedBreaks problem (Running state) said first = StateBreaks problem state said first
PlacedBreaks problem (Closed state answer) said first = ⊥

-- the first rule that is broken by what a line says: After where a closing line came before, Header where it isn't in its place, and then those of its kind
abbrev pub SaidBreaks : ProblemParts → Phase → LogLine → Rule → Type 0
SaidBreaks problem phase said first = Breaks rule.After (IsUnclosed phase) first (Breaks rule.Header (IsInPlace problem phase said) first (PlacedBreaks problem phase said first))

-- a rule of a line on its own is broken first
pub record FailsAlone (bytes : List ℕ) (broken : Rule) : Type 0 where
  pub fault : LineFault
  pub first : LineBreaksFirst bytes fault
  pub named : broken ≡ rule_of fault

-- a line breaks no rule on its own, and what it says breaks this rule first
pub record FailsThere (problem : ProblemParts) (phase : Phase) (bytes : List ℕ) (broken : Rule) : Type 0 where
  pub said : LogLine
  pub says : SaysLine bytes said
  pub first : SaidBreaks problem phase said broken

-- the first rule that a line breaks at a phase: TooLong, Form, Number and Order of the line on its own, and then After, Header, and those of its kind
abbrev pub LineBreaks : ProblemParts → Phase → List ℕ → Rule → Type 0
LineBreaks problem phase bytes first = FailsAlone bytes first ⊎ FailsThere problem phase bytes first
