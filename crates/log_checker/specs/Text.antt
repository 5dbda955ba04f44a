-- The first broken line of a whole text, and the first rule that it breaks.
use Rattle.std.specs.Prelude.{◌≡◌, ◌⊎◌, ℕ, ◌+◌, ◌≤◌, List, [], ◌∷◌, ◌++◌, length}
use Rattle.std.specs.List.{flat_map, All}
use Rattle.rows.specs.Parts.{ProblemParts}
use Rattle.search_core.specs.declared.rule.Rule.{Rule}
use Rattle.search_core.specs.declared.rule.Rule.TheVariants as rule
use Rattle.search_core.specs.Rules.{Breaks}
use Rattle.proof_log.specs.declared.log_line.TheConstants.{LINE_BYTES}
use Rattle.proof_log.specs.Value.{ended}
use Rattle.proof_log.specs.Log.{LOG_BYTES}
use Rattle.log_checker.specs.Phase.{Phase, Begun, IsUnclosed}
use Rattle.log_checker.specs.Feeding.{LinesLead}
use Rattle.log_checker.specs.Breaking.{LineBreaks}

-- the byte of a line feed
abbrev pub LINE_FEED : ℕ
LINE_FEED = 10

-- no line feed stands in these bytes
abbrev pub HasNoLineFeed : List ℕ → Type 0
HasNoLineFeed bytes = All (λ b. b ≡ LINE_FEED → ⊥) bytes

-- the bytes of some lines, each ended by a line feed
abbrev pub bytes_of : List (List ℕ) → List ℕ
bytes_of lines = flat_map ended lines

-- a text is these whole lines and nothing more
pub record IsMadeOf (text : List ℕ) (lines : List (List ℕ)) : Type 0 where
  pub feeds : All HasNoLineFeed lines
  pub parts : text ≡ bytes_of lines

-- a text begins with this line and its line feed
pub record HasLine (text line : List ℕ) : Type 0 where
  pub one : HasNoLineFeed line
  pub more : List ℕ
  pub parts : text ≡ ended line ++ more

-- what a whole line breaks first that begins behind so many bytes of its text: TooLarge where it has a byte past 2^32, and then what it breaks at the phase
abbrev pub WholeBreaks : ProblemParts → Phase → ℕ → List ℕ → Rule → Type 0
WholeBreaks problem phase start line broken = Breaks rule.TooLarge (start + length (ended line) ≤ LOG_BYTES) broken (LineBreaks problem phase line broken)

-- what a last line with no line feed breaks first: TooLarge where it has a byte past 2^32, TooLong where it has more bytes than are read, or End
abbrev pub TailBreaks : ℕ → List ℕ → Rule → Type 0
TailBreaks start tail broken = Breaks rule.TooLarge (start + length tail ≤ LOG_BYTES) broken (Breaks rule.TooLong (length tail ≤ LINE_BYTES) broken (broken ≡ rule.End))

-- the next whole line of a text breaks this rule first
pub record BreaksWhole (problem : ProblemParts) (phase : Phase) (start : ℕ) (rest : List ℕ) (broken : Rule) : Type 0 where
  pub line : List ℕ
  pub next : HasLine rest line
  pub first : WholeBreaks problem phase start line broken

-- a text's last line has no line feed, and breaks this rule first
pub record BreaksTail (start : ℕ) (tail : List ℕ) (broken : Rule) : Type 0 where
  pub none : HasNoLineFeed tail
  pub first : TailBreaks start tail broken

-- what stands behind some whole lines breaks this rule first: the text ends there before a closing line, or goes on with a whole line, or with a last one that has no line feed
abbrev pub RestBreaks : ProblemParts → Phase → ℕ → List ℕ → Rule → Type 0
RestBreaks problem phase start [] broken = IsUnclosed phase × (broken ≡ rule.End)
RestBreaks problem phase start (b ∷ rest) broken = BreaksWhole problem phase start (b ∷ rest) broken ⊎ BreaksTail start (b ∷ rest) broken

-- a text begins with some whole lines, none of which breaks a rule: they lead to a phase, and have no byte past 2^32. None has a line feed within, since what a line says is written without one
pub record HasRead (problem : ProblemParts) (text : List ℕ) (before : List (List ℕ)) (phase : Phase) (rest : List ℕ) : Type 0 where
  pub parts : text ≡ bytes_of before ++ rest
  pub few : length (bytes_of before) ≤ LOG_BYTES
  pub leads : LinesLead problem Begun before phase

-- a text's first broken line has this number, counted from 1, and this is the first rule that it breaks: the whole lines before it break none
pub record FirstBrokenLine (problem : ProblemParts) (text : List ℕ) (number : ℕ) (broken : Rule) : Type 0 where
  pub before : List (List ℕ)
  pub phase : Phase
  pub rest : List ℕ
  pub read : HasRead problem text before phase rest
  pub counted : number ≡ length before + 1
  pub breaks : RestBreaks problem phase (length (bytes_of before)) rest broken
