-- What a checker has read of a text that comes in pieces.
use Rattle.std.specs.Prelude.{◌≡◌, ℕ, ◌+◌, ◌≤◌, List, ◌++◌, length, take}
use Rattle.proof_log.specs.declared.log_line.TheConstants.{LINE_BYTES}
use Rattle.proof_log.specs.Log.{LOG_BYTES}
use Rattle.log_checker.specs.declared.error.CheckError.{CheckError}
use Rattle.log_checker.specs.declared.error.CheckError.TheVariants.{Memory, No}
use Rattle.log_checker.specs.Phase.{CheckerParts}
use Rattle.log_checker.specs.Text.{HasNoLineFeed, HasRead, FirstBrokenLine}

-- what contracts see of a checker of a text: the checker of its lines, the front that is kept of an unfinished line, and how many bytes were read
pub record TextParts : Type 0 where
  pub checker : CheckerParts
  pub kept : List ℕ
  pub bytes : ℕ

-- a text of at most 2^32 bytes was read: its whole lines, all of which lead on, and a tail with no line feed, whose first 65537 bytes are kept
pub record IsReading (reader : TextParts) (text : List ℕ) : Type 0 where
  pub lines : List (List ℕ)
  pub tail : List ℕ
  pub read : HasRead reader.checker.problem text lines reader.checker.phase tail
  pub none : HasNoLineFeed tail
  pub few : length text ≤ LOG_BYTES
  pub counted : reader.checker.lines ≡ length lines
  pub kept : reader.kept ≡ take (LINE_BYTES + 1) tail
  pub bytes : reader.bytes ≡ length text

-- these bytes were read behind whatever text was
abbrev pub Adds : TextParts → List ℕ → TextParts → Type 0
Adds old piece new = (text : List ℕ) → IsReading old text → IsReading new (text ++ piece)

-- a front of these bytes was read behind whatever text was
pub record AddsFront (old : TextParts) (piece : List ℕ) (new : TextParts) : Type 0 where
  pub front : List ℕ
  pub rest : List ℕ
  pub parts : piece ≡ front ++ rest
  pub adds : Adds old front new

-- an error that names a line and a rule names the first broken line of every text that goes on with these bytes, whatever comes behind them
abbrev pub BreaksBehind : TextParts → List ℕ → CheckError → Type 0
BreaksBehind old piece Memory = Unit {0}
BreaksBehind old piece (No refused) =
    (text more : List ℕ) → IsReading old text → FirstBrokenLine old.checker.problem (text ++ piece ++ more) refused.line refused.rule
