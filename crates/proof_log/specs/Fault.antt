-- The rules that a line on its own may break, and which it breaks first.
use Rattle.std.specs.Prelude.{◌≡◌, ℕ, ◌≤◌, ◌<◌, List, length, Result, Ok, Err}
use Rattle.std.specs.List.{AllByRecursion}
use Rattle.std.specs.Str.Parse.{IsNumeral}
use Rattle.std.specs.Fmt.{decimal}
use Rattle.proof_log.specs.declared.log_line.TheConstants.{LINE_BYTES}
use Rattle.proof_log.specs.declared.log_line.LogLine.{LogLine}
use Rattle.proof_log.specs.declared.log_line.LineFault.{LineFault}
use Rattle.proof_log.specs.declared.log_line.LineFault.TheVariants.{Form, Number, Order, TooLong}
use Rattle.proof_log.specs.declared.log_line.LineError.{LineError}
use Rattle.proof_log.specs.declared.log_line.LineError.TheVariants as errors
use Rattle.proof_log.specs.Field.{EachNumber, HasPairs, Ascends}
use Rattle.proof_log.specs.Line.{Line, line_fields, line_text}

-- each number of a line is written as a run of digits, and its reason has 1 to 64 pairs
abbrev pub IsWritten : Line (List ℕ) → Type 0
IsWritten line = AllByRecursion (λ f. EachNumber (λ low limit ds. IsNumeral 10 ds) f × HasPairs f) (line_fields line)

-- each number of a line is in its range, and its reason has 1 to 64 pairs
abbrev pub IsInRange : Line ℕ → Type 0
IsInRange line = AllByRecursion (λ f. EachNumber (λ low limit n. (low ≤ n) × (n < limit)) f × HasPairs f) (line_fields line)

-- each list of a line ascends
abbrev pub ListsAscend : Line ℕ → Type 0
ListsAscend line = AllByRecursion Ascends (line_fields line)

-- the bytes are a line but for their runs of digits, which stand for any numbers
abbrev pub HasForm : List ℕ → Type 0
HasForm bytes = (line : Line (List ℕ)) × IsWritten line × (bytes ≡ line_text (λ ds. ds) line)

-- the bytes are the text of a line with numbers in range
abbrev pub HasNumbers : List ℕ → Type 0
HasNumbers bytes = (line : Line ℕ) × IsInRange line × (bytes ≡ line_text decimal line)

-- the bytes are the text of a line with numbers in range, whose lists ascend
abbrev pub HasOrder : List ℕ → Type 0
HasOrder bytes = (line : Line ℕ) × IsInRange line × ListsAscend line × (bytes ≡ line_text decimal line)

-- no rule is broken
abbrev pub BreaksNone : List ℕ → Type 0
BreaksNone bytes = (length bytes ≤ LINE_BYTES) × HasOrder bytes

-- the first rule that is broken: the line is too long, or it has no line's form, or a number isn't in its range, or a list doesn't ascend
abbrev pub LineBreaksFirst : List ℕ → LineFault → Type 0
LineBreaksFirst bytes TooLong = LINE_BYTES < length bytes
LineBreaksFirst bytes Form = (length bytes ≤ LINE_BYTES) × ¬ HasForm bytes
LineBreaksFirst bytes Number = (length bytes ≤ LINE_BYTES) × HasForm bytes × ¬ HasNumbers bytes
LineBreaksFirst bytes Order = (length bytes ≤ LINE_BYTES) × HasNumbers bytes × ¬ HasOrder bytes

-- want of memory, or the first rule that is broken
abbrev pub FailsFirst : List ℕ → LineError → Type 0
FailsFirst bytes errors.Memory = Unit {0}
FailsFirst bytes (errors.Fault f) = LineBreaksFirst bytes f

-- the value was read, unless memory ran out
abbrev pub Reads : Result LogLine LineError → LogLine → Type 0
Reads (Ok y) x = y ≡ x
Reads (Err e) x = e ≡ errors.Memory
