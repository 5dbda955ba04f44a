-- The clauses of what reads a line, from the definition that reads from left to right.
use Rattle.std.proofs.Common.{◌≡◌, ℕ, ◌≤◌, List, length, refl, sym, ◌∙◌}
use Rattle.std.specs.Prelude.{Result, Ok, Err, IfOk, IfErr}
use Rattle.proof_log.specs.declared.log_line.TheConstants.{LINE_BYTES}
use Rattle.proof_log.specs.declared.log_line.LineFault.{LineFault}
use Rattle.proof_log.specs.declared.log_line.LineError.{LineError}
use Rattle.proof_log.specs.declared.log_line.LineError.TheVariants as errors
use Rattle.proof_log.specs.declared.log_line.LogLine.{LogLine}
use Rattle.proof_log.specs.Line.{Line}
use Rattle.proof_log.specs.Value.{log_line, text_of}
use Rattle.proof_log.specs.Fault.{BreaksNone, FailsFirst, Reads}
use Rattle.proof_log.specs.Log.{IsLoggable}
use Rattle.proof_log.specs.Inner.Reading.{Says, line_of}
use Rattle.proof_log.proofs.Shapes.{Judgement}
use Rattle.proof_log.proofs.FirstFaults.{read_is, read_breaks_none, read_again, fault_is_first}
use Rattle.proof_log.proofs.Spelling.{lists_ascend, same_line_value}

pub value_read : (bytes : List ℕ) (r : Result LogLine LineError) → Says r (line_of bytes) → IfOk r (λ x. IsLoggable x × (bytes ≡ text_of (log_line x)))
value_read bytes (Ok x) g = let t = read_is bytes (log_line x) g.0 in ((t.1, g.1), t.3)
value_read bytes (Err e) g = tt

pub none_broken : (bytes : List ℕ) (r : Result LogLine LineError) → Says r (line_of bytes) → IfOk r (λ x. BreaksNone bytes)
none_broken bytes (Ok x) g = read_breaks_none bytes (log_line x) g.0
none_broken bytes (Err e) g = tt

pub first_broken : (bytes : List ℕ) (r : Result LogLine LineError) → Says r (line_of bytes) → IfErr r (λ e. FailsFirst bytes e)
first_broken bytes (Ok x) g = tt
first_broken bytes (Err errors.Memory) g = tt
first_broken bytes (Err (errors.Fault f)) g = fault_is_first bytes f g

-- an answer of the judgement's type
abbrev ok : Line ℕ → Judgement
ok line = Ok line

abbrev err : LineFault → Judgement
err f = Err f

pub exact_read : (bytes : List ℕ) (r : Result LogLine LineError) → Says r (line_of bytes) → (x : LogLine) → IsLoggable x → bytes ≡ text_of (log_line x) → length bytes ≤ LINE_BYTES → Reads r x
exact_read bytes (Ok y) g x l parts short =
    let same : ok (log_line y) ≡ ok (log_line x) = sym g.0 ∙ read_again bytes (log_line x) short l.0 (lists_ascend x) parts in
    let same_line : log_line y ≡ log_line x = cc in
    same_line_value y x g.1 l.1 same_line
exact_read bytes (Err errors.Memory) g x l parts short = refl
exact_read bytes (Err (errors.Fault f)) g x l parts short = let h : err f ≡ ok (log_line x) = sym g ∙ read_again bytes (log_line x) short l.0 (lists_ascend x) parts in absurd cc
