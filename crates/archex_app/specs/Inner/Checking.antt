-- For the code's own contracts: how far a log was read and judged.
use Rattle.std.specs.Prelude.{◌≡◌, ℕ, ◌+◌, Option, List, [], ◌∷◌, Result, Ok, Err, IfSome}
use Rattle.std.specs.Cow.{cow_slice_items}
use Rattle.outside.specs.Faults.{Rose, Stay, ChangesOnly}
use Rattle.rows.specs.Parts.{ProblemParts}
use Rattle.search_core.specs.declared.answer.Answer.{Answer}
use Rattle.log_checker.specs.declared.error.CheckError.{CheckError}
use Rattle.log_checker.specs.declared.error.CheckError.TheVariants as error
use Rattle.log_checker.specs.Text.{FirstBrokenLine}
use Rattle.log_checker.specs.Reading.{TextParts, IsReading}
use Rattle.archex_app.specs.declared.outcome.Outcome.{Outcome}
use Rattle.archex_app.specs.declared.outcome.Stop.{Stop}
use Rattle.archex_app.specs.declared.outcome.Stop.TheVariants.{NoMemory, Unread}
use Rattle.archex_app.specs.declared.check.Halt.{Halt}
use Rattle.archex_app.specs.declared.check.Halt.TheVariants.{Memory, Failed, No}
use Rattle.archex_app.specs.Status.{status_of, done, log_refused}
use Rattle.report.specs.Verdict.{yes_text, no_text}
use Rattle.archex_app.specs.Inner.Reading.{IsFront}

-- a reader stops for the same cause
abbrev pub halt_of : CheckError → Halt
halt_of error.Memory = Memory
halt_of (error.No refused) = No refused

-- a reader has read a front of a log, where its bytes are told
pub record HasFed (told : Option (List ℕ)) (reader : TextParts) : Type 0 where
  pub text : List ℕ
  pub reading : IsReading reader text
  pub front : IsFront told text

-- all of it
pub record HasFedAll (told : Option (List ℕ)) (reader : TextParts) : Type 0 where
  pub text : List ℕ
  pub reading : IsReading reader text
  pub whole : IfSome told (λ all. text ≡ all)

-- so many more bytes of it were read, and 0 only at its end
pub record FeedsOn (told : Option (List ℕ)) (old new : TextParts) (n : ℕ) : Type 0 where
  pub fed : HasFed told new
  pub counted : new.bytes ≡ old.bytes + n
  pub end : n ≡ 0 → HasFedAll told new

-- of the bytes of a log this holds: of those that are told, or where none are, of some
abbrev pub OfBytes : Option (List ℕ) → (List ℕ → Type 0) → Type 0
OfBytes told P = (bytes : List ℕ) × IfSome told (λ all. bytes ≡ all) × P bytes

-- a No names the first broken line of the log
abbrev pub HaltsRight : ProblemParts → Option (List ℕ) → Halt → Type 0
HaltsRight problem told Memory = Unit {0}
HaltsRight problem told Failed = Unit {0}
HaltsRight problem told (No refused) = OfBytes told (λ bytes. FirstBrokenLine problem bytes refused.line refused.rule)

-- where a read failed, the count of the log rose and no other, and else none changed
abbrev pub HaltReads : Halt → List ℕ → (List ℕ → ℕ) → (List ℕ → ℕ) → Type 0
HaltReads Memory name before now = Stay before now
HaltReads Failed name before now = Rose (before name) (now name) × ChangesOnly (name ∷ []) before now
HaltReads (No refused) name before now = Stay before now

-- how a log that was judged, or wasn't, is told
abbrev pub Tells : Result Answer Halt → Result Outcome Stop → Type 0
Tells (Ok answer) (Ok outcome) = (outcome.status ≡ status_of done) × (cow_slice_items outcome.text ≡ yes_text answer)
Tells (Ok answer) (Err stop) = stop ≡ NoMemory
Tells (Err (No refused)) (Ok outcome) = (outcome.status ≡ status_of log_refused) × (cow_slice_items outcome.text ≡ no_text refused.line refused.rule)
Tells (Err (No refused)) (Err stop) = stop ≡ NoMemory
Tells (Err Memory) told = told ≡ Err NoMemory
Tells (Err Failed) told = told ≡ Err Unread
