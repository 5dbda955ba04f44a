-- What is said of all runs: which of the four ways a status is, which faults rose, and what stays.
use Rattle.std.proofs.Common.{◌≡◌, ◌≢◌, ℕ, true, false, List, [], Ok, Err, IsErr, Result, refl, sym, ap, subst, ◌∙◌, arith, inl, inr, ◌⊎◌}
use Rattle.std.proofs.lemmas.List.Elements.{Contains-append_left, Contains-append_right}
use Rattle.outside.specs.Faults.{Rose, Stay}
use Rattle.outside.specs.Told.{Appends}
use Rattle.archex_app.specs.declared.status.Status.{Status}
use Rattle.archex_app.specs.Status.{number_of, status_of, words_refused, read_fault, write_fault, no_memory}
use Rattle.archex_app.specs.Endings.{endings_of, MayEnd}
use Rattle.archex_app.specs.Due.{Due}
use Rattle.archex_app.specs.Words.{Asked, files_of, files_read, files_written}
use Rattle.report.specs.Refusal.{refused_words_text}
use Rattle.archex_app.specs.ComesTo.{ComesTo}
use Rattle.archex_app.specs.Run.{Seen, RoseAmong, EndsAsDue, FailsToRead, FailsToWrite, WantsMemory, Runs}
use Rattle.archex_app.proofs.RunLaws.{Ended, apart, not_faults, runs_as}
use Rattle.archex_app.proofs.Within.{same_ending, same_text, no_read, command_within, words_read, words_written}

-- which of the four ways a status is
pub as_due : (Comes : Due → Type 0) (status : Status) (before now : Seen) (n : ℕ) → Ended Comes status before now → status ≡ record { 0 = n } → n ≢ 5 → n ≢ 6 → n ≢ 7 → EndsAsDue Comes status before now
as_due Comes status before now n ended is read write memory = elim ended [
  | inl due ↦ due
  | inr faults ↦ elim faults [
    | inl w ↦ absurd (apart status n 5 is w.ended_so read)
    | inr more ↦ elim more [ inl w ↦ absurd (apart status n 6 is w.ended_so write) | inr w ↦ absurd (apart status n 7 is w.ended_so memory) ]
  ]
]

pub as_read : (Comes : Due → Type 0) (status : Status) (before now : Seen) → Ended Comes status before now → status ≡ record { 0 = 5 } → FailsToRead Comes status before now
as_read Comes status before now ended is = elim ended [
  | inl w ↦ absurd (apart status (number_of w.ending) 5 w.ended_so is (not_faults w.ending w.settled).0)
  | inr faults ↦ elim faults [
    | inl read ↦ read
    | inr more ↦ elim more [ inl w ↦ absurd (apart status 6 5 w.ended_so is (λ e. omega arith)) | inr w ↦ absurd (apart status 7 5 w.ended_so is (λ e. omega arith)) ]
  ]
]

pub as_write : (Comes : Due → Type 0) (status : Status) (before now : Seen) → Ended Comes status before now → status ≡ record { 0 = 6 } → FailsToWrite Comes status before now
as_write Comes status before now ended is = elim ended [
  | inl w ↦ absurd (apart status (number_of w.ending) 6 w.ended_so is (not_faults w.ending w.settled).1)
  | inr faults ↦ elim faults [
    | inl w ↦ absurd (apart status 5 6 w.ended_so is (λ e. omega arith))
    | inr more ↦ elim more [ inl write ↦ write | inr w ↦ absurd (apart status 7 6 w.ended_so is (λ e. omega arith)) ]
  ]
]

pub as_memory : (Comes : Due → Type 0) (status : Status) (before now : Seen) → Ended Comes status before now → status ≡ record { 0 = 7 } → WantsMemory Comes status before now
as_memory Comes status before now ended is = elim ended [
  | inl w ↦ absurd (apart status (number_of w.ending) 7 w.ended_so is (not_faults w.ending w.settled).2)
  | inr faults ↦ elim faults [
    | inl w ↦ absurd (apart status 5 7 w.ended_so is (λ e. omega arith))
    | inr more ↦ elim more [ inl w ↦ absurd (apart status 6 7 w.ended_so is (λ e. omega arith)) | inr memory ↦ memory ]
  ]
]

-- the run of words that ask for a command
pub run_of_words : (command : Result Asked ℕ) (asked : Asked) (status : Status) (before now : Seen) → command ≡ Ok asked → Runs command status before now → Runs (Ok asked) status before now
run_of_words command asked status before now is run = runs_as (Ok asked) command status before now (sym is) run

-- which faults rose
pub read_among : (command : Result Asked ℕ) (status : Status) (before now : Seen) → Runs command status before now → status ≡ status_of read_fault → RoseAmong (files_of files_read command) before.reads now.reads
read_among command status before now run is =
    let read : FailsToRead (ComesTo before.told command) status before now = as_read _ status before now run.goes.ended is in
    (read.name, words_read before.told command read.name read.due, read.rose)

pub write_rose : (command : Result Asked ℕ) (status : Status) (before now : Seen) → Runs command status before now → status ≡ status_of write_fault → Rose before.prints now.prints ⊎ RoseAmong (files_of files_written command) before.writes now.writes
write_rose command status before now run is =
    let write : FailsToWrite (ComesTo before.told command) status before now = as_write _ status before now run.goes.ended is in
    elim write.cause [
      | inl w ↦ inr (w.name, words_written before.told command write.ending write.files write.text w.name write.due w.due, w.rose)
      | inr w ↦ inl w.rose
    ]

pub nothing_among : (before now : List ℕ → ℕ) → RoseAmong [] before now → ⊥
nothing_among before now rose = absurd (omega (arith, rose.1.1))

pub prints_nothing : (command : Result Asked ℕ) (status : Status) (before now : Seen) → Runs command status before now → (status ≡ status_of read_fault) ⊎ (status ≡ status_of no_memory) → now.printed ≡ before.printed
prints_nothing command status before now run is = elim is [
  | inl five ↦ let read : FailsToRead (ComesTo before.told command) status before now = as_read _ status before now run.goes.ended five in read.printed
  | inr seven ↦ let wants : WantsMemory (ComesTo before.told command) status before now = as_memory _ status before now run.goes.ended seven in wants.printed
]

-- where a file couldn't be written, nothing was printed
pub unwritten : (command : Result Asked ℕ) (status : Status) (before now : Seen) → Runs command status before now → status ≡ status_of write_fault → (Rose before.prints now.prints → ⊥) → now.printed ≡ before.printed
unwritten command status before now run is calm =
    let write : FailsToWrite (ComesTo before.told command) status before now = as_write _ status before now run.goes.ended is in
    elim write.cause [ inl at_file ↦ at_file.printed | inr at_text ↦ absurd (calm at_text.rose) ]

-- with which status
pub may_end : (command : Result Asked ℕ) (status : Status) (before now : Seen) → Runs command status before now → MayEnd command status
may_end (Ok asked) status before now run = elim run.goes.ended [
  | inl w ↦ (w.ending, Contains-append_left (endings_of asked) _ w.ending ((command_within before.told asked).ending w.ending w.files w.text w.due), w.ended_so)
  | inr faults ↦ elim faults [
    | inl w ↦ (read_fault, Contains-append_right (endings_of asked) _ read_fault (0, omega arith, refl), w.ended_so)
    | inr more ↦ elim more [
      | inl w ↦ (write_fault, Contains-append_right (endings_of asked) _ write_fault (1, omega arith, refl), w.ended_so)
      | inr w ↦ (no_memory, Contains-append_right (endings_of asked) _ no_memory (2, omega arith, refl), w.ended_so)
    ]
  ]
]
may_end (Err place) status before now run = elim run.goes.ended [
  | inl w ↦ (words_refused, (0, omega arith, refl), w.ended_so ∙ ap status_of (same_ending w.due))
  | inr faults ↦ elim faults [
    | inl w ↦ absurd (no_read w.due)
    | inr more ↦ elim more [ inl w ↦ (write_fault, (1, omega arith, refl), w.ended_so) | inr w ↦ absurd (run.refuses refl w.ended_so) ]
  ]
]

-- words that are refused
pub refused_first : (command : Result Asked ℕ) (status : Status) (before now : Seen) → Runs command status before now → IsErr command → (status ≡ status_of words_refused) ⊎ (status ≡ status_of write_fault)
refused_first (Ok asked) status before now run err = let e : false ≡ true = err in cc
refused_first (Err place) status before now run err = elim run.goes.ended [
  | inl w ↦ inl (w.ended_so ∙ ap status_of (same_ending w.due))
  | inr faults ↦ elim faults [
    | inl w ↦ absurd (no_read w.due)
    | inr more ↦ elim more [ inl w ↦ inr w.ended_so | inr w ↦ absurd (run.refuses refl w.ended_so) ]
  ]
]

pub refused : (command : Result Asked ℕ) (place : ℕ) (status : Status) (before now : Seen) → command ≡ Err place → Runs command status before now → status ≡ status_of words_refused → Appends before.printed now.printed (refused_words_text place)
refused command place status before now is run four =
    let due : EndsAsDue (ComesTo before.told (Err place)) status before now = as_due _ status before now 4 (runs_as (Err place) command status before now (sym is) run).goes.ended four (λ e. omega arith) (λ e. omega arith) (λ e. omega arith) in
    let P : List ℕ → Type 0 = Appends before.printed now.printed in
    subst P (same_text due.due) due.printed

-- counts, and what is told
pub reads_stay : (command : Result Asked ℕ) (status : Status) (before now : Seen) → Runs command status before now → (status ≡ status_of read_fault → ⊥) → Stay before.reads now.reads
reads_stay command status before now run calm = elim run.goes.ended [
  | inl w ↦ w.calm.reads
  | inr faults ↦ elim faults [ inl w ↦ absurd (calm w.ended_so) | inr more ↦ elim more [ inl w ↦ w.reads | inr w ↦ w.calm.reads ] ]
]

pub prints_stay : (command : Result Asked ℕ) (status : Status) (before now : Seen) → Runs command status before now → (status ≡ status_of write_fault → ⊥) → now.prints ≡ before.prints
prints_stay command status before now run calm = elim run.goes.ended [
  | inl w ↦ w.calm.prints
  | inr faults ↦ elim faults [ inl w ↦ w.prints | inr more ↦ elim more [ inl w ↦ absurd (calm w.ended_so) | inr w ↦ w.calm.prints ] ]
]

pub writes_stay : (command : Result Asked ℕ) (status : Status) (before now : Seen) → Runs command status before now → (status ≡ status_of write_fault → ⊥) → Stay before.writes now.writes
writes_stay command status before now run calm = elim run.goes.ended [
  | inl w ↦ w.calm.writes
  | inr faults ↦ elim faults [ inl w ↦ w.writes | inr more ↦ elim more [ inl w ↦ absurd (calm w.ended_so) | inr w ↦ w.calm.writes ] ]
]
