-- From what came of a command's reads and its job to a run, for all commands.
use Rattle.std.proofs.Common.{◌≡◌, ◌≢◌, ℕ, ◌<◌, ◌≤◌, true, false, nat_lt, Option, Some, None, List, [], take, length, Ok, Err, Result, IfSome, refl, sym, ap, subst, ◌∙◌, arith, inl, inr, ◌⊎◌}
use Rattle.std.proofs.lemmas.List.{take_all, length-take-le}
use Rattle.std.proofs.lemmas.Bool.{ltb-true, ltb-false, lt-ltb}
use Rattle.std.specs.Cow.{cow_slice_items}
use Rattle.std.specs.Prelude.{Contains}
use Rattle.arch_model.specs.Parts.{LibraryParts, ArchitectureParts}
use Rattle.arch_model.proofs.Members.{bool_cases}
use Rattle.outside.specs.Faults.{NeverFall, Stay, ChangesOnly}
use Rattle.lib_read.specs.LibraryOf.{library_of}
use Rattle.lib_read.specs.declared.fault.LibFault.{LibFault}
use Rattle.arch_csv.specs.declared.fault.ArchFault.{ArchFault}
use Rattle.arch_csv.specs.ArchitectureOf.{architecture_of_bytes}
use Rattle.arch_csv.proofs.RecordsRead.{too_large}
use Rattle.archex_app.specs.declared.reading.TheConstants.{READ_LIMIT}
use Rattle.archex_app.specs.declared.outcome.Outcome.{Outcome}
use Rattle.archex_app.specs.declared.outcome.Stop.{Stop}
use Rattle.archex_app.specs.declared.outcome.Stop.TheVariants.{NoMemory, Unread, Refused}
use Rattle.archex_app.specs.declared.status.Status.{Status}
use Rattle.archex_app.specs.Status.{Ending, number_of, status_of, done, infeasible, node_limit, library_refused, words_refused, read_fault, write_fault, no_memory, log_refused, architecture_refused}
use Rattle.archex_app.specs.Due.{Due, ends, IsSettled}
use Rattle.archex_app.specs.Words.{Asked, files_read, files_written}
use Rattle.report.specs.Refusal.{refused_words_text}
use Rattle.archex_app.specs.ComesTo.{EndsWith, CommandComesTo}
use Rattle.archex_app.specs.Run.{Seen, HoldsAll, EndsAsDue, FailsToRead, FailsToWrite, WantsMemory, IsRun, Runs}
use Rattle.archex_app.specs.Inner.Outcome.{Settles, Printed, Finishes, IsRead}
use Rattle.archex_app.proofs.Within.{Within, only_one, command_within}

-- two texts that are both too long have one fault
same_refusal : (read all : List ℕ) → 1048576 < length read → 1048576 < length all → library_of all ≡ library_of read
unfolding library_of
same_refusal read all long longer = rw (lt-ltb 1048576 (length read) long, lt-ltb 1048576 (length all) longer) refl

-- where all bytes that are too many mean the same, the front that was read means what all bytes do
same_meaning : {T E : Type 0} (of : List ℕ → Result T E) → ((read all : List ℕ) → 1048576 < length read → 1048576 < length all → of all ≡ of read) → (read all : List ℕ) → read ≡ take READ_LIMIT all → of all ≡ of read
same_meaning of too_long read all front =
    elim (bool_cases (nat_lt 1048576 (length all))) [
      | inl long ↦
          let longer : 1048576 < length all = ltb-true 1048576 (length all) long in
          let enough : READ_LIMIT ≤ length all = omega arith in
          let size : length read ≡ READ_LIMIT = ap length front ∙ length-take-le READ_LIMIT all enough in
          let over : 1048576 < length read = omega arith in
          too_long read all over longer
      | inr short ↦
          let fits : length all ≤ 1048576 = ltb-false 1048576 (length all) short in
          let within : length all ≤ READ_LIMIT = omega arith in
          ap of (sym (take_all READ_LIMIT all within) ∙ sym front)
    ]

read_as : {T E : Type 0} (of : List ℕ → Result T E) → ((read all : List ℕ) → 1048576 < length read → 1048576 < length all → of all ≡ of read) → (told : Option (List ℕ)) (read : List ℕ) (answer : Result T E) → IfSome told (λ all. read ≡ take READ_LIMIT all) → of read ≡ answer → IsRead of told answer
read_as of too_long None read answer front is = record { bytes = read; read = tt; is = is }
read_as of too_long (Some all) read answer front is = record { bytes = all; read = refl; is = same_meaning of too_long read all front ∙ is }

pub library_read : (told : Option (List ℕ)) (read : List ℕ) (answer : Result LibraryParts LibFault) → IfSome told (λ all. read ≡ take READ_LIMIT all) → library_of read ≡ answer → IsRead library_of told answer
library_read told read answer front is = read_as library_of same_refusal told read answer front is

pub architecture_read : (lib : LibraryParts) (told : Option (List ℕ)) (read : List ℕ) (answer : Result ArchitectureParts ArchFault) → IfSome told (λ all. read ≡ take READ_LIMIT all) → architecture_of_bytes lib read ≡ answer → IsRead (architecture_of_bytes lib) told answer
architecture_read lib told read answer front is = read_as (architecture_of_bytes lib) (λ some all long longer. too_large lib all longer ∙ sym (too_large lib some long)) told read answer front is

-- one status has one number
pub apart : (status : Status) (m n : ℕ) → status ≡ record { 0 = m } → status ≡ record { 0 = n } → m ≢ n → ⊥
apart status m n e f ne = ne (ap (λ (s : Status). s.0) (sym e ∙ f))

-- what is due is no fault of the outside
pub not_faults : (ending : Ending) → IsSettled ending → (number_of ending ≢ 5) × (number_of ending ≢ 6) × (number_of ending ≢ 7)
not_faults done settled = (λ e. omega arith, λ e. omega arith, λ e. omega arith)
not_faults infeasible settled = (λ e. omega arith, λ e. omega arith, λ e. omega arith)
not_faults node_limit settled = (λ e. omega arith, λ e. omega arith, λ e. omega arith)
not_faults library_refused settled = (λ e. omega arith, λ e. omega arith, λ e. omega arith)
not_faults words_refused settled = (λ e. omega arith, λ e. omega arith, λ e. omega arith)
not_faults read_fault settled = absurd settled
not_faults write_fault settled = absurd settled
not_faults no_memory settled = absurd settled
not_faults log_refused settled = (λ e. omega arith, λ e. omega arith, λ e. omega arith)
not_faults architecture_refused settled = (λ e. omega arith, λ e. omega arith, λ e. omega arith)

-- four ways to end
abbrev pub Ended : (Due → Type 0) → Status → Seen → Seen → Type 0
Ended Comes status before now = EndsAsDue Comes status before now ⊎ (FailsToRead Comes status before now ⊎ (FailsToWrite Comes status before now ⊎ WantsMemory Comes status before now))

-- nothing is due of files, and none changed
no_files : (before now : Seen) → ((name : List ℕ) → now.told name ≡ before.told name) → HoldsAll [] before now
no_files before now told = record { whole = λ k d short. absurd (omega arith); others = λ name none. told name }

-- a text without files is printed, over a shelf that stayed as it was
ends_printed : (Comes : Due → Type 0) (ending : Ending) (text : List ℕ) (due status : Status) (before now : Seen) → IsSettled ending → due ≡ status_of ending → Comes (ends ending [] text) → ((name : List ℕ) → now.told name ≡ before.told name)
    → Stay before.reads now.reads → Stay before.writes now.writes → Printed due text status before.printed now.printed before.prints now.prints → Ended Comes status before now
ends_printed Comes ending text due status before now settled is comes told reads writes printed = elim printed [
  | inl whole ↦ inl (record {
    ending = ending;
    settled = settled;
    ended_so = whole.0 ∙ is;
    files = [];
    text = text;
    due = comes;
    printed = whole.1;
    holds = no_files before now told;
    calm = record { reads = reads; writes = writes; prints = whole.2 };
  })
  | inr part ↦ inr (inr (inl (record {
    ended_so = part.0;
    ending = ending;
    files = [];
    text = text;
    due = comes;
    cause = inr (record { rose = part.1; writes = writes; printed = part.2; holds = no_files before now told });
    reads = reads;
  })))
]

ends_so : (Comes : Due → Type 0) (r : Result Outcome Stop) (status : Status) (before now : Seen) → Settles Comes r before.reads now.reads → Finishes r status before.printed now.printed before.prints now.prints
    → ((name : List ℕ) → now.told name ≡ before.told name) → Stay before.writes now.writes → Ended Comes status before now
ends_so Comes (Ok outcome) status before now settles finishes told writes =
    ends_printed Comes settles.0.ending (cow_slice_items outcome.text) outcome.status status before now settles.0.settled settles.0.ended_so settles.0.due told settles.1 writes finishes
ends_so Comes (Err (Refused outcome)) status before now settles finishes told writes =
    ends_printed Comes settles.0.ending (cow_slice_items outcome.text) outcome.status status before now settles.0.settled settles.0.ended_so settles.0.due told settles.1 writes finishes
ends_so Comes (Err Unread) status before now settles finishes told writes = inr (inl (record {
  ended_so = finishes.0;
  name = settles.0;
  due = settles.1;
  rose = settles.2;
  reads = settles.3;
  writes = writes;
  prints = finishes.2;
  printed = finishes.1;
  kept = told;
}))
ends_so Comes (Err NoMemory) status before now settles finishes told writes = inr (inr (inr (record {
  ended_so = finishes.0;
  printed = finishes.1;
  holds = inl told;
  calm = record { reads = settles; writes = writes; prints = finishes.2 };
})))

run_of : (Comes : Due → Type 0) (read written : List (List ℕ)) (status : Status) (before now : Seen) → Ended Comes status before now → ((name : List ℕ) → now.told name ≡ before.told name)
    → ChangesOnly read before.reads now.reads → NeverFall before.reads now.reads → Stay before.writes now.writes → before.prints ≤ now.prints → IsRun Comes read written status before now
run_of Comes read written status before now ended told alone rise writes prints = record {
  ended = ended;
  reads_alone = alone;
  writes_alone = λ other. inl (writes other);
  kept = λ name none. told name;
  reads_never_fall = rise;
  writes_never_fall = λ other. let e = writes other in omega arith;
  never_falls = prints;
}

-- no other read count changes than those of files that may be read
reads_alone : (Comes : Due → Type 0) (endings : List Ending) (read written : List (List ℕ)) (r : Result Outcome Stop) (before now : List ℕ → ℕ) → Within Comes endings read written → Settles Comes r before now → ChangesOnly read before now
reads_alone Comes endings read written (Ok outcome) before now within settles = λ other. inl (settles.1 other)
reads_alone Comes endings read written (Err (Refused outcome)) before now within settles = λ other. inl (settles.1 other)
reads_alone Comes endings read written (Err Unread) before now within settles = λ other. elim (settles.3 other) [
  | inl same ↦ inl same
  | inr one ↦ let P : List ℕ → Type 0 = Contains read in inr (one.0, subst P (sym (only_one settles.0 one.0 one.1)) (within.read settles.0 settles.1), one.2, one.3)
]
reads_alone Comes endings read written (Err NoMemory) before now within settles = λ other. inl (settles other)

-- a command that reads and prints: a run from what came and how it was finished
pub finished : (asked : Asked) (r : Result Outcome Stop) (status : Status) (before now : Seen) → Settles (CommandComesTo before.told asked) r before.reads now.reads
    → Finishes r status before.printed now.printed before.prints now.prints → ((name : List ℕ) → now.told name ≡ before.told name) → NeverFall before.reads now.reads
    → Stay before.writes now.writes → before.prints ≤ now.prints → Runs (Ok asked) status before now
finished asked r status before now settles finishes told rise writes prints = record {
  goes = run_of (CommandComesTo before.told asked) (files_read asked) (files_written asked) status before now (ends_so _ r status before now settles finishes told writes) told
      (reads_alone (CommandComesTo before.told asked) _ _ _ r before.reads now.reads (command_within before.told asked) settles) rise writes prints;
  refuses = λ err. let e : false ≡ true = err in cc;
}

-- refused words: over a shelf that stayed as it was
printed_not : (text : List ℕ) (status : Status) (before now : Option (List ℕ)) (p q : ℕ) → Printed (status_of words_refused) text status before now p q → status ≡ status_of no_memory → ⊥
printed_not text status before now p q printed seven = elim printed [
  | inl whole ↦ apart status 4 7 whole.0 seven (λ e. omega arith)
  | inr part ↦ apart status 6 7 part.0 seven (λ e. omega arith)
]

pub refused_run : (place : ℕ) (status : Status) (before now : Seen) → Printed (status_of words_refused) (refused_words_text place) status before.printed now.printed before.prints now.prints → ((name : List ℕ) → now.told name ≡ before.told name)
    → Stay before.reads now.reads → Stay before.writes now.writes → before.prints ≤ now.prints → Runs (Err place) status before now
refused_run place status before now printed told reads writes prints = record {
  goes = run_of _ [] [] status before now (ends_printed (EndsWith words_refused (refused_words_text place)) words_refused (refused_words_text place) (status_of words_refused) status before now tt refl refl told reads writes printed) told
      (λ other. inl (reads other)) (λ other. let e = reads other in omega arith) writes prints;
  refuses = λ err. printed_not (refused_words_text place) status before.printed now.printed before.prints now.prints printed;
}

-- the words' command
pub runs_as : (command read : Result Asked ℕ) (status : Status) (before now : Seen) → command ≡ read → Runs read status before now → Runs command status before now
runs_as command read status before now is run = let P : Result Asked ℕ → Type 0 = λ r. Runs r status before now in subst P (sym is) run
