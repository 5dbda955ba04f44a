-- What a run of `generate` says, from what is said of all runs.
use Rattle.std.proofs.Common.{◌≡◌, ◌≢◌, ℕ, Some, List, [], ◌∷◌, Ok, IfSome, refl, sym, ap, subst, ◌∙◌, arith, inl, inr, ◌⊎◌}
use Rattle.std.specs.Prelude.{Contains, Result, MatchResult}
use Rattle.arch_model.specs.Parts.{LibraryParts}
use Rattle.lib_read.specs.declared.fault.LibFault.{LibFault}
use Rattle.outside.specs.Faults.{Rose}
use Rattle.outside.specs.Told.{Appends}
use Rattle.generated.specs.GeneratedLibrary.{generated_library}
use Rattle.search_core.specs.declared.limits.TheConstants.{BRANCHINGS}
use Rattle.archex_app.specs.declared.status.Status.{Status}
use Rattle.archex_app.specs.Status.{Ending, status_of, write_fault, no_memory}
use Rattle.archex_app.specs.Due.{ends}
use Rattle.archex_app.specs.Words.{GenerateWords, generate}
use Rattle.archex_app.specs.Search.{search_log}
use Rattle.archex_app.specs.Searched.{Answered, SomeSearch}
use Rattle.archex_app.specs.Generated.{solving, made_text, ShowsGenerated, LeavesGenerated, CutsSummary}
use Rattle.archex_app.specs.Complete.{Solves, CompletesGeneration}
use Rattle.archex_app.specs.ComesTo.{ComesTo, GenerationComesTo}
use Rattle.archex_app.specs.Files.{names_of, IsWhole, IsFrontOf}
use Rattle.archex_app.specs.Run.{Seen, EndsAsDue, FailsToWrite, FailsAtText, HoldsAll, HoldsUpTo, WantsMemory, Runs}
use Rattle.archex_app.proofs.Within.{same_ending, same_files, same_text, either_name}
use Rattle.archex_app.proofs.AllRuns.{as_due, as_write, as_memory}
use Rattle.archex_app.proofs.Headline.{shows_answer_of, left_by, whole_front, solves}
use Rattle.archex_app.proofs.OverFiles.{unless_no_memory}

-- what it ends as is some search of the text of the number
abbrev one_made : (ask : GenerateWords) (ending : Ending) (files : List (List ℕ × List ℕ)) (text : List ℕ) → GenerationComesTo ask (ends ending files text) → SomeSearch (solving ask) (Some (made_text ask))
one_made ask ending files text w = record {
  bytes = made_text ask;
  told = refl;
  lib = generated_library ask.number ask.size;
  read = w.0;
  entries = w.1;
  state = w.2;
  answer = w.3;
  search = w.4;
}

-- the log of that search
abbrev its_log : (ask : GenerateWords) (ending : Ending) (files : List (List ℕ × List ℕ)) (text : List ℕ) → GenerationComesTo ask (ends ending files text) → List ℕ
its_log ask ending files text w = search_log (generated_library ask.number ask.size) BRANCHINGS w.1 w.2 w.3

-- two files that hold what is due
both_hold : (file log text entries : List ℕ) (files : List (List ℕ × List ℕ)) (before now : Seen) → files ≡ (file, text) ∷ (log, entries) ∷ [] → HoldsAll files before now → IfSome (now.told file) (λ bytes. bytes ≡ text) × IfSome (now.told log) (λ bytes. bytes ≡ entries)
both_hold file log text entries files before now are holds =
    let P : List (List ℕ × List ℕ) → Type 0 = λ fs. HoldsAll fs before now in
    let two : HoldsAll ((file, text) ∷ (log, entries) ∷ []) before now = subst P are holds in
    (two.whole 0 (file, text) (omega arith), two.whole 1 (log, entries) (omega arith))

-- two files that were written one after another, up to one of them
both_cut : (file log text entries : List ℕ) (files : List (List ℕ × List ℕ)) (at : List ℕ) (before now : Seen) → files ≡ (file, text) ∷ (log, entries) ∷ [] → HoldsUpTo at files before now
    → (IsFrontOf (before.told file) (now.told file) text × (now.told log ≡ before.told log)) ⊎ (IsWhole (now.told file) text × IsFrontOf (before.told log) (now.told log) entries)
both_cut file log text entries files at before now are holds =
    let P : List (List ℕ × List ℕ) → Type 0 = λ fs. HoldsUpTo at fs before now in
    let two : HoldsUpTo at ((file, text) ∷ (log, entries) ∷ []) before now = subst P are holds in
    elim two.cut [
      | inl w ↦ inl (w.1, w.2 0 (log, entries) (omega arith))
      | inr w ↦ elim w.1 [ inl v ↦ inr (w.0, v.1) | inr v ↦ absurd v.1 ]
    ]

abbrev Its : GenerateWords → Status → Seen → Seen → Type 0
Its ask status before now = Runs (Ok (generate ask)) status before now

abbrev Came : GenerateWords → Status → Seen → Seen → Type 0
Came ask status before now = EndsAsDue (ComesTo before.told (Ok (generate ask))) status before now

-- an answer
made_from : (ask : GenerateWords) (status : Status) (before now : Seen) → Came ask status before now → ShowsGenerated ask status (now.told ask.file) (now.told ask.log) before.printed now.printed
made_from ask status before now due =
    let w : GenerationComesTo ask (ends due.ending due.files due.text) = due.due in
    let held = both_hold ask.file ask.log (made_text ask) (its_log ask due.ending due.files due.text w) due.files before now (same_files w.5) due.holds in
    let P : List ℕ → Type 0 = Appends before.printed now.printed in
    record {
      lib = generated_library ask.number ask.size;
      read = w.0;
      file = held.0;
      entries = w.1;
      state = w.2;
      answer = w.3;
      shows = shows_answer_of (solving ask) (Some (made_text ask)) (one_made ask due.ending due.files due.text w);
      log = held.1;
      ended_so = due.ended_so ∙ ap status_of (same_ending w.5);
      printed = subst P (same_text w.5) due.printed;
    }

made_as : (n : ℕ) (ask : GenerateWords) (status : Status) (before now : Seen) → Its ask status before now → status ≡ record { 0 = n } → n ≢ 5 → n ≢ 6 → n ≢ 7 → ShowsGenerated ask status (now.told ask.file) (now.told ask.log) before.printed now.printed
made_as n ask status before now run is five six seven = made_from ask status before now (as_due _ status before now n run.goes.ended is five six seven)

pub generated : (ask : GenerateWords) (status : Status) (before now : Seen) → Its ask status before now → Answered status → ShowsGenerated ask status (now.told ask.file) (now.told ask.log) before.printed now.printed
generated ask status before now run answered = elim answered [
  | inl is ↦ made_as 0 ask status before now run is (λ e. omega arith) (λ e. omega arith) (λ e. omega arith)
  | inr more ↦ elim more [
    | inl is ↦ made_as 1 ask status before now run is (λ e. omega arith) (λ e. omega arith) (λ e. omega arith)
    | inr is ↦ made_as 2 ask status before now run is (λ e. omega arith) (λ e. omega arith) (λ e. omega arith)
  ]
]

-- a stop
abbrev Leaves : GenerateWords → Seen → Seen → Type 0
Leaves ask before now = LeavesGenerated ask (before.told ask.file) (now.told ask.file) (before.told ask.log) (now.told ask.log)

left_by_cut : (ask : GenerateWords) (before now : Seen) (ending : Ending) (files : List (List ℕ × List ℕ)) (text : List ℕ) → GenerationComesTo ask (ends ending files text) → (at : List ℕ) → HoldsUpTo at files before now → Leaves ask before now
left_by_cut ask before now ending files text w at holds =
    elim (both_cut ask.file ask.log (made_text ask) (its_log ask ending files text w) files at before now (same_files w.5) holds) [
      | inl first ↦ inl first
      | inr second ↦ inr (second.0, left_by (solving ask) (Some (made_text ask)) (before.told ask.log) (now.told ask.log) (one_made ask ending files text w) second.1)
    ]

left_by_all : (ask : GenerateWords) (before now : Seen) (ending : Ending) (files : List (List ℕ × List ℕ)) (text : List ℕ) → GenerationComesTo ask (ends ending files text) → HoldsAll files before now → Leaves ask before now
left_by_all ask before now ending files text w holds =
    let held = both_hold ask.file ask.log (made_text ask) (its_log ask ending files text w) files before now (same_files w.5) holds in
    inr (held.0, left_by (solving ask) (Some (made_text ask)) (before.told ask.log) (now.told ask.log) (one_made ask ending files text w) (inr (whole_front (now.told ask.log) (its_log ask ending files text w) held.1)))

left_by_write : (ask : GenerateWords) (status : Status) (before now : Seen) → FailsToWrite (ComesTo before.told (Ok (generate ask))) status before now → Leaves ask before now
left_by_write ask status before now w = elim w.cause [
  | inl at_file ↦ left_by_cut ask before now w.ending w.files w.text w.due at_file.name at_file.holds
  | inr at_text ↦ left_by_all ask before now w.ending w.files w.text w.due at_text.holds
]

nothing_left : (ask : GenerateWords) (before now : Seen) → ((name : List ℕ) → now.told name ≡ before.told name) → Leaves ask before now
nothing_left ask before now same = inl (inl (same ask.file), same ask.log)

left_by_memory : (ask : GenerateWords) (status : Status) (before now : Seen) → WantsMemory (ComesTo before.told (Ok (generate ask))) status before now → Leaves ask before now
left_by_memory ask status before now w = elim w.holds [ inl same ↦ nothing_left ask before now same | inr part ↦ left_by_cut ask before now part.0 part.1 part.2 part.3 part.4 part.5 ]

pub stopped : (ask : GenerateWords) (status : Status) (before now : Seen) → Its ask status before now → (status ≡ status_of write_fault) ⊎ (status ≡ status_of no_memory) → Leaves ask before now
stopped ask status before now run is = elim is [
  | inl six ↦ left_by_write ask status before now (as_write _ status before now run.goes.ended six)
  | inr seven ↦ left_by_memory ask status before now (as_memory _ status before now run.goes.ended seven)
]

-- where both files could be written and the text not, they stand whole
cut_at : (ask : GenerateWords) (before now : Seen) (ending : Ending) (files : List (List ℕ × List ℕ)) (text : List ℕ) → GenerationComesTo ask (ends ending files text) → FailsAtText files text before now → CutsSummary ask (now.told ask.file) (now.told ask.log) before.printed now.printed
cut_at ask before now ending files text w at =
    let held = both_hold ask.file ask.log (made_text ask) (its_log ask ending files text w) files before now (same_files w.5) at.holds in
    record {
      one = one_made ask ending files text w;
      file = held.0;
      log = held.1;
      front = at.printed.0;
      rest = at.printed.1;
      summary = sym (same_text w.5) ∙ at.printed.2;
      printed = at.printed.3;
    }

-- a file of these that couldn't be written
named : (ask : GenerateWords) (ending : Ending) (files : List (List ℕ × List ℕ)) (text : List ℕ) → GenerationComesTo ask (ends ending files text) → (name : List ℕ) → Contains (names_of files) name → (name ≡ ask.file) ⊎ (name ≡ ask.log)
named ask ending files text w name has =
    let P : List (List ℕ × List ℕ) → Type 0 = λ l. Contains (names_of l) name in
    either_name ask.file ask.log name (subst P (same_files w.5) has)

pub written : (ask : GenerateWords) (status : Status) (before now : Seen) → Its ask status before now → status ≡ status_of write_fault → (Rose (before.writes ask.file) (now.writes ask.file) → ⊥) → (Rose (before.writes ask.log) (now.writes ask.log) → ⊥)
    → CutsSummary ask (now.told ask.file) (now.told ask.log) before.printed now.printed
written ask status before now run is file_calm log_calm =
    let w : FailsToWrite (ComesTo before.told (Ok (generate ask))) status before now = as_write _ status before now run.goes.ended is in
    let P : List ℕ → Type 0 = λ n. Rose (before.writes n) (now.writes n) in
    elim w.cause [
      | inl at_file ↦ elim (named ask w.ending w.files w.text w.due at_file.name at_file.due) [ inl one ↦ absurd (file_calm (subst P one at_file.rose)) | inr one ↦ absurd (log_calm (subst P one at_file.rose)) ]
      | inr at_text ↦ cut_at ask before now w.ending w.files w.text w.due at_text
    ]

-- which status always comes
pub completes : (ask : GenerateWords) (status : Status) (before now : Seen) → Its ask status before now → (Rose (before.writes ask.file) (now.writes ask.file) → ⊥) → (Rose (before.writes ask.log) (now.writes ask.log) → ⊥) → (Rose before.prints now.prints → ⊥) → CompletesGeneration ask status
completes ask status before now run file_calm log_calm prints =
    let P : List ℕ → Type 0 = λ n. Rose (before.writes n) (now.writes n) in
    unless_no_memory (generate ask) status before now _ run (λ name has rose. absurd (omega (arith, has.1)))
    (λ name has rose. elim (either_name ask.file ask.log name has) [ inl one ↦ file_calm (subst P one rose) | inr one ↦ log_calm (subst P one rose) ])
    prints
    (λ due.
    let w : GenerationComesTo ask (ends due.ending due.files due.text) = due.due in
    let Q : Result LibraryParts LibFault → Type 0 = λ r. MatchResult r (λ lib. Solves lib BRANCHINGS status) (λ _. ⊥) in
    subst Q (sym w.0) (solves (solving ask) (made_text ask) (generated_library ask.number ask.size) w.1 w.2 w.3 status w.0 w.4 (due.ended_so ∙ ap status_of (same_ending w.5))))
