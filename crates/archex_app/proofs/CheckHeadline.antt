-- What a run of `check` says, from what is said of all runs.
use Rattle.std.proofs.Common.{◌≡◌, ℕ, Option, Some, List, [], ◌∷◌, length, Ok, Err, Result, IfSome, refl, sym, ap, subst, ◌∙◌, arith, inl, inr, ◌⊎◌}
use Rattle.std.specs.Prelude.{MatchResult, filter}
use Rattle.arch_model.specs.Parts.{LibraryParts}
use Rattle.outside.specs.Faults.{Rose}
use Rattle.lib_read.specs.LibraryOf.{library_of}
use Rattle.lib_read.specs.declared.fault.LibFault.{LibFault}
use Rattle.search_core.specs.declared.answer.Answer.{Answer}
use Rattle.search_core.specs.declared.answer.Answer.TheVariants.{Optimal, Infeasible, NodeLimit}
use Rattle.search_core.specs.History.{is_branch}
use Rattle.proof_log.specs.Log.{Accepts}
use Rattle.log_checker.specs.Yes.{last_limit}
use Rattle.log_checker.proofs.YesLaws.{yes_optimal, yes_infeasible, yes_limit, yes_incumbent}
use Rattle.log_checker.proofs.FirstLines.{passing_unbroken}
use Rattle.archex_app.specs.declared.status.Status.{Status}
use Rattle.archex_app.specs.Status.{Ending, status_of, done, library_refused, log_refused}
use Rattle.archex_app.specs.Due.{ends}
use Rattle.archex_app.specs.Words.{check}
use Rattle.archex_app.specs.Search.{base_problem}
use Rattle.archex_app.specs.Verdict.{IsPassing}
use Rattle.report.specs.Refusal.{refused_library_text}
use Rattle.archex_app.specs.Answer.{ShowsRefusal, PrintsOver}
use Rattle.archex_app.specs.Checked.{IsRight, ShowsYes, ShowsNo, CheckEnds, CompletesCheck}
use Rattle.archex_app.specs.ComesTo.{ComesTo, VerdictComesTo, Reads, EndsWith}
use Rattle.archex_app.specs.Run.{Seen, EndsAsDue, RoseAmong, Runs}
use Rattle.archex_app.proofs.Within.{same_ending, same_text, no_read, either_name}
use Rattle.archex_app.proofs.AllRuns.{as_due, read_among, write_rose, nothing_among}
use Rattle.archex_app.proofs.OverFiles.{not_of}

-- ---- a verdict

right : (lib : LibraryParts) (bytes : List ℕ) (answer : Answer) → IsPassing lib bytes answer → IsRight lib answer
right lib bytes (Optimal cost) x = yes_optimal (base_problem lib) bytes x.library x.problem cost x.accepts
right lib bytes Infeasible x = yes_infeasible (base_problem lib) bytes x.library x.problem x.accepts
right lib bytes (NodeLimit incumbent) x = yes_incumbent (base_problem lib) bytes x.library x.problem incumbent x.accepts

spent : (lib : LibraryParts) (bytes : List ℕ) (answer : Answer) (x : IsPassing lib bytes answer) (incumbent : Option ℕ) → answer ≡ NodeLimit incumbent → length (filter is_branch x.accepts.entries) ≡ last_limit x.accepts.limit x.accepts.entries
spent lib bytes (Optimal cost) x incumbent is = absurd cc
spent lib bytes Infeasible x incumbent is = absurd cc
spent lib bytes (NodeLimit other) x incumbent is = yes_limit (base_problem lib) bytes x.library x.problem other x.accepts

-- what `check` ends as, once both files were read
abbrev VerdictShows : Ending → List ℕ → List ℕ → List ℕ → Type 0
VerdictShows ending lib log text = ((ending ≡ done) × ShowsYes lib log text) ⊎ ((ending ≡ log_refused) × ShowsNo lib log text)

-- and before
abbrev Shown : (List ℕ → Option (List ℕ)) → List ℕ → Ending → List ℕ → List ℕ → Type 0
Shown told log ending lib_bytes text =
    ((ending ≡ library_refused) × ShowsRefusal lib_bytes text) ⊎ ((log_bytes : List ℕ) × IfSome (told log) (λ all. log_bytes ≡ all) × VerdictShows ending lib_bytes log_bytes text)

over_log : (lib_bytes log_bytes text : List ℕ) (ending : Ending) (files : List (List ℕ × List ℕ)) (lib : LibraryParts) → library_of lib_bytes ≡ Ok lib → VerdictComesTo lib log_bytes (ends ending files text) → VerdictShows ending lib_bytes log_bytes text
over_log lib_bytes log_bytes text ending files lib read job = elim job [
  | inl w ↦ inl (
    same_ending w.2,
    record {
      lib = lib;
      read = read;
      answer = w.0;
      passes = w.1.accepts;
      right = right lib log_bytes w.0 w.1;
      spent = spent lib log_bytes w.0 w.1;
      report = same_text w.2;
    },
  )
  | inr w ↦ inr (
    same_ending w.2,
    record {
      lib = lib;
      read = read;
      refused = w.0;
      first = w.1;
      fails = λ answer x. passing_unbroken (base_problem lib) log_bytes answer w.0.line w.0.rule x w.1;
      report = same_text w.2;
    },
  )
]

over_library : (told : List ℕ → Option (List ℕ)) (log lib_bytes text : List ℕ) (ending : Ending) (files : List (List ℕ × List ℕ)) (answer : Result LibraryParts LibFault) → library_of lib_bytes ≡ answer
    → MatchResult answer (λ lib. Reads told log (VerdictComesTo lib) (ends ending files text)) (λ fault. EndsWith library_refused (refused_library_text fault) (ends ending files text)) → Shown told log ending lib_bytes text
over_library told log lib_bytes text ending files (Ok lib) read job = elim job [
  | inl none ↦ absurd (no_read (sym none))
  | inr w ↦ inr (w.0, w.1, over_log lib_bytes w.0 text ending files lib read w.2)
]
over_library told log lib_bytes text ending files (Err fault) read refused = inl (same_ending refused, record { fault = fault; refused = read; report = same_text refused })

check_shows : (told : List ℕ → Option (List ℕ)) (lib log : List ℕ) (ending : Ending) (files : List (List ℕ × List ℕ)) (text : List ℕ) → ComesTo told (Ok (check lib log)) (ends ending files text)
    → (lib_bytes : List ℕ) × IfSome (told lib) (λ all. lib_bytes ≡ all) × Shown told log ending lib_bytes text
check_shows told lib log ending files text comes = elim comes [ inl read ↦ absurd (no_read (sym read)) | inr w ↦ (w.0, w.1, over_library told log w.0 text ending files (library_of w.0) refl w.2) ]

-- ---- a run

abbrev Its : List ℕ → List ℕ → Status → Seen → Seen → Type 0
Its lib log status before now = Runs (Ok (check lib log)) status before now

pub yes : (lib log : List ℕ) (status : Status) (before now : Seen) → Its lib log status before now → status ≡ status_of done → PrintsOver ShowsYes (before.told lib) (before.told log) before.printed now.printed
yes lib log status before now run is =
    let due : EndsAsDue (ComesTo before.told (Ok (check lib log))) status before now = as_due _ status before now 0 run.goes.ended is (λ e. omega arith) (λ e. omega arith) (λ e. omega arith) in
    let found = check_shows before.told lib log due.ending due.files due.text due.due in
    elim found.2 [
      | inl w ↦ absurd (not_of status 0 due.ending library_refused is due.ended_so w.0 (λ e. omega arith))
      | inr w ↦ elim w.2 [
        | inl v ↦ record { lib = found.0; lib_bytes = found.1; file = w.0; file_bytes = w.1; text = due.text; shows = v.1; printed = due.printed }
        | inr v ↦ absurd (not_of status 0 due.ending log_refused is due.ended_so v.0 (λ e. omega arith))
      ]
    ]

pub no : (lib log : List ℕ) (status : Status) (before now : Seen) → Its lib log status before now → status ≡ status_of log_refused → PrintsOver ShowsNo (before.told lib) (before.told log) before.printed now.printed
no lib log status before now run is =
    let due : EndsAsDue (ComesTo before.told (Ok (check lib log))) status before now = as_due _ status before now 8 run.goes.ended is (λ e. omega arith) (λ e. omega arith) (λ e. omega arith) in
    let found = check_shows before.told lib log due.ending due.files due.text due.due in
    elim found.2 [
      | inl w ↦ absurd (not_of status 8 due.ending library_refused is due.ended_so w.0 (λ e. omega arith))
      | inr w ↦ elim w.2 [
        | inl v ↦ absurd (not_of status 8 due.ending done is due.ended_so v.0 (λ e. omega arith))
        | inr v ↦ record { lib = found.0; lib_bytes = found.1; file = w.0; file_bytes = w.1; text = due.text; shows = v.1; printed = due.printed }
      ]
    ]

-- which status always comes
abbrev EndsOver : List ℕ → Status → Result LibraryParts LibFault → Type 0
EndsOver log_bytes status answer = MatchResult answer
    (λ lib. ((status ≡ status_of done) × (a : Answer) × Accepts (base_problem lib) log_bytes a) ⊎ ((status ≡ status_of log_refused) × ((a : Answer) → Accepts (base_problem lib) log_bytes a → ⊥)))
    (λ _. status ≡ status_of library_refused)

shown_ends : (told : List ℕ → Option (List ℕ)) (log lib_bytes log_bytes text : List ℕ) (ending : Ending) (status : Status) → told log ≡ Some log_bytes → status ≡ status_of ending → Shown told log ending lib_bytes text → CheckEnds lib_bytes log_bytes status
shown_ends told log lib_bytes log_bytes text ending status tells is shown =
    let P : Result LibraryParts LibFault → Type 0 = EndsOver log_bytes status in
    elim shown [
      | inl w ↦ subst P (sym w.1.refused) (is ∙ ap status_of w.0)
      | inr w ↦
          let F : Option (List ℕ) → Type 0 = λ o. IfSome o (λ all. w.0 ≡ all) in
          let same : w.0 ≡ log_bytes = subst F tells w.1 in
          elim w.2 [
            | inl v ↦ let A : List ℕ → Type 0 = λ l. Accepts (base_problem v.1.lib) l v.1.answer in subst P (sym v.1.read) (inl (is ∙ ap status_of v.0, v.1.answer, subst A same v.1.passes))
            | inr v ↦ let A : List ℕ → Type 0 = λ l. (a : Answer) → Accepts (base_problem v.1.lib) l a → ⊥ in subst P (sym v.1.read) (inr (is ∙ ap status_of v.0, subst A same v.1.fails))
          ]
    ]

pub completes : (lib log lib_bytes log_bytes : List ℕ) (status : Status) (before now : Seen) → Its lib log status before now → before.told lib ≡ Some lib_bytes → before.told log ≡ Some log_bytes
    → (Rose (before.reads lib) (now.reads lib) → ⊥) → (Rose (before.reads log) (now.reads log) → ⊥) → (Rose before.prints now.prints → ⊥) → CompletesCheck lib_bytes log_bytes status
completes lib log lib_bytes log_bytes status before now run lib_tells log_tells lib_reads log_reads prints = elim run.goes.ended [
  | inl w ↦
      let found = check_shows before.told lib log w.ending w.files w.text w.due in
      let F : Option (List ℕ) → Type 0 = λ o. IfSome o (λ all. found.0 ≡ all) in
      let same : found.0 ≡ lib_bytes = subst F lib_tells found.1 in
      let P : List ℕ → Type 0 = λ b. CheckEnds b log_bytes status in
      inr (subst P same (shown_ends before.told log found.0 log_bytes w.text w.ending status log_tells w.ended_so found.2))
  | inr faults ↦ elim faults [
    | inl w ↦
        let P : List ℕ → Type 0 = λ n. Rose (before.reads n) (now.reads n) in
        let rose : RoseAmong (lib ∷ log ∷ []) before.reads now.reads = read_among _ status before now run w.ended_so in
        elim (either_name lib log rose.0 rose.1) [ inl is ↦ absurd (lib_reads (subst P is rose.2)) | inr is ↦ absurd (log_reads (subst P is rose.2)) ]
    | inr more ↦ elim more [
      | inl w ↦ elim (write_rose _ status before now run w.ended_so) [ inl rose ↦ absurd (prints rose) | inr rose ↦ absurd (nothing_among before.writes now.writes rose) ]
      | inr w ↦ inl w.ended_so
    ]
  ]
]
