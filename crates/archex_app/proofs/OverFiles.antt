-- What is due of jobs over files that are read, and which status always comes: one law for each form, for all commands.
use Rattle.std.proofs.Common.{◌≡◌, ◌≢◌, ℕ, Option, Some, List, [], ◌∷◌, Ok, Err, Result, IfSome, refl, sym, ap, subst, ◌∙◌, arith, inl, inr, ◌⊎◌}
use Rattle.std.specs.Prelude.{MatchResult, Contains}
use Rattle.arch_model.specs.Parts.{LibraryParts, ArchitectureParts}
use Rattle.arch_model.specs.Mass.{enclosure_of}
use Rattle.outside.specs.Faults.{Rose}
use Rattle.lib_read.specs.LibraryOf.{library_of}
use Rattle.lib_read.specs.declared.fault.LibFault.{LibFault}
use Rattle.arch_csv.specs.ArchitectureOf.{architecture_of_bytes}
use Rattle.arch_csv.specs.declared.fault.ArchFault.{ArchFault}
use Rattle.search_core.specs.declared.answer.Answer.{Answer}
use Rattle.search_core.specs.declared.answer.Answer.TheVariants.{Optimal, Infeasible, NodeLimit}
use Rattle.report.specs.Refusal.{refused_library_text, refused_architecture_text, refused_words_text}
use Rattle.report.specs.Mass.{mass_text}
use Rattle.report.specs.Rows.{rows_text}
use Rattle.report.specs.Sets.{cuts_text}
use Rattle.report.specs.Template.{template_text}
use Rattle.archex_app.specs.declared.status.Status.{Status}
use Rattle.archex_app.specs.Status.{Ending, number_of, status_of, ending_of, done, infeasible, node_limit, library_refused, words_refused, log_refused, no_memory, architecture_refused}
use Rattle.archex_app.specs.Due.{Due, ends, unread}
use Rattle.archex_app.specs.Words.{Asked, solve, check, weigh, cuts, probability, template, rows, generate, files_read, files_written}
use Rattle.archex_app.specs.Search.{base_problem}
use Rattle.archex_app.specs.Answer.{ShowsRefusal, RefusesArchitecture, PrintsOver}
use Rattle.archex_app.specs.ComesTo.{CommandComesTo, EndsWith, Reads, ReadsAs, OverLibrary, OverArchitecture, OverSink, SearchComesTo, VerdictComesTo, WeighingComesTo, CutsComeTo, MassComesTo}
use Rattle.archex_app.specs.Run.{Seen, EndsAsDue, Runs}
use Rattle.archex_app.proofs.RunLaws.{apart}
use Rattle.archex_app.proofs.Within.{same_ending, same_files, same_text, same_name, no_read}
use Rattle.archex_app.proofs.AllRuns.{read_among, write_rose}

-- one status is that of one ending
pub not_of : (status : Status) (n : ℕ) (ending other : Ending) → status ≡ record { 0 = n } → status ≡ status_of ending → ending ≡ other → (n ≡ number_of other → ⊥) → ⊥
not_of status n ending other is ended same differ = apart status n (number_of other) is (ended ∙ ap status_of same) differ

-- ---- a library

-- what is due of a job over a library: of one that was read, or the refusal of bytes that are none
abbrev pub LibraryDue : (LibraryParts → Due → Type 0) → List ℕ → Ending → List (List ℕ × List ℕ) → List ℕ → Type 0
LibraryDue Job bytes ending files text =
    ((lib : LibraryParts) × (library_of bytes ≡ Ok lib) × Job lib (ends ending files text)) ⊎ ((ending ≡ library_refused) × ShowsRefusal bytes text × (files ≡ []))

of_bytes : (Job : LibraryParts → Due → Type 0) (bytes : List ℕ) (ending : Ending) (files : List (List ℕ × List ℕ)) (text : List ℕ) (answer : Result LibraryParts LibFault) → library_of bytes ≡ answer
    → MatchResult answer (λ lib. Job lib (ends ending files text)) (λ fault. EndsWith library_refused (refused_library_text fault) (ends ending files text)) → LibraryDue Job bytes ending files text
of_bytes Job bytes ending files text (Ok lib) read job = inl (lib, read, job)
of_bytes Job bytes ending files text (Err fault) read refused = inr (same_ending refused, record { fault = fault; refused = read; report = same_text refused }, same_files refused)

pub library_due : (told : List ℕ → Option (List ℕ)) (name : List ℕ) (Job : LibraryParts → Due → Type 0) (ending : Ending) (files : List (List ℕ × List ℕ)) (text : List ℕ) → OverLibrary told name Job (ends ending files text)
    → (bytes : List ℕ) × IfSome (told name) (λ all. bytes ≡ all) × LibraryDue Job bytes ending files text
library_due told name Job ending files text comes = elim comes [ inl read ↦ absurd (no_read (sym read)) | inr w ↦ (w.0, w.1, of_bytes Job w.0 ending files text (library_of w.0) refl w.2) ]

-- what was read is what is told
pub told_bytes : (told : Option (List ℕ)) (bytes read : List ℕ) → told ≡ Some bytes → IfSome told (λ all. read ≡ all) → read ≡ bytes
told_bytes told bytes read tells is = let F : Option (List ℕ) → Type 0 = λ o. IfSome o (λ all. read ≡ all) in subst F tells is

module _ (told : List ℕ → Option (List ℕ)) (lib bytes : List ℕ) (fault : LibFault) (Job : LibraryParts → Due → Type 0) (tells : told lib ≡ Some bytes) (bad : library_of bytes ≡ Err fault) where
  refused_due : (due : Due) (read : List ℕ) → IfSome (told lib) (λ all. read ≡ all) → MatchResult (library_of read) (λ l. Job l due) (λ f. EndsWith library_refused (refused_library_text f) due) → EndsWith library_refused (refused_library_text fault) due
  refused_due due read is job =
      let P : Result LibraryParts LibFault → Type 0 = λ r. MatchResult r (λ l. Job l due) (λ f. EndsWith library_refused (refused_library_text f) due) in
      subst P (ap library_of (told_bytes (told lib) bytes read tells is) ∙ bad) job

  -- of bytes that are no library the refusal alone is due
  pub unread_library : (name : List ℕ) → OverLibrary told lib Job (unread name) → name ≡ lib
  unread_library name comes = elim comes [ inl read ↦ same_name read | inr w ↦ absurd (no_read (refused_due (unread name) w.0 w.1 w.2)) ]

  pub refused_ending : (ending : Ending) (files : List (List ℕ × List ℕ)) (text : List ℕ) → OverLibrary told lib Job (ends ending files text) → (ending ≡ library_refused) × (files ≡ [])
  refused_ending ending files text comes = elim comes [
    | inl read ↦ absurd (no_read (sym read))
    | inr w ↦ let refused = refused_due (ends ending files text) w.0 w.1 w.2 in (same_ending refused, same_files refused)
  ]

-- ---- every command's library

-- the job of a command over its library
abbrev pub job_of : (List ℕ → Option (List ℕ)) → Asked → LibraryParts → Due → Type 0
job_of told (solve ask) lib due = SearchComesTo ask.log ask.branchings ask.workers ask.analysts lib due
job_of told (check lib log) l due = Reads told log (VerdictComesTo l) due
job_of told (weigh lib arch) l due = ReadsAs (architecture_of_bytes l) architecture_refused refused_architecture_text told arch (WeighingComesTo l) due
job_of told (cuts lib arch sink) l due = ReadsAs (architecture_of_bytes l) architecture_refused refused_architecture_text told arch (CutsComeTo sink l) due
job_of told (probability lib arch sink) l due = ReadsAs (architecture_of_bytes l) architecture_refused refused_architecture_text told arch (MassComesTo sink l) due
job_of told (template lib) l due = EndsWith done (template_text l) due
job_of told (rows lib) l due = EndsWith done (rows_text (base_problem l)) due
job_of told (generate ask) l due = ⊥

same_head : {x y : List ℕ} {xs ys : List (List ℕ)} → x ∷ xs ≡ y ∷ ys → x ≡ y
same_head h = cc

no_head : {y : List ℕ} {ys : List (List ℕ)} → [] ≡ y ∷ ys → ⊥
no_head h = cc

pub comes_over : (told : List ℕ → Option (List ℕ)) (asked : Asked) (lib : List ℕ) (rest : List (List ℕ)) (due : Due) → files_read asked ≡ lib ∷ rest → CommandComesTo told asked due → OverLibrary told lib (job_of told asked) due
comes_over told (solve ask) lib rest due is comes = let P : List ℕ → Type 0 = λ n. OverLibrary told n (job_of told (solve ask)) due in subst P (same_head is) comes
comes_over told (check l log) lib rest due is comes = let P : List ℕ → Type 0 = λ n. OverLibrary told n (job_of told (check l log)) due in subst P (same_head is) comes
comes_over told (weigh l arch) lib rest due is comes = let P : List ℕ → Type 0 = λ n. OverLibrary told n (job_of told (weigh l arch)) due in subst P (same_head is) comes
comes_over told (cuts l arch sink) lib rest due is comes = let P : List ℕ → Type 0 = λ n. OverLibrary told n (job_of told (cuts l arch sink)) due in subst P (same_head is) comes
comes_over told (probability l arch sink) lib rest due is comes = let P : List ℕ → Type 0 = λ n. OverLibrary told n (job_of told (probability l arch sink)) due in subst P (same_head is) comes
comes_over told (template l) lib rest due is comes = let P : List ℕ → Type 0 = λ n. OverLibrary told n (job_of told (template l)) due in subst P (same_head is) comes
comes_over told (rows l) lib rest due is comes = let P : List ℕ → Type 0 = λ n. OverLibrary told n (job_of told (rows l)) due in subst P (same_head is) comes
comes_over told (generate ask) lib rest due is comes = absurd (no_head is)

-- no job over a library that was read refuses it
abbrev Never : (Due → Type 0) → Type 0
Never Comes = (ending : Ending) (files : List (List ℕ × List ℕ)) (text : List ℕ) → Comes (ends ending files text) → ending ≡ library_refused → ⊥

never_of : (answer : Answer) → ending_of answer ≡ library_refused → ⊥
never_of (Optimal cost) is = let e : done ≡ library_refused = is in cc
never_of Infeasible is = let e : infeasible ≡ library_refused = is in cc
never_of (NodeLimit incumbent) is = let e : node_limit ≡ library_refused = is in cc

never_ends : (other : Ending) (said : List ℕ) → (other ≡ library_refused → ⊥) → Never (EndsWith other said)
never_ends other said differ ending files text comes is = differ (sym (same_ending comes) ∙ is)

never_match : {T E : Type 0} (r : Result T E) (A : T → Due → Type 0) (B : E → Due → Type 0) → ((x : T) → Never (A x)) → ((x : E) → Never (B x)) → Never (λ due. MatchResult r (λ x. A x due) (λ x. B x due))
never_match (Ok x) A B a b = a x
never_match (Err x) A B a b = b x

never_reads : (told : List ℕ → Option (List ℕ)) (name : List ℕ) (Then : List ℕ → Due → Type 0) → ((bytes : List ℕ) → Never (Then bytes)) → Never (Reads told name Then)
never_reads told name Then a ending files text comes is = elim comes [ inl read ↦ absurd (no_read (sym read)) | inr w ↦ a w.0 ending files text w.2 is ]

never_over : (told : List ℕ → Option (List ℕ)) (arch : List ℕ) (l : LibraryParts) (Job : ArchitectureParts → Due → Type 0) → ((a : ArchitectureParts) → Never (Job a)) → Never (ReadsAs (architecture_of_bytes l) architecture_refused refused_architecture_text told arch Job)
never_over told arch l Job a =
    never_reads told arch (λ bytes due. MatchResult (architecture_of_bytes l bytes) (λ x. Job x due) (λ fault. EndsWith architecture_refused (refused_architecture_text fault) due)) (λ bytes. never_match (architecture_of_bytes l bytes) Job (λ fault. EndsWith architecture_refused (refused_architecture_text fault)) a (λ fault. never_ends architecture_refused (refused_architecture_text fault) (λ e. cc)))

never_of_sink : (l : LibraryParts) (name : List ℕ) (said : ℕ → List ℕ) → Never (OverSink l name 4 (λ s. EndsWith done (said s)))
never_of_sink l name said ending files text comes is = elim comes [
  | inl w ↦ never_ends done (said w.0) (λ e. cc) ending files text w.2 is
  | inr w ↦ never_ends words_refused (refused_words_text 4) (λ e. cc) ending files text w.1 is
]

pub never_refuses : (told : List ℕ → Option (List ℕ)) (asked : Asked) (l : LibraryParts) → Never (job_of told asked l)
never_refuses told (solve ask) l = λ ending files text comes is. never_of comes.2 (sym (same_ending comes.4) ∙ is)
never_refuses told (check lib log) l =
    never_reads told log (VerdictComesTo l) (λ bytes ending files text comes is. elim comes [
      | inl w ↦ never_ends done _ (λ e. cc) ending files text w.2 is
      | inr w ↦ never_ends log_refused _ (λ e. cc) ending files text w.2 is
    ])
never_refuses told (weigh lib arch) l = never_over told arch l (WeighingComesTo l) (λ a ending files text comes is. never_ends done _ (λ e. cc) ending files text comes.2 is)
never_refuses told (cuts lib arch sink) l = never_over told arch l (CutsComeTo sink l) (λ a. never_of_sink l sink (cuts_text l a))
never_refuses told (probability lib arch sink) l = never_over told arch l (MassComesTo sink l) (λ a. never_of_sink l sink (λ s. mass_text (enclosure_of l a s)))
never_refuses told (template lib) l = never_ends done (template_text l) (λ e. cc)
never_refuses told (rows lib) l = never_ends done (rows_text (base_problem l)) (λ e. cc)
never_refuses told (generate ask) l = λ ending files text comes is. comes

-- ---- and an architecture

-- what is due of a job over an architecture: of one that was read, or the refusal of bytes that are none
abbrev pub BothDue : (List ℕ → Option (List ℕ)) → List ℕ → (LibraryParts → ArchitectureParts → Due → Type 0) → List ℕ → Ending → List (List ℕ × List ℕ) → List ℕ → Type 0
BothDue told arch Job lib_bytes ending files text =
    ((ending ≡ library_refused) × ShowsRefusal lib_bytes text)
    ⊎ ((l : LibraryParts) × (library_of lib_bytes ≡ Ok l) × (arch_bytes : List ℕ) × IfSome (told arch) (λ all. arch_bytes ≡ all)
    × (((ending ≡ architecture_refused) × RefusesArchitecture lib_bytes arch_bytes text) ⊎ ((a : ArchitectureParts) × (architecture_of_bytes l arch_bytes ≡ Ok a) × Job l a (ends ending files text))))

of_architecture : (Job : LibraryParts → ArchitectureParts → Due → Type 0) (lib_bytes arch_bytes text : List ℕ) (ending : Ending) (files : List (List ℕ × List ℕ)) (l : LibraryParts) → library_of lib_bytes ≡ Ok l → (answer : Result ArchitectureParts ArchFault) → architecture_of_bytes l arch_bytes ≡ answer
    → MatchResult answer (λ a. Job l a (ends ending files text)) (λ fault. EndsWith architecture_refused (refused_architecture_text fault) (ends ending files text))
    → ((ending ≡ architecture_refused) × RefusesArchitecture lib_bytes arch_bytes text) ⊎ ((a : ArchitectureParts) × (architecture_of_bytes l arch_bytes ≡ Ok a) × Job l a (ends ending files text))
of_architecture Job lib_bytes arch_bytes text ending files l lib_read (Ok a) read job = inr (a, read, job)
of_architecture Job lib_bytes arch_bytes text ending files l lib_read (Err fault) read refused = inl (same_ending refused, record { lib = l; lib_read = lib_read; fault = fault; refused = read; report = same_text refused })

pub both_due : (told : List ℕ → Option (List ℕ)) (lib arch : List ℕ) (Job : LibraryParts → ArchitectureParts → Due → Type 0) (ending : Ending) (files : List (List ℕ × List ℕ)) (text : List ℕ) → OverArchitecture told lib arch Job (ends ending files text)
    → (lib_bytes : List ℕ) × IfSome (told lib) (λ all. lib_bytes ≡ all) × BothDue told arch Job lib_bytes ending files text
both_due told lib arch Job ending files text comes =
    let found = library_due told lib (λ l. ReadsAs (architecture_of_bytes l) architecture_refused refused_architecture_text told arch (Job l)) ending files text comes in (
      found.0,
      found.1,
      elim found.2 [
        | inl w ↦ elim w.2 [
          | inl read ↦ absurd (no_read (sym read))
          | inr v ↦ inr (w.0, w.1, v.0, v.1, of_architecture Job found.0 v.0 text ending files w.0 w.1 (architecture_of_bytes w.0 v.0) refl v.2)
        ]
        | inr w ↦ inl (w.0, w.1)
      ],
    )

-- a run that ended as is due, and so by its job where its status is no refusal of a file
pub by_job : (lib arch : List ℕ) (Job : LibraryParts → ArchitectureParts → Due → Type 0) (Shows : List ℕ → List ℕ → List ℕ → Type 0) (n : ℕ) (status : Status) (before now : Seen) → EndsAsDue (OverArchitecture before.told lib arch Job) status before now → status ≡ record { 0 = n } → n ≢ 3 → n ≢ 9
    → ((lib_bytes arch_bytes : List ℕ) (l : LibraryParts) (a : ArchitectureParts) (ending : Ending) (files : List (List ℕ × List ℕ)) (text : List ℕ) → library_of lib_bytes ≡ Ok l → architecture_of_bytes l arch_bytes ≡ Ok a → status ≡ status_of ending → Job l a (ends ending files text) → Shows lib_bytes arch_bytes text)
    → PrintsOver Shows (before.told lib) (before.told arch) before.printed now.printed
by_job lib arch Job Shows n status before now due is three nine shows =
    let found = both_due before.told lib arch Job due.ending due.files due.text due.due in
    elim found.2 [
      | inl w ↦ absurd (not_of status n due.ending library_refused is due.ended_so w.0 three)
      | inr w ↦ elim w.4 [
        | inl v ↦ absurd (not_of status n due.ending architecture_refused is due.ended_so v.0 nine)
        | inr v ↦ record {
          lib = found.0;
          lib_bytes = found.1;
          file = w.2;
          file_bytes = w.3;
          text = due.text;
          shows = shows found.0 w.2 w.0 v.0 due.ending due.files due.text w.1 v.1 due.ended_so v.2;
          printed = due.printed;
        }
      ]
    ]

-- by the refusal of the architecture, where its job never ends so
pub by_refusal : (lib arch : List ℕ) (Job : LibraryParts → ArchitectureParts → Due → Type 0) (status : Status) (before now : Seen) → EndsAsDue (OverArchitecture before.told lib arch Job) status before now → status ≡ status_of architecture_refused
    → ((l : LibraryParts) (a : ArchitectureParts) (ending : Ending) (files : List (List ℕ × List ℕ)) (text : List ℕ) → status ≡ status_of ending → Job l a (ends ending files text) → ⊥)
    → PrintsOver RefusesArchitecture (before.told lib) (before.told arch) before.printed now.printed
by_refusal lib arch Job status before now due is never =
    let found = both_due before.told lib arch Job due.ending due.files due.text due.due in
    elim found.2 [
      | inl w ↦ absurd (not_of status 9 due.ending library_refused is due.ended_so w.0 (λ e. omega arith))
      | inr w ↦ elim w.4 [
        | inl v ↦ record { lib = found.0; lib_bytes = found.1; file = w.2; file_bytes = w.3; text = due.text; shows = v.1; printed = due.printed }
        | inr v ↦ absurd (never w.0 v.0 due.ending due.files due.text due.ended_so v.2)
      ]
    ]

-- which status comes, where both files are told
abbrev BothEnd : (LibraryParts → ArchitectureParts → Type 0) → List ℕ → Status → Result LibraryParts LibFault → Type 0
BothEnd Ends arch_bytes status answer = MatchResult answer (λ l. MatchResult (architecture_of_bytes l arch_bytes) (Ends l) (λ _. status ≡ status_of architecture_refused)) (λ _. status ≡ status_of library_refused)

pub both_end : (told : List ℕ → Option (List ℕ)) (lib arch lib_bytes arch_bytes : List ℕ) (Job : LibraryParts → ArchitectureParts → Due → Type 0) (Ends : LibraryParts → ArchitectureParts → Type 0) (status : Status) (ending : Ending) (files : List (List ℕ × List ℕ)) (text : List ℕ)
    → told lib ≡ Some lib_bytes → told arch ≡ Some arch_bytes → status ≡ status_of ending → OverArchitecture told lib arch Job (ends ending files text) → ((l : LibraryParts) (a : ArchitectureParts) → Job l a (ends ending files text) → Ends l a)
    → BothEnd Ends arch_bytes status (library_of lib_bytes)
both_end told lib arch lib_bytes arch_bytes Job Ends status ending files text lib_tells arch_tells is comes so =
    let found = both_due told lib arch Job ending files text comes in
    let same : found.0 ≡ lib_bytes = told_bytes (told lib) lib_bytes found.0 lib_tells found.1 in
    let P : Result LibraryParts LibFault → Type 0 = BothEnd Ends arch_bytes status in
    elim found.2 [
      | inl w ↦ subst P (sym w.1.refused ∙ ap library_of same) (is ∙ ap status_of w.0)
      | inr w ↦
          let also : w.2 ≡ arch_bytes = told_bytes (told arch) arch_bytes w.2 arch_tells w.3 in
          let Q : Result ArchitectureParts ArchFault → Type 0 = λ r. MatchResult r (Ends w.0) (λ _. status ≡ status_of architecture_refused) in
          elim w.4 [
            | inl v ↦ never_here found.0 w.2 text (is ∙ ap status_of v.0) same also v.1
            | inr v ↦ subst P (sym w.1 ∙ ap library_of same) (subst Q (sym v.1 ∙ ap (architecture_of_bytes w.0) also) (so w.0 v.0 v.2))
          ]
    ]
  where
    never_here : (read_lib read_arch said : List ℕ) → status ≡ status_of architecture_refused → read_lib ≡ lib_bytes → read_arch ≡ arch_bytes → RefusesArchitecture read_lib read_arch said → BothEnd Ends arch_bytes status (library_of lib_bytes)
    never_here read_lib read_arch said refused same also r =
        let P : Result LibraryParts LibFault → Type 0 = BothEnd Ends arch_bytes status in
        let Q : Result ArchitectureParts ArchFault → Type 0 = λ x. MatchResult x (Ends r.lib) (λ _. status ≡ status_of architecture_refused) in
        subst P (sym r.lib_read ∙ ap library_of same) (subst Q (sym r.refused ∙ ap (architecture_of_bytes r.lib) also) refused)

-- ---- a run where no call failed

-- it ended as is due, or there was no memory
pub unless_no_memory : (asked : Asked) (status : Status) (before now : Seen) (Goal : Type 0) → Runs (Ok asked) status before now → ((name : List ℕ) → Contains (files_read asked) name → Rose (before.reads name) (now.reads name) → ⊥)
    → ((name : List ℕ) → Contains (files_written asked) name → Rose (before.writes name) (now.writes name) → ⊥) → (Rose before.prints now.prints → ⊥) → (EndsAsDue (CommandComesTo before.told asked) status before now → Goal) → (status ≡ status_of no_memory) ⊎ Goal
unless_no_memory asked status before now Goal run reads writes prints ended = elim run.goes.ended [
  | inl w ↦ inr (ended w)
  | inr faults ↦ elim faults [
    | inl w ↦ let rose = read_among (Ok asked) status before now run w.ended_so in absurd (reads rose.0 rose.1 rose.2)
    | inr more ↦ elim more [
      | inl w ↦ elim (write_rose (Ok asked) status before now run w.ended_so) [ inl rose ↦ absurd (prints rose) | inr rose ↦ absurd (writes rose.0 rose.1 rose.2) ]
      | inr w ↦ inl w.ended_so
    ]
  ]
]
