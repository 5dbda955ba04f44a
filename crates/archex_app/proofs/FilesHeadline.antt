-- What runs of the commands that read and print say, from what is said of all runs.
use Rattle.std.proofs.Common.{◌≡◌, ℕ, Bool, true, false, nat_lt, Some, List, [], ◌∷◌, length, Ok, Err, Result, refl, sym, ap, subst, ◌∙◌, arith, inl, inr, ◌⊎◌, if◌then◌else◌}
use Rattle.std.specs.Prelude.{MatchResult, Contains}
use Rattle.arch_model.specs.Parts.{LibraryParts, ArchitectureParts}
use Rattle.arch_model.specs.Architecture.{IsArchitecture}
use Rattle.arch_model.specs.Mass.{enclosure_of}
use Rattle.arch_model.proofs.Enclosure.{low-le-mass, mass-le-high}
use Rattle.outside.specs.Faults.{Rose}
use Rattle.lib_read.specs.LibraryOf.{library_of}
use Rattle.lib_read.specs.declared.fault.LibFault.{LibFault}
use Rattle.arch_csv.specs.ArchitectureOf.{architecture_of_bytes, architecture_of_records, records_of, fault_at}
use Rattle.arch_csv.specs.declared.fault.ArchFault.{ArchFault}
use Rattle.arch_csv.specs.declared.fault.ArchClass.TheVariants.{TooLarge}
use Rattle.arch_csv.proofs.ReadFits.{records_fit}
use Rattle.cut_sets.specs.CutSets.{cut_sets_of}
use Rattle.cut_sets.proofs.Listed.{listed_exact}
use Rattle.cut_sets.proofs.Ordered.{listed_ascend}
use Rattle.sink_weight.proofs.Sums.{weight_listed}
use Rattle.report.specs.Mass.{mass_text}
use Rattle.report.specs.Rows.{rows_text}
use Rattle.report.specs.Sets.{cuts_text}
use Rattle.report.specs.Template.{template_text}
use Rattle.report.proofs.AdmissibleLaws.{last_line}
use Rattle.archex_app.specs.declared.status.Status.{Status}
use Rattle.archex_app.specs.Status.{Ending, number_of, status_of, done, infeasible, node_limit, library_refused, words_refused, read_fault, write_fault, no_memory, log_refused, architecture_refused}
use Rattle.archex_app.specs.Due.{ends}
use Rattle.archex_app.specs.Words.{Asked, weigh, cuts, probability, template, rows, command_of, AskOfSink, AskOfArchitecture, AskForList, ReadsLibrary}
use Rattle.archex_app.specs.Team.{Team, searched_by}
use Rattle.archex_app.specs.Mass.{IsSinkNamed}
use Rattle.archex_app.specs.Search.{base_problem}
use Rattle.archex_app.specs.Answer.{ShowsRefusal, RefusesArchitecture, RefusesSink, Prints, PrintsOver}
use Rattle.archex_app.specs.Complete.{EndsOverLibrary, EndsOverArchitecture, EndsOverSink, UnlessNoMemory}
use Rattle.archex_app.specs.Weighed.{ShowsWeighing}
use Rattle.archex_app.specs.CutsListed.{AreItsCuts, ShowsCuts}
use Rattle.archex_app.specs.MassAnswer.{ShowsMass}
use Rattle.archex_app.specs.Listed.{ShowsTemplate, ShowsRows}
use Rattle.archex_app.specs.ComesTo.{CommandComesTo, EndsWith, OverLibrary, OverArchitecture, OverSink, WeighingComesTo, CutsComeTo, MassComesTo}
use Rattle.archex_app.specs.Files.{names_of}
use Rattle.archex_app.specs.Run.{Seen, EndsAsDue, Runs}
use Rattle.archex_app.proofs.Within.{same_ending, same_text, only_one, either_name}
use Rattle.archex_app.proofs.AllRuns.{as_due}
use Rattle.archex_app.proofs.TeamLaws.{its_run}
use Rattle.archex_app.proofs.Coming.{OfSink}
use Rattle.archex_app.proofs.OverFiles.{not_of, library_due, told_bytes, unread_library, refused_ending, job_of, comes_over, never_refuses, by_job, by_refusal, both_end, unless_no_memory}

-- ---- what is shown

-- an architecture that was read fits its library
within_limit : (large : Bool) (f : ArchFault) (read : Result ArchitectureParts ArchFault) (arch : ArchitectureParts) → (if large then Err f else read) ≡ Ok arch → read ≡ Ok arch
within_limit true f read arch same = absurd cc
within_limit false f read arch same = same

read_fits : (lib : LibraryParts) (bytes : List ℕ) (arch : ArchitectureParts) → architecture_of_bytes lib bytes ≡ Ok arch → IsArchitecture lib arch
unfolding architecture_of_bytes
read_fits lib bytes arch read = records_fit lib (records_of bytes) arch (within_limit (nat_lt 1048576 (length bytes)) (fault_at 0 TooLarge) (architecture_of_records lib (records_of bytes)) arch read)

its_cuts : (lib : LibraryParts) (arch : ArchitectureParts) (sink : ℕ) → IsArchitecture lib arch → AreItsCuts lib arch sink (cut_sets_of lib arch sink)
its_cuts lib arch sink fits = record { all = λ members. listed_exact lib arch fits sink members; ascending = listed_ascend lib arch sink; sum = sym (weight_listed lib arch sink) }

abbrev Its : Asked → Status → Seen → Seen → Type 0
Its asked status before now = Runs (Ok asked) status before now

pub weighed : (lib arch : List ℕ) (status : Status) (before now : Seen) → Its (weigh lib arch) status before now → status ≡ status_of done → PrintsOver ShowsWeighing (before.told lib) (before.told arch) before.printed now.printed
weighed lib arch status before now run is =
    by_job lib arch WeighingComesTo ShowsWeighing 0 status before now (as_due _ status before now 0 run.goes.ended is (λ e. omega arith) (λ e. omega arith) (λ e. omega arith)) is (λ e. omega arith) (λ e. omega arith)
    (λ lib_bytes arch_bytes l a ending files text lib_read arch_read ended w. record {
      lib = l;
      lib_read = lib_read;
      arch = a;
      arch_read = arch_read;
      broken = w.0;
      first = w.1;
      right = last_line l a w.0 (read_fits l arch_bytes a arch_read) w.1;
      report = same_text w.2;
    })

pub cuts_listed : (lib arch sink : List ℕ) (status : Status) (before now : Seen) → Its (cuts lib arch sink) status before now → status ≡ status_of done → PrintsOver (ShowsCuts sink) (before.told lib) (before.told arch) before.printed now.printed
cuts_listed lib arch sink status before now run is =
    by_job lib arch (CutsComeTo sink) (ShowsCuts sink) 0 status before now (as_due _ status before now 0 run.goes.ended is (λ e. omega arith) (λ e. omega arith) (λ e. omega arith)) is (λ e. omega arith) (λ e. omega arith)
    (λ lib_bytes arch_bytes l a ending files text lib_read arch_read ended w. elim w [
      | inl v ↦ record {
        lib = l;
        lib_read = lib_read;
        arch = a;
        arch_read = arch_read;
        sink = v.0;
        named = v.1;
        sets = cut_sets_of l a v.0;
        cuts = its_cuts l a v.0 (read_fits l arch_bytes a arch_read);
        report = same_text v.2;
      }
      | inr v ↦ absurd (not_of status 0 ending words_refused is ended (same_ending v.1) (λ e. omega arith))
    ])

pub mass : (lib arch sink : List ℕ) (status : Status) (before now : Seen) → Its (probability lib arch sink) status before now → status ≡ status_of done → PrintsOver (ShowsMass sink) (before.told lib) (before.told arch) before.printed now.printed
mass lib arch sink status before now run is =
    by_job lib arch (MassComesTo sink) (ShowsMass sink) 0 status before now (as_due _ status before now 0 run.goes.ended is (λ e. omega arith) (λ e. omega arith) (λ e. omega arith)) is (λ e. omega arith) (λ e. omega arith)
    (λ lib_bytes arch_bytes l a ending files text lib_read arch_read ended w. elim w [
      | inl v ↦ record {
        lib = l;
        lib_read = lib_read;
        arch = a;
        arch_read = arch_read;
        sink = v.0;
        named = v.1;
        within = record { low = low-le-mass l a v.0; high = mass-le-high l a v.0 };
        report = same_text v.2;
      }
      | inr v ↦ absurd (not_of status 0 ending words_refused is ended (same_ending v.1) (λ e. omega arith))
    ])

-- a text of a library
module _ (lib : List ℕ) (said : LibraryParts → List ℕ) (Shows : List ℕ → List ℕ → Type 0) (shows : (bytes : List ℕ) (l : LibraryParts) (text : List ℕ) → library_of bytes ≡ Ok l → text ≡ said l → Shows bytes text) (status : Status) (before now : Seen) where
  prints_list : EndsAsDue (OverLibrary before.told lib (λ l. EndsWith done (said l))) status before now → status ≡ status_of done → Prints Shows (before.told lib) before.printed now.printed
  prints_list due is =
      let found = library_due before.told lib (λ l. EndsWith done (said l)) due.ending due.files due.text due.due in
      elim found.2 [
        | inl w ↦ record { bytes = found.0; told = found.1; text = due.text; shows = shows found.0 w.0 due.text w.1 (same_text w.2); printed = due.printed }
        | inr w ↦ absurd (not_of status 0 due.ending library_refused is due.ended_so w.0 (λ e. omega arith))
      ]

pub template_listed : (lib : List ℕ) (status : Status) (before now : Seen) → Its (template lib) status before now → status ≡ status_of done → Prints ShowsTemplate (before.told lib) before.printed now.printed
template_listed lib status before now run is =
    prints_list lib template_text ShowsTemplate (λ bytes l text read report. record { lib = l; read = read; report = report }) status before now (as_due _ status before now 0 run.goes.ended is (λ e. omega arith) (λ e. omega arith) (λ e. omega arith)) is

pub rows_listed : (lib : List ℕ) (status : Status) (before now : Seen) → Its (rows lib) status before now → status ≡ status_of done → Prints ShowsRows (before.told lib) before.printed now.printed
rows_listed lib status before now run is =
    prints_list lib (λ l. rows_text (base_problem l)) ShowsRows (λ bytes l text read report. record { lib = l; read = read; report = report }) status before now (as_due _ status before now 0 run.goes.ended is (λ e. omega arith) (λ e. omega arith) (λ e. omega arith)) is

-- ---- what is refused

only_three : (ending : Ending) → number_of ending ≡ 3 → ending ≡ library_refused
only_three done e = absurd (omega arith)
only_three infeasible e = absurd (omega arith)
only_three node_limit e = absurd (omega arith)
only_three library_refused e = refl
only_three words_refused e = absurd (omega arith)
only_three read_fault e = absurd (omega arith)
only_three write_fault e = absurd (omega arith)
only_three no_memory e = absurd (omega arith)
only_three log_refused e = absurd (omega arith)
only_three architecture_refused e = absurd (omega arith)

no_name : {y : List ℕ} {ys : List (List ℕ)} → [] ≡ y ∷ ys → ⊥
no_name h = cc

no_file : (files : List (List ℕ × List ℕ)) (name : List ℕ) → files ≡ [] → Contains (names_of files) name → ⊥
no_file files name none has =
    let P : List (List ℕ × List ℕ) → Type 0 = λ l. Contains (names_of l) name in
    let it : Contains (names_of []) name = subst P none has in
    absurd (omega (arith, it.1))

-- the library, whatever the command
pub refused_library : (command : Result Asked ℕ) (lib : List ℕ) (status : Status) (before now : Seen) → Runs command status before now → ReadsLibrary command lib → status ≡ status_of library_refused → Prints ShowsRefusal (before.told lib) before.printed now.printed
refused_library (Ok asked) lib status before now run reads is =
    let due : EndsAsDue (CommandComesTo before.told asked) status before now = as_due _ status before now 3 run.goes.ended is (λ e. omega arith) (λ e. omega arith) (λ e. omega arith) in
    let found = library_due before.told lib (job_of before.told asked) due.ending due.files due.text (comes_over before.told asked lib reads.0 (ends due.ending due.files due.text) reads.1 due.due) in
    elim found.2 [
      | inl w ↦ absurd (never_refuses before.told asked w.0 due.ending due.files due.text w.2 (only_three due.ending (ap (λ (s : Status). s.0) (sym due.ended_so ∙ is))))
      | inr w ↦ record { bytes = found.0; told = found.1; text = due.text; shows = w.1; printed = due.printed }
    ]
refused_library (Err place) lib status before now run reads is = absurd (no_name reads.1)

pub always_refused : (command : Result Asked ℕ) (lib bytes : List ℕ) (fault : LibFault) (status : Status) (before now : Seen) → Runs command status before now → ReadsLibrary command lib → before.told lib ≡ Some bytes → library_of bytes ≡ Err fault
    → (Rose (before.reads lib) (now.reads lib) → ⊥) → (Rose before.prints now.prints → ⊥) → (status ≡ status_of library_refused) ⊎ (status ≡ status_of no_memory)
always_refused (Ok asked) lib bytes fault status before now run names tells bad reads prints =
    let job = job_of before.told asked in
    elim run.goes.ended [
      | inl w ↦ inl (w.ended_so ∙ ap status_of (refused_ending before.told lib bytes fault job tells bad w.ending w.files w.text (comes_over before.told asked lib names.0 (ends w.ending w.files w.text) names.1 w.due)).0)
      | inr faults ↦ elim faults [
        | inl w ↦ let P : List ℕ → Type 0 = λ n. Rose (before.reads n) (now.reads n) in absurd (reads (subst P (unread_library before.told lib bytes fault job tells bad w.name (comes_over before.told asked lib names.0 _ names.1 w.due)) w.rose))
        | inr more ↦ elim more [
          | inl w ↦
              let none = (refused_ending before.told lib bytes fault job tells bad w.ending w.files w.text (comes_over before.told asked lib names.0 (ends w.ending w.files w.text) names.1 w.due)).1 in
              elim w.cause [ inl at_file ↦ absurd (no_file w.files at_file.name none at_file.due) | inr at_text ↦ absurd (prints at_text.rose) ]
          | inr w ↦ inr w.ended_so
        ]
      ]
    ]
always_refused (Err place) lib bytes fault status before now run names tells bad reads prints = absurd (no_name names.1)

-- the architecture
abbrev Read : List ℕ → List ℕ → Seen → Seen → Type 0
Read lib arch before now = PrintsOver RefusesArchitecture (before.told lib) (before.told arch) before.printed now.printed

never_so : (status : Status) (name : List ℕ) (said : ℕ → List ℕ) (l : LibraryParts) (ending : Ending) (files : List (List ℕ × List ℕ)) (text : List ℕ) → status ≡ status_of architecture_refused → status ≡ status_of ending → OverSink l name 4 (λ s. EndsWith done (said s)) (ends ending files text) → ⊥
never_so status name said l ending files text is ended w = elim w [
  | inl v ↦ not_of status 9 ending done is ended (same_ending v.2) (λ e. omega arith)
  | inr v ↦ not_of status 9 ending words_refused is ended (same_ending v.1) (λ e. omega arith)
]

refused_of_sink : (lib arch sink : List ℕ) (said : LibraryParts → ArchitectureParts → ℕ → List ℕ) (status : Status) (before now : Seen) → EndsAsDue (OverArchitecture before.told lib arch (OfSink sink said)) status before now → status ≡ status_of architecture_refused → Read lib arch before now
refused_of_sink lib arch sink said status before now due is = by_refusal lib arch (OfSink sink said) status before now due is (λ l a ending files text ended w. never_so status sink (said l a) l ending files text is ended w)

module _ (team : Team) (words : List (List ℕ)) (status : Status) (before now : Seen) (run : Runs (searched_by team (command_of words)) status before now) where
  pub refused_architecture : (lib arch : List ℕ) → AskOfArchitecture words lib arch → status ≡ status_of architecture_refused → Read lib arch before now
  refused_architecture lib arch ask is = elim ask [
    | inl asked ↦
        let its : Its (weigh lib arch) status before now = its_run team (command_of words) status before now run (weigh lib arch) asked in
        by_refusal lib arch WeighingComesTo status before now (as_due _ status before now 9 its.goes.ended is (λ e. omega arith) (λ e. omega arith) (λ e. omega arith)) is
        (λ l a ending files text ended w. not_of status 9 ending done is ended (same_ending w.2) (λ e. omega arith))
    | inr w ↦ elim w.1 [
      | inl asked ↦
          let its : Its (cuts lib arch w.0) status before now = its_run team (command_of words) status before now run (cuts lib arch w.0) asked in
          refused_of_sink lib arch w.0 cuts_text status before now (as_due _ status before now 9 its.goes.ended is (λ e. omega arith) (λ e. omega arith) (λ e. omega arith)) is
      | inr asked ↦
          let its : Its (probability lib arch w.0) status before now = its_run team (command_of words) status before now run (probability lib arch w.0) asked in
          refused_of_sink lib arch w.0 (λ l a s. mass_text (enclosure_of l a s)) status before now (as_due _ status before now 9 its.goes.ended is (λ e. omega arith) (λ e. omega arith) (λ e. omega arith)) is
    ]
  ]

  -- the sink
  no_sink : (lib arch sink : List ℕ) (said : LibraryParts → ArchitectureParts → ℕ → List ℕ) → EndsAsDue (OverArchitecture before.told lib arch (OfSink sink said)) status before now → status ≡ status_of words_refused → PrintsOver (RefusesSink sink) (before.told lib) (before.told arch) before.printed now.printed
  no_sink lib arch sink said due is =
      by_job lib arch (OfSink sink said) (RefusesSink sink) 4 status before now due is (λ e. omega arith) (λ e. omega arith)
      (λ lib_bytes arch_bytes l a ending files text lib_read arch_read ended w. elim w [
        | inl v ↦ absurd (not_of status 4 ending done is ended (same_ending v.2) (λ e. omega arith))
        | inr v ↦ record { lib = l; lib_read = lib_read; arch = a; arch_read = arch_read; none = v.0; report = same_text v.1 }
      ])

  pub refused_sink : (lib arch sink : List ℕ) → AskOfSink words lib arch sink → status ≡ status_of words_refused → PrintsOver (RefusesSink sink) (before.told lib) (before.told arch) before.printed now.printed
  refused_sink lib arch sink ask is = elim ask [
    | inl asked ↦
        let its : Its (cuts lib arch sink) status before now = its_run team (command_of words) status before now run (cuts lib arch sink) asked in
        no_sink lib arch sink cuts_text (as_due _ status before now 4 its.goes.ended is (λ e. omega arith) (λ e. omega arith) (λ e. omega arith)) is
    | inr asked ↦
        let its : Its (probability lib arch sink) status before now = its_run team (command_of words) status before now run (probability lib arch sink) asked in
        no_sink lib arch sink (λ l a s. mass_text (enclosure_of l a s)) (as_due _ status before now 4 its.goes.ended is (λ e. omega arith) (λ e. omega arith) (λ e. omega arith)) is
  ]

  -- ---- which status always comes

  two_calm : (lib arch : List ℕ) → (Rose (before.reads lib) (now.reads lib) → ⊥) → (Rose (before.reads arch) (now.reads arch) → ⊥) → (name : List ℕ) → Contains (lib ∷ arch ∷ []) name → Rose (before.reads name) (now.reads name) → ⊥
  two_calm lib arch first second name has rose =
      let P : List ℕ → Type 0 = λ n. Rose (before.reads n) (now.reads n) in
      elim (either_name lib arch name has) [ inl is ↦ first (subst P is rose) | inr is ↦ second (subst P is rose) ]

  one_calm : (lib : List ℕ) → (Rose (before.reads lib) (now.reads lib) → ⊥) → (name : List ℕ) → Contains (lib ∷ []) name → Rose (before.reads name) (now.reads name) → ⊥
  one_calm lib calm name has rose = let P : List ℕ → Type 0 = λ n. Rose (before.reads n) (now.reads n) in calm (subst P (only_one lib name has) rose)

  none_written : (name : List ℕ) → Contains [] name → Rose (before.writes name) (now.writes name) → ⊥
  none_written name has rose = absurd (omega (arith, has.1))

  pub weigh_completes : (lib arch lib_bytes arch_bytes : List ℕ) → command_of words ≡ Ok (weigh lib arch) → before.told lib ≡ Some lib_bytes → before.told arch ≡ Some arch_bytes → (Rose (before.reads lib) (now.reads lib) → ⊥) → (Rose (before.reads arch) (now.reads arch) → ⊥)
      → (Rose before.prints now.prints → ⊥) → UnlessNoMemory status (EndsOverArchitecture lib_bytes arch_bytes status)
  weigh_completes lib arch lib_bytes arch_bytes asked lib_tells arch_tells lib_calm arch_calm prints =
      unless_no_memory (weigh lib arch) status before now (EndsOverArchitecture lib_bytes arch_bytes status) (its_run team (command_of words) status before now run (weigh lib arch) asked) (two_calm lib arch lib_calm arch_calm) none_written prints
      (λ due. both_end before.told lib arch lib_bytes arch_bytes WeighingComesTo (λ l a. status ≡ status_of done) status due.ending due.files due.text lib_tells arch_tells due.ended_so due.due (λ l a w. due.ended_so ∙ ap status_of (same_ending w.2)))

  -- how a command over a sink ends
  abbrev SinkEnds : List ℕ → LibraryParts → ArchitectureParts → Type 0
  SinkEnds sink l a = ((status ≡ status_of done) × (c : ℕ) × IsSinkNamed l sink c) ⊎ ((status ≡ status_of words_refused) × ((c : ℕ) → IsSinkNamed l sink c → ⊥))

  of_sink_ends : (lib arch sink lib_bytes arch_bytes : List ℕ) (said : LibraryParts → ArchitectureParts → ℕ → List ℕ) → before.told lib ≡ Some lib_bytes → before.told arch ≡ Some arch_bytes → EndsAsDue (OverArchitecture before.told lib arch (OfSink sink said)) status before now → EndsOverSink sink lib_bytes arch_bytes status
  of_sink_ends lib arch sink lib_bytes arch_bytes said lib_tells arch_tells due =
      both_end before.told lib arch lib_bytes arch_bytes (OfSink sink said) (SinkEnds sink) status due.ending due.files due.text lib_tells arch_tells due.ended_so due.due
      (λ l a w. elim w [ inl v ↦ inl (due.ended_so ∙ ap status_of (same_ending v.2), v.0, v.1) | inr v ↦ inr (due.ended_so ∙ ap status_of (same_ending v.1), v.0) ])

  pub sink_completes : (lib arch sink lib_bytes arch_bytes : List ℕ) → AskOfSink words lib arch sink → before.told lib ≡ Some lib_bytes → before.told arch ≡ Some arch_bytes → (Rose (before.reads lib) (now.reads lib) → ⊥) → (Rose (before.reads arch) (now.reads arch) → ⊥)
      → (Rose before.prints now.prints → ⊥) → UnlessNoMemory status (EndsOverSink sink lib_bytes arch_bytes status)
  sink_completes lib arch sink lib_bytes arch_bytes ask lib_tells arch_tells lib_calm arch_calm prints = elim ask [
    | inl asked ↦
        unless_no_memory (cuts lib arch sink) status before now (EndsOverSink sink lib_bytes arch_bytes status) (its_run team (command_of words) status before now run (cuts lib arch sink) asked) (two_calm lib arch lib_calm arch_calm) none_written prints
        (of_sink_ends lib arch sink lib_bytes arch_bytes cuts_text lib_tells arch_tells)
    | inr asked ↦
        unless_no_memory (probability lib arch sink) status before now (EndsOverSink sink lib_bytes arch_bytes status) (its_run team (command_of words) status before now run (probability lib arch sink) asked) (two_calm lib arch lib_calm arch_calm) none_written prints
        (of_sink_ends lib arch sink lib_bytes arch_bytes (λ l a s. mass_text (enclosure_of l a s)) lib_tells arch_tells)
  ]

  abbrev ListEnds : Result LibraryParts LibFault → Type 0
  ListEnds answer = MatchResult answer (λ _. status ≡ status_of done) (λ _. status ≡ status_of library_refused)

  of_list_ends : (lib bytes : List ℕ) (said : LibraryParts → List ℕ) → before.told lib ≡ Some bytes → EndsAsDue (OverLibrary before.told lib (λ l. EndsWith done (said l))) status before now → EndsOverLibrary bytes status
  of_list_ends lib bytes said tells due =
      let found = library_due before.told lib (λ l. EndsWith done (said l)) due.ending due.files due.text due.due in
      let same : found.0 ≡ bytes = told_bytes (before.told lib) bytes found.0 tells found.1 in
      elim found.2 [
        | inl w ↦ subst ListEnds (sym w.1 ∙ ap library_of same) (due.ended_so ∙ ap status_of (same_ending w.2))
        | inr w ↦ subst ListEnds (sym w.1.refused ∙ ap library_of same) (due.ended_so ∙ ap status_of w.0)
      ]

  pub list_completes : (lib bytes : List ℕ) → AskForList words lib → before.told lib ≡ Some bytes → (Rose (before.reads lib) (now.reads lib) → ⊥) → (Rose before.prints now.prints → ⊥) → UnlessNoMemory status (EndsOverLibrary bytes status)
  list_completes lib bytes ask tells calm prints = elim ask [
    | inl asked ↦
        unless_no_memory (template lib) status before now (EndsOverLibrary bytes status) (its_run team (command_of words) status before now run (template lib) asked) (one_calm lib calm) none_written prints (of_list_ends lib bytes template_text tells)
    | inr asked ↦
        unless_no_memory (rows lib) status before now (EndsOverLibrary bytes status) (its_run team (command_of words) status before now run (rows lib) asked) (one_calm lib calm) none_written prints (of_list_ends lib bytes (λ l. rows_text (base_problem l)) tells)
  ]
