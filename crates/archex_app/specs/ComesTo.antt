-- What the words come to, over what the shelf tells under each name. The order of refusals stands here, once for all commands: the words; reading the library; the library; reading the architecture; the architecture; the sink; then the command's own job.
use Rattle.std.specs.Prelude.{◌≡◌, ℕ, Option, List, [], ◌∷◌, ◌⊎◌, Result, Ok, Err, IfSome, MatchResult}
use Rattle.generate.specs.Generated.{library_text}
use Rattle.generated.specs.GeneratedLibrary.{generated_library}
use Rattle.arch_model.specs.Parts.{LibraryParts, ArchitectureParts}
use Rattle.arch_model.specs.Mass.{enclosure_of}
use Rattle.search_core.specs.declared.limits.TheConstants.{BRANCHINGS}
use Rattle.search_core.specs.declared.entry.Entry.{Entry}
use Rattle.search_core.specs.declared.answer.Answer.{Answer}
use Rattle.search_core.specs.Rules.{weights_of}
use Rattle.search_core.specs.State.{SearchState}
use Rattle.lib_read.specs.LibraryOf.{library_of}
use Rattle.log_checker.specs.declared.error.No.{No}
use Rattle.arch_csv.specs.ArchitectureOf.{architecture_of_bytes}
use Rattle.report.specs.Report.{search_report}
use Rattle.report.specs.Weighing.{IsFirstBroken, weigh_text}
use Rattle.report.specs.Sets.{cuts_text}
use Rattle.report.specs.Template.{template_text}
use Rattle.report.specs.Rows.{rows_text}
use Rattle.report.specs.Summary.{generated_text}
use Rattle.archex_app.specs.Status.{Ending, ending_of, done, library_refused, words_refused, log_refused, architecture_refused}
use Rattle.archex_app.specs.Due.{Due, ends, unread}
use Rattle.archex_app.specs.Words.{Asked, GenerateWords, solve, check, weigh, cuts, probability, template, rows, generate}
use Rattle.report.specs.Refusal.{refused_words_text, refused_library_text, refused_architecture_text}
use Rattle.archex_app.specs.Search.{base_problem, IsSearch, search_log}
use Rattle.archex_app.specs.Verdict.{IsPassing, IsBroken}
use Rattle.report.specs.Verdict.{yes_text, no_text}
use Rattle.archex_app.specs.Mass.{IsSinkNamed}
use Rattle.report.specs.Mass.{mass_text}

-- the run ends so, with this text, and writes no file
abbrev pub EndsWith : Ending → List ℕ → Due → Type 0
EndsWith ending text due = due ≡ ends ending [] text

-- a file is read: that fails, or something comes of its bytes: those that the shelf tells, or where it tells none, some bytes, of which nothing more is said
abbrev pub Reads : (List ℕ → Option (List ℕ)) → List ℕ → (List ℕ → Due → Type 0) → Due → Type 0
Reads told name Then due = (due ≡ unread name) ⊎ ((bytes : List ℕ) × IfSome (told name) (λ all. bytes ≡ all) × Then bytes due)

-- a file is read as something: of that a job comes, and bytes that aren't so are refused for their fault
abbrev pub ReadsAs : {T E : Type 0} → (List ℕ → Result T E) → Ending → (E → List ℕ) → (List ℕ → Option (List ℕ)) → List ℕ → (T → Due → Type 0) → Due → Type 0
ReadsAs of ending refusal told name Job due = Reads told name (λ bytes come. MatchResult (of bytes) (λ x. Job x come) (λ fault. EndsWith ending (refusal fault) come)) due

-- a job over the library of a name
abbrev pub OverLibrary : (List ℕ → Option (List ℕ)) → List ℕ → (LibraryParts → Due → Type 0) → Due → Type 0
OverLibrary told name Job due = ReadsAs library_of library_refused refused_library_text told name Job due

-- over the architecture of a name, too
abbrev pub OverArchitecture : (List ℕ → Option (List ℕ)) → List ℕ → List ℕ → (LibraryParts → ArchitectureParts → Due → Type 0) → Due → Type 0
OverArchitecture told name arch_name Job due = OverLibrary told name (λ lib. ReadsAs (architecture_of_bytes lib) architecture_refused refused_architecture_text told arch_name (Job lib)) due

-- a job over the component of role sink that has a name: where there is none, the words are refused for the name's place
abbrev pub OverSink : LibraryParts → List ℕ → ℕ → (ℕ → Due → Type 0) → Due → Type 0
OverSink lib name place Job due =
    ((sink : ℕ) × IsSinkNamed lib name sink × Job sink due)
    ⊎ (((sink : ℕ) → IsSinkNamed lib name sink → ⊥) × EndsWith words_refused (refused_words_text place) due)

-- how many workers there are, and how many analysts, where one worker searches: so it is with `generate`
abbrev pub ALONE : ℕ
ALONE = 1

-- what a search by a team of workers and analysts comes to: its log under a name, and the report of its answer
abbrev pub SearchComesTo : List ℕ → ℕ → ℕ → ℕ → LibraryParts → Due → Type 0
SearchComesTo log limit workers analysts lib due =
    (entries : List Entry) × (state : SearchState) × (answer : Answer) × IsSearch lib limit workers analysts entries state answer
    × (due ≡ ends (ending_of answer) ((log, search_log lib limit entries state answer) ∷ []) (search_report lib state answer))

-- what `generate` comes to: the text of its number, which is a library, under one name, the log of the search of that by one worker, under the greatest limit of branchings, under another, and a summary
abbrev pub GenerationComesTo : GenerateWords → Due → Type 0
GenerationComesTo ask due =
    (library_of (library_text ask.number ask.size) ≡ Ok (generated_library ask.number ask.size))
    × (entries : List Entry) × (state : SearchState) × (answer : Answer) × IsSearch (generated_library ask.number ask.size) BRANCHINGS ALONE ALONE entries state answer
    × (due ≡ ends (ending_of answer)
    ((ask.file, library_text ask.number ask.size) ∷ (ask.log, search_log (generated_library ask.number ask.size) BRANCHINGS entries state answer) ∷ [])
    (generated_text (generated_library ask.number ask.size) answer))

-- what `check` comes to over the bytes of a log: yes with the answer with which it passes, or no with its first broken line and the first rule that this breaks
abbrev pub VerdictComesTo : LibraryParts → List ℕ → Due → Type 0
VerdictComesTo lib bytes due =
    ((answer : Answer) × IsPassing lib bytes answer × EndsWith done (yes_text answer) due)
    ⊎ ((refused : No) × IsBroken lib bytes refused × EndsWith log_refused (no_text refused.line refused.rule) due)

-- what `weigh` comes to: its cost, whether it meets the patterns or else the first that it breaks, the weights of its required sinks, and whether all this makes it admissible
abbrev pub WeighingComesTo : LibraryParts → ArchitectureParts → Due → Type 0
WeighingComesTo lib arch due = (broken : Option ℕ) × IsFirstBroken lib arch broken × EndsWith done (weigh_text lib arch (weights_of lib arch) broken) due

-- what `cuts` comes to: the minimal cut sets of the sink, whose name is word 4, that have a positive product
abbrev pub CutsComeTo : List ℕ → LibraryParts → ArchitectureParts → Due → Type 0
CutsComeTo sink lib arch due = OverSink lib sink 4 (λ s. EndsWith done (cuts_text lib arch s)) due

-- what `probability` comes to: two bounds of the failure mass of the sink, whose name is word 4
abbrev pub MassComesTo : List ℕ → LibraryParts → ArchitectureParts → Due → Type 0
MassComesTo sink lib arch due = OverSink lib sink 4 (λ s. EndsWith done (mass_text (enclosure_of lib arch s))) due

-- what a command comes to
abbrev pub CommandComesTo : (List ℕ → Option (List ℕ)) → Asked → Due → Type 0
CommandComesTo told (solve ask) due = OverLibrary told ask.lib (SearchComesTo ask.log ask.branchings ask.workers ask.analysts) due
CommandComesTo told (check lib log) due = OverLibrary told lib (λ l. Reads told log (VerdictComesTo l)) due
CommandComesTo told (weigh lib arch) due = OverArchitecture told lib arch WeighingComesTo due
CommandComesTo told (cuts lib arch sink) due = OverArchitecture told lib arch (CutsComeTo sink) due
CommandComesTo told (probability lib arch sink) due = OverArchitecture told lib arch (MassComesTo sink) due
CommandComesTo told (template lib) due = OverLibrary told lib (λ l. EndsWith done (template_text l)) due
CommandComesTo told (rows lib) due = OverLibrary told lib (λ l. EndsWith done (rows_text (base_problem l))) due
CommandComesTo told (generate ask) due = GenerationComesTo ask due

-- what words come to: their command, or the refusal for the first that isn't as it should be
abbrev pub ComesTo : (List ℕ → Option (List ℕ)) → Result Asked ℕ → Due → Type 0
ComesTo told (Ok asked) due = CommandComesTo told asked due
ComesTo told (Err place) due = EndsWith words_refused (refused_words_text place) due
