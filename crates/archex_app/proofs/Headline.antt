-- What a run of `solve` says, from what is said of all runs.
use Rattle.std.proofs.Common.{◌≡◌, ◌≢◌, ℕ, ◌^◌, ◌<◌, ◌≤◌, Option, Some, None, List, [], ◌∷◌, ◌++◌, append-nil, Ok, Err, Result, IfSome, refl, sym, ap, subst, ◌∙◌, arith, inl, inr, ◌⊎◌}
use Rattle.std.specs.Prelude.{MatchResult, Contains}
use Rattle.arch_model.specs.Parts.{LibraryParts}
use Rattle.arch_model.specs.Member.{member_count}
use Rattle.search_core.specs.declared.entry.Entry.{Entry}
use Rattle.search_core.specs.declared.answer.Answer.{Answer}
use Rattle.search_core.specs.declared.answer.Answer.TheVariants.{Optimal, Infeasible, NodeLimit}
use Rattle.search_core.specs.State.{SearchState}
use Rattle.outside.specs.Faults.{Rose}
use Rattle.outside.specs.Told.{Appends}
use Rattle.lib_read.specs.LibraryOf.{library_of}
use Rattle.lib_read.specs.declared.fault.LibFault.{LibFault}
use Rattle.archex_app.specs.declared.status.Status.{Status}
use Rattle.archex_app.specs.Status.{Ending, number_of, status_of, done, infeasible, node_limit, library_refused, read_fault, write_fault, no_memory, ending_of}
use Rattle.archex_app.specs.Due.{ends, unread}
use Rattle.archex_app.specs.Words.{SolveWords, solve}
use Rattle.report.specs.Refusal.{refused_library_text}
use Rattle.archex_app.specs.Search.{IsSearch, search_log}
use Rattle.report.specs.Report.{search_report}
use Rattle.archex_app.specs.Answer.{ShowsCheapest, ShowsInfeasible, ShowsNodeLimit, ShowsRefusal, ShowsReport, Prints, PrintsFront}
use Rattle.archex_app.specs.Searched.{Answered, ShowsAnswer, ShowsSearch, SomeSearch, LeavesLog, CutsText}
use Rattle.archex_app.specs.ComesTo.{ComesTo, SearchComesTo, EndsWith}
use Rattle.archex_app.specs.Complete.{Solves, Completes}
use Rattle.archex_app.specs.Files.{names_of, IsFrontOf}
use Rattle.archex_app.specs.Run.{Seen, PrintsFrontOf, EndsAsDue, FailsToRead, FailsAtFile, FailsAtText, FailsToWrite, HoldsAll, HoldsUpTo, WantsMemory, Runs}
use Rattle.archex_app.proofs.RunLaws.{apart}
use Rattle.archex_app.proofs.SearchAnswers.{optimal_shows, infeasible_shows, limit_shows, some_admissible, none_admissible, least_best, best_admissible, limit_spent, complete_unless, cuts_hold}
use Rattle.archex_app.proofs.PassingLogs.{search_passes}
use Rattle.archex_app.proofs.Within.{only_one, same_ending, same_files, same_text, no_read, words_read}
use Rattle.archex_app.proofs.AllRuns.{as_due, as_read, as_write, as_memory, write_rose}

-- what `solve` ends as: a search of the library, or the refusal of bytes that are none
record Found (ask : SolveWords) (bytes : List ℕ) (ending : Ending) (files : List (List ℕ × List ℕ)) (text : List ℕ) : Type 0 where
  pub lib : LibraryParts
  pub read : library_of bytes ≡ Ok lib
  pub entries : List Entry
  pub state : SearchState
  pub answer : Answer
  pub search : IsSearch lib ask.branchings ask.workers ask.analysts entries state answer
  pub ending_is : ending ≡ ending_of answer
  pub files_are : files ≡ (ask.log, search_log lib ask.branchings entries state answer) ∷ []
  pub text_is : text ≡ search_report lib state answer

abbrev Refused : List ℕ → Ending → List (List ℕ × List ℕ) → List ℕ → Type 0
Refused bytes ending files text = (ending ≡ library_refused) × ShowsRefusal bytes text × (files ≡ [])

abbrev SolveShows : SolveWords → List ℕ → Ending → List (List ℕ × List ℕ) → List ℕ → Type 0
SolveShows ask bytes ending files text = Found ask bytes ending files text ⊎ Refused bytes ending files text

bytes_show : (ask : SolveWords) (bytes : List ℕ) (ending : Ending) (files : List (List ℕ × List ℕ)) (text : List ℕ) (answer : Result LibraryParts LibFault) → library_of bytes ≡ answer
    → MatchResult answer (λ lib. SearchComesTo ask.log ask.branchings ask.workers ask.analysts lib (ends ending files text)) (λ fault. EndsWith library_refused (refused_library_text fault) (ends ending files text)) → SolveShows ask bytes ending files text
bytes_show ask bytes ending files text (Ok lib) read job = inl (record {
  lib = lib;
  read = read;
  entries = job.0;
  state = job.1;
  answer = job.2;
  search = job.3;
  ending_is = same_ending job.4;
  files_are = same_files job.4;
  text_is = same_text job.4;
})
bytes_show ask bytes ending files text (Err fault) read refused = inr (same_ending refused, record { fault = fault; refused = read; report = same_text refused }, same_files refused)

-- of the bytes that are told, or of some
abbrev Shown : (List ℕ → Option (List ℕ)) → SolveWords → Ending → List (List ℕ × List ℕ) → List ℕ → Type 0
Shown told ask ending files text = (bytes : List ℕ) × IfSome (told ask.lib) (λ all. bytes ≡ all) × SolveShows ask bytes ending files text

solve_shows : (told : List ℕ → Option (List ℕ)) (ask : SolveWords) (ending : Ending) (files : List (List ℕ × List ℕ)) (text : List ℕ) → ComesTo told (Ok (solve ask)) (ends ending files text) → Shown told ask ending files text
solve_shows told ask ending files text comes = elim comes [ inl read ↦ absurd (no_read (sym read)) | inr w ↦ (w.0, w.1, bytes_show ask w.0 ending files text (library_of w.0) refl w.2) ]

solve_reads : (told : List ℕ → Option (List ℕ)) (ask : SolveWords) (n : List ℕ) → ComesTo told (Ok (solve ask)) (unread n) → n ≡ ask.lib
solve_reads told ask n comes = only_one ask.lib n (words_read told (Ok (solve ask)) n comes)

-- what a search shows, by its answer
cheapest_if : (ask : SolveWords) (bytes text : List ℕ) (lib : LibraryParts) (entries : List Entry) (state : SearchState) (answer : Answer) → library_of bytes ≡ Ok lib → IsSearch lib ask.branchings ask.workers ask.analysts entries state answer → text ≡ search_report lib state answer
    → number_of (ending_of answer) ≡ 0 → ShowsCheapest bytes text
cheapest_if ask bytes text lib entries state (Optimal cost) read is text_is zero_is = subst (λ (t : List ℕ). ShowsCheapest bytes t) (sym text_is) (optimal_shows lib ask.branchings ask.workers ask.analysts entries state cost bytes read is)
cheapest_if ask bytes text lib entries state Infeasible read is text_is zero_is = absurd (omega arith)
cheapest_if ask bytes text lib entries state (NodeLimit incumbent) read is text_is zero_is = absurd (omega arith)

none_if : (ask : SolveWords) (bytes text : List ℕ) (lib : LibraryParts) (entries : List Entry) (state : SearchState) (answer : Answer) → library_of bytes ≡ Ok lib → IsSearch lib ask.branchings ask.workers ask.analysts entries state answer → text ≡ search_report lib state answer
    → number_of (ending_of answer) ≡ 1 → ShowsInfeasible bytes text
none_if ask bytes text lib entries state (Optimal cost) read is text_is one_is = absurd (omega arith)
none_if ask bytes text lib entries state Infeasible read is text_is one_is = subst (λ (t : List ℕ). ShowsInfeasible bytes t) (sym text_is) (infeasible_shows lib ask.branchings ask.workers ask.analysts entries state bytes read is)
none_if ask bytes text lib entries state (NodeLimit incumbent) read is text_is one_is = absurd (omega arith)

limit_if : (ask : SolveWords) (bytes text : List ℕ) (lib : LibraryParts) (entries : List Entry) (state : SearchState) (answer : Answer) → library_of bytes ≡ Ok lib → IsSearch lib ask.branchings ask.workers ask.analysts entries state answer → text ≡ search_report lib state answer
    → number_of (ending_of answer) ≡ 2 → ShowsNodeLimit ask.branchings bytes text
limit_if ask bytes text lib entries state (Optimal cost) read is text_is two_is = absurd (omega arith)
limit_if ask bytes text lib entries state Infeasible read is text_is two_is = absurd (omega arith)
limit_if ask bytes text lib entries state (NodeLimit incumbent) read is text_is two_is = subst (λ (t : List ℕ). ShowsNodeLimit ask.branchings bytes t) (sym text_is) (limit_shows lib ask.branchings ask.workers ask.analysts entries state incumbent bytes read is)

answer_if : (ask : SolveWords) (bytes text : List ℕ) (lib : LibraryParts) (entries : List Entry) (state : SearchState) (answer : Answer) → library_of bytes ≡ Ok lib → IsSearch lib ask.branchings ask.workers ask.analysts entries state answer → text ≡ search_report lib state answer
    → ShowsReport ask.branchings bytes text
answer_if ask bytes text lib entries state (Optimal cost) read is text_is = inl (cheapest_if ask bytes text lib entries state (Optimal cost) read is text_is refl)
answer_if ask bytes text lib entries state Infeasible read is text_is = inr (inl (none_if ask bytes text lib entries state Infeasible read is text_is refl))
answer_if ask bytes text lib entries state (NodeLimit incumbent) read is text_is = inr (inr (inl (limit_if ask bytes text lib entries state (NodeLimit incumbent) read is text_is refl)))

-- one status is that of one ending
same_number : (status : Status) (n : ℕ) (ending other : Ending) → status ≡ record { 0 = n } → status ≡ status_of ending → ending ≡ other → number_of other ≡ n
same_number status n ending other is ended same = ap number_of (sym same) ∙ sym (ap (λ (s : Status). s.0) (sym is ∙ ended))

abbrev Solving : SolveWords → Status → Seen → Seen → Type 0
Solving ask status before now = Runs (Ok (solve ask)) status before now

-- it ended as is due, and so as a search where the status isn't that of a refusal
abbrev Came : SolveWords → Status → Seen → Seen → Type 0
Came ask status before now = EndsAsDue (ComesTo before.told (Ok (solve ask))) status before now

not_refused : (n : ℕ) (status : Status) (bytes text : List ℕ) (ending : Ending) (files : List (List ℕ × List ℕ)) → status ≡ record { 0 = n } → status ≡ status_of ending → n ≢ 3 → Refused bytes ending files text → ⊥
not_refused n status bytes text ending files is ended other refused = apart status n 3 is (ended ∙ ap status_of refused.0) other

pub optimal : (ask : SolveWords) (status : Status) (before now : Seen) → Solving ask status before now → status ≡ status_of done → Prints ShowsCheapest (before.told ask.lib) before.printed now.printed
optimal ask status before now run is =
    let due : Came ask status before now = as_due _ status before now 0 run.goes.ended is (λ e. omega arith) (λ e. omega arith) (λ e. omega arith) in
    let found = solve_shows before.told ask due.ending due.files due.text due.due in
    elim found.2 [
      | inl w ↦ record { bytes = found.0; told = found.1; text = due.text; shows = cheapest_if ask found.0 due.text w.lib w.entries w.state w.answer w.read w.search w.text_is (same_number status 0 due.ending (ending_of w.answer) is due.ended_so w.ending_is); printed = due.printed }
      | inr w ↦ absurd (not_refused 0 status found.0 due.text due.ending due.files is due.ended_so (λ e. omega arith) w)
    ]

pub none_meets : (ask : SolveWords) (status : Status) (before now : Seen) → Solving ask status before now → status ≡ status_of infeasible → Prints ShowsInfeasible (before.told ask.lib) before.printed now.printed
none_meets ask status before now run is =
    let due : Came ask status before now = as_due _ status before now 1 run.goes.ended is (λ e. omega arith) (λ e. omega arith) (λ e. omega arith) in
    let found = solve_shows before.told ask due.ending due.files due.text due.due in
    elim found.2 [
      | inl w ↦ record { bytes = found.0; told = found.1; text = due.text; shows = none_if ask found.0 due.text w.lib w.entries w.state w.answer w.read w.search w.text_is (same_number status 1 due.ending (ending_of w.answer) is due.ended_so w.ending_is); printed = due.printed }
      | inr w ↦ absurd (not_refused 1 status found.0 due.text due.ending due.files is due.ended_so (λ e. omega arith) w)
    ]

pub limit_met : (ask : SolveWords) (status : Status) (before now : Seen) → Solving ask status before now → status ≡ status_of node_limit → Prints (ShowsNodeLimit ask.branchings) (before.told ask.lib) before.printed now.printed
limit_met ask status before now run is =
    let due : Came ask status before now = as_due _ status before now 2 run.goes.ended is (λ e. omega arith) (λ e. omega arith) (λ e. omega arith) in
    let found = solve_shows before.told ask due.ending due.files due.text due.due in
    elim found.2 [
      | inl w ↦ record { bytes = found.0; told = found.1; text = due.text; shows = limit_if ask found.0 due.text w.lib w.entries w.state w.answer w.read w.search w.text_is (same_number status 2 due.ending (ending_of w.answer) is due.ended_so w.ending_is); printed = due.printed }
      | inr w ↦ absurd (not_refused 2 status found.0 due.text due.ending due.files is due.ended_so (λ e. omega arith) w)
    ]

no_search : (answer : Answer) → number_of (ending_of answer) ≡ 3 → ⊥
no_search (Optimal cost) e = omega arith
no_search Infeasible e = omega arith
no_search (NodeLimit incumbent) e = omega arith

-- the history of a search that was printed, and its log
only_file : (name text : List ℕ) (files : List (List ℕ × List ℕ)) (before now : Seen) → files ≡ (name, text) ∷ [] → HoldsAll files before now → IfSome (now.told name) (λ bytes. bytes ≡ text)
only_file name text files before now is holds =
    let P : List (List ℕ × List ℕ) → Type 0 = λ fs. HoldsAll fs before now in
    let one : HoldsAll ((name, text) ∷ []) before now = subst P is holds in
    one.whole 0 (name, text) (omega arith)

-- what was found is some search
abbrev one_search : (ask : SolveWords) (told : Option (List ℕ)) (bytes text : List ℕ) (ending : Ending) (files : List (List ℕ × List ℕ)) → IfSome told (λ all. bytes ≡ all) → Found ask bytes ending files text → SomeSearch ask told
one_search ask told bytes text ending files reads w = record {
  bytes = bytes;
  told = reads;
  lib = w.lib;
  read = w.read;
  entries = w.entries;
  state = w.state;
  answer = w.answer;
  search = w.search;
}

-- what a search shows of its library
abbrev pub shows_answer_of : (ask : SolveWords) (lib_told : Option (List ℕ)) (one : SomeSearch ask lib_told) → ShowsAnswer ask.workers ask.analysts one.lib ask.branchings one.entries one.state one.answer
shows_answer_of ask lib_told one = record {
  search = one.search;
  optimal = λ cost is. least_best one.lib ask.branchings ask.workers ask.analysts one.entries one.state cost (subst (λ (a : Answer). IsSearch one.lib ask.branchings ask.workers ask.analysts one.entries one.state a) is one.search);
  none_meets = λ is. none_admissible one.lib ask.branchings ask.workers ask.analysts one.entries one.state (subst (λ (a : Answer). IsSearch one.lib ask.branchings ask.workers ask.analysts one.entries one.state a) is one.search);
  at_limit = λ incumbent is. limit_spent one.lib ask.branchings ask.workers ask.analysts one.entries one.state incumbent (subst (λ (a : Answer). IsSearch one.lib ask.branchings ask.workers ask.analysts one.entries one.state a) is one.search);
  complete = complete_unless one.lib ask.branchings ask.workers ask.analysts one.entries one.state one.answer one.search;
  best = best_admissible one.lib ask.branchings ask.workers ask.analysts one.entries one.state one.answer one.search;
  passes = search_passes one.bytes one.lib ask.branchings ask.workers ask.analysts one.entries one.state one.answer one.read one.search;
  cuts_hold = cuts_hold one.lib ask.branchings ask.workers ask.analysts one.entries one.state one.answer one.search;
}

-- and where its report was printed and its log was written
shows_search : (ask : SolveWords) (status : Status) (lib_told log_told before now : Option (List ℕ)) (one : SomeSearch ask lib_told) → status ≡ status_of (ending_of one.answer) → Appends before now (search_report one.lib one.state one.answer)
    → IfSome log_told (λ log. log ≡ search_log one.lib ask.branchings one.entries one.state one.answer) → ShowsSearch ask status lib_told log_told before now
shows_search ask status lib_told log_told before now one ended printed log = record {
  bytes = one.bytes;
  told = one.told;
  lib = one.lib;
  read = one.read;
  entries = one.entries;
  state = one.state;
  answer = one.answer;
  shows = shows_answer_of ask lib_told one;
  ended_so = ended;
  printed = printed;
  log = log;
}

searched_from : (ask : SolveWords) (status : Status) (before now : Seen) (due : Came ask status before now) (bytes : List ℕ) → IfSome (before.told ask.lib) (λ all. bytes ≡ all) → Found ask bytes due.ending due.files due.text
    → ShowsSearch ask status (before.told ask.lib) (now.told ask.log) before.printed now.printed
searched_from ask status before now due bytes told w =
    shows_search ask status (before.told ask.lib) (now.told ask.log) before.printed now.printed (one_search ask (before.told ask.lib) bytes due.text due.ending due.files told w) (due.ended_so ∙ ap status_of w.ending_is)
    (subst (λ (t : List ℕ). Appends before.printed now.printed t) w.text_is due.printed)
    (only_file ask.log (search_log w.lib ask.branchings w.entries w.state w.answer) due.files before now w.files_are due.holds)

searched_as : (n : ℕ) (ask : SolveWords) (status : Status) (before now : Seen) → Solving ask status before now → status ≡ record { 0 = n } → n ≢ 3 → n ≢ 5 → n ≢ 6 → n ≢ 7 → ShowsSearch ask status (before.told ask.lib) (now.told ask.log) before.printed now.printed
searched_as n ask status before now run is three five six seven =
    let due : Came ask status before now = as_due _ status before now n run.goes.ended is five six seven in
    let found = solve_shows before.told ask due.ending due.files due.text due.due in
    elim found.2 [
      | inl w ↦ searched_from ask status before now due found.0 found.1 w
      | inr w ↦ absurd (not_refused n status found.0 due.text due.ending due.files is due.ended_so three w)
    ]

pub searched : (ask : SolveWords) (status : Status) (before now : Seen) → Solving ask status before now → Answered status → ShowsSearch ask status (before.told ask.lib) (now.told ask.log) before.printed now.printed
searched ask status before now run answered = elim answered [
  | inl is ↦ searched_as 0 ask status before now run is (λ e. omega arith) (λ e. omega arith) (λ e. omega arith) (λ e. omega arith)
  | inr more ↦ elim more [
    | inl is ↦ searched_as 1 ask status before now run is (λ e. omega arith) (λ e. omega arith) (λ e. omega arith) (λ e. omega arith)
    | inr is ↦ searched_as 2 ask status before now run is (λ e. omega arith) (λ e. omega arith) (λ e. omega arith) (λ e. omega arith)
  ]
]

pub read_rose : (ask : SolveWords) (status : Status) (before now : Seen) → Solving ask status before now → status ≡ status_of read_fault → Rose (before.reads ask.lib) (now.reads ask.lib)
read_rose ask status before now run is =
    let read : FailsToRead (ComesTo before.told (Ok (solve ask))) status before now = as_read _ status before now run.goes.ended is in
    let P : List ℕ → Type 0 = λ n. Rose (before.reads n) (now.reads n) in
    subst P (solve_reads before.told ask read.name read.due) read.rose

shows_answer : (ask : SolveWords) (bytes : List ℕ) (ending : Ending) (files : List (List ℕ × List ℕ)) (text : List ℕ) → SolveShows ask bytes ending files text → ShowsReport ask.branchings bytes text
shows_answer ask bytes ending files text shows = elim shows [ inl w ↦ answer_if ask bytes text w.lib w.entries w.state w.answer w.read w.search w.text_is | inr w ↦ inr (inr (inr w.1)) ]

-- where nothing was printed, the front of a text without bytes was
nothing_more : (before now : Option (List ℕ)) → now ≡ before → Appends before now []
nothing_more before None is = tt
nothing_more before (Some bytes) is = (bytes, sym is, sym (append-nil bytes))

cut_text : (files : List (List ℕ × List ℕ)) (text : List ℕ) (before now : Seen) → FailsAtFile files before now ⊎ FailsAtText files text before now → PrintsFrontOf text before now
cut_text files text before now cause = elim cause [ inl w ↦ ([], text, refl, nothing_more before.printed now.printed w.printed) | inr w ↦ w.printed ]

pub cut_short : (ask : SolveWords) (status : Status) (before now : Seen) → Solving ask status before now → status ≡ status_of write_fault → PrintsFront (ShowsReport ask.branchings) (before.told ask.lib) before.printed now.printed
cut_short ask status before now run is =
    let w : FailsToWrite (ComesTo before.told (Ok (solve ask))) status before now = as_write _ status before now run.goes.ended is in
    let found = solve_shows before.told ask w.ending w.files w.text w.due in
    let part = cut_text w.files w.text before now w.cause in
    let P : List ℕ → Type 0 = ShowsReport ask.branchings found.0 in
    record { bytes = found.0; told = found.1; front = part.0; rest = part.1; shows = subst P part.2 (shows_answer ask found.0 w.ending w.files w.text found.2); printed = part.3 }

-- what is left under the log's name by a run that stopped before its end
pub left_by : (ask : SolveWords) (told log_before log_now : Option (List ℕ)) (one : SomeSearch ask told) → (log_now ≡ log_before) ⊎ IfSome log_now (λ front. (rest : List ℕ) × (search_log one.lib ask.branchings one.entries one.state one.answer ≡ front ++ rest))
    → LeavesLog ask told log_before log_now
left_by ask told log_before None one left = inr tt
left_by ask told log_before (Some front) one left = elim left [ inl same ↦ inl same | inr part ↦ inr (record { one = one; rest = part.0; log = part.1 }) ]

front_at : (ask : SolveWords) (told log_before log_now : Option (List ℕ)) (bytes text : List ℕ) (ending : Ending) (files : List (List ℕ × List ℕ)) → IfSome told (λ all. bytes ≡ all) → (w : Found ask bytes ending files text)
    → (log_now ≡ log_before) ⊎ IfSome log_now (λ front. (rest : List ℕ) × (search_log w.lib ask.branchings w.entries w.state w.answer ≡ front ++ rest)) → LeavesLog ask told log_before log_now
front_at ask told log_before log_now bytes text ending files reads w left = left_by ask told log_before log_now (one_search ask told bytes text ending files reads w) left

front_of_one : (name text : List ℕ) (files : List (List ℕ × List ℕ)) (at : List ℕ) (before now : Seen) → files ≡ (name, text) ∷ [] → HoldsUpTo at files before now → IsFrontOf (before.told name) (now.told name) text
front_of_one name text files at before now is holds =
    let P : List (List ℕ × List ℕ) → Type 0 = λ fs. HoldsUpTo at fs before now in
    let one : HoldsUpTo at ((name, text) ∷ []) before now = subst P is holds in
    elim one.cut [ inl w ↦ w.1 | inr w ↦ absurd w.1 ]

pub whole_front : (told : Option (List ℕ)) (text : List ℕ) → IfSome told (λ bytes. bytes ≡ text) → IfSome told (λ bytes. (rest : List ℕ) × (text ≡ bytes ++ rest))
whole_front None text is = tt
whole_front (Some bytes) text is = ([], sym is ∙ sym (append-nil bytes))

nothing_in : (files : List (List ℕ × List ℕ)) (name : List ℕ) → files ≡ [] → Contains (names_of files) name → ⊥
nothing_in files name none has =
    let P : List (List ℕ × List ℕ) → Type 0 = λ l. Contains (names_of l) name in
    let it : Contains (names_of []) name = subst P none has in
    absurd (omega (arith, it.1))

-- where the library is refused or can't be read, the log stays as it was
pub log_stays : (ask : SolveWords) (status : Status) (before now : Seen) → Solving ask status before now → (status ≡ status_of library_refused) ⊎ (status ≡ status_of read_fault) → now.told ask.log ≡ before.told ask.log
log_stays ask status before now run is = elim is [
  | inl three ↦
      let due : Came ask status before now = as_due _ status before now 3 run.goes.ended three (λ e. omega arith) (λ e. omega arith) (λ e. omega arith) in
      let found = solve_shows before.told ask due.ending due.files due.text due.due in
      elim found.2 [
        | inl w ↦ absurd (no_search w.answer (same_number status 3 due.ending (ending_of w.answer) three due.ended_so w.ending_is))
        | inr w ↦ due.holds.others ask.log (λ has. nothing_in due.files ask.log w.2 has)
      ]
  | inr five ↦ let read : FailsToRead (ComesTo before.told (Ok (solve ask))) status before now = as_read _ status before now run.goes.ended five in read.kept ask.log
]

left_by_cut : (ask : SolveWords) (before now : Seen) (ending : Ending) (files : List (List ℕ × List ℕ)) (text : List ℕ) → Shown before.told ask ending files text → (at : List ℕ) → HoldsUpTo at files before now → LeavesLog ask (before.told ask.lib) (before.told ask.log) (now.told ask.log)
left_by_cut ask before now ending files text found at holds = elim found.2 [
  | inl w ↦ front_at ask (before.told ask.lib) (before.told ask.log) (now.told ask.log) found.0 text ending files found.1 w (front_of_one ask.log (search_log w.lib ask.branchings w.entries w.state w.answer) files at before now w.files_are holds)
  | inr w ↦ inl (holds.others ask.log (λ has. nothing_in files ask.log w.2 has))
]

left_by_all : (ask : SolveWords) (before now : Seen) (ending : Ending) (files : List (List ℕ × List ℕ)) (text : List ℕ) → Shown before.told ask ending files text → HoldsAll files before now → LeavesLog ask (before.told ask.lib) (before.told ask.log) (now.told ask.log)
left_by_all ask before now ending files text found holds = elim found.2 [
  | inl w ↦ front_at ask (before.told ask.lib) (before.told ask.log) (now.told ask.log) found.0 text ending files found.1 w (inr (whole_front (now.told ask.log) (search_log w.lib ask.branchings w.entries w.state w.answer) (only_file ask.log (search_log w.lib ask.branchings w.entries w.state w.answer) files before now w.files_are holds)))
  | inr w ↦ inl (holds.others ask.log (λ has. nothing_in files ask.log w.2 has))
]

left_by_write : (ask : SolveWords) (status : Status) (before now : Seen) → FailsToWrite (ComesTo before.told (Ok (solve ask))) status before now → LeavesLog ask (before.told ask.lib) (before.told ask.log) (now.told ask.log)
left_by_write ask status before now w =
    let found = solve_shows before.told ask w.ending w.files w.text w.due in
    elim w.cause [
      | inl at_file ↦ left_by_cut ask before now w.ending w.files w.text found at_file.name at_file.holds
      | inr at_text ↦ left_by_all ask before now w.ending w.files w.text found at_text.holds
    ]

left_by_memory : (ask : SolveWords) (status : Status) (before now : Seen) → WantsMemory (ComesTo before.told (Ok (solve ask))) status before now → LeavesLog ask (before.told ask.lib) (before.told ask.log) (now.told ask.log)
left_by_memory ask status before now w = elim w.holds [ inl same ↦ inl (same ask.log) | inr part ↦ left_by_cut ask before now part.0 part.1 part.2 (solve_shows before.told ask part.0 part.1 part.2 part.3) part.4 part.5 ]

pub leaves_log : (ask : SolveWords) (status : Status) (before now : Seen) → Solving ask status before now → (status ≡ status_of write_fault) ⊎ (status ≡ status_of no_memory) → LeavesLog ask (before.told ask.lib) (before.told ask.log) (now.told ask.log)
leaves_log ask status before now run is = elim is [
  | inl six ↦ left_by_write ask status before now (as_write _ status before now run.goes.ended six)
  | inr seven ↦ left_by_memory ask status before now (as_memory _ status before now run.goes.ended seven)
]

-- a write that failed was that of the log or of the text
write_rose_at : (ask : SolveWords) (status : Status) (before now : Seen) → Solving ask status before now → status ≡ status_of write_fault → Rose before.prints now.prints ⊎ Rose (before.writes ask.log) (now.writes ask.log)
write_rose_at ask status before now run is = elim (write_rose (Ok (solve ask)) status before now run is) [
  | inl rose ↦ inl rose
  | inr w ↦ let P : List ℕ → Type 0 = λ n. Rose (before.writes n) (now.writes n) in inr (subst P (only_one ask.log w.0 w.1) w.2)
]

-- the file that a search writes is its log
log_named : (ask : SolveWords) (bytes : List ℕ) (ending : Ending) (files : List (List ℕ × List ℕ)) (text : List ℕ) → SolveShows ask bytes ending files text → (name : List ℕ) → Contains (names_of files) name → name ≡ ask.log
log_named ask bytes ending files text shows name due =
    let P : List (List ℕ × List ℕ) → Type 0 = λ l. Contains (names_of l) name in
    elim shows [ inl w ↦ only_one ask.log name (subst P w.files_are due) | inr w ↦ absurd (nothing_in files name w.2 due) ]

-- where the log could be written and the text not, the log stands whole
cut_at : (ask : SolveWords) (before now : Seen) (ending : Ending) (files : List (List ℕ × List ℕ)) (text : List ℕ) → Shown before.told ask ending files text → FailsAtText files text before now
    → CutsText ask (before.told ask.lib) (before.told ask.log) (now.told ask.log) before.printed now.printed
cut_at ask before now ending files text found at = elim found.2 [
  | inl w ↦ inl (record {
    one = one_search ask (before.told ask.lib) found.0 text ending files found.1 w;
    log = only_file ask.log (search_log w.lib ask.branchings w.entries w.state w.answer) files before now w.files_are at.holds;
    front = at.printed.0;
    rest = at.printed.1;
    report = sym w.text_is ∙ at.printed.2;
    printed = at.printed.3;
  })
  | inr w ↦
      let P : List ℕ → Type 0 = ShowsRefusal found.0 in
      inr (record {
        refusal = record { bytes = found.0; told = found.1; front = at.printed.0; rest = at.printed.1; shows = subst P at.printed.2 w.1; printed = at.printed.3 };
        log_stays = at.holds.others ask.log (λ has. nothing_in files ask.log w.2 has);
      })
]

pub logged : (ask : SolveWords) (status : Status) (before now : Seen) → Solving ask status before now → status ≡ status_of write_fault → (Rose (before.writes ask.log) (now.writes ask.log) → ⊥)
    → CutsText ask (before.told ask.lib) (before.told ask.log) (now.told ask.log) before.printed now.printed
logged ask status before now run is calm =
    let w : FailsToWrite (ComesTo before.told (Ok (solve ask))) status before now = as_write _ status before now run.goes.ended is in
    let found = solve_shows before.told ask w.ending w.files w.text w.due in
    elim w.cause [
      | inl at_file ↦
          let P : List ℕ → Type 0 = λ n. Rose (before.writes n) (now.writes n) in
          absurd (calm (subst P (log_named ask found.0 w.ending w.files w.text found.2 at_file.name at_file.due) at_file.rose))
      | inr at_text ↦ cut_at ask before now w.ending w.files w.text found at_text
    ]

-- which status always comes
abbrev Completed : ℕ → Status → Result LibraryParts LibFault → Type 0
Completed limit status answer = MatchResult answer (λ lib. Solves lib limit status) (λ fault. (status ≡ status_of library_refused) ⊎ (status ≡ status_of no_memory))

without_memory : (limit : ℕ) (answer : Result LibraryParts LibFault) (status : Status) → status ≡ status_of no_memory → Completed limit status answer
without_memory limit (Ok lib) status is = record {
  ends = inr (inr (inr is));
  one_meets = λ e. absurd (apart status 7 0 is e (λ t. omega arith));
  none_meets = λ e. absurd (apart status 7 1 is e (λ t. omega arith));
  enough = λ far e. absurd (apart status 7 2 is e (λ t. omega arith));
}
without_memory limit (Err fault) status is = inr is

too_short : (limit far : ℕ) → limit < far → far ≤ limit → ⊥
too_short limit far short enough = omega arith

pub solves : (ask : SolveWords) (bytes : List ℕ) (lib : LibraryParts) (entries : List Entry) (state : SearchState) (answer : Answer) (status : Status) → library_of bytes ≡ Ok lib → IsSearch lib ask.branchings ask.workers ask.analysts entries state answer → status ≡ status_of (ending_of answer)
    → Solves lib ask.branchings status
solves ask bytes lib entries state (Optimal cost) status read is ended = record {
  ends = inl ended;
  one_meets = λ e. some_admissible lib ask.branchings ask.workers ask.analysts entries state cost is;
  none_meets = λ e. absurd (apart status 0 1 ended e (λ t. omega arith));
  enough = λ far e. absurd (apart status 0 2 ended e (λ t. omega arith));
}
solves ask bytes lib entries state Infeasible status read is ended = record {
  ends = inr (inl ended);
  one_meets = λ e. absurd (apart status 1 0 ended e (λ t. omega arith));
  none_meets = λ e. none_admissible lib ask.branchings ask.workers ask.analysts entries state is;
  enough = λ far e. absurd (apart status 1 2 ended e (λ t. omega arith));
}
solves ask bytes lib entries state (NodeLimit incumbent) status read is ended = record {
  ends = inr (inr (inl ended));
  one_meets = λ e. absurd (apart status 2 0 ended e (λ t. omega arith));
  none_meets = λ e. absurd (apart status 2 1 ended e (λ t. omega arith));
  enough = λ far e. too_short ask.branchings (2 ^ member_count lib) (limit_spent lib ask.branchings ask.workers ask.analysts entries state incumbent is).short far;
}

shown_completes : (ask : SolveWords) (bytes : List ℕ) (ending : Ending) (files : List (List ℕ × List ℕ)) (text : List ℕ) (status : Status) → status ≡ status_of ending → SolveShows ask bytes ending files text → Completes ask.branchings bytes status
shown_completes ask bytes ending files text status is shows =
    let P : Result LibraryParts LibFault → Type 0 = Completed ask.branchings status in
    elim shows [
      | inl w ↦ subst P (sym w.read) (solves ask bytes w.lib w.entries w.state w.answer status w.read w.search (is ∙ ap status_of w.ending_is))
      | inr w ↦ subst P (sym w.1.refused) (inl (is ∙ ap status_of w.0))
    ]

pub completes : (ask : SolveWords) (bytes : List ℕ) (status : Status) (before now : Seen) → Solving ask status before now → before.told ask.lib ≡ Some bytes → (Rose (before.reads ask.lib) (now.reads ask.lib) → ⊥)
    → (Rose (before.writes ask.log) (now.writes ask.log) → ⊥) → (Rose before.prints now.prints → ⊥) → Completes ask.branchings bytes status
completes ask bytes status before now run tells reads writes prints = elim run.goes.ended [
  | inl w ↦
      let found = solve_shows before.told ask w.ending w.files w.text w.due in
      let F : Option (List ℕ) → Type 0 = λ o. IfSome o (λ all. found.0 ≡ all) in
      let same : found.0 ≡ bytes = subst F tells found.1 in
      let P : List ℕ → Type 0 = λ b. Completes ask.branchings b status in
      subst P same (shown_completes ask found.0 w.ending w.files w.text status w.ended_so found.2)
  | inr faults ↦ elim faults [
    | inl w ↦ absurd (reads (read_rose ask status before now run w.ended_so))
    | inr more ↦ elim more [
      | inl w ↦ elim (write_rose_at ask status before now run w.ended_so) [ inl rose ↦ absurd (prints rose) | inr rose ↦ absurd (writes rose) ]
      | inr w ↦ without_memory ask.branchings (library_of bytes) status w.ended_so
    ]
  ]
]

-- never with status 2 where the limit is enough
pub enough : (ask : SolveWords) (bytes : List ℕ) (lib : LibraryParts) (status : Status) (before now : Seen) → Solving ask status before now → before.told ask.lib ≡ Some bytes → library_of bytes ≡ Ok lib → 2 ^ member_count lib ≤ ask.branchings → status ≡ status_of node_limit → ⊥
enough ask bytes lib status before now run tells read far is =
    let due : Came ask status before now = as_due _ status before now 2 run.goes.ended is (λ e. omega arith) (λ e. omega arith) (λ e. omega arith) in
    let found = solve_shows before.told ask due.ending due.files due.text due.due in
    let F : Option (List ℕ) → Type 0 = λ o. IfSome o (λ all. found.0 ≡ all) in
    let same : found.0 ≡ bytes = subst F tells found.1 in
    let P : List ℕ → Type 0 = λ b. Completes ask.branchings b status in
    let Q : Result LibraryParts LibFault → Type 0 = Completed ask.branchings status in
    let so : Solves lib ask.branchings status = subst Q read (subst P same (shown_completes ask found.0 due.ending due.files due.text status due.ended_so found.2)) in
    so.enough far is
