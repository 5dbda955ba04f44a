-- What comes of a search that came to its end.
use Rattle.std.proofs.Common.{◌≡◌, ℕ, false, true, Option, Some, None, List, [], ◌∷◌, Result, Ok, Err, IfSome, refl, sym, ap, subst, ◌∙◌, arith, inr}
use Rattle.std.specs.Prelude.{MatchResult, ◌≤◌}
use Rattle.std.specs.Cow.{cow_slice_items}
use Rattle.arch_model.specs.Parts.{LibraryParts}
use Rattle.arch_model.specs.Library.{IsLibrary}
use Rattle.outside.specs.Faults.{NeverFall, Stay}
use Rattle.generate.specs.Generated.{library_text}
use Rattle.generated.specs.GeneratedLibrary.{generated_library}
use Rattle.generated.proofs.Whole.{generated_text_is}
use Rattle.lib_read.specs.LibraryOf.{library_of}
use Rattle.lib_read.specs.declared.fault.LibFault.{LibFault}
use Rattle.rows.specs.Parts.{ProblemParts}
use Rattle.rows.specs.Problem.{IsProblem}
use Rattle.incumbent.specs.declared.best.Best.{Best}
use Rattle.search_core.specs.declared.limits.TheConstants.{BRANCHINGS}
use Rattle.search_core.specs.declared.answer.Answer.{Answer}
use Rattle.search_core.specs.declared.answer.Answer.TheVariants.{Optimal, Infeasible, NodeLimit}
use Rattle.search_core.specs.Invariant.{IsAdmissibleBest}
use Rattle.search_core.proofs.CutRows.{right_cuts}
use Rattle.search_core.proofs.Runs.{reached_is_kept}
use Rattle.proof_log.specs.Log.{log_text_of}
use Rattle.report.specs.Refusal.{refused_library_text}
use Rattle.report.specs.Report.{report_text, search_report}
use Rattle.report.specs.Summary.{generated_text}
use Rattle.archex_app.specs.declared.status.Status.{Status}
use Rattle.worker_team.specs.declared.solved.Solved.{Solved}
use Rattle.archex_app.specs.declared.search.Searched.{Searched}
use Rattle.archex_app.specs.declared.solve.Reported.{Reported}
use Rattle.archex_app.specs.declared.generation.Made.{Made}
use Rattle.archex_app.specs.declared.outcome.Stop.{Stop}
use Rattle.archex_app.specs.declared.outcome.Stop.TheVariants.{NoMemory}
use Rattle.archex_app.specs.declared.writing.WriteError.{WriteError}
use Rattle.worker_team.specs.Solved.{IsSolved}
use Rattle.archex_app.specs.Status.{Ending, status_of, ending_of, library_refused, no_memory}
use Rattle.archex_app.specs.Due.{Due, ends, IsSettled}
use Rattle.archex_app.specs.Words.{SolveWords, GenerateWords, solve, generate}
use Rattle.archex_app.specs.Search.{base_problem, search_log}
use Rattle.archex_app.specs.ComesTo.{ComesTo, CommandComesTo, SearchComesTo, ALONE, EndsWith}
use Rattle.archex_app.specs.Run.{Seen, Runs}
use Rattle.archex_app.specs.Inner.Outcome.{IsRead, StopsAt, Finishes}
use Rattle.archex_app.specs.Inner.Log.{Concludes}
use Rattle.archex_app.specs.Inner.Searched.{HasBest, IsSearched, IsReportedUnder, IsMade, log_of}
use Rattle.archex_app.proofs.RunLaws.{finished}
use Rattle.archex_app.proofs.Coming.{stops_at}
use Rattle.archex_app.proofs.WritingRuns.{WroteAll, concluded_run}

-- the best of a search is an architecture, with its cost
best_by : (lib : LibraryParts) (best : Option Best) → IfSome best (IsAdmissibleBest lib) → IfSome best (HasBest lib)
best_by lib None is = tt
best_by lib (Some found) is = record { architecture = is.admissible.meets.architecture; cost = is.cost }

pub has_best : (problem : ProblemParts) (limit workers analysts : ℕ) (solved : Solved) → IsLibrary problem.library → IsProblem problem → IsSolved problem limit workers analysts solved → IfSome solved.best (HasBest problem.library)
has_best problem limit workers analysts solved library is of =
    let kept = (reached_is_kept problem library is (right_cuts problem.library library) of.state (limit, solved.history.entries, of.legal)).holds in
    subst (λ (best : Option Best). IfSome best (HasBest problem.library)) (sym of.best) (best_by problem.library of.state.best kept.best_is_admissible)

pub searched_is : (lib : LibraryParts) (limit workers analysts : ℕ) (s : Searched) → s.problem ≡ base_problem lib → IsLibrary s.problem.library → IsProblem s.problem → IsSolved s.problem limit workers analysts s.solved → IsSearched lib limit workers analysts s
searched_is lib limit workers analysts s same library is of =
    let over : IsSolved (base_problem lib) limit workers analysts s.solved = subst (λ (p : ProblemParts). IsSolved p limit workers analysts s.solved) same of in
    record {
      state = over.state;
      problem = same;
      search = record {
        library = subst (λ (p : ProblemParts). IsLibrary p.library) same library;
        problem = subst (λ (p : ProblemParts). IsProblem p) same is;
        legal = over.legal;
        diligent = over.diligent;
        no_reopen = over.no_reopen;
        workers_below = over.workers_below;
        answers = over.answer;
      };
      best = over.best;
      branchings = over.branchings;
      cuts = over.cuts;
    }

-- the report of what it left is that of its state
same_report : (lib : LibraryParts) (limit workers analysts : ℕ) (s : Searched) (is : IsSearched lib limit workers analysts s) → report_text s.problem.library s.solved.answer s.solved.best s.solved.branchings s.solved.cuts ≡ search_report lib is.state s.solved.answer
same_report lib limit workers analysts s is =
    ap (λ (p : ProblemParts). report_text p.library s.solved.answer s.solved.best s.solved.branchings s.solved.cuts) is.problem
    ∙ ap (λ (o : Option Best). report_text lib s.solved.answer o s.solved.branchings s.solved.cuts) is.best
    ∙ ap (λ x. report_text lib s.solved.answer is.state.best x s.solved.cuts) is.branchings
    ∙ ap (λ x. report_text lib s.solved.answer is.state.best is.state.branchings x) is.cuts

pub reported_is : (told : Option (List ℕ)) (lib : LibraryParts) (limit workers analysts : ℕ) (r : Reported) → IsRead library_of told (Ok lib) → IsSearched lib limit workers analysts r.searched → r.report.status ≡ status_of (ending_of r.searched.solved.answer)
    → cow_slice_items r.report.text ≡ report_text r.searched.problem.library r.searched.solved.answer r.searched.solved.best r.searched.solved.branchings r.searched.solved.cuts → IsReportedUnder told limit workers analysts r
reported_is told lib limit workers analysts r read is ended text = record {
  lib = lib;
  read = read;
  is = is;
  ended_so = ended;
  text = text ∙ same_report lib limit workers analysts r.searched is;
}

-- the summary, too
pub made_is : (number size : ℕ) (made : Made) → 1 ≤ size → size ≤ 16 → made.text.items ≡ library_text number size → IsSearched (generated_library number size) BRANCHINGS ALONE ALONE made.searched
    → made.summary.status ≡ status_of (ending_of made.searched.solved.answer) → cow_slice_items made.summary.text ≡ generated_text made.searched.problem.library made.searched.solved.answer → IsMade number size made
made_is number size made some few text is ended summary = record {
  text = text;
  read = generated_text_is number size some few;
  is = is;
  ended_so = ended;
  summary = summary ∙ ap (λ (p : ProblemParts). generated_text p.library made.searched.solved.answer) is.problem;
}

-- its log is the log of a search
same_log : (lib : LibraryParts) (limit workers analysts : ℕ) (s : Searched) (is : IsSearched lib limit workers analysts s) → log_of limit s ≡ search_log lib limit s.solved.history.entries is.state s.solved.answer
same_log lib limit workers analysts s is =
    ap (λ (p : ProblemParts). log_text_of p limit s.solved.history.entries s.solved.answer s.solved.branchings s.solved.cuts) is.problem
    ∙ ap (λ n. log_text_of (base_problem lib) limit s.solved.history.entries s.solved.answer n s.solved.cuts) is.branchings
    ∙ ap (λ n. log_text_of (base_problem lib) limit s.solved.history.entries s.solved.answer is.state.branchings n) is.cuts

pub settled_so : (answer : Answer) → IsSettled (ending_of answer)
settled_so (Optimal cost) = tt
settled_so Infeasible = tt
settled_so (NodeLimit incumbent) = tt

-- so it comes of the words
one_due : {e : Ending} {name a b text report : List ℕ} → a ≡ b → text ≡ report → ends e ((name, a) ∷ []) text ≡ ends e ((name, b) ∷ []) report
one_due {e} {name} {a} {b} {text} {report} same is = ap (λ (l : List ℕ). ends e ((name, l) ∷ []) text) same ∙ ap (λ (t : List ℕ). ends e ((name, b) ∷ []) t) is

search_comes : (told : List ℕ → Option (List ℕ)) (ask : SolveWords) (r : Reported) → IsReportedUnder (told ask.lib) ask.branchings ask.workers ask.analysts r
    → CommandComesTo told (solve ask) (ends (ending_of r.searched.solved.answer) ((ask.log, log_of ask.branchings r.searched) ∷ []) (cow_slice_items r.report.text))
search_comes told ask r under =
    let s = r.searched in
    let due : Due = ends (ending_of s.solved.answer) ((ask.log, log_of ask.branchings s) ∷ []) (cow_slice_items r.report.text) in
    let P : Result LibraryParts LibFault → Type 0 = λ x. MatchResult x (λ l. SearchComesTo ask.log ask.branchings ask.workers ask.analysts l due) (λ fault. EndsWith library_refused (refused_library_text fault) due) in
    inr (
      under.read.bytes,
      under.read.read,
      subst P (sym under.read.is) (s.solved.history.entries, under.is.state, s.solved.answer, under.is.search, one_due (same_log under.lib ask.branchings ask.workers ask.analysts s under.is) under.text),
    )

two_due : {e : Ending} {first second x y a b text report : List ℕ} → x ≡ y → a ≡ b → text ≡ report → ends e ((first, x) ∷ (second, a) ∷ []) text ≡ ends e ((first, y) ∷ (second, b) ∷ []) report
two_due {e} {first} {second} {x} {y} {a} {b} {text} {report} one two is =
    ap (λ (l : List ℕ). ends e ((first, l) ∷ (second, a) ∷ []) text) one
    ∙ ap (λ (l : List ℕ). ends e ((first, y) ∷ (second, l) ∷ []) text) two
    ∙ ap (λ (t : List ℕ). ends e ((first, y) ∷ (second, b) ∷ []) t) is

made_comes : (told : List ℕ → Option (List ℕ)) (ask : GenerateWords) (made : Made) → IsMade ask.number ask.size made
    → CommandComesTo told (generate ask) (ends (ending_of made.searched.solved.answer) ((ask.file, made.text.items) ∷ (ask.log, log_of BRANCHINGS made.searched) ∷ []) (cow_slice_items made.summary.text))
made_comes told ask made under =
    let s = made.searched in
    (under.read, s.solved.history.entries, under.is.state, s.solved.answer, under.is.search, two_due under.text (same_log (generated_library ask.number ask.size) BRANCHINGS ALONE ALONE s under.is) under.summary)

-- the run of a search that came to its end
pub searched_run : {T : Type 0} (ask : SolveWords) (r : Reported) (written : Result T WriteError) (status : Status) (before now : Seen) → IsReportedUnder (before.told ask.lib) ask.branchings ask.workers ask.analysts r
    → WroteAll written ((ask.log, log_of ask.branchings r.searched) ∷ []) before now → Concludes written r.report status before.printed now.printed before.prints now.prints → before.prints ≤ now.prints → Runs (Ok (solve ask)) status before now
searched_run ask r written status before now under wrote concludes prints = record {
  goes = concluded_run (ComesTo before.told (Ok (solve ask))) ((ask.log, log_of ask.branchings r.searched) ∷ []) r.report (ending_of r.searched.solved.answer) status before now (settled_so r.searched.solved.answer) under.ended_so (search_comes before.told ask r under)
      (ask.lib ∷ []) written wrote concludes prints;
  refuses = λ err. let e : false ≡ true = err in cc;
}

pub generated_run : {T : Type 0} (ask : GenerateWords) (made : Made) (written : Result T WriteError) (status : Status) (before now : Seen) → IsMade ask.number ask.size made
    → WroteAll written ((ask.file, made.text.items) ∷ (ask.log, log_of BRANCHINGS made.searched) ∷ []) before now → Concludes written made.summary status before.printed now.printed before.prints now.prints → before.prints ≤ now.prints → Runs (Ok (generate ask)) status before now
generated_run ask made written status before now under wrote concludes prints = record {
  goes = concluded_run (ComesTo before.told (Ok (generate ask))) ((ask.file, made.text.items) ∷ (ask.log, log_of BRANCHINGS made.searched) ∷ []) made.summary (ending_of made.searched.solved.answer) status before now (settled_so made.searched.solved.answer) under.ended_so
      (made_comes before.told ask made under) [] written wrote concludes prints;
  refuses = λ err. let e : false ≡ true = err in cc;
}

-- the run of one that stopped before
pub stopped_run : (ask : SolveWords) (stop : Stop) (status : Status) (before now : Seen) → StopsAt library_of library_refused refused_library_text (before.told ask.lib) ask.lib stop before.reads now.reads
    → Finishes (Err stop) status before.printed now.printed before.prints now.prints → ((name : List ℕ) → now.told name ≡ before.told name) → NeverFall before.reads now.reads → Stay before.writes now.writes → before.prints ≤ now.prints → Runs (Ok (solve ask)) status before now
stopped_run ask stop status before now stops finishes told rise writes prints =
    finished (solve ask) (Err stop) status before now (stops_at library_of library_refused refused_library_text before.told ask.lib (SearchComesTo ask.log ask.branchings ask.workers ask.analysts) stop before.reads now.reads tt stops) finishes told rise writes prints

-- without memory nothing was begun
pub nothing_generated : (ask : GenerateWords) (seen : Seen) → Runs (Ok (generate ask)) (status_of no_memory) seen seen
nothing_generated ask seen =
    finished (generate ask) (Err NoMemory) (status_of no_memory) seen seen (λ other. refl) (refl, refl, refl) (λ name. refl) (λ other. omega arith) (λ other. refl) (omega arith)

-- what is said of a library as it was lent
pub library_same : (lent lib : LibraryParts) → lent ≡ lib → IsLibrary lent → IsLibrary lib
library_same lent lib same is = subst IsLibrary same is
