-- From a log that was judged, or wasn't, to what comes of `check`.
use Rattle.std.proofs.Common.{◌≡◌, ℕ, Option, List, [], Result, Ok, Err, IfOk, IfErr, OnOk, refl, sym, ap, subst, inl, inr}
use Rattle.outside.specs.Faults.{Stay}
use Rattle.arch_model.specs.Library.{IsLibrary}
use Rattle.arch_model.specs.Parts.{LibraryParts}
use Rattle.rows.specs.Parts.{ProblemParts}
use Rattle.rows.specs.Problem.{IsProblem}
use Rattle.lib_read.specs.LibraryOf.{library_of}
use Rattle.search_core.specs.declared.answer.Answer.{Answer}
use Rattle.proof_log.specs.Log.{Accepts}
use Rattle.archex_app.specs.declared.check.Halt.{Halt}
use Rattle.archex_app.specs.declared.check.Halt.TheVariants.{Memory, Failed, No}
use Rattle.archex_app.specs.declared.outcome.Outcome.{Outcome}
use Rattle.archex_app.specs.declared.outcome.Stop.{Stop}
use Rattle.archex_app.specs.Status.{done, library_refused, log_refused}
use Rattle.archex_app.specs.Due.{ends}
use Rattle.archex_app.specs.Words.{check}
use Rattle.report.specs.Refusal.{refused_library_text}
use Rattle.archex_app.specs.Search.{base_problem}
use Rattle.archex_app.specs.ComesTo.{CommandComesTo, Reads, VerdictComesTo}
use Rattle.archex_app.specs.Inner.Outcome.{Settles, IsRead, StopsAt}
use Rattle.archex_app.specs.Inner.Checking.{OfBytes, HaltsRight, HaltReads, Tells}
use Rattle.archex_app.proofs.Coming.{settles_over, stops_at}

module _ (told : List ℕ → Option (List ℕ)) (log : List ℕ) (lib : LibraryParts) (library : IsLibrary lib) (problem : IsProblem (base_problem lib)) where
  -- over the log's bytes
  judged_comes : (judged : Result Answer Halt) (r : Result Outcome Stop) (before now : List ℕ → ℕ) → IfOk judged (λ answer. OfBytes (told log) (λ bytes. Accepts (base_problem lib) bytes answer)) → IfErr judged (HaltsRight (base_problem lib) (told log))
      → OnOk judged (Stay before now) → IfErr judged (λ halt. HaltReads halt log before now) → Tells judged r → Settles (Reads told log (VerdictComesTo lib)) r before now
  judged_comes (Ok answer) (Ok outcome) before now passes breaks stay reads tells =
      (record { ending = done; settled = tt; ended_so = tells.0; due = inr (passes.0, passes.1, inl (answer, record { library = library; problem = problem; accepts = passes.2 }, ap (ends done []) tells.1)) }, stay)
  judged_comes (Ok answer) (Err stop) before now passes breaks stay reads tells =
      let P : Stop → Type 0 = λ s. Settles (Reads told log (VerdictComesTo lib)) (Err s) before now in
      subst P (sym tells) stay
  judged_comes (Err (No refused)) (Ok outcome) before now passes breaks stay reads tells =
      (record { ending = log_refused; settled = tt; ended_so = tells.0; due = inr (breaks.0, breaks.1, inr (refused, breaks.2, ap (ends log_refused []) tells.1)) }, reads)
  judged_comes (Err (No refused)) (Err stop) before now passes breaks stay reads tells =
      let P : Stop → Type 0 = λ s. Settles (Reads told log (VerdictComesTo lib)) (Err s) before now in
      subst P (sym tells) reads
  judged_comes (Err Memory) r before now passes breaks stay reads tells =
      let P : Result Outcome Stop → Type 0 = λ x. Settles (Reads told log (VerdictComesTo lib)) x before now in
      subst P (sym tells) reads
  judged_comes (Err Failed) r before now passes breaks stay reads tells =
      let P : Result Outcome Stop → Type 0 = λ x. Settles (Reads told log (VerdictComesTo lib)) x before now in
      subst P (sym tells) (log, inl refl, reads.0, reads.1)

-- over the library's, which were read before
pub check_comes : (told mid : List ℕ → Option (List ℕ)) (lib log : List ℕ) (l : LibraryParts) (p : ProblemParts) (judged : Result Answer Halt) (r : Result Outcome Stop) (before between now : List ℕ → ℕ) → IsRead library_of (told lib) (Ok l) → Stay before between
    → mid log ≡ told log → p ≡ base_problem l → IsLibrary p.library → IsProblem p → IfOk judged (λ answer. OfBytes (mid log) (λ bytes. Accepts p bytes answer)) → IfErr judged (HaltsRight p (mid log))
    → OnOk judged (Stay between now) → IfErr judged (λ halt. HaltReads halt log between now) → Tells judged r → Settles (CommandComesTo told (check lib log)) r before now
check_comes told mid lib log l p judged r before between now lib_read stay same is library problem passes breaks stays reads tells =
    let A : ProblemParts → Type 0 = λ q. IsLibrary q.library in
    let Y : Option (List ℕ) → ProblemParts → Type 0 = λ t q. IfOk judged (λ answer. OfBytes t (λ bytes. Accepts q bytes answer)) in
    let N : Option (List ℕ) → ProblemParts → Type 0 = λ t q. IfErr judged (HaltsRight q t) in
    settles_over library_of library_refused refused_library_text told lib (λ k. Reads told log (VerdictComesTo k)) l r before between now lib_read stay
    (judged_comes told log l (subst A is library) (subst IsProblem is problem) judged r between now (subst (Y (told log)) is (subst (λ t. Y t p) same passes)) (subst (N (told log)) is (subst (λ t. N t p) same breaks)) stays reads tells)

-- where the library isn't one, or there was no memory for it
pub check_stops : (told : List ℕ → Option (List ℕ)) (lib log : List ℕ) (stop : Stop) (before now : List ℕ → ℕ) → StopsAt library_of library_refused refused_library_text (told lib) lib stop before now → Settles (CommandComesTo told (check lib log)) (Err stop) before now
check_stops told lib log stop before now stops = stops_at library_of library_refused refused_library_text told lib (λ k. Reads told log (VerdictComesTo k)) stop before now tt stops
