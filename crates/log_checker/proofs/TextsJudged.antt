-- A text passes or has a first broken line: it can't be that it does neither.
use Rattle.std.proofs.Common.{ℕ, zero, suc, ◌+◌, ◌≤◌, List, [], ◌∷◌, ◌++◌, length, codes, refl, sym, ap, subst, arith, inl, inr, ⊎_elim}
use Rattle.std.proofs.lemmas.List.{length-append}
use Rattle.arch_model.specs.Library.{IsLibrary}
use Rattle.rows.specs.Parts.{ProblemParts}
use Rattle.rows.specs.Problem.{IsProblem}
use Rattle.search_core.specs.declared.rule.Rule.{Rule}
use Rattle.search_core.specs.declared.rule.Rule.TheVariants as rule
use Rattle.search_core.specs.declared.answer.Answer.{Answer}
use Rattle.search_core.specs.State.{start_of}
use Rattle.search_core.proofs.Entering.{reached_next}
use Rattle.proof_log.specs.declared.log_line.LogLine.{LogLine}
use Rattle.proof_log.specs.declared.log_line.LogLine.TheVariants as lines
use Rattle.proof_log.specs.Fault.{IsInRange}
use Rattle.proof_log.specs.Value.{log_line, ended}
use Rattle.proof_log.specs.Log.{Accepts}
use Rattle.proof_log.proofs.FirstFaults.{none_unless_first}
use Rattle.log_checker.specs.Phase.{Phase, Begun, Versioned, Sized, Running, Closed, IsPhaseOf, IsUnclosed}
use Rattle.log_checker.specs.Feeding.{Leads, LineLeads}
use Rattle.log_checker.specs.Breaking.{rule_of, IsInPlace, PlacedBreaks, SaidBreaks, LineBreaks}
use Rattle.log_checker.specs.Text.{HasNoLineFeed, bytes_of, HasLine, WholeBreaks, TailBreaks, HasRead, FirstBrokenLine}
use Rattle.log_checker.proofs.SaidLines.{says_something}
use Rattle.log_checker.proofs.EntriesJudged.{ask, entry_is_judged}
use Rattle.log_checker.proofs.ReadTexts.{begins, none_read, one_more_read, all_read, broken_there}

-- ---- one line

module _ (problem : ProblemParts) (its_library : IsLibrary problem.library) (its : IsProblem problem) where
  placed_is_judged : (phase : Phase) (said : LogLine) → IsPhaseOf problem phase → IsInRange (log_line said) → IsUnclosed phase → IsInPlace problem phase said → ((r : Rule) → PlacedBreaks problem phase said r → ⊥)
      → ((new : Phase) → Leads problem phase said new → IsPhaseOf problem new → ⊥) → ⊥
  placed_is_judged Begun said kept range unclosed place unbroken go =
      let P : LogLine → Type 0 = λ s. Leads problem Begun s Versioned in
      go Versioned (subst P (sym place) (record { before = refl; after = refl })) tt
  placed_is_judged Versioned said kept range unclosed place unbroken go =
      let P : LogLine → Type 0 = λ s. Leads problem Versioned s Sized in
      go Sized (subst P (sym place) (record { before = refl; components = refl; edges = refl; after = refl })) tt
  placed_is_judged Sized said kept range unclosed place unbroken go =
      let P : LogLine → Type 0 = λ s. Leads problem Sized s (Running (start_of place.0)) in
      go (Running (start_of place.0)) (subst P (sym place.1) (record { before = refl; few = place.2; after = refl })) (place.0, [], record { few = place.2; steps = refl })
  placed_is_judged (Running state) lines.Version kept range unclosed place unbroken go = place
  placed_is_judged (Running state) (lines.Vars components edges) kept range unclosed place unbroken go = place
  placed_is_judged (Running state) (lines.Limit limit) kept range unclosed place unbroken go = place
  placed_is_judged (Running state) (lines.Entry entry) kept range unclosed place unbroken go =
      entry_is_judged problem its_library its state kept entry range unbroken (λ next step.
      go (Running next) (record { state = state; next = next; before = refl; step = step; after = refl }) (reached_next problem state next entry kept step))
  placed_is_judged (Running state) (lines.Closing answer branchings cuts) kept range unclosed place unbroken go =
      ask unbroken (λ is unbroken. go (Closed state answer) (record { state = state; before = refl; answer = is; after = refl }) (kept, is.answers))
  placed_is_judged (Closed state answer) said kept range unclosed place unbroken go = unclosed answer refl

  -- a line leads on, or some rule is the first that it breaks
  pub line_is_judged : (phase : Phase) (bytes : List ℕ) → IsPhaseOf problem phase → ((r : Rule) → LineBreaks problem phase bytes r → ⊥) → ((new : Phase) → LineLeads problem phase bytes new → IsPhaseOf problem new → ⊥) → ⊥
  line_is_judged phase bytes kept unbroken go =
      let its = says_something bytes (none_unless_first bytes (λ fault x. unbroken (rule_of fault) (inl (record { fault = fault; first = x; named = refl })))) in
      let said_unbroken : (r : Rule) → SaidBreaks problem phase its.0 r → ⊥ = λ r x. unbroken r (inr (record { said = its.0; says = its.1; first = x })) in
      ask said_unbroken (λ unclosed unbroken. ask unbroken (λ place unbroken.
      placed_is_judged phase its.0 kept its.1.readable.0.0 unclosed place unbroken (λ new leads kept. go new (record { said = its.0; says = its.1; leads = leads }) kept)))

-- ---- a text

module _ (problem : ProblemParts) (its_library : IsLibrary problem.library) (its : IsProblem problem) (text : List ℕ) (never : (answer : Answer) → Accepts problem text answer → ⊥) (unbroken : (n : ℕ) (r : Rule) → FirstBrokenLine problem text n r → ⊥) where
  ends : (before : List (List ℕ)) (phase : Phase) → HasRead problem text before phase [] → ⊥
  ends before Begun read = unbroken (length before + 1) rule.End (broken_there problem text before Begun [] rule.End read ((λ answer closed. closed), refl))
  ends before Versioned read = unbroken (length before + 1) rule.End (broken_there problem text before Versioned [] rule.End read ((λ answer closed. closed), refl))
  ends before Sized read = unbroken (length before + 1) rule.End (broken_there problem text before Sized [] rule.End read ((λ answer closed. closed), refl))
  ends before (Running state) read = unbroken (length before + 1) rule.End (broken_there problem text before (Running state) [] rule.End read ((λ answer closed. closed), refl))
  ends before (Closed state answer) read = never answer (all_read problem text before (Closed state answer) answer read refl)

  -- a last line with no line feed breaks a rule
  tail_is_judged : (before : List (List ℕ)) (phase : Phase) (b : ℕ) (rest : List ℕ) → HasRead problem text before phase (b ∷ rest) → HasNoLineFeed (b ∷ rest) → ⊥
  tail_is_judged before phase b rest read none =
      let tail_unbroken : (r : Rule) → TailBreaks (length (bytes_of before)) (b ∷ rest) r → ⊥ = λ r x. unbroken (length before + 1) r (broken_there problem text before phase (b ∷ rest) r read (inr (record { none = none; first = x }))) in
      ask tail_unbroken (λ fits unbroken. ask unbroken (λ short unbroken. unbroken rule.End refl))

  rest_is_judged : (most : ℕ) (before : List (List ℕ)) (phase : Phase) (rest : List ℕ) → length rest ≤ most → HasRead problem text before phase rest → IsPhaseOf problem phase → ⊥
  rest_is_judged most before phase [] le read kept = ends before phase read
  rest_is_judged zero before phase (b ∷ rest) le read kept = omega arith
  rest_is_judged (suc most) before phase (b ∷ rest) le read kept = ⊎_elim
      (λ (h : (line : List ℕ) × HasLine (b ∷ rest) line).
      let whole_unbroken : (r : Rule) → WholeBreaks problem phase (length (bytes_of before)) h.0 r → ⊥ =
      λ r x. unbroken (length before + 1) r (broken_there problem text before phase (b ∷ rest) r read (inl (record { line = h.0; next = h.1; first = x }))) in
      let less : length h.1.more ≤ most = omega (arith, le, ap length h.1.parts, length-append (ended h.0) h.1.more, length-append h.0 (codes "\n")) in
      ask whole_unbroken (λ fits unbroken. line_is_judged problem its_library its phase h.0 kept unbroken (λ new leads kept.
      rest_is_judged most (before ++ h.0 ∷ []) new h.1.more less (one_more_read problem text before phase new (b ∷ rest) h.0 read h.1 fits leads) kept)))
      (λ (none : HasNoLineFeed (b ∷ rest)). tail_is_judged before phase b rest read none)
      (begins (b ∷ rest))

  -- a text passes, or has a first broken line
  pub text_is_judged : ⊥
  text_is_judged = rest_is_judged (length text) [] Begun text (omega arith) (none_read problem text) tt
