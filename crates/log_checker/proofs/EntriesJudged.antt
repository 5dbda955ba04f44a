-- An entry of a line is a step, or breaks a rule first.
use Rattle.std.proofs.Common.{◌≡◌, ℕ, ◌<◌, ◌≤◌, List, Result, Ok, Err, refl, inl, inr}
use Rattle.std.specs.List.{All}
use Rattle.arch_model.specs.Library.{IsLibrary}
use Rattle.arch_model.specs.Admissible.{IsAdmissible}
use Rattle.arch_model.specs.Weight.{weight_of}
use Rattle.rows.specs.declared.known.RowRef.{RowRef}
use Rattle.rows.specs.Parts.{CubeParts, ProblemParts}
use Rattle.rows.specs.Problem.{IsProblem, IsCandidate}
use Rattle.redundancy_cut.specs.CutRow.{cut_row_of}
use Rattle.search_core.specs.declared.limits.TheConstants.{WORKERS}
use Rattle.search_core.specs.declared.rule.Rule.{Rule}
use Rattle.search_core.specs.declared.entry.Entry.{Entry}
use Rattle.search_core.specs.declared.entry.Entry.TheVariants.{Take, Branch, Prune, Offer, Study, Publish, Accept, Park, Reopen}
use Rattle.search_core.specs.Node.{Held, Pending, Studied, Parked}
use Rattle.search_core.specs.State.{SearchState, known_at}
use Rattle.search_core.specs.History.{IsReached}
use Rattle.search_core.specs.Candidate.{candidate_of}
use Rattle.search_core.specs.Follow.{follow_trace}
use Rattle.search_core.specs.Step.{IsHeldBy, IsTraced, IsStudied, Step, with_node, without_node, branched, accepted, published, reopened}
use Rattle.search_core.specs.Rules.{Breaks, HeldBreaks, StudiedBreaks, TraceBreaks, FirstBroken}
use Rattle.search_core.proofs.Following.{followed_is_legal}
use Rattle.search_core.proofs.CandidateLaws.{candidate_there}
use Rattle.proof_log.specs.declared.log_line.LogLine.TheVariants as lines
use Rattle.proof_log.specs.Fault.{IsInRange}
use Rattle.proof_log.specs.Value.{log_line}
use Rattle.log_checker.proofs.SaidLines.{reason_said}

-- where no rule is the first that is broken, what the first of them asks holds, and none of the others is
pub ask : {asking : Rule} {fact : Type 0} {rest : Rule → Type 0} → ((r : Rule) → Breaks asking fact r (rest r) → ⊥) → (fact → ((r : Rule) → rest r → ⊥) → ⊥) → ⊥
ask {asking} unbroken go = unbroken asking (inl ((λ fact. go fact (λ r x. unbroken r (inr (fact, x)))), refl))

-- a trace leads somewhere, or breaks a rule
followed : (problem : ProblemParts) (state : SearchState) (worker n : ℕ) (trace : List RowRef) (held : IsHeldBy state worker n) (res : Result CubeParts Rule) → follow_trace (known_at problem state held.cuts held.bound) held.cube trace ≡ res
    → ((r : Rule) → TraceBreaks problem state worker n trace r → ⊥) → (IsTraced problem state worker n trace → ⊥) → ⊥
followed problem state worker n trace held (Ok after) e unbroken go = go (record {
  cube = held.cube;
  cuts = held.cuts;
  bound = held.bound;
  held = held.held;
  after = after;
  leads = followed_is_legal (known_at problem state held.cuts held.bound) trace held.cube after e;
})
followed problem state worker n trace held (Err r) e unbroken go = unbroken r (record { whose = held; stops = e })

module _ (problem : ProblemParts) (state : SearchState) where
  ask_held : (worker n : ℕ) (trace : List RowRef) (rest : Rule → IsTraced problem state worker n trace → Type 0) → ((r : Rule) → HeldBreaks problem state worker n trace r (rest r) → ⊥)
      → (worker < WORKERS → (t : IsTraced problem state worker n trace) → ((r : Rule) → rest r t → ⊥) → ⊥) → ⊥
  ask_held worker n trace rest unbroken go =
      ask unbroken (λ few unbroken. ask unbroken (λ held unbroken.
      followed problem state worker n trace held (follow_trace (known_at problem state held.cuts held.bound) held.cube trace) refl (λ r x. unbroken r (inl x)) (λ t. go few t (λ r x. unbroken r (inr (t, x))))))

  ask_studied : (worker n : ℕ) (rest : Rule → IsStudied state worker n → Type 0) → ((r : Rule) → StudiedBreaks state worker n r (rest r) → ⊥) → (worker < WORKERS → (s : IsStudied state worker n) → ((r : Rule) → rest r s → ⊥) → ⊥) → ⊥
  ask_studied worker n rest unbroken go = ask unbroken (λ few unbroken. ask unbroken (λ s unbroken. go few s (λ r x. unbroken r (s, x))))

module _ (problem : ProblemParts) (its_library : IsLibrary problem.library) (its : IsProblem problem) (state : SearchState) (reached : IsReached problem state) where
  admitted : (worker n : ℕ) (s : IsStudied state worker n) → All (λ r. weight_of problem.library (candidate_of problem.library s.cube) r.sink.0 ≤ r.bound) problem.library.requirements → IsAdmissible problem.library (candidate_of problem.library s.cube)
  admitted worker n s weights =
      let can : IsCandidate problem.library (candidate_of problem.library s.cube) = candidate_there problem its_library its state n (Studied s.cube worker) s.cube reached s.studied refl in
      record { meets = can.meets; sinks = can.sinks; weights = weights }

  -- an entry of a line is a step, or some rule is the first that it breaks
  pub entry_is_judged : (entry : Entry) → IsInRange (log_line (lines.Entry entry)) → ((r : Rule) → FirstBroken problem state entry r → ⊥) → ((new : SearchState) → Step problem state entry new → ⊥) → ⊥
  entry_is_judged (Take worker n cuts bound) range unbroken stays =
      ask unbroken (λ few unbroken. ask unbroken (λ opened unbroken. ask unbroken (λ now unbroken. ask unbroken (λ best unbroken.
      stays (with_node state n (Held opened.0 worker cuts bound)) (record { worker = few; fits = record { cube = opened.0; opened = opened.1; cuts_now = now; bound_now = best; next = refl } })))))
  entry_is_judged (Branch worker n trace var) range unbroken stays =
      ask_held problem state worker n trace _ unbroken (λ few t unbroken. ask unbroken (λ free unbroken. ask unbroken (λ below unbroken.
      stays (branched state n t.after var.0) (record { worker = few; fits = record { traced = t; variable = free.variable; free = free.free; below = below; next = refl } }))))
  entry_is_judged (Prune worker n trace reason) range unbroken stays =
      ask_held problem state worker n trace _ unbroken (λ few t unbroken. ask unbroken (λ there unbroken. ask unbroken (λ refuted unbroken.
      stays (without_node state n) (record { worker = few; fits = record { traced = t; reason = reason_said worker n trace reason range; there = there; refuted = refuted; next = refl } }))))
  entry_is_judged (Offer worker n trace) range unbroken stays =
      ask_held problem state worker n trace _ unbroken (λ few t unbroken. ask unbroken (λ full unbroken. ask unbroken (λ stands unbroken.
      stays (with_node state n (Pending t.after)) (record { worker = few; fits = record { traced = t; full = full; stands = stands; next = refl } }))))
  entry_is_judged (Study worker n) range unbroken stays =
      ask unbroken (λ few unbroken. ask unbroken (λ pending unbroken.
      stays (with_node state n (Studied pending.0 worker)) (record { worker = few; fits = record { cube = pending.0; pending = pending.1; next = refl } })))
  entry_is_judged (Publish worker n cut) range unbroken stays =
      ask_studied problem state worker n _ unbroken (λ few s unbroken. ask unbroken (λ right unbroken. ask unbroken (λ refuted unbroken.
      stays (published state n (cut_row_of problem.library cut (candidate_of problem.library s.cube))) (record { worker = few; fits = record { study = s; right = right; refuted = refuted; next = refl } }))))
  entry_is_judged (Accept worker n cost) range unbroken stays =
      ask_studied problem state worker n _ unbroken (λ few s unbroken. ask unbroken (λ weights unbroken. ask unbroken (λ costs unbroken.
      stays (accepted state n cost (candidate_of problem.library s.cube)) (record { worker = few; fits = record { study = s; admissible = admitted worker n s weights; costs = costs; next = refl } }))))
  entry_is_judged (Park worker n) range unbroken stays =
      ask unbroken (λ few unbroken. ask unbroken (λ held unbroken. ask unbroken (λ at_limit unbroken.
      stays (with_node state n (Parked held.cube)) (record { worker = few; fits = record { cube = held.cube; cuts = held.cuts; bound = held.bound; held = held.held; at_limit = at_limit; next = refl } }))))
  entry_is_judged (Reopen limit) range unbroken stays = ask unbroken (λ new unbroken. stays (reopened state limit) (record { worker = tt; fits = record { not_less = new.not_less; few = new.few; next = refl } }))
