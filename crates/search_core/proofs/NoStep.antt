-- An entry that breaks a rule is no step.
use Rattle.std.proofs.Common.{◌≡◌, ◌<◌, ◌≤◌, false, ℕ, List, Option, sym, ap, subst, ◌∙◌, inl, inr}
use Rattle.std.specs.FinMap.{get}
use Rattle.rows.specs.declared.known.RowRef.{RowRef}
use Rattle.rows.specs.declared.known.Pair.{Pair}
use Rattle.rows.specs.Parts.{CubeParts, ProblemParts, KnownParts}
use Rattle.rows.specs.Row.{row_of_cut}
use Rattle.rows.specs.Reason.{AllThere, is_together}
use Rattle.arch_model.specs.Architecture.{cost_of}
use Rattle.arch_model.specs.Weight.{weight_of}
use Rattle.redundancy_cut.specs.declared.cut.Cut.{Cut}
use Rattle.redundancy_cut.specs.RightCut.{IsRightCut}
use Rattle.redundancy_cut.specs.CutRow.{cut_row_of}
use Rattle.search_core.specs.Candidate.{candidate_of}
use Rattle.search_core.specs.declared.rule.Rule.{Rule}
use Rattle.search_core.specs.declared.entry.Entry.{Entry}
use Rattle.search_core.specs.declared.entry.Entry.TheVariants.{Take, Branch, Prune, Offer, Study, Publish, Accept, Park, Reopen}
use Rattle.search_core.specs.State.{SearchState, known_at}
use Rattle.search_core.specs.Follow.{follow_trace}
use Rattle.search_core.specs.Step.{IsTraced, Takes, Branches, Prunes, Offers, Studies, Accepts, Publishes, Parks, Reopens, HasWorker, Case, Step}
use Rattle.search_core.specs.Rules.{Breaks, IsFreeVariable, TraceBreaks, HeldBreaks, TakeBreaks, BranchBreaks, PruneBreaks, OfferBreaks, AcceptBreaks, PublishBreaks, StudyBreaks, ParkBreaks, ReopenBreaks, FirstBroken}
use Rattle.search_core.specs.declared.limits.TheConstants.{WORKERS}
use Rattle.std.specs.List.{All}
use Rattle.arch_model.specs.Member.{member_count}
use Rattle.rows.specs.Cube.{IsFull}
use Rattle.rows.specs.Activity.{is_refuted}
use Rattle.search_core.proofs.Options.{err_is_ok}
use Rattle.search_core.proofs.Following.{legal_is_followed}
use Rattle.search_core.proofs.Determined.{same_held, same_after, same_studied}
use Rattle.search_core.proofs.Judged.{holder}

-- where what a rule asks holds, only a later one can be broken
passes : {asking broken : Rule} {fact rest : Type 0} → fact → (rest → ⊥) → Breaks asking fact broken rest → ⊥
passes {fact = fact} {rest = rest} holds later b = elim b [
  | inl here ↦ here.0 holds
  | inr there ↦ later there.1
]

none_left : ⊥ → ⊥
none_left h = h

-- a legal trace has no bad step
pub trace_passes : (problem : ProblemParts) (state : SearchState) (worker n : ℕ) (trace : List RowRef) (broken : Rule) → IsTraced problem state worker n trace → TraceBreaks problem state worker n trace broken → ⊥
trace_passes problem state worker n trace broken t b =
    let same = same_held (get state.nodes n) b.whose.cube t.cube worker b.whose.cuts t.cuts b.whose.bound t.bound b.whose.held t.held in
    err_is_ok broken t.after
    (sym b.stops
    ∙ ap (λ c. follow_trace (known_at problem state b.whose.cuts b.whose.bound) c trace) same.0
    ∙ ap (λ k. follow_trace (known_at problem state k b.whose.bound) t.cube trace) same.1
    ∙ ap (λ u. follow_trace (known_at problem state t.cuts u) t.cube trace) same.2
    ∙ legal_is_followed (known_at problem state t.cuts t.bound) trace t.cube t.after t.leads)

module _ (problem : ProblemParts) (old new : SearchState) (broken : Rule) where
  held_passes : (worker n : ℕ) (trace : List RowRef) (rest : IsTraced problem old worker n trace → Type 0) → worker < WORKERS → (t : IsTraced problem old worker n trace) → ((s : IsTraced problem old worker n trace) → t.after ≡ s.after → rest s → ⊥)
      → HeldBreaks problem old worker n trace broken rest → ⊥
  held_passes worker n trace rest few t later =
      passes few (passes (holder t) (λ r. elim r [
        | inl bad ↦ trace_passes problem old worker n trace broken t bad
        | inr further ↦ later further.0 (same_after problem old worker n trace t further.0) further.1
      ]))

  pub no_branch : (worker n : ℕ) (trace : List RowRef) (v : ℕ) → worker < WORKERS → Branches problem old worker n trace v new → BranchBreaks problem old worker n trace v broken → ⊥
  no_branch worker n trace v few s =
      held_passes worker n trace _ few s.traced (λ t same. passes (let P : CubeParts → Type 0 = λ c. IsFreeVariable problem c v in subst P same (record { variable = s.variable; free = s.free })) (passes s.below none_left))

  pub no_offer : (worker n : ℕ) (trace : List RowRef) → worker < WORKERS → Offers problem old worker n trace new → OfferBreaks problem old worker n trace broken → ⊥
  no_offer worker n trace few s =
      held_passes worker n trace _ few s.traced (λ t same.
      passes (let P : CubeParts → Type 0 = IsFull (member_count problem.library) in subst P same s.full)
      (passes (let P : CubeParts → Type 0 = λ c. All (λ row. is_refuted row c ≡ false) problem.base in subst P same s.stands) none_left))

  pub no_take : (worker n k : ℕ) (u : Option ℕ) → worker < WORKERS → Takes old worker n k u new → TakeBreaks old worker n k u broken → ⊥
  no_take worker n k u few s = passes few (passes (s.cube, s.opened) (passes s.cuts_now (passes s.bound_now none_left)))

  pub no_study : (worker n : ℕ) → worker < WORKERS → Studies old worker n new → StudyBreaks old worker n broken → ⊥
  no_study worker n few s = passes few (passes (s.cube, s.pending) none_left)

  pub no_park : (worker n : ℕ) → worker < WORKERS → Parks old worker n new → ParkBreaks old worker n broken → ⊥
  no_park worker n few s = passes few (passes (record { cube = s.cube; cuts = s.cuts; bound = s.bound; held = s.held }) (passes s.at_limit none_left))

  pub no_reopen : (limit : ℕ) → Reopens old limit new → ReopenBreaks old limit broken → ⊥
  no_reopen limit s = passes (record { not_less = s.not_less; few = s.few }) none_left

  pub no_prune : (worker n : ℕ) (trace : List RowRef) (pairs : List Pair) → worker < WORKERS → Prunes problem old worker n trace pairs new → PruneBreaks problem old worker n trace pairs broken → ⊥
  no_prune worker n trace pairs few s =
      held_passes worker n trace _ few s.traced (λ t same.
      let its = same_held (get old.nodes n) s.traced.cube t.cube worker s.traced.cuts t.cuts s.traced.bound t.bound s.traced.held t.held in
      let known : known_at problem old s.traced.cuts s.traced.bound ≡ known_at problem old t.cuts t.bound = ap (λ k. known_at problem old k s.traced.bound) its.1 ∙ ap (λ u. known_at problem old t.cuts u) its.2 in
      passes (let P : KnownParts → Type 0 = λ k. AllThere k pairs in subst P known s.there)
      (passes (sym (ap (λ k. is_together k pairs s.traced.after) known ∙ ap (λ c. is_together (known_at problem old t.cuts t.bound) pairs c) same) ∙ s.refuted) none_left))

  pub no_accept : (worker n cost : ℕ) → worker < WORKERS → Accepts problem old worker n cost new → AcceptBreaks problem old worker n cost broken → ⊥
  no_accept worker n cost few s =
      passes few (passes s.study (λ r.
      let same = same_studied (get old.nodes n) s.study.cube r.0.cube worker s.study.studied r.0.studied in
      passes (let P : CubeParts → Type 0 = λ c. All (λ q. weight_of problem.library (candidate_of problem.library c) q.sink.0 ≤ q.bound) problem.library.requirements in subst P same s.admissible.weights)
      (passes (s.costs ∙ ap (λ c. cost_of problem.library (candidate_of problem.library c)) same) none_left) r.1))

  pub no_publish : (worker n : ℕ) (cut : Cut) → worker < WORKERS → Publishes problem old worker n cut new → PublishBreaks problem old worker n cut broken → ⊥
  no_publish worker n cut few s =
      passes few (passes s.study (λ r.
      let same = same_studied (get old.nodes n) s.study.cube r.0.cube worker s.study.studied r.0.studied in
      passes (let P : CubeParts → Type 0 = λ c. IsRightCut problem.library cut (candidate_of problem.library c) in subst P same s.right)
      (passes (sym (ap (λ c. is_refuted (row_of_cut (cut_row_of problem.library cut (candidate_of problem.library c))) c) same) ∙ s.refuted) none_left) r.1))

  by_kind : (entry : Entry) → HasWorker entry → Case problem old entry new → FirstBroken problem old entry broken → ⊥
  by_kind (Take worker node cuts bound) few s = no_take worker node cuts bound few s
  by_kind (Branch worker node trace var) few s = no_branch worker node trace var.0 few s
  by_kind (Prune worker node trace reason) few s = no_prune worker node trace reason few s
  by_kind (Offer worker node trace) few s = no_offer worker node trace few s
  by_kind (Study worker node) few s = no_study worker node few s
  by_kind (Publish worker node cut) few s = no_publish worker node cut few s
  by_kind (Accept worker node cost) few s = no_accept worker node cost few s
  by_kind (Park worker node) few s = no_park worker node few s
  by_kind (Reopen limit) few s = no_reopen limit s

pub no_step : (problem : ProblemParts) (old new : SearchState) (entry : Entry) (broken : Rule) → FirstBroken problem old entry broken → Step problem old entry new → ⊥
no_step problem old new entry broken breaks step = by_kind problem old new broken entry step.worker step.fits breaks
