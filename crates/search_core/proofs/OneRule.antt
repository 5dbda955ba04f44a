-- One rule at most is the first that an entry breaks.
use Rattle.std.proofs.Common.{◌≡◌, ◌≤◌, false, ℕ, List, Option, sym, ap, subst, ◌∙◌, inl, inr}
use Rattle.std.specs.List.{All}
use Rattle.std.specs.FinMap.{get}
use Rattle.std.specs.Prelude.{Result, Err}
use Rattle.arch_model.specs.Architecture.{cost_of}
use Rattle.arch_model.specs.Member.{member_count}
use Rattle.arch_model.specs.Weight.{weight_of}
use Rattle.rows.specs.declared.known.RowRef.{RowRef}
use Rattle.rows.specs.declared.known.Pair.{Pair}
use Rattle.rows.specs.Parts.{CubeParts, ProblemParts, KnownParts}
use Rattle.rows.specs.Row.{row_of_cut}
use Rattle.rows.specs.Cube.{IsFull}
use Rattle.rows.specs.Activity.{is_refuted}
use Rattle.rows.specs.Reason.{AllThere, is_together}
use Rattle.redundancy_cut.specs.declared.cut.Cut.{Cut}
use Rattle.redundancy_cut.specs.RightCut.{IsRightCut}
use Rattle.redundancy_cut.specs.CutRow.{cut_row_of}
use Rattle.search_core.specs.declared.rule.Rule.{Rule}
use Rattle.search_core.specs.declared.entry.Entry.{Entry}
use Rattle.search_core.specs.declared.entry.Entry.TheVariants.{Take, Branch, Prune, Offer, Study, Publish, Accept, Park, Reopen}
use Rattle.search_core.specs.State.{SearchState, known_at}
use Rattle.search_core.specs.Candidate.{candidate_of}
use Rattle.search_core.specs.Follow.{follow_trace}
use Rattle.search_core.specs.Step.{IsTraced, IsStudied}
use Rattle.search_core.specs.Rules.{Breaks, IsFreeVariable, TraceBreaks, HeldBreaks, StudiedBreaks, TakeBreaks, BranchBreaks, PruneBreaks, OfferBreaks, AcceptBreaks, PublishBreaks, StudyBreaks, ParkBreaks, ReopenBreaks, FirstBroken}
use Rattle.search_core.proofs.NoStep.{trace_passes}
use Rattle.search_core.proofs.Determined.{same_held, same_after, same_studied}

same_rule : {X : Type 0} {a b : Rule} → ◌≡◌ {A = Result X Rule} (Err a) (Err b) → a ≡ b
same_rule e = cc

-- where what a rule asks is the same, the rule that is told is the same if later ones are
agrees : {asking a b : Rule} {here there first second : Type 0} → (here → there) → (there → here) → (first → second → a ≡ b) → Breaks asking here a first → Breaks asking there b second → a ≡ b
agrees to back later x y = elim x [
  | inl p ↦ elim y [
    | inl q ↦ p.1 ∙ sym q.1
    | inr q ↦ absurd (p.0 (back q.0))
  ]
  | inr p ↦ elim y [
    | inl q ↦ absurd (q.0 (to p.0))
    | inr q ↦ later p.1 q.1
  ]
]

-- the same where both ask the very same
agree : {asking a b : Rule} {fact first second : Type 0} → (first → second → a ≡ b) → Breaks asking fact a first → Breaks asking fact b second → a ≡ b
agree later x y = agrees (λ h. h) (λ h. h) later x y

nothing : {a b : Rule} → ⊥ → ⊥ → a ≡ b
nothing h k = absurd h

module _ (problem : ProblemParts) (state : SearchState) (a b : Rule) where
  -- the first bad step of a trace
  trace_agrees : (worker n : ℕ) (trace : List RowRef) → TraceBreaks problem state worker n trace a → TraceBreaks problem state worker n trace b → a ≡ b
  trace_agrees worker n trace x y =
      let same = same_held (get state.nodes n) x.whose.cube y.whose.cube worker x.whose.cuts y.whose.cuts x.whose.bound y.whose.bound x.whose.held y.whose.held in
      same_rule (sym x.stops
      ∙ ap (λ c. follow_trace (known_at problem state x.whose.cuts x.whose.bound) c trace) same.0
      ∙ ap (λ k. follow_trace (known_at problem state k x.whose.bound) y.whose.cube trace) same.1
      ∙ ap (λ u. follow_trace (known_at problem state y.whose.cuts u) y.whose.cube trace) same.2
      ∙ y.stops)

  held_agrees : (worker n : ℕ) (trace : List RowRef) (first second : IsTraced problem state worker n trace → Type 0) → ((t u : IsTraced problem state worker n trace) → first t → second u → a ≡ b) → HeldBreaks problem state worker n trace a first
      → HeldBreaks problem state worker n trace b second → a ≡ b
  held_agrees worker n trace first second later =
      agree (agree (λ x y. elim x [
        | inl p ↦ elim y [
          | inl q ↦ trace_agrees worker n trace p q
          | inr q ↦ absurd (trace_passes problem state worker n trace a q.0 p)
        ]
        | inr p ↦ elim y [
          | inl q ↦ absurd (trace_passes problem state worker n trace b p.0 q)
          | inr q ↦ later p.0 q.0 p.1 q.1
        ]
      ]))

  studied_agrees : (worker n : ℕ) (first second : IsStudied state worker n → Type 0) → ((s r : IsStudied state worker n) → s.cube ≡ r.cube → first s → second r → a ≡ b) → StudiedBreaks state worker n a first → StudiedBreaks state worker n b second → a ≡ b
  studied_agrees worker n first second later = agree (agree (λ x y. later x.0 y.0 (same_studied (get state.nodes n) x.0.cube y.0.cube worker x.0.studied y.0.studied) x.1 y.1))

  one_take : (worker n k : ℕ) (u : Option ℕ) → TakeBreaks state worker n k u a → TakeBreaks state worker n k u b → a ≡ b
  one_take worker n k u = agree (agree (agree (agree nothing)))

  one_study : (worker n : ℕ) → StudyBreaks state worker n a → StudyBreaks state worker n b → a ≡ b
  one_study worker n = agree (agree nothing)

  one_park : (worker n : ℕ) → ParkBreaks state worker n a → ParkBreaks state worker n b → a ≡ b
  one_park worker n = agree (agree (agree nothing))

  one_reopen : (limit : ℕ) → ReopenBreaks state limit a → ReopenBreaks state limit b → a ≡ b
  one_reopen limit = agree nothing

  one_branch : (worker n : ℕ) (trace : List RowRef) (v : ℕ) → BranchBreaks problem state worker n trace v a → BranchBreaks problem state worker n trace v b → a ≡ b
  one_branch worker n trace v =
      held_agrees worker n trace _ _ (λ t u.
      let same = same_after problem state worker n trace t u in
      let P : CubeParts → Type 0 = λ c. IsFreeVariable problem c v in agrees (subst P same) (subst P (sym same)) (agree nothing))

  one_offer : (worker n : ℕ) (trace : List RowRef) → OfferBreaks problem state worker n trace a → OfferBreaks problem state worker n trace b → a ≡ b
  one_offer worker n trace =
      held_agrees worker n trace _ _ (λ t u.
      let same = same_after problem state worker n trace t u in
      let P : CubeParts → Type 0 = IsFull (member_count problem.library) in
      let Q : CubeParts → Type 0 = λ c. All (λ row. is_refuted row c ≡ false) problem.base in agrees (subst P same) (subst P (sym same)) (agrees (subst Q same) (subst Q (sym same)) nothing))

  one_prune : (worker n : ℕ) (trace : List RowRef) (pairs : List Pair) → PruneBreaks problem state worker n trace pairs a → PruneBreaks problem state worker n trace pairs b → a ≡ b
  one_prune worker n trace pairs =
      held_agrees worker n trace _ _ (λ t u.
      let its = same_held (get state.nodes n) t.cube u.cube worker t.cuts u.cuts t.bound u.bound t.held u.held in
      let known : known_at problem state t.cuts t.bound ≡ known_at problem state u.cuts u.bound = ap (λ k. known_at problem state k t.bound) its.1 ∙ ap (λ w. known_at problem state u.cuts w) its.2 in
      let same = same_after problem state worker n trace t u in
      let together : is_together (known_at problem state t.cuts t.bound) pairs t.after ≡ is_together (known_at problem state u.cuts u.bound) pairs u.after =
      ap (λ k. is_together k pairs t.after) known ∙ ap (λ c. is_together (known_at problem state u.cuts u.bound) pairs c) same in
      let P : KnownParts → Type 0 = λ k. AllThere k pairs in agrees (subst P known) (subst P (sym known)) (agrees (λ h. sym together ∙ h) (λ h. together ∙ h) nothing))

  one_accept : (worker n cost : ℕ) → AcceptBreaks problem state worker n cost a → AcceptBreaks problem state worker n cost b → a ≡ b
  one_accept worker n cost =
      studied_agrees worker n _ _ (λ s r same.
      let P : CubeParts → Type 0 = λ c. All (λ q. weight_of problem.library (candidate_of problem.library c) q.sink.0 ≤ q.bound) problem.library.requirements in
      let costs = ap (λ c. cost_of problem.library (candidate_of problem.library c)) same in agrees (subst P same) (subst P (sym same)) (agrees (λ e. e ∙ costs) (λ e. e ∙ sym costs) nothing))

  one_publish : (worker n : ℕ) (cut : Cut) → PublishBreaks problem state worker n cut a → PublishBreaks problem state worker n cut b → a ≡ b
  one_publish worker n cut =
      studied_agrees worker n _ _ (λ s r same.
      let P : CubeParts → Type 0 = λ c. IsRightCut problem.library cut (candidate_of problem.library c) in
      let refuted = ap (λ c. is_refuted (row_of_cut (cut_row_of problem.library cut (candidate_of problem.library c))) c) same in agrees (subst P same) (subst P (sym same)) (agrees (λ h. sym refuted ∙ h) (λ h. refuted ∙ h) nothing))

  one_of_kind : (entry : Entry) → FirstBroken problem state entry a → FirstBroken problem state entry b → a ≡ b
  one_of_kind (Take worker node cuts bound) = one_take worker node cuts bound
  one_of_kind (Branch worker node trace var) = one_branch worker node trace var.0
  one_of_kind (Prune worker node trace reason) = one_prune worker node trace reason
  one_of_kind (Offer worker node trace) = one_offer worker node trace
  one_of_kind (Study worker node) = one_study worker node
  one_of_kind (Publish worker node cut) = one_publish worker node cut
  one_of_kind (Accept worker node cost) = one_accept worker node cost
  one_of_kind (Park worker node) = one_park worker node
  one_of_kind (Reopen limit) = one_reopen limit

pub one_rule : (problem : ProblemParts) (state : SearchState) (entry : Entry) (a b : Rule) → FirstBroken problem state entry a → FirstBroken problem state entry b → a ≡ b
one_rule problem state entry a b = one_of_kind problem state a b entry
