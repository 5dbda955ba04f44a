-- What judging an entry after a trace or on a candidate finds.
use Rattle.std.proofs.Common.{◌≡◌, ℕ, ◌<◌, ◌≤◌, Bool, true, false, List, length, get_or, Option, Some, None, refl, sym, ap, subst, ◌∙◌, inl, inr, if◌then◌else◌}
use Rattle.std.specs.Prelude.{slice_index}
use Rattle.std.specs.List.{All, list_all}
use Rattle.std.proofs.lemmas.List.{length-map, get_or-map}
use Rattle.std.proofs.lemmas.List.Sums.{AllPass-from_list_all}
use Rattle.std.proofs.lemmas.List.Sums.{list_all-from_AllPass}
use Rattle.std.proofs.lemmas.Option.{slice_get-get_or, slice_get_within, get_or_from_slice_get}
use Rattle.arch_model.specs.declared.library.Requirement.{Requirement}
use Rattle.arch_model.specs.Parts.{LibraryParts, ArchitectureParts}
use Rattle.arch_model.specs.Library.{IsLibrary}
use Rattle.arch_model.specs.Architecture.{IsArchitecture, cost_of}
use Rattle.arch_model.specs.Weight.{weight_of}
use Rattle.arch_model.specs.Member.{member_count}
use Rattle.rows.specs.declared.known.RowRef.{RowRef}
use Rattle.rows.specs.declared.known.Pair.{Pair}
use Rattle.rows.specs.Parts.{RowParts, CubeParts, CutParts, ProblemParts, KnownParts}
use Rattle.rows.specs.Row.{row_of_cut}
use Rattle.rows.specs.Cube.{IsFull}
use Rattle.rows.specs.Activity.{is_refuted}
use Rattle.rows.specs.Known.{has_row}
use Rattle.rows.specs.Reason.{IsReason, AllThere, is_together}
use Rattle.rows.specs.Problem.{IsProblem, IsCandidate}
use Rattle.redundancy_cut.specs.declared.cut.Cut.{Cut}
use Rattle.redundancy_cut.specs.declared.cut.Cut.TheVariants.{Redundancy, NoGood}
use Rattle.redundancy_cut.specs.RightCut.{IsRightCut, HasWeight}
use Rattle.redundancy_cut.specs.CutRow.{cut_row_of}
use Rattle.search_core.specs.declared.limits.TheConstants.{WORKERS}
use Rattle.search_core.specs.declared.rule.Rule.{Rule}
use Rattle.search_core.specs.declared.rule.Rule.TheVariants as rule
use Rattle.search_core.specs.Node.{Pending, Studied}
use Rattle.search_core.specs.State.{SearchState, known_at}
use Rattle.search_core.specs.Candidate.{candidate_in, candidate_of}
use Rattle.search_core.specs.Step.{IsTraced, IsStudied, Prunes, Offers, Accepts, Publishes, with_node, without_node, accepted, published}
use Rattle.search_core.specs.Parts.{StateParts, IsStateOf}
use Rattle.search_core.specs.Rules.{PruneBreaks, OfferBreaks, AcceptBreaks, PublishBreaks, AreItsWeights}
use Rattle.search_core.specs.Inner.Judging.{AreWithin, reason_rule, requirement_of}
use Rattle.search_core.proofs.Candidates.{candidate_is}
use Rattle.search_core.proofs.CutRows.{right_cuts}
use Rattle.search_core.proofs.Runs.{reached_is_kept}
use Rattle.search_core.proofs.Entering.{candidate_is_of}
use Rattle.search_core.proofs.Judged.{holder}

-- an Offer
module _ (problem : ProblemParts) (state : SearchState) (worker n : ℕ) (trace : List RowRef) (after : CubeParts) (few : worker < WORKERS) (t : (s : IsTraced problem state worker n trace) × (s.after ≡ after)) where
  pub offer_not_full : (IsFull (member_count problem.library) after → ⊥) → OfferBreaks problem state worker n trace rule.Full
  offer_not_full none = inr (few, inr (holder t.0, inr (t.0, inl ((λ full. none (let P : CubeParts → Type 0 = IsFull (member_count problem.library) in subst P t.1 full)), refl))))

  its_full : IsFull (member_count problem.library) after → IsFull (member_count problem.library) t.0.after
  its_full full = let P : CubeParts → Type 0 = IsFull (member_count problem.library) in subst P (sym t.1) full

  abbrev pub Stands : CubeParts → Type 0
  Stands cube = All {X = RowParts} (λ row. is_refuted row cube ≡ false) problem.base

  pub offer_broken : IsFull (member_count problem.library) after → (All (λ row. is_refuted row after ≡ false) problem.base → ⊥) → OfferBreaks problem state worker n trace rule.Broken
  offer_broken full none = inr (few, inr (holder t.0, inr (t.0, inr (its_full full, inl ((λ stands. none (subst Stands t.1 stands)), refl)))))

  pub offer_fits : IsFull (member_count problem.library) after → All (λ row. is_refuted row after ≡ false) problem.base → (m : ℕ) → m ≡ n → Offers problem state worker n trace (with_node state m (Pending after))
  offer_fits full stands m named = record {
    traced = t.0;
    full = its_full full;
    stands = subst Stands (sym t.1) stands;
    next = ap (λ i. with_node state i (Pending after)) named ∙ ap (λ c. with_node state n (Pending c)) (sym t.1);
  }

-- a Prune
module _ (problem : ProblemParts) (state : SearchState) (worker n : ℕ) (trace : List RowRef) (after : CubeParts) (pairs : List Pair) (few : worker < WORKERS) (t : (s : IsTraced problem state worker n trace) × (s.after ≡ after)) where
  abbrev known : KnownParts
  known = known_at problem state t.0.cuts t.0.bound

  abbrev all_there : Bool
  all_there = list_all (λ p. has_row known p.row) pairs

  there_from : all_there ≡ true → AllThere known pairs
  there_from h = AllPass-from_list_all (λ p. has_row known p.row) pairs h

  same_together : is_together known pairs after ≡ is_together known pairs t.0.after
  same_together = ap (is_together known pairs) (sym t.1)

  breaks_by : (a b : Bool) (broken : Rule) → all_there ≡ a → is_together known pairs after ≡ b → Some broken ≡ (if a then (if b then None else Some rule.Reason) else Some rule.Row) → PruneBreaks problem state worker n trace pairs broken
  breaks_by true true broken e f is = absurd (none is) where
    none : Some broken ≡ None → ⊥
    none h = cc
  breaks_by true false broken e f is = inr (few, inr (holder t.0, inr (t.0, inr (there_from e, inl ((λ h. let g : false ≡ true = sym f ∙ same_together ∙ h in cc), same is))))) where
    same : Some broken ≡ Some rule.Reason → broken ≡ rule.Reason
    same h = cc
  breaks_by false b broken e f is = inr (few, inr (holder t.0, inr (t.0, inl ((λ h. let g : false ≡ true = sym e ∙ list_all-from_AllPass (λ p. has_row known p.row) pairs h in cc), same is)))) where
    same : Some broken ≡ Some rule.Row → broken ≡ rule.Row
    same h = cc

  module _ (k : ℕ) (u : Option ℕ) (cuts : t.0.cuts ≡ k) (bound : t.0.bound ≡ u) where
    its_rule : reason_rule (known_at problem state k u) pairs after ≡ reason_rule known pairs after
    its_rule = sym (ap (λ c. reason_rule (known_at problem state c t.0.bound) pairs after) cuts ∙ ap (λ b. reason_rule (known_at problem state k b) pairs after) bound)

    pub prune_breaks : (broken : Rule) → Some broken ≡ reason_rule (known_at problem state k u) pairs after → PruneBreaks problem state worker n trace pairs broken
    prune_breaks broken is = breaks_by all_there (is_together known pairs after) broken refl refl (is ∙ its_rule)

    fits_by : (a b : Bool) → all_there ≡ a → is_together known pairs after ≡ b → IsReason pairs → None ≡ (if a then (if b then None else Some rule.Reason) else Some rule.Row) → (m : ℕ) → m ≡ n → Prunes problem state worker n trace pairs (without_node state m)
    fits_by true true e f reason is m named = record { traced = t.0; reason = reason; there = there_from e; refuted = sym same_together ∙ f; next = ap (without_node state) named }
    fits_by true false e f reason is m named = absurd (let g : None ≡ Some rule.Reason = is in cc)
    fits_by false b e f reason is m named = absurd (let g : None ≡ Some rule.Row = is in cc)

    pub prune_fits : IsReason pairs → None ≡ reason_rule (known_at problem state k u) pairs after → (m : ℕ) → m ≡ n → Prunes problem state worker n trace pairs (without_node state m)
    prune_fits reason is m named = fits_by all_there (is_together known pairs after) refl refl reason (is ∙ its_rule) m named

module _ (problem : ProblemParts) (right : IsLibrary problem.library) (is : IsProblem problem) (now : StateParts) (of : IsStateOf problem now) (w n : ℕ) (few : w < WORKERS) (s : IsStudied now.search w n) (arch : ArchitectureParts) (arch_is : arch ≡ candidate_in now.components now.edges s.cube) where
  abbrev lib : LibraryParts
  lib = problem.library

  abbrev cand : ArchitectureParts
  cand = candidate_of problem.library s.cube

  its : arch ≡ candidate_of problem.library s.cube
  its = arch_is ∙ candidate_is_of problem now s.cube of

  candidate : IsCandidate problem.library (candidate_of problem.library s.cube)
  candidate =
      let kept = reached_is_kept problem right is (right_cuts problem.library right) now.search of.reached in
      candidate_is problem s.cube right is (kept.holds.candidates_meet_rows n (Studied s.cube w) s.studied) (kept.over.cubes n (Studied s.cube w) s.studied).1

  pub study_is_full : IsFull (member_count problem.library) s.cube
  study_is_full = ((reached_is_kept problem right is (right_cuts problem.library right) now.search of.reached).holds.candidates_meet_rows n (Studied s.cube w) s.studied).full

  pub arch_fits : IsArchitecture problem.library arch
  arch_fits = subst (IsArchitecture problem.library) (sym its) candidate.meets.architecture

  -- an Accept
  pub weights_long : (weights : List ℕ) → AreItsWeights problem now.search w n weights → length weights ≡ length problem.library.requirements
  weights_long weights h = ap length (h s) ∙ length-map problem.library.requirements (λ (r : Requirement). weight_of problem.library (candidate_of problem.library s.cube) r.sink.0)

  weight_at : (weights : List ℕ) → AreItsWeights problem now.search w n weights → (k : ℕ) (d : Requirement) → k < length problem.library.requirements
      → get_or weights k 0 ≡ weight_of problem.library (candidate_of problem.library s.cube) (get_or problem.library.requirements k d).sink.0
  weight_at weights h k d short = ap (λ (l : List ℕ). get_or l k 0) (h s) ∙ get_or-map (λ (r : Requirement). weight_of problem.library (candidate_of problem.library s.cube) r.sink.0) problem.library.requirements k d 0 short

  all_within : (weights : List ℕ) → AreItsWeights problem now.search w n weights → AreWithin problem.library.requirements weights → All (λ r. weight_of problem.library (candidate_of problem.library s.cube) r.sink.0 ≤ r.bound) problem.library.requirements
  all_within weights h within k d short =
      let le = within k (get_or problem.library.requirements k d) (slice_get-get_or problem.library.requirements k d short) in
      subst (λ (x : ℕ). x ≤ (get_or problem.library.requirements k d).bound) (weight_at weights h k d short) le

  within_all : (weights : List ℕ) → AreItsWeights problem now.search w n weights → All (λ r. weight_of problem.library (candidate_of problem.library s.cube) r.sink.0 ≤ r.bound) problem.library.requirements → AreWithin problem.library.requirements weights
  within_all weights h all k r at =
      let short = slice_get_within problem.library.requirements k r at in
      let here = get_or_from_slice_get problem.library.requirements k r r at in
      let le = subst (λ (x : ℕ). x ≤ (get_or problem.library.requirements k r).bound) (sym (weight_at weights h k r short)) (all k r short) in
      subst (λ (q : Requirement). get_or weights k 0 ≤ q.bound) here le

  pub accept_weight : (cost : ℕ) (weights : List ℕ) → AreItsWeights problem now.search w n weights → (AreWithin problem.library.requirements weights → ⊥) → AcceptBreaks problem now.search w n cost rule.Weight
  accept_weight cost weights h none = inr (few, inr (s, (s, inl ((λ all. none (within_all weights h all)), refl))))

  pub accept_cost : (cost : ℕ) (weights : List ℕ) → AreItsWeights problem now.search w n weights → AreWithin problem.library.requirements weights → (cost ≡ cost_of problem.library arch → ⊥) → AcceptBreaks problem now.search w n cost rule.Cost
  accept_cost cost weights h within none = inr (few, inr (s, (s, inr (all_within weights h within, inl ((λ e. none (e ∙ ap (cost_of problem.library) (sym its))), refl)))))

  pub accept_fits : (cost : ℕ) (weights : List ℕ) → AreItsWeights problem now.search w n weights → AreWithin problem.library.requirements weights → cost ≡ cost_of problem.library arch → (m : ℕ) → m ≡ n → Accepts problem now.search w n cost (accepted now.search m cost arch)
  accept_fits cost weights h within e m named = record {
    study = s;
    admissible = record { meets = candidate.meets; sinks = candidate.sinks; weights = all_within weights h within };
    costs = e ∙ ap (cost_of problem.library) its;
    next = ap (λ i. accepted now.search i cost arch) named ∙ ap (accepted now.search n cost) its;
  }

  -- a Publish
  pub has_weight : (cut : Cut) (weights : List ℕ) (weight : ℕ) → AreItsWeights problem now.search w n weights → weight ≡ slice_index weights (requirement_of cut) → HasWeight problem.library cut arch weight
  has_weight (Redundancy q set far) weights weight h e = tt
  has_weight (NoGood q cone) weights weight h e = λ r at.
      let short = slice_get_within problem.library.requirements q r at in
      let here = get_or_from_slice_get problem.library.requirements q r r at in
      e ∙ weight_at weights h q r short ∙ ap (λ (x : Requirement). weight_of problem.library (candidate_of problem.library s.cube) x.sink.0) here ∙ ap (λ a. weight_of problem.library a r.sink.0) (sym its)

  its_right : (cut : Cut) → IsRightCut problem.library cut arch → IsRightCut problem.library cut (candidate_of problem.library s.cube)
  its_right cut h = subst (IsRightCut problem.library cut) its h

  pub publish_cut : (cut : Cut) → (IsRightCut problem.library cut arch → ⊥) → PublishBreaks problem now.search w n cut rule.Cut
  publish_cut cut none = inr (few, inr (s, (s, inl ((λ h. none (subst (IsRightCut problem.library cut) (sym its) h)), refl))))

  its_row : (cut : Cut) (row : CutParts) → row ≡ cut_row_of problem.library cut arch
      → is_refuted (row_of_cut row) s.cube ≡ is_refuted (row_of_cut (cut_row_of problem.library cut (candidate_of problem.library s.cube))) s.cube
  its_row cut row e = ap (λ r. is_refuted (row_of_cut r) s.cube) (e ∙ ap (cut_row_of problem.library cut) its)

  pub publish_refute : (cut : Cut) (row : CutParts) → IsRightCut problem.library cut arch → row ≡ cut_row_of problem.library cut arch → false ≡ is_refuted (row_of_cut row) s.cube → PublishBreaks problem now.search w n cut rule.Refute
  publish_refute cut row right_cut e no_refuted =
      inr (few, inr (s, (s, inr (its_right cut right_cut, inl ((λ h. let f : false ≡ true = no_refuted ∙ its_row cut row e ∙ h in cc), refl)))))

  pub publish_fits : (cut : Cut) (row : CutParts) → IsRightCut problem.library cut arch → row ≡ cut_row_of problem.library cut arch → true ≡ is_refuted (row_of_cut row) s.cube → (m : ℕ) → m ≡ n → Publishes problem now.search w n cut (published now.search m row)
  publish_fits cut row right_cut e refuted m named = record {
    study = s;
    right = its_right cut right_cut;
    refuted = sym (its_row cut row e) ∙ sym refuted;
    next = ap (λ i. published now.search i row) named ∙ ap (published now.search n) (e ∙ ap (cut_row_of problem.library cut) its);
  }
