-- What follows for a library from a log that passes.
use Rattle.std.proofs.Common.{◌≡◌, ℕ, ◌+◌, List, [], ◌∷◌, length, filter, Option, Some, None, IfSome, sym, ap, subst, ◌∙◌, arith}
use Rattle.std.specs.Option.{IsSomeAnd}
use Rattle.arch_model.specs.Parts.{LibraryParts}
use Rattle.arch_model.specs.Library.{IsLibrary}
use Rattle.rows.specs.Parts.{ProblemParts}
use Rattle.rows.specs.Problem.{IsProblem}
use Rattle.incumbent.specs.declared.best.Best.{Best}
use Rattle.incumbent.specs.Best.{best_cost}
use Rattle.search_core.specs.declared.entry.Entry.{Entry}
use Rattle.search_core.specs.declared.entry.Entry.TheVariants.{Take, Branch, Prune, Offer, Study, Publish, Accept, Park, Reopen}
use Rattle.search_core.specs.declared.answer.Answer.{Answer}
use Rattle.search_core.specs.declared.answer.Answer.TheVariants.{Optimal, Infeasible, NodeLimit}
use Rattle.search_core.specs.State.{SearchState, start_of}
use Rattle.search_core.specs.Step.{Case, Takes, Branches, Prunes, Offers, Studies, Publishes, Accepts as Accepting, Parks, Reopens}
use Rattle.search_core.specs.History.{Steps, is_branch, IsReached}
use Rattle.search_core.specs.Invariant.{SearchInvariant, IsAdmissibleBest}
use Rattle.search_core.specs.Solved.{IsLeastBest, NoneAdmissible}
use Rattle.search_core.proofs.CutRows.{right_cuts}
use Rattle.search_core.proofs.Runs.{reached_is_kept}
use Rattle.search_core.proofs.Counts.{branches_are_counted}
use Rattle.search_core.proofs.AnswerLaws.{optimal_is_least, infeasible_is_none, limit_is_spent}
use Rattle.proof_log.specs.Log.{Accepts}
use Rattle.log_checker.specs.Yes.{IsCostOfOne, IsLeastCost, limit_after, last_limit}

-- ---- the limit of a state is the last that was stated

case_states_limit : (problem : ProblemParts) (old : SearchState) (entry : Entry) (new : SearchState) → Case problem old entry new → new.limit ≡ limit_after old.limit entry
case_states_limit problem old (Take worker node cuts bound) new step = let s : Takes old worker node cuts bound new = step in ap (λ (n : SearchState). n.limit) s.next
case_states_limit problem old (Branch worker node trace var) new step = let s : Branches problem old worker node trace var.0 new = step in ap (λ (n : SearchState). n.limit) s.next
case_states_limit problem old (Prune worker node trace reason) new step = let s : Prunes problem old worker node trace reason new = step in ap (λ (n : SearchState). n.limit) s.next
case_states_limit problem old (Offer worker node trace) new step = let s : Offers problem old worker node trace new = step in ap (λ (n : SearchState). n.limit) s.next
case_states_limit problem old (Study worker node) new step = let s : Studies old worker node new = step in ap (λ (n : SearchState). n.limit) s.next
case_states_limit problem old (Publish worker node cut) new step = let s : Publishes problem old worker node cut new = step in ap (λ (n : SearchState). n.limit) s.next
case_states_limit problem old (Accept worker node cost) new step = let s : Accepting problem old worker node cost new = step in ap (λ (n : SearchState). n.limit) s.next
case_states_limit problem old (Park worker node) new step = let s : Parks old worker node new = step in ap (λ (n : SearchState). n.limit) s.next
case_states_limit problem old (Reopen limit) new step = let s : Reopens old limit new = step in ap (λ (n : SearchState). n.limit) s.next

limit_is_last : (problem : ProblemParts) (entries : List Entry) (old new : SearchState) → Steps problem old entries new → new.limit ≡ last_limit old.limit entries
limit_is_last problem [] old new steps = ap (λ (n : SearchState). n.limit) steps
limit_is_last problem (entry ∷ entries) old new steps =
    limit_is_last problem entries steps.0 new steps.2 ∙ ap (λ l. last_limit l entries) (case_states_limit problem old entry steps.0 steps.1.fits)

-- ---- the four sentences

least_from : (lib : LibraryParts) (cost : ℕ) (best : Option Best) → IsSomeAnd best (IsLeastBest lib cost) → IsLeastCost lib cost
least_from lib cost None is = absurd is
least_from lib cost (Some best) is = record {
  one = record { architecture = best.architecture; admissible = is.admissible; costs = is.costs };
  none_less = is.none_less;
}

cost_from : (lib : LibraryParts) (best : Option Best) → IfSome best (IsAdmissibleBest lib) → IfSome (best_cost best) (IsCostOfOne lib)
cost_from lib None is = tt
cost_from lib (Some best) is = record { architecture = best.architecture; admissible = is.admissible; costs = sym is.cost }

module _ (problem : ProblemParts) (text : List ℕ) (right : IsLibrary problem.library) (is : IsProblem problem) where
  kept : (state : SearchState) → IsReached problem state → SearchInvariant problem state
  kept state reached = (reached_is_kept problem right is (right_cuts problem.library right) state reached).holds

  reached_by : (answer : Answer) (x : Accepts problem text answer) → IsReached problem x.state
  reached_by answer x = (x.limit, x.entries, x.legal)

  pub yes_optimal : (cost : ℕ) → Accepts problem text (Optimal cost) → IsLeastCost problem.library cost
  yes_optimal cost x = least_from problem.library cost x.state.best (optimal_is_least problem x.state (kept x.state (reached_by (Optimal cost) x)) cost x.answers)

  pub yes_infeasible : Accepts problem text Infeasible → NoneAdmissible problem.library
  yes_infeasible x = infeasible_is_none problem x.state (kept x.state (reached_by Infeasible x)) x.answers

  pub yes_limit : (incumbent : Option ℕ) (x : Accepts problem text (NodeLimit incumbent)) → length (filter is_branch x.entries) ≡ last_limit x.limit x.entries
  yes_limit incumbent x =
      let spent = (limit_is_spent problem x.state (kept x.state (reached_by (NodeLimit incumbent) x)) incumbent x.answers).0 in
      let counted : x.state.branchings ≡ 0 + length (filter is_branch x.entries) = branches_are_counted problem x.entries (start_of x.limit) x.state x.legal.steps in
      let plain : x.state.branchings ≡ length (filter is_branch x.entries) = omega (arith, counted) in
      sym plain ∙ spent.spent ∙ limit_is_last problem x.entries (start_of x.limit) x.state x.legal.steps

  pub yes_incumbent : (incumbent : Option ℕ) → Accepts problem text (NodeLimit incumbent) → IfSome incumbent (IsCostOfOne problem.library)
  yes_incumbent incumbent x =
      let inv = kept x.state (reached_by (NodeLimit incumbent) x) in
      let named = (limit_is_spent problem x.state inv incumbent x.answers).1 in
      let P : Option ℕ → Type 0 = λ o. IfSome o (IsCostOfOne problem.library) in
      subst P (sym named) (cost_from problem.library x.state.best inv.best_is_admissible)
