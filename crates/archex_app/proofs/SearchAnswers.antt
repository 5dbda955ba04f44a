-- What a search of a library says of its architectures and of its cuts.
use Rattle.std.proofs.Common.{◌≡◌, ℕ, Bool, true, false, nat_eq, ◌+◌, ◌^◌, ◌<◌, ◌≤◌, List, [], ◌∷◌, ◌++◌, filter, length, Option, Some, None, Ok, IfSome, refl, sym, ap, subst, ◌∙◌, arith}
use Rattle.std.specs.Prelude.{if◌then◌else◌}
use Rattle.std.specs.FinMap.{len}
use Rattle.std.specs.Option.{IsSomeAnd}
use Rattle.std.specs.List.{All, AllByRecursion}
use Rattle.std.proofs.lemmas.Bool.{eqb-true}
use Rattle.std.proofs.lemmas.List.Elements.{recursion_from_All}
use Rattle.arch_model.specs.Parts.{LibraryParts, ArchitectureParts}
use Rattle.arch_model.specs.Member.{member_count}
use Rattle.arch_model.specs.Admissible.{IsAdmissible}
use Rattle.arch_model.specs.Architecture.{cost_of}
use Rattle.lib_read.specs.LibraryOf.{library_of}
use Rattle.redundancy_cut.specs.declared.cut.Cut.{Cut}
use Rattle.redundancy_cut.specs.CutRow.{cut_row_of}
use Rattle.incumbent.specs.declared.best.Best.{Best}
use Rattle.incumbent.specs.Best.{best_cost}
use Rattle.search_core.specs.declared.entry.Entry.{Entry}
use Rattle.search_core.specs.declared.entry.Entry.TheVariants.{Publish}
use Rattle.search_core.specs.declared.answer.Answer.{Answer}
use Rattle.search_core.specs.declared.answer.Answer.TheVariants.{Optimal, Infeasible, NodeLimit}
use Rattle.search_core.specs.State.{SearchState, start_of}
use Rattle.search_core.specs.Candidate.{candidate_of}
use Rattle.search_core.specs.Step.{Step, Publishes}
use Rattle.search_core.specs.History.{Steps, Reaches, IsComplete, is_at_rest, is_branch, is_reopen}
use Rattle.search_core.specs.Answers.{answer_by}
use Rattle.search_core.specs.Invariant.{SearchInvariant, IsAdmissibleBest, HoldsInAll}
use Rattle.search_core.specs.Solved.{IsLeastBest, NoneAdmissible, IsAtLimit}
use Rattle.search_core.proofs.CutRows.{right_cuts}
use Rattle.search_core.proofs.Runs.{reached_is_kept}
use Rattle.search_core.proofs.Counts.{branches_are_counted, limit_stays, steps_join, steps_part}
use Rattle.search_core.proofs.AnswerLaws.{optimal_is_least, infeasible_is_none, limit_is_spent, limit_is_enough}
use Rattle.archex_app.specs.Cheapest.{IsCheapest}
use Rattle.archex_app.specs.Search.{base_problem, IsSearch}
use Rattle.report.specs.Report.{report_text, search_report}
use Rattle.archex_app.specs.Answer.{ShowsCheapest, ShowsInfeasible, ShowsNodeLimit}
use Rattle.archex_app.specs.Searched.{CutHolds, IsLimitSpent}

-- what is kept of the state to which a history leads
pub invariant_at : (lib : LibraryParts) (limit workers analysts : ℕ) (entries : List Entry) (state : SearchState) (answer : Answer) → IsSearch lib limit workers analysts entries state answer → (before : List Entry) (mid : SearchState) → Reaches (base_problem lib) limit before mid
    → SearchInvariant (base_problem lib) mid
invariant_at lib limit workers analysts entries state answer is before mid reached = (reached_is_kept (base_problem lib) is.library is.problem (right_cuts lib is.library) mid (limit, before, reached)).holds

module _ (lib : LibraryParts) (limit workers analysts : ℕ) (entries : List Entry) (state : SearchState) where
  invariant : (answer : Answer) → IsSearch lib limit workers analysts entries state answer → SearchInvariant (base_problem lib) state
  invariant answer is = invariant_at lib limit workers analysts entries state answer is entries state is.legal

  -- Optimal
  best_of : (cost : ℕ) (best : Option Best) → IsSomeAnd best (IsLeastBest lib cost) → (found : Best) × (best ≡ Some found) × IsLeastBest lib cost found
  best_of cost None is = absurd is
  best_of cost (Some found) is = (found, refl, is)

  cheapest_by : (cost : ℕ) (found : Best) → IsLeastBest lib cost found → IsCheapest lib found.architecture
  cheapest_by cost found is = record { admissible = is.admissible; least = λ other can. subst (λ (n : ℕ). n ≤ cost_of lib other) (sym is.costs) (is.none_less other can) }

  pub optimal_shows : (cost : ℕ) (bytes : List ℕ) → library_of bytes ≡ Ok lib → IsSearch lib limit workers analysts entries state (Optimal cost) → ShowsCheapest bytes (search_report lib state (Optimal cost))
  optimal_shows cost bytes read is =
      let found = best_of cost state.best (optimal_is_least (base_problem lib) state (invariant (Optimal cost) is) cost is.answers) in
      record {
        lib = lib;
        read = read;
        arch = found.0.architecture;
        cheapest = cheapest_by cost found.0 found.2;
        branchings = state.branchings;
        cuts = length state.cuts;
        report = ap (λ (best : Option Best). report_text lib (Optimal cost) best state.branchings (length state.cuts)) found.1;
      }

  pub least_best : (cost : ℕ) → IsSearch lib limit workers analysts entries state (Optimal cost) → IsSomeAnd state.best (IsLeastBest lib cost)
  least_best cost is = optimal_is_least (base_problem lib) state (invariant (Optimal cost) is) cost is.answers

  pub some_admissible : (cost : ℕ) → IsSearch lib limit workers analysts entries state (Optimal cost) → (arch : ArchitectureParts) × IsAdmissible lib arch
  some_admissible cost is =
      let found = best_of cost state.best (optimal_is_least (base_problem lib) state (invariant (Optimal cost) is) cost is.answers) in (found.0.architecture, found.2.admissible)

  -- Infeasible
  pub none_admissible : IsSearch lib limit workers analysts entries state Infeasible → NoneAdmissible lib
  none_admissible is = infeasible_is_none (base_problem lib) state (invariant Infeasible is) is.answers

  pub infeasible_shows : (bytes : List ℕ) → library_of bytes ≡ Ok lib → IsSearch lib limit workers analysts entries state Infeasible → ShowsInfeasible bytes (search_report lib state Infeasible)
  infeasible_shows bytes read is = record {
    lib = lib;
    read = read;
    none_meets = none_admissible is;
    branchings = state.branchings;
    cuts = length state.cuts;
    report = refl;
  }

  -- NodeLimit
  pub best_admissible : (answer : Answer) → IsSearch lib limit workers analysts entries state answer → IfSome state.best (IsAdmissibleBest lib)
  best_admissible answer is = (invariant answer is).best_is_admissible

  architecture_admissible : (best : Option Best) → IfSome best (IsAdmissibleBest lib) → IfSome best (λ found. IsAdmissible lib found.architecture)
  architecture_admissible None is = tt
  architecture_admissible (Some found) is = is.admissible

  limit_is : (answer : Answer) → IsSearch lib limit workers analysts entries state answer → state.limit ≡ limit
  limit_is answer is = limit_stays (base_problem lib) entries (start_of limit) state (recursion_from_All (λ entry. is_reopen entry ≡ false) entries is.no_reopen) is.legal.steps

  spent : (incumbent : Option ℕ) → IsSearch lib limit workers analysts entries state (NodeLimit incumbent) → IsAtLimit state
  spent incumbent is = (limit_is_spent (base_problem lib) state (invariant (NodeLimit incumbent) is) incumbent is.answers).0

  pub limit_shows : (incumbent : Option ℕ) (bytes : List ℕ) → library_of bytes ≡ Ok lib → IsSearch lib limit workers analysts entries state (NodeLimit incumbent) → ShowsNodeLimit limit bytes (search_report lib state (NodeLimit incumbent))
  limit_shows incumbent bytes read is = record {
    lib = lib;
    read = read;
    best = state.best;
    admissible = architecture_admissible state.best (invariant (NodeLimit incumbent) is).best_is_admissible;
    cuts = length state.cuts;
    report = ap (λ n. report_text lib (NodeLimit incumbent) state.best n (length state.cuts)) ((spent incumbent is).spent ∙ limit_is (NodeLimit incumbent) is);
  }

  all_made : (branchings top made : ℕ) → branchings ≡ top → branchings ≡ 0 + made → made ≡ top
  all_made branchings top made e f = omega arith

  below : (far : ℕ) → (far ≤ limit → ⊥) → limit < far
  below far h = omega arith

  pub limit_spent : (incumbent : Option ℕ) → IsSearch lib limit workers analysts entries state (NodeLimit incumbent) → IsLimitSpent lib limit entries state
  limit_spent incumbent is =
      let at = spent incumbent is in
      let same = limit_is (NodeLimit incumbent) is in
      record {
        spent = all_made state.branchings limit (length (filter is_branch entries)) (at.spent ∙ same) (branches_are_counted (base_problem lib) entries (start_of limit) state is.legal.steps);
        short = below (2 ^ member_count lib) (λ far. limit_is_enough (base_problem lib) state (invariant (NodeLimit incumbent) is) (subst (λ (n : ℕ). 2 ^ member_count lib ≤ n) (sym same) far) incumbent is.answers);
        number = at.number;
        cube = at.cube;
        parked = at.parked;
      }

-- unless the limit came first, the history is complete
no_node : (at_rest empty : Bool) (n : ℕ) (best : Option Best) (answer : Answer) → nat_eq n 0 ≡ empty
    → (if at_rest then (if empty then Some (answer_by best) else Some (NodeLimit (best_cost best))) else None) ≡ Some answer → ((incumbent : Option ℕ) → answer ≡ NodeLimit incumbent → ⊥) → n ≡ 0
no_node true true n best answer e is other = eqb-true n 0 e
no_node true false n best answer e is other = absurd (let same : answer ≡ NodeLimit (best_cost best) = cc in other (best_cost best) same)
no_node false empty n best answer e is other = absurd cc

pub complete_unless : (lib : LibraryParts) (limit workers analysts : ℕ) (entries : List Entry) (state : SearchState) (answer : Answer) → IsSearch lib limit workers analysts entries state answer
    → ((incumbent : Option ℕ) → answer ≡ NodeLimit incumbent → ⊥) → IsComplete state
complete_unless lib limit workers analysts entries state answer is other = no_node (is_at_rest state) (nat_eq (len state.nodes) 0) (len state.nodes) state.best answer refl is.answers other

-- the last of a list, of all of which something holds
last_of : {X : Type 0} (P : X → Type 0) (xs : List X) (x : X) → AllByRecursion P (xs ++ x ∷ []) → P x
last_of P [] x all = all.0
last_of P (y ∷ ys) x all = last_of P ys x all.1

of_last : {X : Type 0} (P : X → Type 0) (xs : List X) (x : X) → All P (xs ++ x ∷ []) → P x
of_last P xs x all = last_of P xs x (recursion_from_All P (xs ++ x ∷ []) all)

-- the cuts
module _ (lib : LibraryParts) (limit workers analysts : ℕ) (entries : List Entry) (state : SearchState) (answer : Answer) (is : IsSearch lib limit workers analysts entries state answer) where
  published_holds : (before : List Entry) (mid next : SearchState) (worker node : ℕ) (cut : Cut) → Steps (base_problem lib) (start_of limit) before mid → Step (base_problem lib) mid (Publish worker node cut) next → CutHolds lib limit before worker node cut
  published_holds before mid next worker node cut leads step =
      let by : Publishes (base_problem lib) mid worker node cut next = step.fits in
      let row = cut_row_of lib cut (candidate_of lib by.study.cube) in
      let on : Steps (base_problem lib) (start_of limit) (before ++ Publish worker node cut ∷ []) next = steps_join (base_problem lib) before (Publish worker node cut ∷ []) (start_of limit) mid next leads (next, step, refl) in
      let inv = invariant_at lib limit workers analysts entries state answer is (before ++ Publish worker node cut ∷ []) next (record { few = is.legal.few; steps = on }) in
      record {
        state = mid;
        reached = record { few = is.legal.few; steps = leads };
        study = by.study;
        holds = of_last (HoldsInAll lib) mid.cuts row (subst (λ (s : SearchState). All (HoldsInAll lib) s.cuts) by.next inv.cuts_hold);
      }

  pub cuts_hold : (first rest : List Entry) (worker node : ℕ) (cut : Cut) → entries ≡ first ++ Publish worker node cut ∷ rest → CutHolds lib limit first worker node cut
  cuts_hold first rest worker node cut parts =
      let leads : Steps (base_problem lib) (start_of limit) (first ++ Publish worker node cut ∷ rest) state = subst (λ (es : List Entry). Steps (base_problem lib) (start_of limit) es state) parts is.legal.steps in
      let part = steps_part (base_problem lib) first (Publish worker node cut ∷ rest) (start_of limit) state leads in
      published_holds first part.0 part.2.0 worker node cut part.1 part.2.1
