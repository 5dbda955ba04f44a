-- What two finished searches of one problem have found.
use Rattle.std.proofs.Common.{◌≡◌, ℕ, ◌≤◌, Option, Some, None, ap, ◌∙◌, arith}
use Rattle.std.specs.Option.{IsSomeAnd}
use Rattle.arch_model.specs.Library.{IsLibrary}
use Rattle.arch_model.specs.Parts.{LibraryParts}
use Rattle.arch_model.specs.Architecture.{cost_of}
use Rattle.rows.specs.Parts.{ProblemParts}
use Rattle.rows.specs.Problem.{IsProblem}
use Rattle.incumbent.specs.declared.best.Best.{Best}
use Rattle.search_core.specs.declared.answer.Answer.TheVariants.{Optimal, Infeasible}
use Rattle.search_core.specs.Invariant.{SearchInvariant}
use Rattle.search_core.specs.Solved.{IsLeastBest, NoneAdmissible}
use Rattle.search_core.proofs.CutRows.{right_cuts}
use Rattle.search_core.proofs.Runs.{reached_is_kept}
use Rattle.search_core.proofs.AnswerLaws.{optimal_is_least, infeasible_is_none}
use Rattle.worker_team.specs.declared.solved.Solved.{Solved}
use Rattle.worker_team.specs.Solved.{IsSolved}

same_least : (lib : LibraryParts) (x y : ℕ) (a b : Option Best) → IsSomeAnd a (IsLeastBest lib x) → IsSomeAnd b (IsLeastBest lib y) → x ≡ y
same_least lib x y None b p q = absurd p
same_least lib x y (Some a) None p q = absurd q
same_least lib x y (Some a) (Some b) p q =
    same (cost_of lib a.architecture) (cost_of lib b.architecture) p.costs q.costs (p.none_less b.architecture q.admissible) (q.none_less a.architecture p.admissible) where
      same : (m n : ℕ) → m ≡ x → n ≡ y → x ≤ n → y ≤ m → x ≡ y
      same m n e f g h = omega (arith, e, f, g, h)

some_there : (lib : LibraryParts) (x : ℕ) (a : Option Best) → IsSomeAnd a (IsLeastBest lib x) → NoneAdmissible lib → ⊥
some_there lib x None p none = p
some_there lib x (Some a) p none = none a.architecture p.admissible

module _ (problem : ProblemParts) (limit workers analysts : ℕ) (solved : Solved) (right : IsLibrary problem.library) (is : IsProblem problem)
    (done : IsSolved problem limit workers analysts solved) where
  invariant : SearchInvariant problem done.state
  invariant = (reached_is_kept problem right is (right_cuts problem.library right) done.state (limit, solved.history.entries, done.legal)).holds

  least_found : (cost : ℕ) → solved.answer ≡ Optimal cost → IsSomeAnd done.state.best (IsLeastBest problem.library cost)
  least_found cost e = optimal_is_least problem done.state invariant cost (done.answer ∙ ap Some e)

  none_found : solved.answer ≡ Infeasible → NoneAdmissible problem.library
  none_found e = infeasible_is_none problem done.state invariant (done.answer ∙ ap Some e)

pub same_costs : (problem : ProblemParts) (limit workers analysts : ℕ) (one : Solved) (cost : ℕ) (other_limit other_workers other_analysts : ℕ) (other : Solved) (other_cost : ℕ) → IsLibrary problem.library
    → IsProblem problem → IsSolved problem limit workers analysts one → one.answer ≡ Optimal cost → IsSolved problem other_limit other_workers other_analysts other → other.answer ≡ Optimal other_cost
    → cost ≡ other_cost
same_costs problem limit workers analysts one cost other_limit other_workers other_analysts other other_cost right is done e other_done f =
    same_least problem.library cost other_cost done.state.best other_done.state.best (least_found problem limit workers analysts one right is done cost e)
    (least_found problem other_limit other_workers other_analysts other right is other_done other_cost f)

pub never_both : (problem : ProblemParts) (limit workers analysts : ℕ) (one : Solved) (cost : ℕ) (other_limit other_workers other_analysts : ℕ) (other : Solved) → IsLibrary problem.library
    → IsProblem problem → IsSolved problem limit workers analysts one → one.answer ≡ Optimal cost → IsSolved problem other_limit other_workers other_analysts other → other.answer ≡ Infeasible → ⊥
never_both problem limit workers analysts one cost other_limit other_workers other_analysts other right is done e other_done f =
    some_there problem.library cost done.state.best (least_found problem limit workers analysts one right is done cost e)
    (none_found problem other_limit other_workers other_analysts other right is other_done f)
