-- What a pool leaves at the end of its search.
use Rattle.std.proofs.Common.{◌≡◌, ℕ, ◌^◌, ◌≤◌, false, true, is_some, Option, Some, None, refl, sym, ap, subst, ◌∙◌, arith}
use Rattle.std.specs.List.{All}
use Rattle.std.proofs.lemmas.List.Elements.{recursion_from_All}
use Rattle.arch_model.specs.Library.{IsLibrary}
use Rattle.arch_model.specs.Member.{member_count}
use Rattle.rows.specs.Parts.{ProblemParts}
use Rattle.rows.specs.Problem.{IsProblem}
use Rattle.search_core.specs.declared.limits.TheConstants.{BRANCHINGS}
use Rattle.search_core.specs.declared.answer.Answer.{Answer}
use Rattle.search_core.specs.declared.answer.Answer.TheVariants.{NodeLimit}
use Rattle.search_core.specs.Answers.{answer_of}
use Rattle.search_core.specs.declared.entry.Entry.{Entry}
use Rattle.search_core.specs.State.{SearchState, start_of}
use Rattle.search_core.specs.History.{Steps, IsAtRest, HasNoReopen, is_reopen}
use Rattle.search_core.specs.Diligent.{IsDiligent}
use Rattle.search_core.proofs.Counts.{limit_stays}
use Rattle.search_core.proofs.AnswerLaws.{limit_is_enough, no_answer}
use Rattle.search_core.specs.Step.{NamesWorkerBelow}
use Rattle.node_pool.specs.Parts.{PoolParts}
use Rattle.node_pool.specs.Pool.{IsNewPool, SamePool}
use Rattle.node_pool.specs.Topic.{TopicParts, topic_of}
use Rattle.node_pool.proofs.Outcomes.{state_is_kept}
use Rattle.worker_team.specs.declared.solved.Solved.{Solved}
use Rattle.worker_team.specs.Solved.{IsSolved}
use Rattle.worker_team.specs.Inner.Rounds.{IsLeftOf, IsEndOf}

some_unless : (o : Option Answer) → (o ≡ None → ⊥) → is_some o ≡ true
some_unless (Some answer) other = refl
some_unless None other = absurd (other refl)

-- at rest there is an answer
pub answer_there : (state : SearchState) (o : Option Answer) → o ≡ answer_of state → IsAtRest state → is_some o ≡ true
answer_there state o is rest = some_unless o (λ none. (no_answer state).0 (sym is ∙ none) rest)

-- what is left of a pool that began at a start and came to rest
module _ (problem : ProblemParts) (limit workers analysts : ℕ) (new after : PoolParts) (solved : Solved)
    (begins : IsNewPool problem (start_of limit) workers analysts new) (same : SamePool new after) (left : IsLeftOf after solved) where
  its_problem : after.problem ≡ problem
  its_problem = same.problem ∙ begins.problem_is

  its_base : after.base ≡ start_of limit
  its_base = same.base ∙ begins.base_is

  steps_there : Steps problem (start_of limit) solved.history.entries after.state
  steps_there =
      subst (λ p. Steps p (start_of limit) solved.history.entries after.state) its_problem
      (subst (λ s. Steps after.problem s solved.history.entries after.state) its_base (subst (λ h. Steps after.problem after.base h after.state) (sym left.history) left.is.steps))

  diligent_there : IsDiligent problem analysts (start_of limit) solved.history.entries
  diligent_there =
      subst (λ p. IsDiligent p analysts (start_of limit) solved.history.entries) its_problem
      (subst (λ n. IsDiligent after.problem n (start_of limit) solved.history.entries) (same.analysts ∙ begins.analysts_are)
      (subst (λ s. IsDiligent after.problem after.analysts s solved.history.entries) its_base (subst (λ h. IsDiligent after.problem after.analysts after.base h) (sym left.history) left.is.diligent)))

  pub solved_by : limit ≤ BRANCHINGS → IsAtRest after.state → IsSolved problem limit workers analysts solved
  solved_by few rest = record {
    state = after.state;
    legal = record { few = few; steps = steps_there };
    diligent = diligent_there;
    no_reopen = subst HasNoReopen (sym left.history) left.is.no_reopen;
    workers_below =
        subst (λ n. All (NamesWorkerBelow n) solved.history.entries) (same.workers ∙ begins.workers_are)
        (subst (λ h. All (NamesWorkerBelow after.workers) h) (sym left.history) left.is.workers_below);
    rest = rest;
    answer = left.answer;
    best = left.best;
    branchings = left.branchings;
    cuts = left.cuts;
  }

  -- a limit of at least the number of vectors is never spent
  pub never_limited : IsLibrary problem.library → IsProblem problem → 2 ^ member_count problem.library ≤ limit → (incumbent : Option ℕ) → solved.answer ≡ NodeLimit incumbent → ⊥
  never_limited right is far incumbent e =
      let P : ProblemParts → Type 0 = λ p. IsLibrary p.library in
      let kept = state_is_kept after left.is (subst P (sym its_problem) right) (subst IsProblem (sym its_problem) is) in
      let stays = limit_stays after.problem after.history after.base after.state (recursion_from_All (λ (entry : Entry). is_reopen entry ≡ false) after.history left.is.no_reopen) left.is.steps in
      limit_is_enough after.problem after.state kept.holds
      (at_least (2 ^ member_count after.problem.library) (2 ^ member_count problem.library) limit after.base.limit after.state.limit (ap (λ (p : ProblemParts). 2 ^ member_count p.library) its_problem) far (ap (λ (s : SearchState). s.limit) its_base) stays)
      incumbent (left.answer ∙ ap Some e) where
        at_least : (a b l m n : ℕ) → a ≡ b → b ≤ l → m ≡ l → n ≡ m → a ≤ n
        at_least a b l m n e f g h = omega (arith, e, f, g, h)

-- a pool that is about the same as another has its problem, its base and its team
same_by_topic : (old new : PoolParts) → topic_of new ≡ topic_of old → SamePool old new
same_by_topic old new same = record {
  problem = ap (λ (t : TopicParts). t.problem) same;
  base = ap (λ (t : TopicParts). t.base) same;
  workers = ap (λ (t : TopicParts). t.workers) same;
  analysts = ap (λ (t : TopicParts). t.analysts) same;
}

same_twice : (old mid new : PoolParts) → SamePool old mid → SamePool mid new → SamePool old new
same_twice old mid new first next = record {
  problem = next.problem ∙ first.problem;
  base = next.base ∙ first.base;
  workers = next.workers ∙ first.workers;
  analysts = next.analysts ∙ first.analysts;
}

-- a team's pool, which the gate handed out at its end: it is about the same as the new one
module _ (problem : ProblemParts) (limit workers analysts : ℕ) (new pool : PoolParts) (begins : IsNewPool problem (start_of limit) workers analysts new)
    (same : topic_of pool ≡ topic_of new) where
  pub team_solved : limit ≤ BRANCHINGS → (solved : Solved) → IsEndOf pool solved → IsSolved problem limit workers analysts solved
  team_solved few solved end = solved_by problem limit workers analysts new end.after solved begins (same_twice new pool end.after (same_by_topic new pool same) end.same) end.left few end.rest

  pub team_never_limited : IsLibrary problem.library → IsProblem problem → 2 ^ member_count problem.library ≤ limit → (solved : Solved) → IsEndOf pool solved → (incumbent : Option ℕ)
      → solved.answer ≡ NodeLimit incumbent → ⊥
  team_never_limited right is far solved end =
      never_limited problem limit workers analysts new end.after solved begins (same_twice new pool end.after (same_by_topic new pool same) end.same) end.left right is far
