-- What a round does to a pool.
use Rattle.std.proofs.Common.{◌≡◌, ℕ, ◌+◌, ◌-◌, ◌*◌, ◌<◌, ◌≤◌, Bool, true, false, length, refl, sym, ap, subst, ◌∙◌, inl, inr, arith}
use Rattle.std.proofs.lemmas.Bool.{cases_lt}
use Rattle.std.proofs.lemmas.List.Elements.{recursion_from_All}
use Rattle.arch_model.specs.Library.{IsLibrary}
use Rattle.arch_model.specs.Parts.{LibraryParts, ArchitectureParts}
use Rattle.arch_model.specs.Admissible.{IsAdmissible}
use Rattle.redundancy_cut.specs.ChosenCut.{chosen_cut_of}
use Rattle.analyst.specs.declared.verdict.Verdict.{Verdict}
use Rattle.analyst.specs.declared.verdict.Verdict.TheVariants.{Meets, Breaks}
use Rattle.analyst.specs.VerdictParts.{cut_of}
use Rattle.rows.specs.Problem.{IsProblem}
use Rattle.search_core.specs.declared.entry.Entry.{Entry}
use Rattle.search_core.specs.State.{SearchState}
use Rattle.search_core.specs.History.{is_reopen, IsAtRest}
use Rattle.search_core.proofs.Counts.{limit_stays}
use Rattle.node_pool.specs.declared.ticket.SearchTicket.{SearchTicket}
use Rattle.node_pool.specs.declared.ticket.Work.{Work}
use Rattle.node_pool.specs.declared.ticket.Work.TheVariants.{Node as ANode, Candidate as ACandidate, Nothing, Done}
use Rattle.node_pool.specs.Parts.{PoolParts}
use Rattle.node_pool.specs.Pool.{IsPool, Appends}
use Rattle.node_pool.specs.Taking.{HandsOut}
use Rattle.node_pool.specs.declared.ticket.StudyTicket.{StudyTicket}
use Rattle.node_pool.specs.declared.ticket.AtLimit.{AtLimit}
use Rattle.node_pool.specs.Tickets.{IsHeldFor, IsStudiedFor, IsAtLimit, known_for}
use Rattle.node_pool.specs.Holding.{HasWork, IsIdle}
use Rattle.branch_worker.specs.declared.outcome.Outcome.{Outcome}
use Rattle.branch_worker.specs.Outcome.{IsOutcome}
use Rattle.node_pool.proofs.Counting.{one_more}
use Rattle.node_pool.proofs.Outcomes.{state_is_kept}
use Rattle.worker_team.specs.Inner.Rounds.{GoesOn, AddsOne, IsRound, IsInHand, AllIdle, IsVerdict, IsWithinLimit}
use Rattle.worker_team.proofs.Resting.{nothing_is_left}

no_more : (n : ℕ) → n + 0 ≤ n
no_more n = omega arith

-- a pool that stays
pub stays : (pool : PoolParts) → GoesOn 0 pool pool
stays pool = record { same = record { problem = refl; base = refl; workers = refl; analysts = refl }; short = refl; more = no_more (length pool.history) }

-- a pool that is the same
pub stayed : (old new : PoolParts) → new ≡ old → GoesOn 0 old new
stayed old new is = subst (GoesOn 0 old) (sym is) (stays old)

one : (old new : ℕ) → new ≡ old + 1 → old + 1 ≤ new
one old new e = omega arith

-- a pool with one entry more
pub by_entry : (old new : PoolParts) (entry : Entry) → Appends old entry new → AddsOne old new
by_entry old new entry appends = record {
  same = record { problem = appends.same.problem; base = appends.same.base; workers = appends.same.workers; analysts = appends.same.analysts };
  short = appends.short;
  one = one_more old new entry appends;
}

-- a pool with one entry more went on
pub one_on : (old new : PoolParts) → AddsOne old new → GoesOn 1 old new
one_on old new adds = record {
  same = record { problem = adds.same.problem; base = adds.same.base; workers = adds.same.workers; analysts = adds.same.analysts };
  short = adds.short;
  more = one (length old.history) (length new.history) adds.one;
}

-- a pool that got room first
pub with_room : (least spare : ℕ) (old mid new : PoolParts) → mid ≡ record old { spare = spare } → GoesOn least mid new → GoesOn least old new
with_room least spare old mid new is on =
    let P : PoolParts → Type 0 = λ m. GoesOn least m new in
    let h = subst P is on in
    record { same = record { problem = h.same.problem; base = h.same.base; workers = h.same.workers; analysts = h.same.analysts }; short = h.short; more = h.more }

-- what a ticket says of a pool that got room is what it said before
module _ (old mid : PoolParts) (is : mid ≡ record old { spare = mid.spare }) where
  pub held_with_room : (ticket : SearchTicket) → IsHeldFor old ticket → IsHeldFor mid ticket
  held_with_room ticket held = let P : PoolParts → Type 0 = λ p. IsHeldFor p ticket in subst P (sym is) held

  pub outcome_with_room : (ticket : SearchTicket) (outcome : Outcome) → IsOutcome (known_for old ticket) ticket.cube outcome → IsOutcome (known_for mid ticket) ticket.cube outcome
  outcome_with_room ticket outcome may = let P : PoolParts → Type 0 = λ p. IsOutcome (known_for p ticket) ticket.cube outcome in subst P (sym is) may

  pub studied_with_room : (ticket : StudyTicket) → IsStudiedFor old ticket → IsStudiedFor mid ticket
  studied_with_room ticket study =
      let P : PoolParts → Type 0 = λ p. IsStudiedFor p ticket in
      subst P (sym is) (record { cube = study.cube; studied = study.studied; candidate = study.candidate })

  pub verdict_with_room : (candidate : ArchitectureParts) (verdict : Verdict) → IsVerdict old.problem.library candidate verdict → IsVerdict mid.problem.library candidate verdict
  verdict_with_room candidate verdict told = let P : PoolParts → Type 0 = λ p. IsVerdict p.problem.library candidate verdict in subst P (sym is) told

  pub idle_with_room : AllIdle old → AllIdle mid
  idle_with_room idle = subst AllIdle (sym is) idle

-- a ticket that was handed back at the limit
module _ (old new : PoolParts) (ticket : SearchTicket) (told : AtLimit) (at : IsAtLimit old ticket told) (same : new ≡ old) where
  pub handed_back_holds : IsHeldFor old ticket → IsHeldFor new told.ticket
  handed_back_holds held = let P : PoolParts → Type 0 = λ p. IsHeldFor p told.ticket in subst P (sym same) (subst (IsHeldFor old) (sym at.handed_back) held)

  pub limit_still : new.state.branchings ≡ new.state.limit
  limit_still = let P : PoolParts → Type 0 = λ p. p.state.branchings ≡ p.state.limit in subst P (sym same) at.equal

  pub then_parked : (after : PoolParts) (entry : Entry) → Appends new entry after → AddsOne old after
  then_parked after entry appends = let P : PoolParts → Type 0 = λ p. AddsOne p after in subst P same (by_entry new after entry appends)

-- one more worker holds and studies nothing
pub idle_next : (pool : PoolParts) (k : ℕ) → ((w : ℕ) → w < k → IsIdle pool w) → IsIdle pool k → (w : ℕ) → w < k + 1 → IsIdle pool w
idle_next pool k before here w short = elim (cases_lt w k) [
  | inl less ↦ before w less
  | inr other ↦ subst (IsIdle pool) (last w k short other) here
] where
  last : (a b : ℕ) → a < b + 1 → b ≤ a → b ≡ a
  last a b e f = omega (arith, e, f)

-- what a round did, by its answer
pub worked_on : (old new : PoolParts) (worked : Bool) → IsRound old worked new → worked ≡ true → GoesOn 1 old new
worked_on old new worked did is = subst (λ w. IsRound old w new) is did

pub came_to_rest : (old new : PoolParts) (worked : Bool) → IsRound old worked new → worked ≡ false → GoesOn 0 old new × IsAtRest new.state
came_to_rest old new worked did is = subst (λ w. IsRound old w new) is did

sum : (a b c l m : ℕ) → a + l ≤ b → b + m ≤ c → a + (l + m) ≤ c
sum a b c l m e f = omega arith

-- a pool that went on twice
pub went_on : (l m : ℕ) (old mid new : PoolParts) → GoesOn l old mid → GoesOn m mid new → GoesOn (l + m) old new
went_on l m old mid new first then_on = record {
  same = record {
    problem = then_on.same.problem ∙ first.same.problem;
    base = then_on.same.base ∙ first.same.base;
    workers = then_on.same.workers ∙ first.same.workers;
    analysts = then_on.same.analysts ∙ first.same.analysts;
  };
  short = then_on.short ∙ first.short;
  more = sum (length old.history) (length mid.history) (length new.history) l m first.more then_on.more;
}

-- a verdict, by the two facts that tell it
pub verdict_is : (lib : LibraryParts) (arch : ArchitectureParts) (verdict : Verdict) → (verdict ≡ Meets → IsAdmissible lib arch) → cut_of verdict ≡ chosen_cut_of lib arch → IsVerdict lib arch verdict
verdict_is lib arch Meets meets cut = meets refl
verdict_is lib arch (Breaks cut) meets same = sym same

-- the work of a worker is in hand
pub work_in_hand : (pool : PoolParts) (worker : ℕ) (work : Work) → HasWork pool worker work → IsInHand pool work
work_in_hand pool worker (ANode ticket) has = has.held
work_in_hand pool worker (ACandidate ticket) has = has.studied
work_in_hand pool worker Nothing has = absurd has
work_in_hand pool worker Done has = absurd has

less_on : (n m : ℕ) → n + 1 ≤ m → n + 0 ≤ m
less_on n m e = omega arith

-- a pool that went on by an entry went on
pub at_least_none : (old new : PoolParts) → GoesOn 1 old new → GoesOn 0 old new
at_least_none old new on = record { same = on.same; short = on.short; more = less_on (length old.history) (length new.history) on.more }

-- what a pool hands out where nobody has work in hand
pub handed_on : (old new : PoolParts) (worker : ℕ) (work : Work) → HandsOut old worker work new → GoesOn 0 old new
handed_on old new worker (ANode ticket) hands = at_least_none old new (one_on old new (by_entry old new _ hands.appends))
handed_on old new worker (ACandidate ticket) hands = at_least_none old new (one_on old new (by_entry old new _ hands.appends))
handed_on old new worker Nothing hands = stayed old new hands.0
handed_on old new worker Done hands = stayed old new hands.0

pub handed_in_hand : (old new : PoolParts) (worker : ℕ) (work : Work) → IsPool old → AllIdle old → HandsOut old worker work new → IsInHand new work
handed_in_hand old new worker (ANode ticket) is idle hands = hands.held
handed_in_hand old new worker (ACandidate ticket) is idle hands = hands.studied
handed_in_hand old new worker Nothing is idle hands =
    let P : PoolParts → Type 0 = λ p. IsAtRest p.state in subst P (sym hands.0) (nothing_is_left old is idle hands.1.nothing_open hands.1.nothing_pending)
handed_in_hand old new worker Done is idle hands = let P : PoolParts → Type 0 = λ p. IsAtRest p.state in subst P (sym hands.0) hands.1

-- how long a history can be
pub history_is_bounded : (pool : PoolParts) → IsPool pool → IsLibrary pool.problem.library → IsProblem pool.problem → IsWithinLimit pool
history_is_bounded pool is right problem =
    few (length pool.history) pool.state.branchings pool.state.limit pool.base.limit is.few (state_is_kept pool is right problem).holds.within_limit.at_most
    (limit_stays pool.problem pool.history pool.base pool.state (recursion_from_All (λ (entry : Entry). is_reopen entry ≡ false) pool.history is.no_reopen) is.steps) where
      few : (n b m l : ℕ) → n ≤ 4 * (2 * b + 1) → b ≤ m → m ≡ l → n ≤ 4 * (2 * l + 1)
      few n b m l e f g = omega (arith, e, f, g)

-- how many entries can still come, and one more
abbrev pub room_left : PoolParts → ℕ
room_left pool = (4 * (2 * pool.base.limit + 1) + 1) - length pool.history

pub room_falls : (old new : PoolParts) → IsWithinLimit old → GoesOn 1 old new → room_left new < room_left old
room_falls old new short on = falls (length old.history) (length new.history) old.base.limit new.base.limit short on.more (ap (λ (s : SearchState). s.limit) on.same.base) where
  falls : (n m l k : ℕ) → n ≤ 4 * (2 * l + 1) → n + 1 ≤ m → k ≡ l → (4 * (2 * k + 1) + 1) - m < (4 * (2 * l + 1) + 1) - n
  falls n m l k e f g = omega (arith, e, f, g)
