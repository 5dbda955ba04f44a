-- What a ticket that fits lets a pool append.
use Rattle.std.proofs.Common.{◌≡◌, ℕ, ◌+◌, ◌*◌, ◌^◌, ◌<◌, ◌≤◌, false, List, ◌++◌, length, Option, Some, refl, sym, ap, subst, ◌∙◌, arith}
use Rattle.std.specs.FinMap.{get}
use Rattle.arch_model.specs.Library.{IsLibrary}
use Rattle.arch_model.specs.Architecture.{cost_of}
use Rattle.arch_model.specs.Admissible.{IsAdmissible}
use Rattle.rows.specs.declared.known.RowRef.{RowRef}
use Rattle.rows.specs.declared.known.Pair.{Pair}
use Rattle.rows.specs.Parts.{CubeParts}
use Rattle.rows.specs.Problem.{IsProblem}
use Rattle.rows.specs.Known.{IsQuiet}
use Rattle.rows.specs.Trace.{cube_after}
use Rattle.rows.specs.Reason.{IsReason}
use Rattle.rows.specs.Ascent.{is_ascent_refuted}
use Rattle.rows.specs.Outcome.{MayBranch, MayPrune, MayOffer}
use Rattle.search_core.specs.declared.limits.TheConstants.{WORKERS, BRANCHINGS}
use Rattle.arch_model.specs.declared.sets.VarId.{VarId}
use Rattle.search_core.specs.declared.entry.Entry.TheVariants.{Branch, Prune, Offer, Publish, Accept, Park}
use Rattle.search_core.specs.Node.{Node, Held, Pending, Studied, Parked}
use Rattle.search_core.specs.State.{SearchState, start_of, known_at}
use Rattle.search_core.specs.Candidate.{candidate_of}
use Rattle.search_core.specs.Step.{IsTraced, IsStudied, Publishes, with_node, without_node, branched, accepted}
use Rattle.search_core.specs.History.{IsReached}
use Rattle.search_core.specs.Diligent.{IsQuietAfter}
use Rattle.redundancy_cut.specs.declared.cut.Cut.{Cut}
use Rattle.redundancy_cut.specs.ChosenCut.{chosen_cut_of}
use Rattle.search_core.proofs.Counts.{steps_join}
use Rattle.search_core.proofs.Entering.{limit_few}
use Rattle.search_core.proofs.CutRows.{right_cuts}
use Rattle.search_core.proofs.Kept.{IsKept}
use Rattle.search_core.proofs.Runs.{reached_is_kept}
use Rattle.node_pool.specs.declared.ticket.SearchTicket.{SearchTicket}
use Rattle.node_pool.specs.declared.ticket.StudyTicket.{StudyTicket}
use Rattle.node_pool.specs.Parts.{PoolParts}
use Rattle.node_pool.specs.Pool.{IsPool}
use Rattle.node_pool.specs.Inner.Appending.{MayAppend}
use Rattle.search_core.proofs.Publishing.{chosen_may_publish}
use Rattle.node_pool.proofs.Workers.{pool_is_worked}
use Rattle.node_pool.specs.Tickets.{IsHeldFor, IsStudiedFor, MustPublish, known_for}

-- a legal history leads to a pool's state
pub state_is_reached : (pool : PoolParts) → IsPool pool → IsReached pool.problem pool.state
state_is_reached pool is =
    let from = is.base.reached in
    (from.0, from.1 ++ pool.history, record { few = from.2.few; steps = steps_join pool.problem from.1 pool.history _ pool.base pool.state from.2.steps is.steps })

pub state_is_kept : (pool : PoolParts) → IsPool pool → IsLibrary pool.problem.library → IsProblem pool.problem → IsKept pool.problem pool.state
state_is_kept pool is right problem = reached_is_kept pool.problem right problem (right_cuts pool.problem.library right) pool.state (state_is_reached pool is)

pub branchings_below : (pool : PoolParts) → IsPool pool → IsLibrary pool.problem.library → IsProblem pool.problem → (pool.state.branchings ≡ pool.state.limit → ⊥) → pool.state.branchings < pool.state.limit
branchings_below pool is right problem other = lt pool.state.branchings pool.state.limit (state_is_kept pool is right problem).holds.within_limit.at_most other where
  lt : (a b : ℕ) → a ≤ b → (a ≡ b → ⊥) → a < b
  lt a b le ne = omega (arith, le, ne)

less_than : (w n m : ℕ) → w < n → n ≤ m → w < m
less_than w n m a b = omega arith

same_held : (o : Option Node) (a b : CubeParts) (w k l : ℕ) (u v : Option ℕ) → o ≡ Some (Held a w k u) → o ≡ Some (Held b w l v) → (a ≡ b) × (k ≡ l) × (u ≡ v)
same_held o a b w k l u v e f = (cc, cc, cc)

same_studied : (o : Option Node) (a b : CubeParts) (w : ℕ) → o ≡ Some (Studied a w) → o ≡ Some (Studied b w) → a ≡ b
same_studied o a b w e f = cc

same_cube : {x y : CubeParts} → Some x ≡ Some y → x ≡ y
same_cube e = cc

module _ (pool : PoolParts) (is : IsPool pool) (ticket : SearchTicket) (held : IsHeldFor pool ticket) where
  -- its worker is one of the team
  pub holder_below : ticket.worker < pool.workers
  holder_below = pool_is_worked pool is ticket.node (Held ticket.cube ticket.worker ticket.cuts ticket.bound) held

  pub holder_few : ticket.worker < WORKERS
  holder_few = less_than ticket.worker pool.workers WORKERS holder_below is.team.few_workers

  abbrev traced : (trace : List RowRef) (after : CubeParts) → cube_after (known_for pool ticket) ticket.cube trace ≡ Some after → IsTraced pool.problem pool.state ticket.worker ticket.node trace
  traced trace after leads = record { cube = ticket.cube; cuts = ticket.cuts; bound = ticket.bound; held = held; after = after; leads = leads }

  pub branch_is_quiet : (trace : List RowRef) (v : ℕ) → MayBranch (known_for pool ticket) ticket.cube trace v → (t : IsTraced pool.problem pool.state ticket.worker ticket.node trace)
      → IsQuietAfter pool.problem pool.state ticket.worker ticket.node trace t
  branch_is_quiet trace v may t =
      let same = same_held (get pool.state.nodes ticket.node) ticket.cube t.cube ticket.worker ticket.cuts t.cuts ticket.bound t.bound held t.held in
      let after : may.after ≡ t.after = same_cube (sym may.leads
      ∙ ap (λ c. cube_after (known_at pool.problem pool.state ticket.cuts ticket.bound) c trace) same.0
      ∙ ap (λ k. cube_after (known_at pool.problem pool.state k ticket.bound) t.cube trace) same.1
      ∙ ap (λ u. cube_after (known_at pool.problem pool.state t.cuts u) t.cube trace) same.2 ∙ t.leads) in
      let Q : ℕ → Option ℕ → CubeParts → Type 0 = λ k u c. IsQuiet (known_at pool.problem pool.state k u) c in
      let A : ℕ → Option ℕ → CubeParts → Type 0 = λ k u c. is_ascent_refuted (known_at pool.problem pool.state k u) c ≡ false in record {
        quiet = subst (λ c. Q t.cuts t.bound c) after (subst (λ u. Q t.cuts u may.after) same.2 (subst (λ k. Q k ticket.bound may.after) same.1 may.quiet));
        ascent = subst (λ c. A t.cuts t.bound c) after (subst (λ u. A t.cuts u may.after) same.2 (subst (λ k. A k ticket.bound may.after) same.1 may.ascent));
      }

  pub branch_may_append : (trace : List RowRef) (var : VarId) → MayBranch (known_for pool ticket) ticket.cube trace var.0 → pool.state.branchings < pool.state.limit → MayAppend pool (Branch ticket.worker ticket.node trace var)
  branch_may_append trace var may below = record {
    next = branched pool.state ticket.node may.after var.0;
    step = record {
      worker = holder_few;
      fits = record { traced = traced trace may.after may.leads; variable = may.variable; free = may.free; below = below; next = refl };
    };
    kept_limit = refl;
    worker = holder_below;
    diligent = branch_is_quiet trace var.0 may;
  }

  pub prune_may_append : (trace : List RowRef) (pairs : List Pair) → MayPrune (known_for pool ticket) ticket.cube trace pairs → IsReason pairs → MayAppend pool (Prune ticket.worker ticket.node trace pairs)
  prune_may_append trace pairs may reason = record {
    next = without_node pool.state ticket.node;
    step = record {
      worker = holder_few;
      fits = record { traced = traced trace may.after may.leads; reason = reason; there = may.there; refuted = may.refuted; next = refl };
    };
    kept_limit = refl;
    worker = holder_below;
    diligent = tt;
  }

  pub offer_may_append : (trace : List RowRef) → MayOffer (known_for pool ticket) ticket.cube trace → MayAppend pool (Offer ticket.worker ticket.node trace)
  offer_may_append trace may = record {
    next = with_node pool.state ticket.node (Pending may.after);
    step = record {
      worker = holder_few;
      fits = record { traced = traced trace may.after may.leads; full = may.full; stands = may.stands; next = refl };
    };
    kept_limit = refl;
    worker = holder_below;
    diligent = tt;
  }

  pub park_may_append : pool.state.branchings ≡ pool.state.limit → MayAppend pool (Park ticket.worker ticket.node)
  park_may_append at = record {
    next = with_node pool.state ticket.node (Parked ticket.cube);
    step = record {
      worker = holder_few;
      fits = record { cube = ticket.cube; cuts = ticket.cuts; bound = ticket.bound; held = held; at_limit = at; next = refl };
    };
    kept_limit = refl;
    worker = holder_below;
    diligent = tt;
  }

module _ (pool : PoolParts) (is : IsPool pool) (ticket : StudyTicket) (study : IsStudiedFor pool ticket) where
  pub student_below : ticket.worker < pool.workers
  student_below = pool_is_worked pool is ticket.node (Studied study.cube ticket.worker) study.studied

  pub student_few : ticket.worker < WORKERS
  student_few = less_than ticket.worker pool.workers WORKERS student_below is.team.few_workers

  abbrev studied : IsStudied pool.state ticket.worker ticket.node
  studied = record { cube = study.cube; studied = study.studied }

  pub accept_may_append : (cost : ℕ) → IsAdmissible pool.problem.library ticket.candidate → cost ≡ cost_of pool.problem.library ticket.candidate → MayAppend pool (Accept ticket.worker ticket.node cost)
  accept_may_append cost admissible costs = record {
    next = accepted pool.state ticket.node cost (candidate_of pool.problem.library study.cube);
    step = record {
      worker = student_few;
      fits = record {
        study = studied;
        admissible = subst (IsAdmissible pool.problem.library) study.candidate admissible;
        costs = costs ∙ ap (cost_of pool.problem.library) study.candidate;
        next = refl;
      };
    };
    kept_limit = refl;
    worker = student_below;
    diligent = tt;
  }

  published_is_chosen : (cut : Cut) → MustPublish pool ticket cut → (s : IsStudied pool.state ticket.worker ticket.node) → chosen_cut_of pool.problem.library (candidate_of pool.problem.library s.cube) ≡ Some cut
  published_is_chosen cut must s =
      ap (λ c. chosen_cut_of pool.problem.library (candidate_of pool.problem.library c)) (same_studied (get pool.state.nodes ticket.node) s.cube study.cube ticket.worker s.studied study.studied)
      ∙ ap (chosen_cut_of pool.problem.library) (sym study.candidate) ∙ must

  -- the cut that must be published may be
  pub publish_may_append : IsLibrary pool.problem.library → IsProblem pool.problem → (cut : Cut) → MustPublish pool ticket cut → MayAppend pool (Publish ticket.worker ticket.node cut)
  publish_may_append right problem cut must =
      let may : (new : SearchState) × Publishes pool.problem pool.state ticket.worker ticket.node cut new =
      chosen_may_publish pool.problem pool.state ticket.worker ticket.node cut right problem (state_is_reached pool is) studied (published_is_chosen cut must studied) in record {
        next = may.0;
        step = record { worker = student_few; fits = may.1 };
        kept_limit = refl;
        worker = student_below;
        diligent = published_is_chosen cut must;
      }

-- the limit of a pool's base
pub limit_is_few : (pool : PoolParts) → IsPool pool → (limit : ℕ) → pool.base ≡ start_of limit → limit ≤ BRANCHINGS
limit_is_few pool is limit start = at_most pool.base.limit limit BRANCHINGS (ap (λ (s : SearchState). s.limit) start) (limit_few pool.problem pool.base is.base.reached) where
  at_most : (a b c : ℕ) → a ≡ b → a ≤ c → b ≤ c
  at_most a b c e h = omega arith

-- a pool's history is far from the greatest count that a gate can have
pub history_is_short : (pool : PoolParts) → IsPool pool → IsLibrary pool.problem.library → IsProblem pool.problem → length pool.history < 2 ^ 62
history_is_short pool is right problem =
    short (length pool.history) pool.state.branchings pool.state.limit is.few (state_is_kept pool is right problem).holds.within_limit.at_most (limit_few pool.problem pool.state (state_is_reached pool is)) where
      short : (l b m : ℕ) → l ≤ 4 * (2 * b + 1) → b ≤ m → m ≤ BRANCHINGS → l < 2 ^ 62
      short l b m few below most = omega (arith, few, below, most)
