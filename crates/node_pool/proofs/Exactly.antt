-- When Nothing and Done are handed out: exactly where the work that is left says so.
use Rattle.std.proofs.Common.{◌≡◌, ◌↔◌, ℕ, Bool, true, false, Some, refl, sym, ◌∙◌}
use Rattle.std.specs.FinMap.{get}
use Rattle.rows.specs.Parts.{CubeParts}
use Rattle.search_core.specs.Node.{Open, Pending}
use Rattle.search_core.specs.Step.{Takes, Studies}
use Rattle.search_core.specs.History.{IsAtRest}
use Rattle.search_core.proofs.Runs.{parked_at}
use Rattle.node_pool.specs.declared.ticket.SearchTicket.{SearchTicket}
use Rattle.node_pool.specs.declared.ticket.StudyTicket.{StudyTicket}
use Rattle.node_pool.specs.declared.ticket.Work.{Work}
use Rattle.node_pool.specs.declared.ticket.Work.TheVariants.{Node as ANode, Candidate as ACandidate, Nothing, Done}
use Rattle.node_pool.specs.Parts.{PoolParts}
use Rattle.node_pool.proofs.InHand.{no_rest_in_hand}
use Rattle.node_pool.specs.Taking.{HandsNode, HandsCandidate, HandsOut, IsWaiting}

-- a live node that isn't parked is work, so the state isn't at rest, and one that is open or pending leaves nobody waiting
never : {P : Type 0} (b : Bool) → b ≡ false → b ≡ true → P
never b e f = absurd (let g : false ≡ true = sym e ∙ f in cc)

module _ (old new : PoolParts) (worker : ℕ) where
  node_opened : (ticket : SearchTicket) → HandsNode old worker ticket new → (cube : CubeParts) × (get old.state.nodes ticket.node ≡ Some (Open cube))
  node_opened ticket h = let s : Takes old.state worker ticket.node ticket.cuts ticket.bound new.state = h.appends.step.fits in (s.cube, s.opened)

  candidate_pended : (ticket : StudyTicket) → HandsCandidate old worker ticket new → (cube : CubeParts) × (get old.state.nodes ticket.node ≡ Some (Pending cube))
  candidate_pended ticket h = let s : Studies old.state worker ticket.node new.state = h.appends.step.fits in (s.cube, s.pending)

  pub done_exactly : (work : Work) → HandsOut old worker work new → (work ≡ Done) ↔ IsAtRest old.state
  done_exactly (ANode ticket) h =
      let there = node_opened ticket h in (λ e. absurd (differ e), λ rest. never false refl (parked_at old.state rest ticket.node (Open there.0) there.1)) where
        differ : ANode ticket ≡ Done → ⊥
        differ e = cc
  done_exactly (ACandidate ticket) h =
      let there = candidate_pended ticket h in (λ e. absurd (differ e), λ rest. never false refl (parked_at old.state rest ticket.node (Pending there.0) there.1)) where
        differ : ACandidate ticket ≡ Done → ⊥
        differ e = cc
  done_exactly Nothing h = (λ e. absurd (differ e), λ rest. absurd (no_rest_in_hand old.state h.1.something rest)) where
    differ : Nothing ≡ Done → ⊥
    differ e = cc
  done_exactly Done h = (λ e. h.1, λ rest. refl)

  pub nothing_exactly : (work : Work) → HandsOut old worker work new → (work ≡ Nothing) ↔ IsWaiting old.state
  nothing_exactly (ANode ticket) h =
      let there = node_opened ticket h in (λ e. absurd (differ e), λ waits. never true (waits.nothing_open ticket.node (Open there.0) there.1) refl) where
        differ : ANode ticket ≡ Nothing → ⊥
        differ e = cc
  nothing_exactly (ACandidate ticket) h =
      let there = candidate_pended ticket h in (λ e. absurd (differ e), λ waits. never true (waits.nothing_pending ticket.node (Pending there.0) there.1) refl) where
        differ : ACandidate ticket ≡ Nothing → ⊥
        differ e = cc
  nothing_exactly Nothing h = (λ e. h.1, λ waits. refl)
  nothing_exactly Done h = (λ e. absurd (differ e), λ waits. absurd (no_rest_in_hand old.state waits.something h.1)) where
    differ : Done ≡ Nothing → ⊥
    differ e = cc
