-- What a worker of a team does in a turn.
use Rattle.std.proofs.Common.{◌≡◌, ℕ, ◌<◌, ◌≤◌, List, [], length, get_or, Some, sym, subst, ◌∙◌, arith}
use Rattle.std.specs.Prelude.{slice_get}
use Rattle.std.proofs.lemmas.Option.{slice_get-get_or}
use Rattle.std.proofs.lemmas.List.Elements.{All-from_recursion}
use Rattle.arch_model.specs.Library.{IsLibrary}
use Rattle.arch_model.specs.Member.{member_count}
use Rattle.rows.specs.Parts.{CutParts, ProblemParts}
use Rattle.rows.specs.Problem.{IsProblem}
use Rattle.rows.specs.Known.{IsCutBelow, known_from}
use Rattle.node_pool.specs.declared.ticket.SearchTicket.{SearchTicket}
use Rattle.node_pool.specs.Parts.{PoolParts}
use Rattle.node_pool.specs.Pool.{IsPool}
use Rattle.node_pool.specs.Tickets.{IsHeldFor, Fits, known_for}
use Rattle.node_pool.proofs.Outcomes.{state_is_kept}
use Rattle.node_pool.proofs.Ready.{ticket_is_known, ticket_is_below}
use Rattle.node_pool.proofs.Sharing.{know_alike, may_branch, may_prune, may_offer}
use Rattle.branch_worker.specs.declared.outcome.Outcome.{Outcome}
use Rattle.branch_worker.specs.declared.outcome.Outcome.TheVariants.{Branch, Prune, Offer}
use Rattle.branch_worker.specs.Outcome.{IsOutcome}
use Rattle.worker_team.specs.Inner.Turns.{AreCutsOf, IsReady}

-- what a worker found out by its own cuts holds of the pool that its ticket fits
pub outcome_fits : (pool : PoolParts) (ticket : SearchTicket) (cuts : List CutParts) (outcome : Outcome) → Fits pool ticket cuts
    → IsOutcome (known_from pool.problem ticket.cuts ticket.bound cuts) ticket.cube outcome → IsOutcome (known_for pool ticket) ticket.cube outcome
outcome_fits pool ticket cuts (Branch trace var) fits may = may_branch pool.problem ticket.cuts ticket.bound cuts pool.state.cuts fits.alike ticket.cube trace var.0 may
outcome_fits pool ticket cuts (Prune trace reason) fits may = may_prune pool.problem ticket.cuts ticket.bound cuts pool.state.cuts fits.alike ticket.cube trace reason may
outcome_fits pool ticket cuts (Offer trace) fits may =
    let alike = know_alike pool.problem ticket.cuts ticket.bound cuts pool.state.cuts fits.alike in (
      may_offer pool.problem ticket.cuts ticket.bound cuts pool.state.cuts fits.alike ticket.cube trace may.0,
      λ after leads. (alike.quiet after).0 (may.1 after (alike.traces ticket.cube trace ∙ leads)),
    )

there : (cuts : List CutParts) (i : ℕ) (cut : CutParts) → slice_get cuts i ≡ Some cut → i < length cuts → get_or cuts i cut ≡ cut
there cuts i cut at short = let e : Some (get_or cuts i cut) ≡ Some cut = sym (slice_get-get_or cuts i cut short) ∙ at in cc

-- a cut of a pool is over its problem's variables
pub cut_is_below : (pool : PoolParts) → IsPool pool → IsLibrary pool.problem.library → IsProblem pool.problem → (cut : CutParts) (i : ℕ) → slice_get pool.state.cuts i ≡ Some cut
    → i < length pool.state.cuts → IsCutBelow (member_count pool.problem.library) cut
cut_is_below pool is right problem cut i at short =
    let kept = state_is_kept pool is right problem in subst (IsCutBelow (member_count pool.problem.library)) (there pool.state.cuts i cut at short) (kept.over.cuts i cut short).1

-- a worker with as many cuts as the pool can search a node that the pool holds
pub ready_with : (pool : PoolParts) → IsPool pool → IsLibrary pool.problem.library → IsProblem pool.problem → (ticket : SearchTicket) → IsHeldFor pool ticket
    → (cuts : List CutParts) → AreCutsOf pool.problem cuts → length pool.state.cuts ≤ length cuts → IsReady pool.problem cuts ticket
ready_with pool is right problem ticket held cuts over all = record {
  known = record { upto = far ticket.cuts (length pool.state.cuts) (length cuts) (ticket_is_known pool right problem is ticket held).upto all; cuts = over };
  below = ticket_is_below pool right problem is ticket held;
} where
  far : (k m n : ℕ) → k ≤ m → m ≤ n → k ≤ n
  far k m n e f = omega (arith, e, f)

-- a worker that has learned no cut
pub none_learned : (problem : ProblemParts) (cuts : List CutParts) → cuts ≡ [] → AreCutsOf problem cuts
none_learned problem cuts none = subst (AreCutsOf problem) (sym none) (All-from_recursion (IsCutBelow (member_count problem.library)) [] tt)
