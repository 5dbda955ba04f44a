-- What a worker needs of its tickets.
use Rattle.std.proofs.Common.{refl, sym, subst}
use Rattle.arch_model.specs.Library.{IsLibrary}
use Rattle.arch_model.specs.Member.{member_count}
use Rattle.rows.specs.Cube.{IsCubeBelow}
use Rattle.rows.specs.Known.{IsKnown}
use Rattle.rows.specs.Problem.{IsProblem, IsCandidate}
use Rattle.search_core.specs.Node.{Held, Studied}
use Rattle.search_core.proofs.CandidateLaws.{candidate_there}
use Rattle.node_pool.specs.declared.ticket.SearchTicket.{SearchTicket}
use Rattle.node_pool.specs.declared.ticket.StudyTicket.{StudyTicket}
use Rattle.node_pool.specs.Parts.{PoolParts}
use Rattle.node_pool.specs.Pool.{IsPool}
use Rattle.node_pool.specs.Tickets.{IsHeldFor, IsStudiedFor, known_for}
use Rattle.node_pool.proofs.Outcomes.{state_is_kept, state_is_reached}

module _ (pool : PoolParts) (right : IsLibrary pool.problem.library) (problem : IsProblem pool.problem) (is : IsPool pool) where
  pub ticket_is_known : (ticket : SearchTicket) → IsHeldFor pool ticket → IsKnown (known_for pool ticket)
  ticket_is_known ticket held =
      let kept = state_is_kept pool is right problem in record {
        upto = (kept.holds.knowledge_is_old ticket.node (Held ticket.cube ticket.worker ticket.cuts ticket.bound) held).0;
        cuts = λ i d short. (kept.over.cuts i d short).1;
      }

  pub ticket_is_below : (ticket : SearchTicket) → IsHeldFor pool ticket → IsCubeBelow (member_count pool.problem.library) ticket.cube
  ticket_is_below ticket held =
      let kept = state_is_kept pool is right problem in (kept.over.cubes ticket.node (Held ticket.cube ticket.worker ticket.cuts ticket.bound) held).1

  pub ticket_is_candidate : (ticket : StudyTicket) → IsStudiedFor pool ticket → IsCandidate pool.problem.library ticket.candidate
  ticket_is_candidate ticket study =
      subst (IsCandidate pool.problem.library) (sym study.candidate)
      (candidate_there pool.problem right problem pool.state ticket.node (Studied study.cube ticket.worker) study.cube (state_is_reached pool is) study.studied refl)
