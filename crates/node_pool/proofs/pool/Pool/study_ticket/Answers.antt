use Rattle.std.proofs.Common.{refl, subst}
use Rattle.node_pool.specs.Parts.{PoolParts}
use Rattle.node_pool.specs.Tickets.{IsStudiedFor}
use Rattle.node_pool.proofs.Studying.{studied_for}
use Rattle.node_pool.proofs.pool.Pool.study_ticket.Goals as goal

pub returns-in-Some-clause-some : goal.returns-in-Some-clause-some
returns-in-Some-clause-some c =
    let at = c.self.inside in
    let P : PoolParts → Type 0 = λ p. IsStudiedFor p (record { worker = c.args.worker; node = c.args.node; candidate = c.in-Some.candidate }) in (
      refl,
      refl,
      subst P c.self.view_is (studied_for at.problem at.base at.state at.history at.workers at.analysts c.args.worker c.args.node at.short c.in-Some.candidate c.self.invariant.0 c.in-Some.ensures.some),
    )
