use Rattle.std.proofs.Common.{◌≡◌, true, false, refl}
use Rattle.node_pool.proofs.InHand.{idle_where, busy_where}
use Rattle.node_pool.proofs.pool.Pool.held.Goals as goal

pub returns-in_default-clause-none : goal.returns-in_default-clause-none
returns-in_default-clause-none c = ((λ e. idle_where c.args.self.now c.args.worker c.in_default.ensures.none), λ idle. refl)

pub returns-in-Some-search_ticket-clause-none : goal.returns-in-Some-search_ticket-clause-none
returns-in-Some-search_ticket-clause-none c = (
  λ e. absurd (let f : true ≡ false = e in cc),
  λ idle. absurd (busy_where c.args.self.now c.args.worker c.in-Some.node c.in-Some.ensures.some idle),
)
