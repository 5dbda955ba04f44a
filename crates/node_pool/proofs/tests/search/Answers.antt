use Rattle.node_pool.specs.Tickets.{known_for}
use Rattle.node_pool.proofs.Closings.{full_may_offer}
use Rattle.node_pool.proofs.tests.search.Goals as goal

pub offer-requires-clause-offer : goal.offer-requires-clause-offer
offer-requires-clause-offer g c = full_may_offer (known_for c.reserve.new.self c.args.ticket) c.args.ticket.cube c.in-Full.cube c.in-Full.trace c.in_ok-cube.field-0 c.in_ok-cube.ensures c.in-Full.is
