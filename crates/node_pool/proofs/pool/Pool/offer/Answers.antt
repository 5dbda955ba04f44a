use Rattle.std.proofs.Common.{sym, subst}
use Rattle.node_pool.specs.Inner.Appending.{MayAppend}
use Rattle.node_pool.proofs.Outcomes.{offer_may_append}
use Rattle.node_pool.proofs.pool.Pool.offer.Goals as goal

pub append-requires-clause-entry : goal.append-requires-clause-entry
append-requires-clause-entry c =
    subst (MayAppend c.args.self.now) (sym c.offered.ensures) (offer_may_append c.args.self.now c.library-library.ensures.pool c.args.ticket c.requires.ticket c.args.trace c.requires.offer)
