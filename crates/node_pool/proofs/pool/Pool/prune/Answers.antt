use Rattle.std.proofs.Common.{sym, subst}
use Rattle.node_pool.specs.Inner.Appending.{MayAppend}
use Rattle.node_pool.proofs.Outcomes.{prune_may_append}
use Rattle.node_pool.proofs.pool.Pool.prune.Goals as goal

pub append-requires-clause-entry : goal.append-requires-clause-entry
append-requires-clause-entry c =
    subst (MayAppend c.args.self.now) (sym c.pruned.ensures)
    (prune_may_append c.args.self.now c.library-library.ensures.pool c.args.ticket c.requires.ticket c.args.trace c.args.reason c.requires.prune c.pairs-pairs.ensures.reason)
