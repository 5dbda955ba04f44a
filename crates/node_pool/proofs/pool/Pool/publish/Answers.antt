use Rattle.std.proofs.Common.{sym, subst}
use Rattle.node_pool.specs.Inner.Appending.{MayAppend}
use Rattle.node_pool.proofs.Outcomes.{publish_may_append}
use Rattle.node_pool.proofs.pool.Pool.publish.Goals as goal

pub append-requires-clause-entry : goal.append-requires-clause-entry
append-requires-clause-entry c =
    let library = c.library-library.ensures in
    subst (MayAppend c.args.self.now) (sym c.published.ensures)
    (publish_may_append c.args.self.now library.pool c.args.ticket c.requires.ticket library.right library.problem c.args.cut c.requires.cut)
