use Rattle.std.proofs.Common.{sym, subst}
use Rattle.search_core.specs.Node.{Open}
use Rattle.node_pool.specs.Inner.Appending.{MayAppend}
use Rattle.node_pool.proofs.Handing.{take_may_append, hands_node, open_at}
use Rattle.node_pool.proofs.pool.Pool.hand_node.Goals as goal

pub append-requires-clause-entry : goal.append-requires-clause-entry
append-requires-clause-entry c =
    let h = c.requires.last in
    let there = open_at c.args.self.now.state c.args.node h.node h.live h.passes in
    subst (MayAppend c.args.self.now) (sym c.taken-entry.ensures)
    (take_may_append c.args.self.now c.library-library.ensures.pool c.args.worker c.args.node _ _ c.requires.worker there c.cut_count.ensures.cuts c.best_cost.ensures h.last c.requires.analyst)

pub returns : goal.returns
returns c =
    let h = c.requires.last in
    let there = open_at c.args.self.now.state c.args.node h.node h.live h.passes in
    hands_node c.args.self.now c.append.new.self c.args.worker c.args.node _ _ _ h.last c.requires.analyst _ c.taken-entry.ensures c.append.ensures there (c.cube.ensures (Open there.0) there.1)
