use Rattle.std.proofs.Common.{◌∙◌}
use Rattle.search_core.proofs.LiveLists.{opened_begins, opened_goes_on, opened_ends}
use Rattle.search_core.proofs.nodes.open_each.Goals as goal

pub loop-node-init : goal.loop-node-init
loop-node-init c = opened_begins c.args.live.now

pub loop-node-preserved : goal.loop-node-preserved
loop-node-preserved c = opened_goes_on c.args.live.now c.loop-node.live c.loop-node.node-index c.node-item.result c.cube.result c.loop-node-test.true c.loop-node.invariant c.cube.ensures

pub returns : goal.returns
returns c = c.loop-node.invariant ∙ opened_ends c.args.live.now c.loop-node.node-index c.loop-node-test.false
