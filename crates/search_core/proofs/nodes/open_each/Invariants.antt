use Rattle.std.proofs.Common.{◌≡◌}
use Rattle.search_core.proofs.LiveLists.{opened_first}
use Rattle.search_core.proofs.nodes.open_each.Given as goal

-- the nodes so far are open, and the others as they were
abbrev pub invariant-loop-node : goal.invariant-loop-node
invariant-loop-node l = l.live ≡ opened_first l.initial.live l.node-index
