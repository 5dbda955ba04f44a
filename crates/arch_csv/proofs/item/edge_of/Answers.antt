use Rattle.std.proofs.Common.{◌∙◌}
use Rattle.arch_csv.proofs.Naming.{edge_found, edge_named_is}
use Rattle.arch_csv.proofs.item.edge_of.Goals as goal

pub returns : goal.returns
returns c =
    edge_found c.args.lib.now c.in_ok-tail.tail c.in_ok-head.head c.find_edge.result c.requires c.find_edge.ensures.found c.find_edge.ensures.none
    ∙ edge_named_is c.args.lib.now c.args.tail.now c.args.head.now c.in_ok-tail.tail.0 c.in_ok-head.head.0 c.in_ok-tail.ensures c.in_ok-head.ensures
