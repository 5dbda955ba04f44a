use Rattle.std.proofs.Common.{ap, length}
use Rattle.paths.proofs.FailedEdges.{fallen_is}
use Rattle.paths.proofs.adjacency.failed_edges.Goals as goal

pub returns-clause-edges : goal.returns-clause-edges
returns-clause-edges c = fallen_is c.args.lib.now c.args.arch.now c.components.ensures.library c.requires c.args.failed.now c.edges_among.result c.intersection.result c.edges.result _ (ap length c.components.ensures.rows) c.edges.ensures c.intersection.ensures c.edges_among.ensures
