use Rattle.arch_csv.proofs.TextLaws.{sections}
use Rattle.arch_csv.proofs.writer.push_architecture.Goals as goal

pub returns : goal.returns
returns c = sections c.args.lib.now c.args.arch.now c.comps.result c.edges.result _ _ _ _ c.in_ok-push_str.ensures.bytes c.comps.ensures c.edges.ensures c.in_ok-push_components.ensures c.in_ok-push_edges.ensures
