use Rattle.report.specs.Template.{edge_line}
use Rattle.report.proofs.TextLaws.{next_of_range}
use Rattle.report.proofs.template_lines.push_edges.Goals as goal

pub loop-e-preserved : goal.loop-e-preserved
loop-e-preserved c = next_of_range (edge_line c.args.lib.now) c.loop-e.e _ _ _ c.in_ok-push_edge.ensures c.loop-e.invariant
