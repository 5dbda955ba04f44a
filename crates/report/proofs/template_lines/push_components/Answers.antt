use Rattle.report.specs.Template.{component_line}
use Rattle.report.proofs.TextLaws.{next_of_range}
use Rattle.report.proofs.template_lines.push_components.Goals as goal

pub loop-c-preserved : goal.loop-c-preserved
loop-c-preserved c = next_of_range (component_line c.args.lib.now) c.loop-c.c _ _ _ c.in_ok-push_component.ensures c.loop-c.invariant
