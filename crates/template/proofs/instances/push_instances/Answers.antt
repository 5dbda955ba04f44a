use Rattle.template.proofs.Steps.{instances_of_type_more}
use Rattle.template.proofs.instances.push_instances.Goals as goal

pub loop-i-preserved : goal.loop-i-preserved
loop-i-preserved c = instances_of_type_more c.args.t c.loop-i.i c.args.row.now c.args.components.now.items c.push.new.self.items c.loop-i.components.items c.loop-i.invariant c.in_ok-push.ensures.items
