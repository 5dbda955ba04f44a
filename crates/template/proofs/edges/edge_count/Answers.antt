use Rattle.template.proofs.Numbers.{length-link_same, length-link_other}
use Rattle.template.proofs.edges.edge_count.Goals as goal

pub returns-then-link : goal.returns-then-link
returns-then-link c = length-link_same c.args.types.now c.args.link.now _ _ c.requires.numbers c.if-link.true

pub returns-else-link : goal.returns-else-link
returns-else-link c = length-link_other c.args.types.now c.args.link.now _ _ c.requires.numbers c.if-link.false
