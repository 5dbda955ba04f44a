use Rattle.paths.proofs.SpreadLaws.{left_out}
use Rattle.paths.proofs.standing.outside.Goals as goal

pub returns : goal.returns
returns c d = left_out c.args.comps.now c.args.failed.now c.components_among.result c.minus.result c.args.n d c.requires.few (c.requires.small d) (c.components_among.ensures d) c.minus.ensures
