use Rattle.analyst.proofs.ChosenSteps.{cone_is}
use Rattle.analyst.proofs.chosen_sets.cone_to.Goals as goal

pub returns : goal.returns
returns c = cone_is c.args.lib.now c.requires.library c.args.arch.now c.args.sink.0 c.requires.in_range c.ancestors.result c.new.result c.new.ensures c.ancestors.ensures
