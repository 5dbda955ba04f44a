use Rattle.analyst.proofs.ChosenSteps.{set_more, set_none, no_member}
use Rattle.analyst.proofs.chosen_sets.set_of.Goals as goal

pub loop-v-init : goal.loop-v-init
loop-v-init c = set_none c.args.members.now c.new-set.result c.new-set.ensures

pub loop-v-preserved : goal.loop-v-preserved
loop-v-preserved c = set_more c.args.members.now c.loop-v.v-index no_member c.loop-v.set c.put.new.self c.loop-v-test.true c.loop-v.invariant c.put.ensures
