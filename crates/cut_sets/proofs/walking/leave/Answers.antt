use Rattle.std.proofs.Common.{subst}
use Rattle.cut_sets.specs.Inner.Upcoming.{WentBack}
use Rattle.cut_sets.proofs.Steps.{left_place, left_turn, ended_place, ended_turn}
use Rattle.cut_sets.proofs.walking.leave.Goals as goal

pub returns-then-back-clause-place : goal.returns-then-back-clause-place
returns-then-back-clause-place c = left_place c.args.net.now c.args.place.now c.back.new.self (subst (WentBack c.args.place.now c.back.new.self) c.if-back.true c.back.ensures) c.requires.place

pub returns-then-back-clause-turn : goal.returns-then-back-clause-turn
returns-then-back-clause-turn c = left_turn c.args.net.now c.args.place.now c.back.new.self (subst (WentBack c.args.place.now c.back.new.self) c.if-back.true c.back.ensures) c.requires.none

pub returns-else-back-clause-place : goal.returns-else-back-clause-place
returns-else-back-clause-place c = ended_place c.args.net.now c.args.place.now c.back.new.self c.skip_to.new.self (subst (WentBack c.args.place.now c.back.new.self) c.if-back.false c.back.ensures) c.skip_to.ensures

pub returns-else-back-clause-turn : goal.returns-else-back-clause-turn
returns-else-back-clause-turn c = ended_turn c.args.net.now c.args.place.now c.back.new.self c.skip_to.new.self (subst (WentBack c.args.place.now c.back.new.self) c.if-back.false c.back.ensures) c.skip_to.ensures c.requires.none
