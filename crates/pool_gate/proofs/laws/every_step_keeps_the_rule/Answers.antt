use Rattle.std.proofs.Common.{refl}
use Rattle.pool_gate.proofs.Steps.{starts, tries, gives_back, splits, joins}
use Rattle.pool_gate.proofs.laws.every_step_keeps_the_rule.Goals as goal

pub returns-clause-opening : goal.returns-clause-opening
returns-clause-opening g c = starts g.V.Held.about g.V.Held.count

pub returns-clause-tries : goal.returns-clause-tries
returns-clause-tries g c = tries g.V.Held.about g.V.Held.count

pub returns-clause-gives : goal.returns-clause-gives
returns-clause-gives g c = λ slots id me value busy has knows near. gives_back g.V.Held.about g.V.Held.count slots id (g.V.Held.count value) me value busy has knows refl near

pub returns-clause-splits : goal.returns-clause-splits
returns-clause-splits g c = splits g.V.Held.about g.V.Held.count

pub returns-clause-joins : goal.returns-clause-joins
returns-clause-joins g c = λ id other v w out knows away. joins g.V.Held.about g.V.Held.count id v other w out knows away
