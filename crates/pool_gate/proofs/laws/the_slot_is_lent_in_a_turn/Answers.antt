use Rattle.pool_gate.proofs.RuleLaws.{turn_has_slot, turns_are_one}
use Rattle.pool_gate.proofs.laws.the_slot_is_lent_in_a_turn.Goals as goal

pub returns-clause-lent : goal.returns-clause-lent
returns-clause-lent g c = turn_has_slot g.V.Held.about g.V.Held.count

pub returns-clause-alone : goal.returns-clause-alone
returns-clause-alone g c = turns_are_one g.V.Held.about g.V.Held.count
