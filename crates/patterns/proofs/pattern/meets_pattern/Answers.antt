use Rattle.patterns.proofs.pattern.meets_pattern.Goals as goal

pub returns-in-InNeedsOut : goal.returns-in-InNeedsOut
returns-in-InNeedsOut c = rw c.in-InNeedsOut.is c.inputs_have_outputs.ensures

pub returns-in-Exclusive : goal.returns-in-Exclusive
returns-in-Exclusive c = rw c.in-Exclusive.is c.inputs_exclude.ensures

pub returns-in-Implies : goal.returns-in-Implies
returns-in-Implies c = rw c.in-Implies.is c.implies.ensures
