use Rattle.binary_program.proofs.building.push_pattern_rows.Goals as goal

pub returns-in-InDegree : goal.returns-in-InDegree
returns-in-InDegree c = rw c.in-InDegree.is c.push_asked_rows.ensures

pub returns-in-OutDegree : goal.returns-in-OutDegree
returns-in-OutDegree c = rw c.in-OutDegree.is c.push_asked_rows-in-OutDegree.ensures
