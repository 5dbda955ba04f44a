use Rattle.rows.specs.Known.{variables}
use Rattle.rows.proofs.TraceLaws.{trace_below, trace_counts, rows_below}
use Rattle.rows.proofs.laws.traces_fix_one_a_step.Goals as goal

pub returns-clause-below : goal.returns-clause-below
returns-clause-below c known cube next trace problem is e below = trace_below known (variables known) (rows_below known problem is) trace cube next e below

pub returns-clause-count : goal.returns-clause-count
returns-clause-count c known n cube next trace below e = trace_counts known n trace cube next below e
