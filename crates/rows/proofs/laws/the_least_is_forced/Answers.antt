use Rattle.rows.proofs.LeastForced.{least_forced_is, nothing_is_forced}
use Rattle.rows.proofs.TraceLaws.{named_ascends}
use Rattle.rows.proofs.laws.the_least_is_forced.Goals as goal

pub returns-clause-least : goal.returns-clause-least
returns-clause-least c = least_forced_is

pub returns-clause-known : goal.returns-clause-known
returns-clause-known c known r row cube problem there = least_forced_is row cube (named_ascends known r row problem there)

pub returns-clause-none : goal.returns-clause-none
returns-clause-none c = nothing_is_forced
