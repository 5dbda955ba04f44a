use Rattle.std.proofs.Common.{◌≡◌, ◌++◌, map, take}
use Rattle.binary_program.specs.Inner.Terms.{numbers_of}
use Rattle.binary_program.proofs.BuildPatternRows.{some_where}
use Rattle.binary_program.proofs.condition_rows.push_some_where_each.Given as goal

abbrev pub invariant-loop-v : goal.invariant-loop-v
invariant-loop-v l = l.rows.items ≡ l.initial.rows.items ++ map (some_where l.lib (numbers_of l.vars)) (numbers_of (take l.v-index l.each))
