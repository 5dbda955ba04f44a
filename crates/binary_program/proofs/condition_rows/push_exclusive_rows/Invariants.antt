use Rattle.std.proofs.Common.{◌≡◌, ◌++◌, map, take}
use Rattle.binary_program.specs.Inner.Terms.{numbers_of}
use Rattle.binary_program.proofs.BuildPatternRows.{none_where}
use Rattle.binary_program.proofs.condition_rows.push_exclusive_rows.Given as goal

abbrev pub invariant-loop-v : goal.invariant-loop-v
invariant-loop-v l = l.rows.items ≡ l.initial.rows.items ++ map (none_where l.lib (numbers_of l.from_b.items)) (numbers_of (take l.v-index l.v-items))
