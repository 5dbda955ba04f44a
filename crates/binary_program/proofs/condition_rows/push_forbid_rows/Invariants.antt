use Rattle.std.proofs.Common.{◌≡◌, ◌++◌, map, take}
use Rattle.binary_program.specs.Inner.Terms.{numbers_of}
use Rattle.binary_program.proofs.BuildPatternRows.{absent}
use Rattle.binary_program.proofs.condition_rows.push_forbid_rows.Given as goal

abbrev pub invariant-loop-e : goal.invariant-loop-e
invariant-loop-e l = l.rows.items ≡ l.initial.rows.items ++ map (absent l.lib) (numbers_of (take l.e-index l.e-items))
