use Rattle.std.proofs.Common.{◌≡◌, ◌++◌, take}
use Rattle.std.specs.List.{flat_map}
use Rattle.binary_program.specs.Inner.Terms.{numbers_of}
use Rattle.binary_program.specs.Inner.Asked.{asked_rows}
use Rattle.binary_program.proofs.asked.push_asked_rows.Given as goal

abbrev pub invariant-loop-i : goal.invariant-loop-i
invariant-loop-i l = l.rows.items ≡ l.initial.rows.items ++ flat_map (asked_rows l.lib l.asked) (numbers_of (take l.i-index l.i-items))
