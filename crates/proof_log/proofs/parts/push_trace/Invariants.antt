use Rattle.std.proofs.Common.{◌≡◌, ◌++◌, codes, take}
use Rattle.std.specs.List.{flat_map}
use Rattle.std.specs.Fmt.{decimal}
use Rattle.proof_log.specs.Field.{row_text}
use Rattle.proof_log.specs.Value.{row_name}
use Rattle.proof_log.specs.Inner.Writing.{StaysInFront}
use Rattle.proof_log.proofs.parts.push_trace.Given as goal

-- the first row and those so far are written
abbrev pub invariant-loop-row : goal.invariant-loop-row
invariant-loop-row l = record {
  text : l.out.items ≡ l.initial.out.items ++ flat_map (λ y. codes "," ++ row_text decimal (row_name y)) (take l.row-index l.others);
  stays : StaysInFront l.fn.out.items l.out.items;
}
