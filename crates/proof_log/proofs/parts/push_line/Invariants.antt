use Rattle.std.proofs.Common.{◌≡◌, ◌++◌, codes, take}
use Rattle.std.specs.List.{flat_map}
use Rattle.proof_log.specs.Inner.Writing.{part_text, StaysInFront}
use Rattle.proof_log.proofs.parts.push_line.Given as goal

-- the word and the parts so far are written
abbrev pub invariant-loop-part : goal.invariant-loop-part
invariant-loop-part l = record {
  text : l.out.items ≡ l.initial.out.items ++ flat_map (λ p. codes " " ++ part_text p) (take l.part-index l.parts);
  stays : StaysInFront l.fn.out.items l.out.items;
}
