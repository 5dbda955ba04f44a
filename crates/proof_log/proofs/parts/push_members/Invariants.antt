use Rattle.std.proofs.Common.{◌≡◌, ◌++◌, codes}
use Rattle.std.specs.List.{flat_map}
use Rattle.std.specs.Fmt.{decimal}
use Rattle.proof_log.specs.Inner.Writing.{StaysInFront}
use Rattle.proof_log.proofs.parts.push_members.Given as goal

-- the text so far and the numbers of the rest are the text with all numbers
abbrev pub invariant-loop-member : goal.invariant-loop-member
invariant-loop-member l = record {
  text : l.out.items ++ flat_map (λ n. codes "," ++ decimal n) l.member-iterator ≡ l.initial.out.items ++ flat_map (λ n. codes "," ++ decimal n) l.initial.member-iterator;
  stays : StaysInFront l.fn.out.items l.out.items;
}
