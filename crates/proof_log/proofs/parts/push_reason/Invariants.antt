use Rattle.std.proofs.Common.{◌≡◌, ◌++◌, codes, take}
use Rattle.std.specs.List.{flat_map}
use Rattle.std.specs.Fmt.{decimal}
use Rattle.proof_log.specs.Field.{pair_text}
use Rattle.proof_log.specs.Value.{named_pair}
use Rattle.proof_log.specs.Inner.Writing.{StaysInFront}
use Rattle.proof_log.proofs.parts.push_reason.Given as goal

-- the first pair and those so far are written
abbrev pub invariant-loop-pair : goal.invariant-loop-pair
invariant-loop-pair l = record {
  text : l.out.items ≡ l.initial.out.items ++ flat_map (λ y. codes "," ++ pair_text decimal (named_pair y)) (take l.pair-index l.others);
  stays : StaysInFront l.fn.out.items l.out.items;
}
