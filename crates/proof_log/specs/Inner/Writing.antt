-- The parts of a line that is written, and what a write leaves.
use Rattle.std.specs.Prelude.{◌≡◌, ℕ, List, ◌++◌, map, codes}
use Rattle.std.specs.List.{flat_map}
use Rattle.std.specs.Fmt.{decimal}
use Rattle.arch_model.specs.Set.{members_below}
use Rattle.arch_model.specs.declared.limits.TheConstants.{COMPONENTS, MEMBERS}
use Rattle.proof_log.specs.declared.parts.Part as parts
use Rattle.proof_log.specs.declared.parts.Part.TheVariants.{Word, Number, Optional, Trace, Reason, Members, Components}
use Rattle.proof_log.specs.Field.{row_text, pair_text, list_text, optional_text}
use Rattle.proof_log.specs.Value.{row_name, named_pair}

-- what is written for a part
abbrev pub part_text : parts.Part → List ℕ
part_text (Word w) = w.now
part_text (Number n) = decimal n
part_text (Optional o) = optional_text decimal o
part_text (Trace steps) = list_text (row_text decimal) (map row_name steps.now)
part_text (Reason pairs) = list_text (pair_text decimal) (map named_pair pairs.now)
part_text (Members set) = list_text decimal (members_below set.now MEMBERS)
part_text (Components set) = list_text decimal (members_below set.now COMPONENTS)

-- what is written for parts behind a line's first word
abbrev pub parts_text : List parts.Part → List ℕ
parts_text ps = flat_map (λ p. codes " " ++ part_text p) ps

-- what was written before still stands in front
pub record StaysInFront (old new : List ℕ) : Type 0 where
  pub more : List ℕ
  pub parts : new ≡ old ++ more
