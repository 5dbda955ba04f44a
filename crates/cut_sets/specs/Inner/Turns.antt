-- One step of an enumeration.
use Rattle.std.specs.Prelude.{◌≡◌, ◌<◌, [], ◌∷◌, map}
use Rattle.cut_sets.specs.declared.walking.Turn.{Turn}
use Rattle.cut_sets.specs.declared.walking.Turn.TheVariants.{Given, Passed, Ended}
use Rattle.cut_sets.specs.Inner.Upcoming.{NetworkParts, PlaceParts, sets_from, steps_from}

-- what a step makes of the sets still to come: it gives the first of them, or passes on to a place with the same sets and fewer steps left, or there are none
abbrev pub IsTurn : NetworkParts → PlaceParts → PlaceParts → Turn → Type 0
IsTurn net before after (Given members) = sets_from net before ≡ map (λ v. v.0) members.items ∷ sets_from net after
IsTurn net before after Passed = (sets_from net before ≡ sets_from net after) × (steps_from net after < steps_from net before)
IsTurn net before after Ended = (sets_from net before ≡ []) × (sets_from net after ≡ [])
