-- Worked rows: what the rows of a small table say.
use Rattle.std.proofs.Common.{◌≡◌, true, false, List, [], ◌∷◌, refl}
use Rattle.arch_model.specs.Set.{Set, has, empty}
use Rattle.paths.specs.Links.{is_next}

-- from component 0 edges lead to 1 and 2, from 1 to 2, and from 2 to none
abbrev rows : List Set
rows = record { mask = 6 } ∷ record { mask = 4 } ∷ record { mask = 0 } ∷ []

from_first : is_next rows 0 1 ≡ true
unfolding has empty
from_first = refl

not_back : is_next rows 1 0 ≡ false
unfolding has empty
not_back = refl

-- no component has the number 3, so it has no row
past_all : is_next rows 3 0 ≡ false
unfolding has empty
past_all = refl
