-- Items by name. A name is a list of bytes.
use Rattle.std.specs.Prelude.{ℕ, cond, List, [], ◌∷◌, Option, Some, None}
use Rattle.std.specs.Str.{bytes_eq}

-- the item under a name: the first of that name
abbrev pub item_of : {X : Type 0} → List ℕ → List (List ℕ × X) → Option X
item_of name [] = None
item_of name (row ∷ rows) = cond (bytes_eq row.0 name) (Some row.1) (item_of name rows)

-- the items after a change of the one under a name; without one of that name they stay
abbrev pub changed_at : {X : Type 0} → List ℕ → (X → X) → List (List ℕ × X) → List (List ℕ × X)
changed_at name change [] = []
changed_at name change (row ∷ rows) = cond (bytes_eq row.0 name) ((row.0, change row.1) ∷ rows) (row ∷ changed_at name change rows)
