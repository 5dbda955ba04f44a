-- A shelf whose calls never fail.
use Rattle.std.specs.Prelude.{ℕ, Bool, List, [], ◌∷◌, ◌++◌, Option, None, Some, is_some}
use Rattle.std.specs.Option.{option_flatten}
use Rattle.outside.specs.Named.{item_of, changed_at}

-- the files by name that were put: their bytes, or nothing once they were made fresh or appended to
abbrev pub SureFiles : Type 0
SureFiles = List (List ℕ × Option (List ℕ))

-- whether a name was put
abbrev pub was_put : SureFiles → List ℕ → Bool
was_put files name = is_some (item_of name files)

-- the bytes under a name, where it was put and neither made fresh nor appended to since
abbrev pub sure_told : SureFiles → List ℕ → Option (List ℕ)
sure_told files name = option_flatten (item_of name files)

-- once a file was put
abbrev pub sure_put : SureFiles → List ℕ → List ℕ → SureFiles
sure_put files name bytes = files ++ (name, Some bytes) ∷ []

-- once a name was made fresh or appended to: its bytes are told no longer
abbrev pub written_to : SureFiles → List ℕ → SureFiles
written_to files name = changed_at name (λ _. None) files
