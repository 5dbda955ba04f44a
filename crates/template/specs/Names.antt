-- The names of components.
use Rattle.std.specs.Prelude.{ℕ, List, [], ◌++◌, codes, slice_get}
use Rattle.std.specs.Option.{option_map_or}
use Rattle.std.specs.Fmt.{decimal}
use Rattle.arch_model.specs.Parts.{LibraryParts}

-- the name of an instance: its type's name, a dot and its index in decimal
abbrev pub instance_name : List ℕ → ℕ → List ℕ
instance_name name index = name ++ codes "." ++ decimal index

-- the name of type number t
abbrev pub type_name : LibraryParts → ℕ → List ℕ
type_name lib t = option_map_or (λ row. row.name) (slice_get lib.types t) []

-- the name of component c
abbrev pub component_name : LibraryParts → ℕ → List ℕ
component_name lib c = option_map_or (λ row. instance_name (type_name lib row.of) row.index) (slice_get lib.components c) []
