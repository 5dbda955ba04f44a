-- The names of components, as a document's types give them.
use Rattle.std.specs.Prelude.{codes, ℕ, ℤ, pos, negsuc, List, [], map, Option, option_map, unwrap_or}
use Rattle.std.specs.List.{flat_map, range_with_len}
use Rattle.toml.specs.Data.{Data}
use Rattle.template.specs.Names.{instance_name}
use Rattle.lib_read.specs.declared.fault.TableName.TheVariants.{Types}
use Rattle.lib_read.specs.Tree.{text_at, integer_at, rows_of}

-- an integer from 0 on, as a number
abbrev pub number : ℤ → ℕ
number (pos n) = n
number (negsuc n) = 0

-- the number at a key: none where there is none
abbrev pub number_at : List ℕ → Data → Option ℕ
number_at key row = option_map number (integer_at key row)

-- the number at a key, or the one that stands for an absent one
abbrev pub number_or : ℕ → List ℕ → Data → ℕ
number_or absent key row = unwrap_or (number_at key row) absent

-- the names of a type's instances, from 1 to its `max` as it is written
abbrev pub instance_names : Data → List (List ℕ)
instance_names row = map (instance_name (unwrap_or (text_at (codes "name") row) [])) (range_with_len 1 (number_or 1 (codes "max") row))

-- the names of all components, in the order of the template
abbrev pub component_names : Data → List (List ℕ)
component_names top = flat_map instance_names (rows_of Types top)
