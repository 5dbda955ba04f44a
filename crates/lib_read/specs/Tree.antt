-- The tree of a library file: a TOML document as the crate `toml` reads it.
use Rattle.std.specs.Prelude.{ℕ, ℤ, codes, List, [], ◌∷◌, Option, None, option_map, option_and_then, if◌then◌else◌}
use Rattle.std.specs.Option.{option_map_or}
use Rattle.std.specs.Str.{is_utf8}
use Rattle.toml.specs.Data.{Data, array, table, Items, no_items, item, Members, no_members, member, get, as_str, as_integer}
use Rattle.toml.specs.Parse.{parse_document}
use Rattle.lib_read.specs.declared.fault.TableName.{TableName}
use Rattle.lib_read.specs.declared.fault.TableName.TheVariants.{Library, Types, Links, Patterns, Requires}

-- the document that bytes are, as a table: none where they aren't UTF-8 or no TOML
unfoldable pub tree_of : List ℕ → Option Data
tree_of bytes = if is_utf8 bytes then option_map table (parse_document bytes) else None

-- the text at a key of a row: none where the value is of another kind
abbrev pub text_at : List ℕ → Data → Option (List ℕ)
text_at key row = option_and_then as_str (get key row)

-- the integer at a key of a row: none where the value is of another kind
abbrev pub integer_at : List ℕ → Data → Option ℤ
integer_at key row = option_and_then as_integer (get key row)

-- the keys of members, in byte order
abbrev pub keys_of : Members → List (List ℕ)
keys_of no_members = []
keys_of (member k d ms) = k ∷ keys_of ms

-- the keys of a row, in byte order: none where it isn't a table
abbrev pub keys_in : Data → List (List ℕ)
keys_in (table ms) = keys_of ms
keys_in _ = []

-- the items of an array as a list
abbrev pub items_list : Items → List Data
items_list no_items = []
items_list (item d ds) = d ∷ items_list ds

-- the elements of an array: none where it isn't one
abbrev pub elements : Data → List Data
elements (array ds) = items_list ds
elements _ = []

-- the key of the document under which a table's rows stand
abbrev pub table_key : TableName → List ℕ
table_key Library = []
table_key Types = codes "type"
table_key Links = codes "link"
table_key Patterns = codes "pattern"
table_key Requires = codes "require"

-- the rows of a table, in file order
abbrev pub rows_of : TableName → Data → List Data
rows_of t top = option_map_or elements (get (table_key t) top) []
