-- The keys of each table, with what is expected of their values.
use Rattle.std.specs.Prelude.{codes, ℕ, Bool, true, false, ◌&&◌, not, nat_le, List, [], ◌∷◌, length, Option, Some, None, is_some, is_none, option_and_then, if◌then◌else◌, pos, negsuc, ℤ}
use Rattle.std.specs.Option.{option_map_or}
use Rattle.std.specs.List.{list_any, list_all, find}
use Rattle.std.specs.Str.{bytes_eq}
use Rattle.toml.specs.Data.{Data, get, as_str, as_integer, as_array}
use Rattle.arch_model.specs.Name.{begins_lower, is_name_byte}
use Rattle.arch_model.specs.declared.template.Role.{Role}
use Rattle.arch_model.specs.declared.template.Role.TheVariants.{Source, Middle, Sink}
use Rattle.lib_read.specs.declared.fault.LibClass.{LibClass}
use Rattle.lib_read.specs.declared.fault.LibClass.TheVariants.{MissingKey, WrongKind, BadName, UnknownName, Range}
use Rattle.lib_read.specs.declared.fault.TableName.{TableName}
use Rattle.lib_read.specs.declared.fault.TableName.TheVariants.{Library, Types, Links, Patterns, Requires}
use Rattle.lib_read.specs.declared.schema.Meaning.{Meaning}
use Rattle.lib_read.specs.declared.schema.Meaning.TheVariants.{Rows, NewName, RoleWord, KindWord, TypeName, OtherName, ComponentName, SinkName, Number, Text, Integer}
use Rattle.lib_read.specs.declared.schema.Kind.{Kind}
use Rattle.lib_read.specs.declared.schema.Kind.TheVariants.{Count, InDegree, OutDegree, InNeedsOut, Exclusive, Implies, Forbid, TotalSupply, LocalSupply, CostCap}
use Rattle.lib_read.specs.Tree.{text_at, integer_at, rows_of}
use Rattle.lib_read.specs.Components.{instance_names, component_names}

-- a key of a table: whether it is required, and what its value means
pub record KeyRow : Type 0 where
  pub name : List ℕ
  pub required : Bool
  pub meaning : Meaning

-- a key that is required
abbrev pub needs : List ℕ → Meaning → KeyRow
needs name meaning = record { name = name; required = true; meaning = meaning }

-- a key that may be absent
abbrev pub takes : List ℕ → Meaning → KeyRow
takes name meaning = record { name = name; required = false; meaning = meaning }

-- the keys of the document, in byte order
abbrev pub library_keys : List KeyRow
library_keys =
    takes (codes "link") Rows
    ∷ (takes (codes "pattern") Rows
    ∷ (takes (codes "require") Rows
    ∷ (takes (codes "type") Rows ∷ [])))

-- the keys of a type
abbrev pub type_keys : List KeyRow
type_keys =
    takes (codes "cost") (Number 0 1000000000000)
    ∷ (takes (codes "demand") (Number 0 1000000000000)
    ∷ (takes (codes "fail") (Number 0 1000000)
    ∷ (takes (codes "max") (Number 1 64)
    ∷ (needs (codes "name") NewName
    ∷ (needs (codes "role") RoleWord
    ∷ (takes (codes "supply") (Number 0 1000000000000) ∷ []))))))

-- the keys of a link
abbrev pub link_keys : List KeyRow
link_keys = takes (codes "cost") (Number 0 1000000000000) ∷ (needs (codes "from") TypeName ∷ (needs (codes "to") TypeName ∷ []))

-- the keys of a pattern of each kind, in byte order
abbrev pub kind_keys : Kind → List KeyRow
kind_keys Count =
    needs (codes "kind") KindWord
    ∷ (takes (codes "max") (Number 0 512)
    ∷ (takes (codes "min") (Number 0 512)
    ∷ (needs (codes "type") TypeName ∷ [])))
kind_keys InDegree =
    needs (codes "from") TypeName
    ∷ (needs (codes "kind") KindWord
    ∷ (takes (codes "max") (Number 0 512)
    ∷ (takes (codes "min") (Number 0 512)
    ∷ (needs (codes "type") TypeName ∷ []))))
kind_keys OutDegree =
    needs (codes "kind") KindWord
    ∷ (takes (codes "max") (Number 0 512)
    ∷ (takes (codes "min") (Number 0 512)
    ∷ (needs (codes "to") TypeName
    ∷ (needs (codes "type") TypeName ∷ []))))
kind_keys InNeedsOut =
    needs (codes "from") TypeName
    ∷ (needs (codes "kind") KindWord
    ∷ (needs (codes "to") TypeName
    ∷ (needs (codes "type") TypeName ∷ [])))
kind_keys Exclusive =
    needs (codes "a") TypeName
    ∷ (needs (codes "b") OtherName
    ∷ (needs (codes "kind") KindWord
    ∷ (needs (codes "type") TypeName ∷ [])))
kind_keys Implies = needs (codes "a") TypeName ∷ (needs (codes "b") TypeName ∷ (needs (codes "kind") KindWord ∷ []))
kind_keys Forbid =
    needs (codes "from") ComponentName ∷ (needs (codes "kind") KindWord ∷ (needs (codes "to") ComponentName ∷ []))
kind_keys TotalSupply = needs (codes "kind") KindWord ∷ []
kind_keys LocalSupply = needs (codes "kind") KindWord ∷ (needs (codes "type") TypeName ∷ [])
kind_keys CostCap = needs (codes "kind") KindWord ∷ (needs (codes "max") (Number 0 1000000000000000) ∷ [])

-- the keys of a pattern whose kind isn't one of the texts: those of any kind, of which only `kind` is required
abbrev pub any_keys : List KeyRow
any_keys =
    takes (codes "a") Text
    ∷ (takes (codes "b") Text
    ∷ (takes (codes "from") Text
    ∷ (needs (codes "kind") KindWord
    ∷ (takes (codes "max") Integer
    ∷ (takes (codes "min") Integer
    ∷ (takes (codes "to") Text
    ∷ (takes (codes "type") Text ∷ [])))))))

-- the keys of a requirement
abbrev pub require_keys : List KeyRow
require_keys = needs (codes "bound") (Number 0 1000000000000000000) ∷ (needs (codes "sink") SinkName ∷ [])

-- the role that a text names
abbrev pub role_of : List ℕ → Option Role
role_of text =
    if bytes_eq text (codes "source") then Some Source
    else if bytes_eq text (codes "middle") then Some Middle
    else if bytes_eq text (codes "sink") then Some Sink
    else None

-- the kind of a pattern that a text names
abbrev pub kind_of : List ℕ → Option Kind
kind_of text =
    if bytes_eq text (codes "count") then Some Count
    else if bytes_eq text (codes "indegree") then Some InDegree
    else if bytes_eq text (codes "outdegree") then Some OutDegree
    else if bytes_eq text (codes "in_needs_out") then Some InNeedsOut
    else if bytes_eq text (codes "exclusive") then Some Exclusive
    else if bytes_eq text (codes "implies") then Some Implies
    else if bytes_eq text (codes "forbid") then Some Forbid
    else if bytes_eq text (codes "total_supply") then Some TotalSupply
    else if bytes_eq text (codes "local_supply") then Some LocalSupply
    else if bytes_eq text (codes "cost_cap") then Some CostCap
    else None

-- the kind of a pattern's row
abbrev pub row_kind : Data → Option Kind
row_kind row = option_and_then kind_of (text_at (codes "kind") row)

-- the keys of a row of a table
abbrev pub table_keys : TableName → Data → List KeyRow
table_keys Library row = library_keys
table_keys Types row = type_keys
table_keys Links row = link_keys
table_keys Patterns row = option_map_or kind_keys (row_kind row) any_keys
table_keys Requires row = require_keys

-- whether a value is of the kind that is stated for its key: an array, an integer or a text
abbrev pub fits_meaning : Meaning → Data → Bool
fits_meaning Rows value = is_some (as_array value)
fits_meaning (Number low high) value = is_some (as_integer value)
fits_meaning Integer value = is_some (as_integer value)
fits_meaning _ value = is_some (as_str value)

-- a lower-case letter, then up to 23 lower-case letters, digits or _
abbrev pub is_type_name : List ℕ → Bool
is_type_name text = begins_lower text && (list_all is_name_byte text && nat_le (length text) 24)

-- from low to high
abbrev pub is_between : ℕ → ℕ → ℤ → Bool
is_between low high (pos n) = nat_le low n && nat_le n high
is_between low high (negsuc n) = false

-- whether the value at a key is a text that fails a test
abbrev pub text_fails : (List ℕ → Bool) → List ℕ → Data → Bool
text_fails test key row = option_map_or (λ text. not (test text)) (text_at key row) false

-- whether the value at a key is an integer that fails a test
abbrev pub integer_fails : (ℤ → Bool) → List ℕ → Data → Bool
integer_fails test key row = option_map_or (λ z. not (test z)) (integer_at key row) false

-- whether a name is one of some names
abbrev pub is_named : List (List ℕ) → List ℕ → Bool
is_named names text = list_any (bytes_eq text) names

-- the row of the type whose component has a name: the first such type
abbrev pub type_of_component : Data → List ℕ → Option Data
type_of_component top text = find (λ row. is_named (instance_names row) text) (rows_of Types top)

-- whether a type's role is sink
abbrev pub is_sink_type : Data → Bool
is_sink_type row = option_map_or (bytes_eq (codes "sink")) (text_at (codes "role") row) false

-- whether a name is that of a component of role sink
abbrev pub is_sink : Data → List ℕ → Bool
is_sink top text = option_map_or is_sink_type (type_of_component top text) false

-- a value out of its range: a number, a role or a kind, the name that the key `a` has, or a component that is no sink
abbrev pub is_out_of_range : Data → Meaning → List ℕ → Data → Bool
is_out_of_range top RoleWord key row = text_fails (λ text. is_some (role_of text)) key row
is_out_of_range top KindWord key row = text_fails (λ text. is_some (kind_of text)) key row
is_out_of_range top OtherName key row = option_map_or (λ first. option_map_or (bytes_eq first) (text_at key row) false) (text_at (codes "a") row) false
is_out_of_range top SinkName key row = text_fails (is_sink top) key row
is_out_of_range top (Number low high) key row = integer_fails (is_between low high) key row
is_out_of_range top _ key row = false

-- whether the value at a key isn't of the kind that its meaning asks for
abbrev pub is_wrong_kind : Meaning → List ℕ → Data → Bool
is_wrong_kind meaning key row = option_map_or (λ value. not (fits_meaning meaning value)) (get key row) false

-- whether the text at a key should be a type's name and isn't of the form
abbrev pub is_bad_name : Meaning → List ℕ → Data → Bool
is_bad_name NewName key row = text_fails is_type_name key row
is_bad_name _ key row = false

-- whether the text at a key names a type or component that doesn't exist
abbrev pub is_unknown_name : Data → List (List ℕ) → Meaning → List ℕ → Data → Bool
is_unknown_name top names TypeName key row = text_fails (is_named names) key row
is_unknown_name top names OtherName key row = text_fails (is_named names) key row
is_unknown_name top names ComponentName key row = text_fails (is_named (component_names top)) key row
is_unknown_name top names SinkName key row = text_fails (is_named (component_names top)) key row
is_unknown_name top names _ key row = false

-- whether a key of a row of a document has a fault of a class, where the types have these names
abbrev pub is_faulty : Data → List (List ℕ) → LibClass → Data → KeyRow → Bool
is_faulty top names MissingKey row key = key.required && is_none (get key.name row)
is_faulty top names WrongKind row key = is_wrong_kind key.meaning key.name row
is_faulty top names BadName row key = is_bad_name key.meaning key.name row
is_faulty top names UnknownName row key = is_unknown_name top names key.meaning key.name row
is_faulty top names Range row key = is_out_of_range top key.meaning key.name row
is_faulty top names _ row key = false
