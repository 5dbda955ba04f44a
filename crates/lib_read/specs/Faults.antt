-- All faults of a document.
use Rattle.std.specs.Prelude.{codes, ℕ, ◌-◌, Bool, false, ◌&&◌, not, nat_lt, List, [], ◌∷◌, ◌++◌, map, filter, take, length, Option, option_map, option_and_then, if◌then◌else◌}
use Rattle.std.specs.Option.{option_map_or}
use Rattle.std.specs.List.{list_any, filter_map, flat_map, enumerate_from}
use Rattle.std.specs.Str.{bytes_eq}
use Rattle.toml.specs.Data.{Data, table}
use Rattle.arch_model.specs.declared.limits.TheConstants.{COMPONENTS, EDGES, PATTERNS, REQUIREMENTS}
use Rattle.arch_model.specs.Template.{components_of, edges_of}
use Rattle.lib_read.specs.declared.fault.LibClass.{LibClass}
use Rattle.lib_read.specs.declared.fault.LibClass.TheVariants.{UnknownKey, MissingKey, WrongKind, BadName, Duplicate, UnknownName, Range, TooMany}
use Rattle.lib_read.specs.declared.fault.TableName.{TableName}
use Rattle.lib_read.specs.declared.fault.TableName.TheVariants.{Library, Types, Links, Patterns, Requires}
use Rattle.lib_read.specs.declared.fault.LibFault.{LibFault}
use Rattle.lib_read.specs.Tree.{text_at, keys_in, rows_of}
use Rattle.lib_read.specs.Schema.{KeyRow, table_keys, is_faulty}
use Rattle.lib_read.specs.Rows.{type_names, types_of, links_of}

-- a fault of these four parts
abbrev pub fault : LibClass → TableName → ℕ → List ℕ → LibFault
fault class t position key = record { class = class; table = t; position = position; key = key }

-- whether a key is one of a table's
abbrev pub is_known : List KeyRow → List ℕ → Bool
is_known keys name = list_any (λ key. bytes_eq key.name name) keys

-- the keys of a row that aren't a table's
abbrev pub unknown_keys : List KeyRow → Data → List (List ℕ)
unknown_keys keys row = filter (λ name. not (is_known keys name)) (keys_in row)

-- the keys at which a document's row has a fault of a class; `-` where it isn't a table, which is a wrong kind
abbrev pub faulty_keys : Data → List (List ℕ) → LibClass → List KeyRow → Data → List (List ℕ)
faulty_keys top names UnknownKey keys row = unknown_keys keys row
faulty_keys top names class keys (table ms) = map (λ key. key.name) (filter (is_faulty top names class (table ms)) keys)
faulty_keys top names WrongKind keys row = codes "-" ∷ []
faulty_keys top names class keys row = []

-- the faults of a class in the row of a table at a position
abbrev pub row_faults : Data → List (List ℕ) → LibClass → TableName → ℕ → Data → List LibFault
row_faults top names class t position row = map (fault class t position) (faulty_keys top names class (table_keys t row) row)

-- the faults of a class in a table's rows
abbrev pub table_faults : List (List ℕ) → LibClass → TableName → Data → List LibFault
table_faults names class t top = flat_map (λ p. row_faults top names class t p.0 p.1) (enumerate_from 1 (rows_of t top))

-- the faults of a class that a row has by itself, in the document and in each table
abbrev pub class_faults : List (List ℕ) → LibClass → Data → List LibFault
class_faults names class top =
    row_faults top names class Library 0 top
    ++ (table_faults names class Types top
    ++ (table_faults names class Links top
    ++ (table_faults names class Patterns top ++ table_faults names class Requires top)))

-- whether an earlier row has the value of this one
abbrev pub is_repeat : {X : Type 0} → (X → X → Bool) → (Data → Option X) → List Data → Data → Bool
is_repeat same value earlier row = option_map_or (λ x. list_any (same x) (filter_map value earlier)) (value row) false

-- a table's rows that repeat the value of an earlier row
abbrev pub repeat_faults : {X : Type 0} → (X → X → Bool) → (Data → Option X) → TableName → List ℕ → Data → List LibFault
repeat_faults same value t key top =
    flat_map (λ p. if is_repeat same value (take (p.0 - 1) (rows_of t top)) p.1 then fault Duplicate t p.0 key ∷ [] else [])
    (enumerate_from 1 (rows_of t top))

-- the two types' names of a link
abbrev pub link_ends : Data → Option (List ℕ × List ℕ)
link_ends row = option_and_then (λ from. option_map (λ to. (from, to)) (text_at (codes "to") row)) (text_at (codes "from") row)

-- whether two links have the same two types' names
abbrev pub same_ends : List ℕ × List ℕ → List ℕ × List ℕ → Bool
same_ends a b = bytes_eq a.0 b.0 && bytes_eq a.1 b.1

-- a type with an earlier type's name
abbrev pub repeated_names : Data → List LibFault
repeated_names top = repeat_faults bytes_eq (text_at (codes "name")) Types (codes "name") top

-- a link with the pair of an earlier link
abbrev pub repeated_links : Data → List LibFault
repeated_links top = repeat_faults same_ends link_ends Links (codes "to") top

-- the first limit that is passed: of components, edges, patterns and requirements
abbrev pub limit_faults : Data → List LibFault
limit_faults top =
    let components = components_of (types_of top) in
    if nat_lt COMPONENTS (length components) then fault TooMany Library 0 (codes "type") ∷ []
    else if nat_lt EDGES (length (edges_of components (links_of top))) then fault TooMany Library 0 (codes "link") ∷ []
    else if nat_lt PATTERNS (length (rows_of Patterns top)) then fault TooMany Library 0 (codes "pattern") ∷ []
    else if nat_lt REQUIREMENTS (length (rows_of Requires top)) then fault TooMany Library 0 (codes "require") ∷ []
    else []

-- the faults of the classes that are judged row by row, whatever the types are called
abbrev pub plain_faults : Data → List LibFault
plain_faults top =
    class_faults [] UnknownKey top
    ++ (class_faults [] MissingKey top
    ++ (class_faults [] WrongKind top ++ class_faults [] BadName top))

-- the faults of all classes but the last
abbrev pub judged_faults : Data → List LibFault
judged_faults top =
    plain_faults top
    ++ (repeated_names top
    ++ (repeated_links top
    ++ (class_faults (type_names top) UnknownName top ++ class_faults (type_names top) Range top)))

-- all faults of a document
abbrev pub faults_of : Data → List LibFault
faults_of top = judged_faults top ++ limit_faults top
