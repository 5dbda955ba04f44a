-- What one record of an architecture file names.
use Rattle.std.specs.Prelude.{ℕ, Bool, false, ◌&&◌, nat_eq, codes, List, [], ◌∷◌, length, slice_get, option_map, Option, Some, None, Result, Err, if◌then◌else◌}
use Rattle.std.specs.List.{find, range_with_len}
use Rattle.std.specs.Option.{ok_or, option_and_then, option_map_or}
use Rattle.std.specs.Str.{bytes_eq}
use Rattle.arch_model.specs.Parts.{LibraryParts}
use Rattle.template.specs.Names.{component_name}
use Rattle.arch_csv.specs.declared.fault.ArchClass.{ArchClass}
use Rattle.arch_csv.specs.declared.fault.ArchClass.TheVariants.{Fields, Header, Kind, UnknownName}
use Rattle.arch_csv.specs.declared.item.Item.{Item}
use Rattle.arch_csv.specs.declared.item.Item.TheVariants.{Component, Edge}

-- a record: its fields, each as bytes
abbrev pub Record : Type 0
Record = List (List ℕ)

-- the component of that name: none where no component has it
unfoldable pub component_named : LibraryParts → List ℕ → Option ℕ
component_named lib name = find (λ c. bytes_eq (component_name lib c) name) (range_with_len 0 (length lib.components))

-- whether edge e leads from one component to another
abbrev pub edge_leads : LibraryParts → ℕ → ℕ → ℕ → Bool
edge_leads lib tail head e = option_map_or (λ edge. nat_eq edge.tail.0 tail && nat_eq edge.head.0 head) (slice_get lib.edges e) false

-- the edge from one component to another: none where the template has no such edge
unfoldable pub edge_between : LibraryParts → ℕ → ℕ → Option ℕ
edge_between lib tail head = find (edge_leads lib tail head) (range_with_len 0 (length lib.edges))

-- the edge from the component of one name to that of another
abbrev pub edge_named : LibraryParts → List ℕ → List ℕ → Option ℕ
edge_named lib tail head =
    option_and_then (λ t. option_and_then (edge_between lib t) (component_named lib head)) (component_named lib tail)

-- the component of that name, in a record whose third field is empty
abbrev pub component_alone : LibraryParts → List ℕ → List ℕ → Option ℕ
component_alone lib name [] = component_named lib name
component_alone lib name (b ∷ bs) = None

-- the component or edge that three fields name, or the first fault of these alone
unfoldable pub item_named : LibraryParts → List ℕ → List ℕ → List ℕ → Result Item ArchClass
item_named lib kind from to =
    if bytes_eq kind (codes "component") then ok_or (option_map (λ c. Component (record { 0 = c })) (component_alone lib from to)) UnknownName
    else if bytes_eq kind (codes "edge") then ok_or (option_map (λ e. Edge (record { 0 = e })) (edge_named lib from to)) UnknownName
    else Err Kind

-- the component or edge that a record names, or its first fault without regard to other records
abbrev pub item_of : LibraryParts → Record → Result Item ArchClass
item_of lib (kind ∷ from ∷ to ∷ []) = item_named lib kind from to
item_of lib fields = Err Fields

-- the first fault of a header: it has three fields, which are as stated
abbrev pub header_fault : Record → Option ArchClass
header_fault (kind ∷ from ∷ to ∷ []) =
    if bytes_eq kind (codes "kind") && bytes_eq from (codes "from") && bytes_eq to (codes "to") then None else Some Header
header_fault fields = Some Fields
