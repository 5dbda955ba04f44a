-- The architecture of bytes, or the first fault of an architecture file.
use Rattle.std.specs.Prelude.{ℕ, ◌+◌, ◌≡◌, nat_lt, Bool, false, ◌&&◌, List, [], ◌∷◌, ◌++◌, fold, length, option_map, slice_get, Option, Some, None, Result, Ok, Err, if◌then◌else◌}
use Rattle.std.specs.List.{enumerate_from, filter_map}
use Rattle.std.specs.Option.{option_map_or, option_to_list}
use Rattle.std.specs.Result.{result_ok}
use Rattle.csv.specs.Reading.{records, default_config, strip_bom}
use Rattle.arch_model.specs.Set.{has, empty, put}
use Rattle.arch_model.specs.Parts.{LibraryParts, ArchitectureParts}
use Rattle.arch_model.specs.declared.sets.EdgeId.{EdgeId}
use Rattle.arch_csv.specs.declared.fault.ArchClass.{ArchClass}
use Rattle.arch_csv.specs.declared.fault.ArchClass.TheVariants.{TooLarge, Fields, Duplicate, MissingEnd}
use Rattle.arch_csv.specs.declared.fault.ArchFault.{ArchFault}
use Rattle.arch_csv.specs.declared.fault.ArchError.{ArchError}
use Rattle.arch_csv.specs.declared.fault.ArchError.TheVariants as error
use Rattle.arch_csv.specs.declared.item.Item.{Item}
use Rattle.arch_csv.specs.declared.item.Item.TheVariants.{Component, Edge}
use Rattle.arch_csv.specs.Records.{Record, item_of, header_fault}

-- a fault of a class at a record, counted from 1
abbrev pub fault_at : ℕ → ArchClass → ArchFault
fault_at place class = record { class = class; place = place }

-- the architecture without members
abbrev pub nothing : ArchitectureParts
nothing = record { comps = empty; edges = empty }

-- an architecture with one more component or edge
abbrev pub with_item : ArchitectureParts → Item → ArchitectureParts
with_item arch (Component c) = record { comps = put arch.comps c.0; edges = arch.edges }
with_item arch (Edge e) = record { comps = arch.comps; edges = put arch.edges e.0 }

-- whether an architecture has a component or an edge
abbrev pub has_item : ArchitectureParts → Item → Bool
has_item arch (Component c) = has arch.comps c.0
has_item arch (Edge e) = has arch.edges e.0

-- all that some records name
abbrev pub items_of : LibraryParts → List Record → List Item
items_of lib rows = filter_map (λ row. result_ok (item_of lib row)) rows

-- the components and edges that some records name
unfoldable pub members_of : LibraryParts → List Record → ArchitectureParts
members_of lib rows = fold with_item nothing (items_of lib rows)

-- what a record names where the file has these members already: what stands there is a fault
abbrev pub added : ArchitectureParts → Result Item ArchClass → Result Item ArchClass
added earlier (Err class) = Err class
added earlier (Ok item) = if has_item earlier item then Err Duplicate else Ok item

-- the class of a fault
abbrev pub class_of : Result Item ArchClass → Option ArchClass
class_of (Ok item) = None
class_of (Err class) = Some class

-- the first fault of the record after some others: the first record of all is the header
abbrev pub fault_after : LibraryParts → List Record → Record → Option ArchClass
fault_after lib [] row = header_fault row
fault_after lib (first ∷ others) row = class_of (added (members_of lib (first ∷ others)) (item_of lib row))

-- the faults of the records after some others, each the first of its record, in file order
unfoldable pub faults_after : LibraryParts → List Record → List Record → List ArchFault
faults_after lib earlier [] = []
faults_after lib earlier (row ∷ rows) =
    option_to_list (option_map (fault_at (length earlier + 1)) (fault_after lib earlier row)) ++ faults_after lib (earlier ++ row ∷ []) rows

-- an edge that a record names
abbrev pub edge_only : ℕ → Result Item ArchClass → Option (ℕ × EdgeId)
edge_only place (Ok (Edge e)) = Some (place, e)
edge_only place (Ok (Component c)) = None
edge_only place (Err class) = None

-- the edges that a file names, each with its record's number, in file order
unfoldable pub edge_records : LibraryParts → List Record → List (ℕ × EdgeId)
edge_records lib rows = filter_map (λ p. edge_only p.0 (item_of lib p.1)) (enumerate_from 1 rows)

-- whether an architecture has both ends of an edge
abbrev pub has_ends : LibraryParts → ArchitectureParts → EdgeId → Bool
has_ends lib arch e = option_map_or (λ edge. has arch.comps edge.tail.0 && has arch.comps edge.head.0) (slice_get lib.edges e.0) false

-- the faults of edges that lack an end, in file order
abbrev pub missing_ends : LibraryParts → List Record → List ArchFault
missing_ends lib rows =
    filter_map (λ p. if has_ends lib (members_of lib rows) p.1 then None else Some (fault_at p.0 MissingEnd)) (edge_records lib rows)

-- a file without a record is at fault where its header should be
abbrev pub no_record : List Record → List ArchFault
no_record [] = fault_at 1 Fields ∷ []
no_record (row ∷ rows) = []

-- the faults of a file, the one that counts first
abbrev pub faults_of : LibraryParts → List Record → List ArchFault
faults_of lib rows = no_record rows ++ (faults_after lib [] rows ++ missing_ends lib rows)

-- an architecture, or the first of some faults
abbrev pub unless_faulty : ArchitectureParts → List ArchFault → Result ArchitectureParts ArchFault
unless_faulty arch [] = Ok arch
unless_faulty arch (fault ∷ faults) = Err fault

-- the architecture of a file's records, or the first fault
unfoldable pub architecture_of_records : LibraryParts → List Record → Result ArchitectureParts ArchFault
architecture_of_records lib rows = unless_faulty (members_of lib rows) (faults_of lib rows)

-- the records of bytes, as `csv` states them: those of the text after a byte order mark
abbrev pub records_of : List ℕ → List Record
records_of bytes = records default_config (strip_bom bytes)

-- more than 1048576 bytes, or what the records are
unfoldable pub architecture_of_bytes : LibraryParts → List ℕ → Result ArchitectureParts ArchFault
architecture_of_bytes lib bytes =
    if nat_lt 1048576 (length bytes) then Err (fault_at 0 TooLarge) else architecture_of_records lib (records_of bytes)

-- an error says nothing of the bytes, or it is their fault
abbrev pub FaultOf : LibraryParts → List ℕ → ArchError → Type 0
FaultOf lib bytes error.Memory = Unit {0}
FaultOf lib bytes (error.Fault f) = architecture_of_bytes lib bytes ≡ Err f
