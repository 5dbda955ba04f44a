-- What the reader of an architecture file knows after some records.
use Rattle.std.specs.Prelude.{ℕ, ◌+◌, ◌<◌, ◌≡◌, List, [], ◌∷◌, ◌++◌, length, Some, Result, Err, MatchResult, true, slice_index_or}
use Rattle.arch_model.specs.Parts.{LibraryParts, ArchitectureParts}
use Rattle.arch_csv.specs.declared.fault.ArchError.{ArchError}
use Rattle.arch_csv.specs.declared.fault.ArchError.TheVariants as error
use Rattle.arch_csv.specs.declared.draft.Draft.{Draft}
use Rattle.arch_csv.specs.Records.{Record}
use Rattle.arch_model.specs.declared.sets.EdgeId.{EdgeId}
use Rattle.arch_csv.specs.declared.item.Item.{Item}
use Rattle.arch_csv.specs.declared.item.Item.TheVariants.{Component, Edge}
use Rattle.arch_csv.specs.ArchitectureOf.{architecture_of_records, has_ends, members_of, faults_after, fault_after, edge_records}

-- the members that were read so far
abbrev pub draft_members : Draft → ArchitectureParts
draft_members draft = record { comps = draft.comps; edges = draft.edges }

-- these records were read, and none is at fault by itself or beside the earlier ones
pub record IsDraft (lib : LibraryParts) (rows : List Record) (draft : Draft) : Type 0 where
  pub records : draft.records ≡ length rows
  pub members : draft_members draft ≡ members_of lib rows
  pub edge_records : draft.edge_records.items ≡ edge_records lib rows
  pub clear : faults_after lib [] rows ≡ []

-- an error says nothing of a record, or it is its first fault
abbrev pub StopsAt : LibraryParts → List Record → Record → ArchError → Type 0
StopsAt lib rows row error.Memory = Unit {0}
StopsAt lib rows row (error.Fault f) = (fault_after lib rows row ≡ Some f.class) × (f.place ≡ length rows + 1)

-- what taking a record does, whatever records came before it
abbrev pub TakesRecord : LibraryParts → Record → Draft → Draft → Result (Unit {0}) ArchError → Type 0
TakesRecord lib row old new result =
    (rows : List Record) → IsDraft lib rows old → MatchResult result (λ _. IsDraft lib (rows ++ row ∷ []) new) (StopsAt lib rows row)

-- an error says nothing of a file, or it is the first fault of its records
abbrev pub FileFault : LibraryParts → List Record → ArchError → Type 0
FileFault lib rows error.Memory = Unit {0}
FileFault lib rows (error.Fault f) = architecture_of_records lib rows ≡ Err f

-- a component below the one number, or an edge below the other
abbrev pub IsItem : ℕ → ℕ → Item → Type 0
IsItem components edges (Component c) = c.0 < components
IsItem components edges (Edge e) = e.0 < edges

-- an edge, with its record's number
abbrev pub edges_of_item : ℕ → Item → List (ℕ × EdgeId)
edges_of_item place (Component c) = []
edges_of_item place (Edge e) = (place, e) ∷ []

-- the first so many edges have both ends
abbrev pub EndsThere : LibraryParts → ArchitectureParts → List (ℕ × EdgeId) → ℕ → Type 0
EndsThere lib arch edges n = (k : ℕ) (d : ℕ × EdgeId) → k < n → has_ends lib arch (slice_index_or edges k d).1 ≡ true
