-- A table of links as its callers see it, and what it says of the edges of an architecture.
use Rattle.std.specs.Prelude.{◌≡◌, ℕ, Bool, List, slice_get}
use Rattle.std.specs.Option.{unwrap_or}
use Rattle.arch_model.specs.Set.{Set, has, empty}
use Rattle.arch_model.specs.Parts.{LibraryParts, ArchitectureParts}
use Rattle.arch_model.specs.Path.{is_source, live_edges, joins}

-- where paths begin, and for each component those to which some edges lead from it
pub record LinksParts : Type 0 where
  pub sources : Set
  pub rows : List Set

-- whether component c is in row a of some rows, one for each component
abbrev pub is_next : List Set → ℕ → ℕ → Bool
is_next rows a c = has (unwrap_or (slice_get rows a) empty) c

-- whether an edge of a table leads from component a to component c
abbrev pub is_linked : LinksParts → ℕ → ℕ → Bool
is_linked table a c = is_next table.rows a c

-- a table of the edges that are present and not failed, and of the library's sources
pub record AreLinks (lib : LibraryParts) (arch : ArchitectureParts) (failed : ℕ → Bool) (table : LinksParts) : Type 0 where
  pub sources : (c : ℕ) → has table.sources c ≡ is_source lib c
  pub joined : (a c : ℕ) → is_linked table a c ≡ joins (live_edges lib arch failed) a c
