-- What a text of `cuts` shows of the bytes of a library and of an architecture.
use Rattle.std.specs.Prelude.{◌≡◌, ℕ, ◌<◌, ◌↔◌, List, Ok, sum_by}
use Rattle.std.specs.List.{Contains}
use Rattle.std.specs.List.Sorted.{IsStrictlySortedBy}
use Rattle.std.specs.Ordering.{nat_cmp}
use Rattle.std.specs.Cmp.Lexicographic.{slice_cmp}
use Rattle.arch_model.specs.Parts.{LibraryParts, ArchitectureParts}
use Rattle.arch_model.specs.CutSet.{IsMinimalCutSet}
use Rattle.arch_model.specs.Weight.{product_of, weight_of}
use Rattle.lib_read.specs.LibraryOf.{library_of}
use Rattle.arch_csv.specs.ArchitectureOf.{architecture_of_bytes}
use Rattle.report.specs.Sets.{sets_text}
use Rattle.archex_app.specs.Mass.{IsSinkNamed}

-- some sets are all minimal cut sets of a sink that have a positive product, each once and in ascending order, and their products add up to what the sink weighs
pub record AreItsCuts (lib : LibraryParts) (arch : ArchitectureParts) (sink : ℕ) (sets : List (List ℕ)) : Type 0 where
  pub all : (members : List ℕ) → Contains sets members ↔ (IsMinimalCutSet lib arch sink members × (0 < product_of lib members))
  pub ascending : IsStrictlySortedBy (slice_cmp nat_cmp) sets
  pub sum : sum_by (product_of lib) sets ≡ weight_of lib arch sink

-- the bytes are a library and an architecture of it, and the text lists these sets of the sink of that name
pub record ShowsCuts (name lib_bytes arch_bytes text : List ℕ) : Type 0 where
  pub lib : LibraryParts
  pub lib_read : library_of lib_bytes ≡ Ok lib
  pub arch : ArchitectureParts
  pub arch_read : architecture_of_bytes lib arch_bytes ≡ Ok arch
  pub sink : ℕ
  pub named : IsSinkNamed lib name sink
  pub sets : List (List ℕ)
  pub cuts : AreItsCuts lib arch sink sets
  pub report : text ≡ sets_text lib sets
