-- When a cut is right.
use Rattle.std.specs.Prelude.{◌≡◌, ℕ, ◌<◌, false, IsTrue, IsSomeAnd, length, slice_get}
use Rattle.std.specs.List.{All}
use Rattle.std.specs.Option.{ForSome}
use Rattle.arch_model.specs.declared.library.Requirement.{Requirement}
use Rattle.arch_model.specs.Set.{Set, has, members_below}
use Rattle.arch_model.specs.Parts.{LibraryParts, ArchitectureParts}
use Rattle.arch_model.specs.Architecture.{present_edges}
use Rattle.arch_model.specs.Member.{member_count}
use Rattle.arch_model.specs.Weight.{product_of, weight_of}
use Rattle.redundancy_cut.specs.declared.cut.Cut.{Cut}
use Rattle.redundancy_cut.specs.declared.cut.Cut.TheVariants.{Redundancy, NoGood}

-- a set of members and a set of far components, without a common member; the requirement's sink isn't far, and the product of the set alone is above the bound
pub record IsRightRedundancy (lib : LibraryParts) (r : Requirement) (set far : Set) : Type 0 where
  pub members : (v : ℕ) → IsTrue (has set v) → v < member_count lib
  pub components : (c : ℕ) → IsTrue (has far c) → c < length lib.components
  pub apart : (c : ℕ) → IsTrue (has far c) → has set c ≡ false
  pub sink : has far r.sink.0 ≡ false
  pub heavy : r.bound < product_of lib (members_below set (member_count lib))

-- the candidate's weight at the requirement's sink is above the bound; the sink is in a cone of components, into which no edge of the candidate leads from outside
pub record IsRightNoGood (lib : LibraryParts) (arch : ArchitectureParts) (r : Requirement) (cone : Set) : Type 0 where
  pub components : (c : ℕ) → IsTrue (has cone c) → c < length lib.components
  pub heavy : r.bound < weight_of lib arch r.sink.0
  pub sink : IsTrue (has cone r.sink.0)
  pub closed : All (λ e. IsTrue (has cone e.head.0) → IsTrue (has cone e.tail.0)) (present_edges lib arch)

-- a cut is right for a candidate where its requirement exists and it is right there in the way of its kind
abbrev pub IsRightCut : LibraryParts → Cut → ArchitectureParts → Type 0
IsRightCut lib (Redundancy q set far) arch = IsSomeAnd (slice_get lib.requirements q) (λ r. IsRightRedundancy lib r set far)
IsRightCut lib (NoGood q cone) arch = IsSomeAnd (slice_get lib.requirements q) (λ r. IsRightNoGood lib arch r cone)

-- a number is the weight, in the candidate, of a no-good's sink, where its requirement exists
abbrev pub HasWeight : LibraryParts → Cut → ArchitectureParts → ℕ → Type 0
HasWeight lib (Redundancy q set far) arch weight = Unit {0}
HasWeight lib (NoGood q cone) arch weight = ForSome (slice_get lib.requirements q) (λ r. weight ≡ weight_of lib arch r.sink.0)
