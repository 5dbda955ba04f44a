-- The minimal cut sets of a sink, as `cuts` prints them.
use Rattle.std.specs.Prelude.{ℕ, ◌-◌, nat_lt, List, [], ◌++◌, codes, length, slice_get, sum_by, if◌then◌else◌}
use Rattle.std.specs.Fmt.{decimal}
use Rattle.std.specs.List.{flat_map}
use Rattle.std.specs.Option.{option_map_or}
use Rattle.arch_model.specs.Parts.{LibraryParts, ArchitectureParts}
use Rattle.arch_model.specs.Weight.{product_of}
use Rattle.template.specs.Names.{component_name}
use Rattle.cut_sets.specs.CutSets.{cut_sets_of}

-- the name of edge e: the names of its ends, parted by a dash
abbrev pub edge_name : LibraryParts → ℕ → List ℕ
edge_name lib e = option_map_or (λ edge. component_name lib edge.tail.0 ++ codes "-" ++ component_name lib edge.head.0) (slice_get lib.edges e) []

-- the name of member v, a component or an edge
abbrev pub member_name : LibraryParts → ℕ → List ℕ
member_name lib v = if nat_lt v (length lib.components) then component_name lib v else edge_name lib (v - length lib.components)

-- a member within a line
unfoldable pub spaced_name : LibraryParts → ℕ → List ℕ
spaced_name lib v = codes " " ++ member_name lib v

-- the line of a set: its product, in units of 10^-18, and its members
unfoldable pub set_line : LibraryParts → List ℕ → List ℕ
set_line lib members = decimal (product_of lib members) ++ flat_map (spaced_name lib) members ++ codes "\n"

-- the last two lines: how many sets there are, and the sum of their products, in units of 10^-18
abbrev pub sets_end : ℕ → ℕ → List ℕ
sets_end sets sum = codes "sets " ++ decimal sets ++ codes "\nsum " ++ decimal sum ++ codes "\n"

-- some sets, then how many there are and the sum of their products
abbrev pub sets_text : LibraryParts → List (List ℕ) → List ℕ
sets_text lib sets = flat_map (set_line lib) sets ++ sets_end (length sets) (sum_by (product_of lib) sets)

-- the minimal cut sets of a sink that have a positive product, in ascending order
abbrev pub cuts_text : LibraryParts → ArchitectureParts → ℕ → List ℕ
cuts_text lib arch sink = sets_text lib (cut_sets_of lib arch sink)
