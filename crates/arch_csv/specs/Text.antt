-- The text of an architecture file, as bytes.
use Rattle.std.specs.Prelude.{ℕ, List, [], ◌++◌, codes, slice_get}
use Rattle.std.specs.List.{flat_map}
use Rattle.std.specs.Option.{option_map_or}
use Rattle.arch_model.specs.Set.{members_below}
use Rattle.arch_model.specs.Parts.{LibraryParts, ArchitectureParts}
use Rattle.arch_model.specs.declared.limits.TheConstants.{COMPONENTS, EDGES}
use Rattle.template.specs.Names.{component_name}

-- the line of component c
abbrev pub component_line : LibraryParts → ℕ → List ℕ
component_line lib c = codes "component," ++ component_name lib c ++ codes ",\n"

-- the line of edge e
abbrev pub edge_line : LibraryParts → ℕ → List ℕ
edge_line lib e = option_map_or (λ edge. codes "edge," ++ component_name lib edge.tail.0 ++ codes "," ++ component_name lib edge.head.0 ++ codes "\n") (slice_get lib.edges e) []

-- an architecture's file: a header, the components in order, then the edges in order
abbrev pub architecture_text : LibraryParts → ArchitectureParts → List ℕ
architecture_text lib arch =
    codes "kind,from,to\n" ++ flat_map (component_line lib) (members_below arch.comps COMPONENTS) ++ flat_map (edge_line lib) (members_below arch.edges EDGES)
