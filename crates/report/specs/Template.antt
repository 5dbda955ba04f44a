-- A library's template, as `template` prints it.
use Rattle.std.specs.Prelude.{ℕ, ◌+◌, List, [], ◌++◌, codes, length, slice_get}
use Rattle.std.specs.Fmt.{decimal}
use Rattle.std.specs.List.{flat_map, range_with_len}
use Rattle.std.specs.Option.{option_map_or}
use Rattle.arch_model.specs.declared.template.Role.{Role}
use Rattle.arch_model.specs.declared.template.Role.TheVariants.{Source, Middle, Sink}
use Rattle.arch_model.specs.declared.template.Component.{Component}
use Rattle.arch_model.specs.declared.template.Edge.{Edge}
use Rattle.arch_model.specs.Parts.{LibraryParts}
use Rattle.template.specs.Names.{component_name}

-- a role's word
abbrev pub role_text : Role → List ℕ
role_text Source = codes "source"
role_text Middle = codes "middle"
role_text Sink = codes "sink"

-- the line of component number c: its variable, name, role, cost, supply, demand and how often it fails, in ppm
unfoldable pub component_text : LibraryParts → ℕ → Component → List ℕ
component_text lib c row =
    codes "component " ++ decimal c ++ codes " " ++ component_name lib c ++ codes " " ++ role_text row.role ++ codes " " ++ decimal row.cost
    ++ codes " " ++ decimal row.supply ++ codes " " ++ decimal row.demand ++ codes " " ++ decimal row.fail ++ codes "\n"

abbrev pub component_line : LibraryParts → ℕ → List ℕ
component_line lib c = option_map_or (component_text lib c) (slice_get lib.components c) []

-- the line of edge number e: its variable, which counts on from the components, the names of its ends, and its cost
unfoldable pub edge_text : LibraryParts → ℕ → Edge → List ℕ
edge_text lib e edge =
    codes "edge " ++ decimal (length lib.components + e) ++ codes " " ++ component_name lib edge.tail.0 ++ codes " " ++ component_name lib edge.head.0
    ++ codes " " ++ decimal edge.cost ++ codes "\n"

abbrev pub edge_line : LibraryParts → ℕ → List ℕ
edge_line lib e = option_map_or (edge_text lib e) (slice_get lib.edges e) []

-- all components, then all edges, in order
abbrev pub template_text : LibraryParts → List ℕ
template_text lib =
    flat_map (component_line lib) (range_with_len 0 (length lib.components)) ++ flat_map (edge_line lib) (range_with_len 0 (length lib.edges))
