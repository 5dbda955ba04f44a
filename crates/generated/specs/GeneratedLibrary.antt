-- The library that the text of a number is.
use Rattle.std.specs.Prelude.{ℕ, ◌+◌, ◌*◌, List, [], ◌∷◌, ◌++◌, map, codes}
use Rattle.std.specs.Fmt.{decimal}
use Rattle.std.specs.List.{flat_map}
use Rattle.arch_model.specs.declared.template.Role.TheVariants.{Source, Sink}
use Rattle.arch_model.specs.declared.library.TypeRow.{TypeRow}
use Rattle.arch_model.specs.declared.library.LinkRow.{LinkRow}
use Rattle.arch_model.specs.declared.library.Requirement.{Requirement}
use Rattle.arch_model.specs.Parts.{LibraryParts}
use Rattle.arch_model.specs.Library.{library_parts}
use Rattle.arch_model.specs.Template.{template_of}
use Rattle.generate.specs.declared.group.Group.{Group}
use Rattle.generate.specs.Generated.{groups_of}

-- the names of a group's two types: s0 and l0, s1 and l1, and so on
abbrev pub source_name : Group → List ℕ
source_name g = codes "s" ++ decimal g.number

abbrev pub sink_name : Group → List ℕ
sink_name g = codes "l" ++ decimal g.number

-- a group's two types: a source that may stand twice, costs and fails with 1000 ppm, and a sink that never fails
abbrev pub types_of_group : Group → List TypeRow
types_of_group g =
    record { name = source_name g; role = Source; max = 2; cost = g.cost; supply = 0; demand = 0; fail = 1000 }
    ∷ (record { name = sink_name g; role = Sink; max = 1; cost = 0; supply = 0; demand = 0; fail = 0 } ∷ [])

-- a group's link, from its source to its sink, whose edges cost 1 each
abbrev pub link_of_group : Group → LinkRow
link_of_group g = record { from = 2 * g.number; to = 2 * g.number + 1; cost = 1; fail = 0 }

-- a group's requirement, on its sink: two sources and a sink of each earlier group, and its own two sources, stand before it
abbrev pub requirement_of_group : Group → Requirement
requirement_of_group g = record { sink = record { 0 = 3 * g.number + 2 }; bound = g.bound }

-- the library of some groups, without patterns
abbrev pub library_of_groups : List Group → LibraryParts
library_of_groups groups =
    let types = flat_map types_of_group groups in
    let links = map link_of_group groups in
    library_parts types links (template_of types links) [] (map requirement_of_group groups)

-- the library of a number, of so many groups
abbrev pub generated_library : ℕ → ℕ → LibraryParts
generated_library number size = library_of_groups (groups_of number size)
