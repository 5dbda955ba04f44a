-- The document that the lines of a generated text come to.
use Rattle.std.proofs.Common.{◌≡◌, pos, List, [], ◌∷◌, map, codes, refl, ap, ◌∙◌}
use Rattle.std.specs.List.{flat_map}
use Rattle.toml.specs.Data.{Data, string, integer, array, table, Items, no_items, push_item, Members, no_members, member}
use Rattle.toml.specs.Tables.{Node, Nodes, value, open_array, no_nodes, node, close, close_node, Document, Expression, define, along_header, along_dots, at_key}
use Rattle.generate.specs.declared.group.Group.{Group}
use Rattle.generated.specs.GeneratedLibrary.{source_name, sink_name}
use Rattle.generated.proofs.LineTexts.{ComesTo, comes_then}
use Rattle.generated.proofs.GroupLines.{required_name, source_lines, sink_lines, type_lines, link_lines, requirement_lines, all_lines}

-- what the tables of a group hold, while they are read
abbrev pub source_nodes : Group → Nodes
source_nodes g =
    node (codes "cost") (value (integer (pos g.cost)))
    (node (codes "fail") (value (integer (pos 1000)))
    (node (codes "max") (value (integer (pos 2)))
    (node (codes "name") (value (string (source_name g))) (node (codes "role") (value (string (codes "source"))) no_nodes))))

abbrev pub sink_nodes : Group → Nodes
sink_nodes g = node (codes "name") (value (string (sink_name g))) (node (codes "role") (value (string (codes "sink"))) no_nodes)

abbrev pub link_nodes : Group → Nodes
link_nodes g =
    node (codes "cost") (value (integer (pos 1)))
    (node (codes "from") (value (string (source_name g))) (node (codes "to") (value (string (sink_name g))) no_nodes))

abbrev pub requirement_nodes : Group → Nodes
requirement_nodes g = node (codes "bound") (value (integer (pos g.bound))) (node (codes "sink") (value (string (required_name g))) no_nodes)

-- an array of tables after more tables, of which the last is open
abbrev pub grown : Items → Nodes → List Nodes → Node
grown done last [] = open_array done last
grown done last (next ∷ rest) = grown (push_item done (table (close last))) next rest

abbrev pub add_items : Items → List Data → Items
add_items done [] = done
add_items done (d ∷ ds) = add_items (push_item done d) ds

-- ---- types, where there is nothing else

abbrev pub only_types : Node → Document
only_types types = (node (codes "type") types no_nodes, codes "type" ∷ [])

first_source : (g : Group) → ComesTo (no_nodes, []) (source_lines g) (only_types (open_array no_items (source_nodes g)))
unfolding define along_header along_dots at_key
first_source g = (_, refl, (_, refl, (_, refl, (_, refl, (_, refl, (_, refl, refl))))))

next_source : (g : Group) (done : Items) (last : Nodes) → ComesTo (only_types (open_array done last)) (source_lines g) (only_types (grown done last (source_nodes g ∷ [])))
unfolding define along_header along_dots at_key
next_source g done last = (_, refl, (_, refl, (_, refl, (_, refl, (_, refl, (_, refl, refl))))))

next_sink : (g : Group) (done : Items) (last : Nodes) → ComesTo (only_types (open_array done last)) (sink_lines g) (only_types (grown done last (sink_nodes g ∷ [])))
unfolding define along_header along_dots at_key
next_sink g done last = (_, refl, (_, refl, (_, refl, refl)))

-- the two tables of a group's types
abbrev pub type_nodes : Group → List Nodes
type_nodes g = source_nodes g ∷ sink_nodes g ∷ []

next_types : (gs : List Group) (done : Items) (last : Nodes) → ComesTo (only_types (open_array done last)) (flat_map type_lines gs) (only_types (grown done last (flat_map type_nodes gs)))
next_types [] done last = refl
next_types (g ∷ gs) done last =
    let after = push_item done (table (close last)) in
    let one = comes_then (source_lines g) (sink_lines g) _ _ _ (next_source g done last) (next_sink g after (source_nodes g)) in
    comes_then (type_lines g) (flat_map type_lines gs) _ _ _ one (next_types gs (push_item after (table (close (source_nodes g)))) (sink_nodes g))

-- ---- links and requirements, which are read behind

abbrev pub with_links : Node → Node → Document
with_links types links = (node (codes "link") links (node (codes "type") types no_nodes), codes "link" ∷ [])

abbrev pub with_all : Node → Node → Node → Document
with_all types links requirements =
    (node (codes "link") links (node (codes "require") requirements (node (codes "type") types no_nodes)), codes "require" ∷ [])

first_link : (g : Group) (types : Node) → ComesTo (only_types types) (link_lines g) (with_links types (open_array no_items (link_nodes g)))
unfolding define along_header along_dots at_key
first_link g types = (_, refl, (_, refl, (_, refl, (_, refl, refl))))

next_link : (types : Node) (g : Group) (done : Items) (last : Nodes) → ComesTo (with_links types (open_array done last)) (link_lines g) (with_links types (grown done last (link_nodes g ∷ [])))
unfolding define along_header along_dots at_key
next_link types g done last = (_, refl, (_, refl, (_, refl, (_, refl, refl))))

first_requirement : (g : Group) (types links : Node) → ComesTo (with_links types links) (requirement_lines g) (with_all types links (open_array no_items (requirement_nodes g)))
unfolding define along_header along_dots at_key
first_requirement g types links = (_, refl, (_, refl, (_, refl, refl)))

next_requirement : (types links : Node) (g : Group) (done : Items) (last : Nodes)
    → ComesTo (with_all types links (open_array done last)) (requirement_lines g) (with_all types links (grown done last (requirement_nodes g ∷ [])))
unfolding define along_header along_dots at_key
next_requirement types links g done last = (_, refl, (_, refl, (_, refl, refl)))

-- a table more for each group
next_rows : (at : Node → Document) (made : Group → List Expression) (row : Group → Nodes)
    → ((g : Group) (done : Items) (last : Nodes) → ComesTo (at (open_array done last)) (made g) (at (grown done last (row g ∷ []))))
    → (gs : List Group) (done : Items) (last : Nodes) → ComesTo (at (open_array done last)) (flat_map made gs) (at (grown done last (map row gs)))
next_rows at made row step [] done last = refl
next_rows at made row step (g ∷ gs) done last =
    comes_then (made g) (flat_map made gs) _ _ _ (step g done last) (next_rows at made row step gs (push_item done (table (close last))) (row g))

-- ---- the whole document

abbrev pub types_read : Group → List Group → Node
types_read g gs = grown no_items (source_nodes g) (sink_nodes g ∷ flat_map type_nodes gs)

abbrev pub links_read : Group → List Group → Node
links_read g gs = grown no_items (link_nodes g) (map link_nodes gs)

abbrev pub requirements_read : Group → List Group → Node
requirements_read g gs = grown no_items (requirement_nodes g) (map requirement_nodes gs)

pub all_come : (g : Group) (gs : List Group) → ComesTo (no_nodes, []) (all_lines (g ∷ gs)) (with_all (types_read g gs) (links_read g gs) (requirements_read g gs))
all_come g gs =
    let types = types_read g gs in
    let links = links_read g gs in
    let both = comes_then (source_lines g) (sink_lines g) _ _ _ (first_source g) (next_sink g no_items (source_nodes g)) in
    let first = comes_then (type_lines g) (flat_map type_lines gs) _ _ _ both (next_types gs _ _) in
    let second = comes_then (link_lines g) (flat_map link_lines gs) _ _ _ (first_link g types) (next_rows (with_links types) link_lines link_nodes (next_link types) gs _ _) in
    let third = comes_then (requirement_lines g) (flat_map requirement_lines gs) _ _ _ (first_requirement g types links)
    (next_rows (with_all types links) requirement_lines requirement_nodes (next_requirement types links) gs _ _) in
    comes_then (flat_map type_lines (g ∷ gs)) _ _ _ _ first (comes_then (flat_map link_lines (g ∷ gs)) _ _ _ _ second third)

-- ---- as data

abbrev pub data_of : Nodes → Data
data_of ns = table (close ns)

close_grown : (done : Items) (last : Nodes) (rest : List Nodes) → close_node (grown done last rest) ≡ array (add_items done (map data_of (last ∷ rest)))
close_grown done last [] = refl
close_grown done last (next ∷ rest) = close_grown (push_item done (data_of last)) next rest

map_flat : (gs : List Group) → map data_of (flat_map type_nodes gs) ≡ flat_map (λ g. map data_of (type_nodes g)) gs
map_flat [] = refl
map_flat (g ∷ gs) = ap (λ ds. data_of (source_nodes g) ∷ data_of (sink_nodes g) ∷ ds) (map_flat gs)

map_twice : (row : Group → Nodes) (gs : List Group) → map data_of (map row gs) ≡ map (λ g. data_of (row g)) gs
map_twice row [] = refl
map_twice row (g ∷ gs) = ap (λ ds. data_of (row g) ∷ ds) (map_twice row gs)

-- the tables of some groups
abbrev pub type_tables : List Group → List Data
type_tables gs = flat_map (λ g. map data_of (type_nodes g)) gs

abbrev pub link_tables : List Group → List Data
link_tables gs = map (λ g. data_of (link_nodes g)) gs

abbrev pub requirement_tables : List Group → List Data
requirement_tables gs = map (λ g. data_of (requirement_nodes g)) gs

-- an array of some tables
abbrev pub array_of : List Data → Data
array_of ds = array (add_items no_items ds)

-- the document of some groups
abbrev pub members_of : List Group → Members
members_of gs =
    member (codes "link") (array_of (link_tables gs))
    (member (codes "require") (array_of (requirement_tables gs)) (member (codes "type") (array_of (type_tables gs)) no_members))

pub closed : (g : Group) (gs : List Group) → close (with_all (types_read g gs) (links_read g gs) (requirements_read g gs)).0 ≡ members_of (g ∷ gs)
closed g gs =
    let types : close_node (types_read g gs) ≡ array_of (type_tables (g ∷ gs)) =
    close_grown no_items (source_nodes g) (sink_nodes g ∷ flat_map type_nodes gs) ∙ ap (λ ds. array_of (data_of (source_nodes g) ∷ data_of (sink_nodes g) ∷ ds)) (map_flat gs) in
    let links : close_node (links_read g gs) ≡ array_of (link_tables (g ∷ gs)) =
    close_grown no_items (link_nodes g) (map link_nodes gs) ∙ ap (λ ds. array_of (data_of (link_nodes g) ∷ ds)) (map_twice link_nodes gs) in
    let requirements : close_node (requirements_read g gs) ≡ array_of (requirement_tables (g ∷ gs)) =
    close_grown no_items (requirement_nodes g) (map requirement_nodes gs) ∙ ap (λ ds. array_of (data_of (requirement_nodes g) ∷ ds)) (map_twice requirement_nodes gs) in
    λ i. member (codes "link") (links i) (member (codes "require") (requirements i) (member (codes "type") (types i) no_members))
