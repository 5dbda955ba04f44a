-- Lines of components, edges, members and sizes, from what the code reads of them.
use Rattle.std.proofs.Common.{◌≡◌, ℕ, ◌<◌, List, [], ◌++◌, codes, length, get_or, ap, ◌∙◌, sym, append_assoc, ◌+◌, unsigned_abs}
use Rattle.std.specs.Option.{option_map_or}
use Rattle.std.specs.Fmt.{decimal, signed_decimal}
use Rattle.std.specs.List.{flat_map}
use Rattle.std.proofs.lemmas.Option.{slice_get-get_or}
use Rattle.arch_model.specs.declared.template.Component.{Component}
use Rattle.arch_model.specs.declared.template.Edge.{Edge}
use Rattle.arch_model.specs.declared.sets.VarId.{VarId}
use Rattle.arch_model.specs.Parts.{LibraryParts}
use Rattle.template.specs.Names.{component_name}
use Rattle.report.specs.Sets.{edge_name, spaced_name}
use Rattle.rows.specs.declared.row.Term.{Term}
use Rattle.rows.specs.Parts.{RowParts}
use Rattle.report.specs.Rows.{sign_text, term_text, row_line}
use Rattle.report.specs.Sets.{set_line}
use Rattle.arch_model.specs.Weight.{product_of}
use Rattle.report.specs.Summary.{sizes_text}
use Rattle.report.specs.Template.{role_text, component_text, component_line, edge_text, edge_line}

pub component_line_is : (lib : LibraryParts) (c : ℕ) (rows : List Component) (d : Component) → rows ≡ lib.components → c < length lib.components → component_line lib c ≡ component_text lib c (get_or rows c d)
component_line_is lib c rows d same here =
    ap (λ o. option_map_or (component_text lib c) o []) (slice_get-get_or lib.components c d here)
    ∙ ap (λ (r : List Component). component_text lib c (get_or r c d)) (sym same)

pub edge_line_is : (lib : LibraryParts) (e : ℕ) (rows : List Edge) (d : Edge) → rows ≡ lib.edges → e < length lib.edges → edge_line lib e ≡ edge_text lib e (get_or rows e d)
edge_line_is lib e rows d same here =
    ap (λ o. option_map_or (edge_text lib e) o []) (slice_get-get_or lib.edges e d here)
    ∙ ap (λ (r : List Edge). edge_text lib e (get_or r e d)) (sym same)

pub edge_name_is : (lib : LibraryParts) (e : ℕ) (rows : List Edge) (d : Edge) → rows ≡ lib.edges → e < length lib.edges → edge_name lib e ≡ component_name lib (get_or rows e d).tail.0 ++ codes "-" ++ component_name lib (get_or rows e d).head.0
edge_name_is lib e rows d same here =
    ap (λ o. option_map_or (λ (edge : Edge). component_name lib edge.tail.0 ++ codes "-" ++ component_name lib edge.head.0) o []) (slice_get-get_or lib.edges e d here)
    ∙ ap (λ (r : List Edge). component_name lib (get_or r e d).tail.0 ++ codes "-" ++ component_name lib (get_or r e d).head.0) (sym same)

-- a member within a line, by its number
abbrev pub spaced_of : LibraryParts → VarId → List ℕ
spaced_of lib m = spaced_name lib m.0

-- what a component's line has before and behind its name
abbrev pub component_begin : ℕ → List ℕ
component_begin c = codes "component " ++ (decimal c ++ codes " ")

abbrev pub component_end : List ℕ → Component → List ℕ
component_end role row =
    codes " " ++ (role ++ (codes " " ++ (decimal row.cost ++ (codes " " ++ (decimal row.supply ++ (codes " " ++ (decimal row.demand ++ (codes " " ++ (decimal row.fail ++ codes "\n")))))))))

component_pieces : (a c b name role cost supply demand fail z : List ℕ) →
    a ++ c ++ b ++ name ++ b ++ role ++ b ++ cost ++ b ++ supply ++ b ++ demand ++ b ++ fail ++ z
    ≡ (a ++ (c ++ b)) ++ name ++ (b ++ (role ++ (b ++ (cost ++ (b ++ (supply ++ (b ++ (demand ++ (b ++ (fail ++ z))))))))))
component_pieces a c b name role cost supply demand fail z = simp append_assoc

pub component_is : (lib : LibraryParts) (c : ℕ) (row : Component) (role : List ℕ) → role ≡ role_text row.role → component_text lib c row ≡ component_begin c ++ component_name lib c ++ component_end role row
unfolding component_text
component_is lib c row role is =
    component_pieces (codes "component ") (decimal c) (codes " ") (component_name lib c) (role_text row.role) (decimal row.cost) (decimal row.supply) (decimal row.demand) (decimal row.fail) (codes "\n")
    ∙ ap (λ (r : List ℕ). component_begin c ++ component_name lib c ++ component_end r row) (sym is)

-- what an edge's line has before and behind the names of its ends
abbrev pub edge_begin : ℕ → List ℕ
edge_begin v = codes "edge " ++ (decimal v ++ codes " ")

abbrev pub edge_end : ℕ → List ℕ
edge_end cost = codes " " ++ (decimal cost ++ codes "\n")

edge_pieces : (a v b tail head cost z : List ℕ) → a ++ v ++ b ++ tail ++ b ++ head ++ b ++ cost ++ z ≡ (a ++ (v ++ b)) ++ tail ++ b ++ head ++ (b ++ (cost ++ z))
edge_pieces a v b tail head cost z = simp append_assoc

pub edge_is : (lib : LibraryParts) (e v : ℕ) (edge : Edge) → v ≡ length lib.components + e →
    edge_text lib e edge ≡ edge_begin v ++ component_name lib edge.tail.0 ++ codes " " ++ component_name lib edge.head.0 ++ edge_end edge.cost
unfolding edge_text
edge_is lib e v edge is =
    edge_pieces (codes "edge ") (decimal (length lib.components + e)) (codes " ") (component_name lib edge.tail.0) (component_name lib edge.head.0) (decimal edge.cost) (codes "\n")
    ∙ ap (λ (k : ℕ). edge_begin k ++ component_name lib edge.tail.0 ++ codes " " ++ component_name lib edge.head.0 ++ edge_end edge.cost) (sym is)

-- a term, from its sign and its coefficient without it
term_pieces : (sign size times v : List ℕ) → sign ++ size ++ times ++ v ≡ sign ++ (size ++ (times ++ v))
term_pieces sign size times v = simp append_assoc

pub term_is : (t : Term) (sign : List ℕ) (size : ℕ) → sign ≡ sign_text t.coef → size ≡ unsigned_abs t.coef → term_text t ≡ sign ++ (decimal size ++ (codes "*" ++ decimal t.var.0))
unfolding term_text
term_is t sign size is sized =
    term_pieces (sign_text t.coef) (decimal (unsigned_abs t.coef)) (codes "*") (decimal t.var.0)
    ∙ ap (λ (s : List ℕ). s ++ (decimal (unsigned_abs t.coef) ++ (codes "*" ++ decimal t.var.0))) (sym is)
    ∙ ap (λ (n : ℕ). sign ++ (decimal n ++ (codes "*" ++ decimal t.var.0))) (sym sized)

-- a row's line, from its terms
pub row_is : (number : ℕ) (row : RowParts) (terms : List Term) → terms ≡ row.terms →
    row_line number row ≡ (codes "b" ++ decimal number) ++ flat_map term_text terms ++ codes " >= " ++ signed_decimal row.least ++ codes "\n"
unfolding row_line
row_is number row terms is = ap (λ (ts : List Term). (codes "b" ++ decimal number) ++ flat_map term_text ts ++ codes " >= " ++ signed_decimal row.least ++ codes "\n") (sym is)

-- a set's line, from its product
pub set_is : (lib : LibraryParts) (members : List ℕ) (product : ℕ) → product ≡ product_of lib members → set_line lib members ≡ decimal product ++ flat_map (spaced_name lib) members ++ codes "\n"
unfolding set_line
set_is lib members product is = ap (λ (n : ℕ). decimal n ++ flat_map (spaced_name lib) members ++ codes "\n") (sym is)

-- a library's sizes, from what is counted
sizes_pieces : (a components b edges z : List ℕ) → a ++ components ++ b ++ edges ++ z ≡ a ++ (components ++ (b ++ (edges ++ z)))
sizes_pieces a components b edges z = simp append_assoc

pub sizes_are : (lib : LibraryParts) (components : List Component) (edges : List Edge) → components ≡ lib.components → edges ≡ lib.edges →
    sizes_text lib ≡ codes "components " ++ (decimal (length components) ++ (codes "\nedges " ++ (decimal (length edges) ++ codes "\n")))
sizes_are lib components edges one two =
    sizes_pieces (codes "components ") (decimal (length lib.components)) (codes "\nedges ") (decimal (length lib.edges)) (codes "\n")
    ∙ ap (λ (rows : List Component). codes "components " ++ (decimal (length rows) ++ (codes "\nedges " ++ (decimal (length lib.edges) ++ codes "\n")))) (sym one)
    ∙ ap (λ (rows : List Edge). codes "components " ++ (decimal (length components) ++ (codes "\nedges " ++ (decimal (length rows) ++ codes "\n")))) (sym two)
