-- The base rows of a library: its edges, requirements and patterns as rows over the members, numbered in this order.
use Rattle.std.specs.Prelude.{ℕ, ℤ, pos, negsuc, ◌-ℤ◌, neg_ℤ, Bool, ◌&&◌, nat_eq, nat_lt, List, [], ◌∷◌, ◌++◌, map, filter, length, slice_index, Option, option_map, option_to_list, if◌then◌else◌}
use Rattle.std.specs.List.{flat_map, enumerate_from}
use Rattle.arch_model.specs.declared.template.Edge.{Edge}
use Rattle.arch_model.specs.declared.library.Pattern.{Pattern}
use Rattle.arch_model.specs.declared.library.Pattern.TheVariants.{Count, InDegree, OutDegree, InNeedsOut, Exclusive, Implies, Forbid, TotalSupply, LocalSupply, CostCap}
use Rattle.arch_model.specs.Parts.{LibraryParts}
use Rattle.arch_model.specs.Member.{member_count}
use Rattle.arch_model.specs.Template.{instances_of}
use Rattle.arch_model.specs.Pattern.{is_instance, at_component}
use Rattle.rows.specs.declared.row.Term.{Term}
use Rattle.rows.specs.Parts.{RowParts}
use Rattle.rows.specs.Row.{term, row_of}

-- a term with coefficient 1
abbrev pub plus : ℕ → Term
plus v = term v (pos 1)

-- a term with coefficient -1
abbrev pub minus : ℕ → Term
minus v = term v (negsuc 0)

-- the row of some terms over a library's members
abbrev pub member_row : LibraryParts → List Term → ℤ → RowParts
member_row lib terms least = row_of (member_count lib) terms least

-- the edges that pass a test, with their variables
abbrev pub chosen_edges : LibraryParts → (Edge → Bool) → List (ℕ × Edge)
chosen_edges lib test = filter (λ p. test p.1) (enumerate_from (length lib.components) lib.edges)

-- the variables of the edges that pass a test
abbrev pub edge_variables : LibraryParts → (Edge → Bool) → List ℕ
edge_variables lib test = map (λ p. p.0) (chosen_edges lib test)

-- the variables of the edges into i from instances of type t
abbrev pub in_variables : LibraryParts → ℕ → ℕ → List ℕ
in_variables lib t i = edge_variables lib (λ e. nat_eq e.head.0 i && is_instance lib t e.tail.0)

-- the variables of the edges from i to instances of type t
abbrev pub out_variables : LibraryParts → ℕ → ℕ → List ℕ
out_variables lib t i = edge_variables lib (λ e. nat_eq e.tail.0 i && is_instance lib t e.head.0)

-- what each member costs, in member order and in cost units
abbrev pub costs_of : LibraryParts → List ℕ
costs_of lib = map (λ c. c.cost) lib.components ++ map (λ e. e.cost) lib.edges

-- what member v costs, in cost units
abbrev pub member_cost_of : LibraryParts → ℕ → ℕ
member_cost_of lib v = slice_index (costs_of lib) v

-- minus the cost of all present members, in cost units
abbrev pub cost_terms : LibraryParts → List Term
cost_terms lib = map (λ p. term p.0 (neg_ℤ (pos p.1))) (enumerate_from 0 (costs_of lib))

-- the cost row for a bound in cost units: the cost is at most the bound less 1
abbrev pub cost_row_of : LibraryParts → ℕ → RowParts
cost_row_of lib u = member_row lib (cost_terms lib) (pos 1 -ℤ pos u)

-- at least min where min isn't 0: the row stands, or none
abbrev pub at_least : ℕ → RowParts → List RowParts
at_least min row = if nat_lt 0 min then row ∷ [] else []

-- at most max where max is given: the sum over some variables
abbrev pub at_most : LibraryParts → Option ℕ → List ℕ → List RowParts
at_most lib max vs = option_to_list (option_map (λ m. member_row lib (map minus vs) (neg_ℤ (pos m))) max)

-- an edge has its ends: x_tail - x_e >= 0 and x_head - x_e >= 0
abbrev pub edge_rows : LibraryParts → List RowParts
edge_rows lib =
    flat_map (λ p. member_row lib (plus p.1.tail.0 ∷ minus p.0 ∷ []) (pos 0) ∷ member_row lib (plus p.1.head.0 ∷ minus p.0 ∷ []) (pos 0) ∷ [])
    (enumerate_from (length lib.components) lib.edges)

-- a required sink is present: x_sink >= 1
abbrev pub requirement_rows : LibraryParts → List RowParts
requirement_rows lib = map (λ r. member_row lib (plus r.sink.0 ∷ []) (pos 1)) lib.requirements

-- sum x >= min over the instances, then -sum x >= -max
abbrev pub count_rows : LibraryParts → ℕ → ℕ → Option ℕ → List RowParts
count_rows lib t min max =
    let vs = instances_of lib.components t in
    at_least min (member_row lib (map plus vs) (pos min)) ++ at_most lib max vs

-- over the named edges of instance i: sum x_e - min*x_i >= 0, then -sum x_e >= -max
abbrev pub degree_rows : LibraryParts → ℕ → List ℕ → ℕ → Option ℕ → List RowParts
degree_rows lib i vs min max =
    at_least min (member_row lib (map plus vs ++ term i (neg_ℤ (pos min)) ∷ []) (pos 0)) ++ at_most lib max vs

-- for each edge e into instance i from an instance of `from`: sum x_g - x_e >= 0 over its edges g to instances of `to`
abbrev pub in_needs_out_rows : LibraryParts → ℕ → ℕ → ℕ → List RowParts
in_needs_out_rows lib i from to =
    map (λ e. member_row lib (map plus (out_variables lib to i) ++ minus e ∷ []) (pos 0)) (in_variables lib from i)

-- at instance i with f > 0 edges from b, for each edge e from a: -f*x_e - sum of the edges from b >= -f
abbrev pub exclusive_rows : LibraryParts → ℕ → ℕ → ℕ → List RowParts
exclusive_rows lib i a b =
    let vs = in_variables lib b i in
    let f = neg_ℤ (pos (length vs)) in
    if nat_lt 0 (length vs) then map (λ e. member_row lib (term e f ∷ map minus vs) f) (in_variables lib a i) else []

-- for each instance i of a: sum over the instances of b - x_i >= 0
abbrev pub implies_rows : LibraryParts → ℕ → ℕ → List RowParts
implies_rows lib a b =
    map (λ i. member_row lib (map plus (instances_of lib.components b) ++ minus i ∷ []) (pos 0)) (instances_of lib.components a)

-- where the template has the edge: -x_e >= 0
abbrev pub forbid_rows : LibraryParts → ℕ → ℕ → List RowParts
forbid_rows lib tail head =
    map (λ e. member_row lib (minus e ∷ []) (pos 0)) (edge_variables lib (λ e. nat_eq e.tail.0 tail && nat_eq e.head.0 head))

-- sum (supply - demand)*x >= 0 over the components
abbrev pub total_supply_rows : LibraryParts → List RowParts
total_supply_rows lib =
    member_row lib (map (λ p. term p.0 (pos p.1.supply -ℤ pos p.1.demand)) (enumerate_from 0 lib.components)) (pos 0) ∷ []

-- at instance i: sum supply(tail)*x_e over its in-edges - sum demand(head)*x_e over its out-edges >= 0
abbrev pub local_supply_row : LibraryParts → ℕ → RowParts
local_supply_row lib i =
    member_row lib
    (map (λ p. term p.0 (pos (at_component lib (λ c. c.supply) p.1.tail.0))) (chosen_edges lib (λ e. nat_eq e.head.0 i))
    ++ map (λ p. term p.0 (neg_ℤ (pos (at_component lib (λ c. c.demand) p.1.head.0)))) (chosen_edges lib (λ e. nat_eq e.tail.0 i)))
    (pos 0)

-- the rows of a pattern, its instances in component order and its edges in edge order
abbrev pub pattern_rows : LibraryParts → Pattern → List RowParts
pattern_rows lib (Count t min max) = count_rows lib t min max
pattern_rows lib (InDegree t from min max) = flat_map (λ i. degree_rows lib i (in_variables lib from i) min max) (instances_of lib.components t)
pattern_rows lib (OutDegree t to min max) = flat_map (λ i. degree_rows lib i (out_variables lib to i) min max) (instances_of lib.components t)
pattern_rows lib (InNeedsOut t from to) = flat_map (λ i. in_needs_out_rows lib i from to) (instances_of lib.components t)
pattern_rows lib (Exclusive t a b) = flat_map (λ i. exclusive_rows lib i a b) (instances_of lib.components t)
pattern_rows lib (Implies a b) = implies_rows lib a b
pattern_rows lib (Forbid tail head) = forbid_rows lib tail.0 head.0
pattern_rows lib TotalSupply = total_supply_rows lib
pattern_rows lib (LocalSupply t) = map (local_supply_row lib) (instances_of lib.components t)
-- the cost is at most max: -sum cost*x >= -max
pattern_rows lib (CostCap max) = member_row lib (cost_terms lib) (neg_ℤ (pos max)) ∷ []

-- first the edges' rows, then the requirements', then the patterns', each in order
unfoldable pub base_rows_of : LibraryParts → List RowParts
base_rows_of lib = edge_rows lib ++ (requirement_rows lib ++ flat_map (pattern_rows lib) lib.patterns)
