-- How many base rows there are, and over which variables.
use Rattle.std.proofs.Common.{◌≡◌, ℕ, zero, suc, ◌+◌, ◌*◌, ◌^◌, ◌<◌, ◌≤◌, ℤ, pos, neg_ℤ, Bool, ◌&&◌, true, false, cond, List, [], ◌∷◌, ◌++◌, map, filter, flat_map, length, nat_lt, nat_eq, Option, Some, None, refl, ap, arith}
use Rattle.std.specs.List.{All, AllByRecursion, enumerate_from, range_with_len}
use Rattle.std.proofs.lemmas.List.{length-map, length-append}
use Rattle.std.proofs.Math.Nat.{mul-le-mul_right}
use Rattle.std.proofs.lemmas.List.Elements.{All-from_recursion}
use Rattle.arch_model.specs.declared.template.Component.{Component}
use Rattle.arch_model.specs.declared.template.Edge.{Edge}
use Rattle.arch_model.specs.declared.library.Pattern.{Pattern}
use Rattle.arch_model.specs.declared.library.Pattern.TheVariants.{Count, InDegree, OutDegree, InNeedsOut, Exclusive, Implies, Forbid, TotalSupply, LocalSupply, CostCap}
use Rattle.arch_model.specs.declared.library.Requirement.{Requirement}
use Rattle.arch_model.specs.Parts.{LibraryParts}
use Rattle.arch_model.specs.Library.{IsLibrary}
use Rattle.arch_model.specs.Member.{member_count}
use Rattle.arch_model.specs.Pattern.{is_instance}
use Rattle.arch_model.specs.Template.{instances_of}
use Rattle.rows.specs.declared.row.Term.{Term}
use Rattle.rows.specs.Parts.{RowParts}
use Rattle.rows.specs.Row.{term, collected, coef_at, is_nonzero, IsRowBelow}
use Rattle.rows.specs.BaseRows.{plus, minus, member_row, at_least, at_most, edge_variables, in_variables, out_variables, degree_rows, in_needs_out_rows, exclusive_rows, edge_rows, requirement_rows, pattern_rows, base_rows_of, local_supply_row, cost_terms}
use Rattle.rows.proofs.EdgeRows.{rows_of_edge}
use Rattle.binary_program.proofs.Counted.{all_append, all_flat, all_map, all_any}

-- collected terms are over the variables below n
kept : (p : Term → Bool) (P : Term → Type 0) (terms : List Term) → AllByRecursion P terms → AllByRecursion P (filter p terms)
kept p P [] all = tt
kept p P (t ∷ terms) all = joined (p t) (kept p P terms all.1) where
  joined : (b : Bool) → AllByRecursion P (filter p terms) → AllByRecursion P (cond b (t ∷ filter p terms) (filter p terms))
  joined true rest = (all.0, rest)
  joined false rest = rest

each_below : (coef : ℕ → ℤ) (a k n : ℕ) → a + k ≤ n → AllByRecursion (λ (t : Term). t.var.0 < n) (map (λ v. term v (coef v)) (range_with_len a k))
each_below coef a zero n h = tt
each_below coef a (suc k) n h =
    let here : a < n = omega arith in
    let further : (a + 1) + k ≤ n = omega arith in
    (here, each_below coef (a + 1) k n further)

-- any row over a library's members is
pub is_row_below : (lib : LibraryParts) (terms : List Term) (least : ℤ) → IsRowBelow (member_count lib) (member_row lib terms least)
is_row_below lib terms least =
    let few : 0 + member_count lib ≤ member_count lib = omega arith in
    All-from_recursion (λ (t : Term). t.var.0 < member_count lib) (collected (member_count lib) terms)
    (kept (λ t. is_nonzero t.coef) (λ (t : Term). t.var.0 < member_count lib) (map (λ v. term v (coef_at terms v)) (range_with_len 0 (member_count lib))) (each_below (coef_at terms) 0 (member_count lib) (member_count lib) few))

abbrev AllBelow : LibraryParts → List RowParts → Type 0
AllBelow lib rows = AllByRecursion (IsRowBelow (member_count lib)) rows

joined_below : (lib : LibraryParts) (xs ys : List RowParts) → AllBelow lib xs → AllBelow lib ys → AllBelow lib (xs ++ ys)
joined_below lib xs ys left right = (all_append (IsRowBelow (member_count lib)) xs ys).1 (left, right)

flat_below : {X : Type 0} (lib : LibraryParts) (f : X → List RowParts) → ((x : X) → AllBelow lib (f x)) → (xs : List X) → AllBelow lib (flat_map f xs)
flat_below lib f each xs = (all_flat (IsRowBelow (member_count lib)) f xs).1 (all_any (λ x. AllBelow lib (f x)) each xs)

map_below : {X : Type 0} (lib : LibraryParts) (f : X → RowParts) → ((x : X) → IsRowBelow (member_count lib) (f x)) → (xs : List X) → AllBelow lib (map f xs)
map_below lib f each xs = (all_map (IsRowBelow (member_count lib)) f xs).1 (all_any (λ x. IsRowBelow (member_count lib) (f x)) each xs)

if_below : (lib : LibraryParts) (b : Bool) (rows : List RowParts) → AllBelow lib rows → AllBelow lib (cond b rows [])
if_below lib true rows all = all
if_below lib false rows all = tt

at_least_below : (lib : LibraryParts) (min : ℕ) (row : RowParts) → IsRowBelow (member_count lib) row → AllBelow lib (at_least min row)
at_least_below lib min row below = if_below lib (nat_lt 0 min) (row ∷ []) (below, tt)

at_most_below : (lib : LibraryParts) (max : Option ℕ) (vs : List ℕ) → AllBelow lib (at_most lib max vs)
at_most_below lib None vs = tt
at_most_below lib (Some m) vs = (is_row_below lib (map minus vs) (neg_ℤ (pos m)), tt)

bounds_below : (lib : LibraryParts) (min : ℕ) (max : Option ℕ) (row : RowParts) (vs : List ℕ) → IsRowBelow (member_count lib) row → AllBelow lib (at_least min row ++ at_most lib max vs)
bounds_below lib min max row vs below = joined_below lib (at_least min row) (at_most lib max vs) (at_least_below lib min row below) (at_most_below lib max vs)

abbrev zero_row : LibraryParts → List Term → RowParts
zero_row lib terms = member_row lib terms (pos 0)

pattern_below : (lib : LibraryParts) (pattern : Pattern) → AllBelow lib (pattern_rows lib pattern)
pattern_below lib (Count t min max) = bounds_below lib min max (member_row lib (map plus (instances_of lib.components t)) (pos min)) (instances_of lib.components t) (is_row_below lib _ (pos min))
pattern_below lib (InDegree t from min max) =
    flat_below lib (λ i. degree_rows lib i (in_variables lib from i) min max)
    (λ i. bounds_below lib min max (zero_row lib (map plus (in_variables lib from i) ++ term i (neg_ℤ (pos min)) ∷ [])) (in_variables lib from i) (is_row_below lib _ (pos 0))) (instances_of lib.components t)
pattern_below lib (OutDegree t to min max) =
    flat_below lib (λ i. degree_rows lib i (out_variables lib to i) min max)
    (λ i. bounds_below lib min max (zero_row lib (map plus (out_variables lib to i) ++ term i (neg_ℤ (pos min)) ∷ [])) (out_variables lib to i) (is_row_below lib _ (pos 0))) (instances_of lib.components t)
pattern_below lib (InNeedsOut t from to) =
    flat_below lib (λ i. in_needs_out_rows lib i from to)
    (λ i. map_below lib (λ e. zero_row lib (map plus (out_variables lib to i) ++ minus e ∷ [])) (λ e. is_row_below lib (map plus (out_variables lib to i) ++ minus e ∷ []) (pos 0)) (in_variables lib from i)) (instances_of lib.components t)
pattern_below lib (Exclusive t a b) =
    flat_below lib (λ i. exclusive_rows lib i a b)
    (λ i.
    let vs = in_variables lib b i in
    let f = neg_ℤ (pos (length vs)) in
    if_below lib (nat_lt 0 (length vs)) (map (λ e. member_row lib (term e f ∷ map minus vs) f) (in_variables lib a i))
    (map_below lib (λ e. member_row lib (term e f ∷ map minus vs) f) (λ e. is_row_below lib (term e f ∷ map minus vs) f) (in_variables lib a i))) (instances_of lib.components t)
pattern_below lib (Implies a b) =
    map_below lib (λ i. zero_row lib (map plus (instances_of lib.components b) ++ minus i ∷ [])) (λ i. is_row_below lib (map plus (instances_of lib.components b) ++ minus i ∷ []) (pos 0)) (instances_of lib.components a)
pattern_below lib (Forbid tail head) =
    map_below lib (λ e. zero_row lib (minus e ∷ [])) (λ e. is_row_below lib (minus e ∷ []) (pos 0)) (edge_variables lib (λ e. nat_eq e.tail.0 tail.0 && nat_eq e.head.0 head.0))
pattern_below lib TotalSupply = (is_row_below lib _ (pos 0), tt)
pattern_below lib (LocalSupply t) = map_below lib (local_supply_row lib) (λ i. is_row_below lib _ (pos 0)) (instances_of lib.components t)
pattern_below lib (CostCap max) = (is_row_below lib (cost_terms lib) (neg_ℤ (pos max)), tt)

edge_below : (lib : LibraryParts) (p : ℕ × Edge) → AllBelow lib (rows_of_edge lib p)
edge_below lib p = (is_row_below lib (plus p.1.tail.0 ∷ minus p.0 ∷ []) (pos 0), (is_row_below lib (plus p.1.head.0 ∷ minus p.0 ∷ []) (pos 0), tt))

pub base_rows_below : (lib : LibraryParts) → All (IsRowBelow (member_count lib)) (base_rows_of lib)
unfolding base_rows_of
base_rows_below lib =
    All-from_recursion (IsRowBelow (member_count lib)) (base_rows_of lib)
    (joined_below lib (edge_rows lib) (requirement_rows lib ++ flat_map (pattern_rows lib) lib.patterns)
    (flat_below lib (rows_of_edge lib) (edge_below lib) (enumerate_from (length lib.components) lib.edges))
    (joined_below lib (requirement_rows lib) (flat_map (pattern_rows lib) lib.patterns)
    (map_below lib (λ (r : Requirement). member_row lib (plus r.sink.0 ∷ []) (pos 1)) (λ r. is_row_below lib (plus r.sink.0 ∷ []) (pos 1)) lib.requirements)
    (flat_below lib (pattern_rows lib) (pattern_below lib) lib.patterns)))

-- a library has few base rows
length-flat_map-le : {X Y : Type 0} (m : ℕ) (f : X → List Y) (xs : List X) → ((x : X) → length (f x) ≤ m) → length (flat_map f xs) ≤ length xs * m
length-flat_map-le m f [] each = omega arith
length-flat_map-le m f (x ∷ xs) each =
    let here = each x in
    let rest = length-flat_map-le m f xs each in
    omega (arith, length-append (f x) (flat_map f xs), here, rest)

length-enumerate : {X : Type 0} (b : ℕ) (xs : List X) → length (enumerate_from b xs) ≡ length xs
length-enumerate b [] = refl
length-enumerate b (x ∷ xs) = ap suc (length-enumerate (b + 1) xs)

length-kept-le : {X : Type 0} (p : X → Bool) (xs : List X) → length (filter p xs) ≤ length xs
length-kept-le p [] = omega arith
length-kept-le p (x ∷ xs) = joined (p x) (length-kept-le p xs) where
  joined : (b : Bool) → length (filter p xs) ≤ length xs → length (cond b (x ∷ filter p xs) (filter p xs)) ≤ length (x ∷ xs)
  joined true h = omega arith
  joined false h = omega arith

few_instances : (lib : LibraryParts) (t : ℕ) → length (instances_of lib.components t) ≤ length lib.components
few_instances lib t =
    let all = length-kept-le (λ (p : ℕ × Component). nat_eq p.1.of t) (enumerate_from 0 lib.components) in
    omega (arith, all, length-enumerate 0 lib.components, length-map (filter (λ (p : ℕ × Component). nat_eq p.1.of t) (enumerate_from 0 lib.components)) (λ (p : ℕ × Component). p.0))

few_variables : (lib : LibraryParts) (test : Edge → Bool) → length (edge_variables lib test) ≤ length lib.edges
few_variables lib test =
    let all = length-kept-le (λ (p : ℕ × Edge). test p.1) (enumerate_from (length lib.components) lib.edges) in
    omega (arith, all, length-enumerate (length lib.components) lib.edges, length-map (filter (λ (p : ℕ × Edge). test p.1) (enumerate_from (length lib.components) lib.edges)) (λ (p : ℕ × Edge). p.0))

few_if : (b : Bool) (rows : List RowParts) (m : ℕ) → length rows ≤ m → length (cond b rows []) ≤ m
few_if true rows m h = h
few_if false rows m h = omega arith

few_at_most : (lib : LibraryParts) (max : Option ℕ) (vs : List ℕ) → length (at_most lib max vs) ≤ 1
few_at_most lib None vs = omega arith
few_at_most lib (Some m) vs = omega arith

few_bounds : (lib : LibraryParts) (min : ℕ) (max : Option ℕ) (row : RowParts) (vs : List ℕ) → length (at_least min row ++ at_most lib max vs) ≤ 2
few_bounds lib min max row vs =
    let one = few_if (nat_lt 0 min) (row ∷ []) 1 (omega arith) in
    let other = few_at_most lib max vs in
    omega (arith, length-append (at_least min row) (at_most lib max vs), one, other)

few_mapped : {X : Type 0} (f : X → RowParts) (xs : List X) (m : ℕ) → length xs ≤ m → length (map f xs) ≤ m
few_mapped f xs m h = omega (arith, length-map xs f)

-- at most 512 for each of at most 64 instances
few_flat : (f : ℕ → List RowParts) (xs : List ℕ) (m : ℕ) → length xs ≤ 64 → m ≤ 512 → ((x : ℕ) → length (f x) ≤ m) → length (flat_map f xs) ≤ 2 ^ 15
few_flat f xs m few small each =
    let all = length-flat_map-le 512 f xs (λ x. let h = each x in omega arith) in
    let most : length xs * 512 ≤ 64 * 512 = mul-le-mul_right 512 few in
    omega (arith, all, most)

module _ (lib : LibraryParts) (comps : length lib.components ≤ 64) (edges : length lib.edges ≤ 512) where
  instances : (t : ℕ) → length (instances_of lib.components t) ≤ 64
  instances t = let h = few_instances lib t in omega arith

  variables : (test : Edge → Bool) → length (edge_variables lib test) ≤ 512
  variables test = let h = few_variables lib test in omega arith

  few_pattern_rows : (pattern : Pattern) → length (pattern_rows lib pattern) ≤ 2 ^ 15
  few_pattern_rows (Count t min max) =
      let h = few_bounds lib min max (member_row lib (map plus (instances_of lib.components t)) (pos min)) (instances_of lib.components t) in
      omega (arith, h)
  few_pattern_rows (InDegree t from min max) = few_flat (λ i. degree_rows lib i (in_variables lib from i) min max) (instances_of lib.components t) 2 (instances t) (omega arith) (λ i. few_bounds lib min max _ (in_variables lib from i))
  few_pattern_rows (OutDegree t to min max) = few_flat (λ i. degree_rows lib i (out_variables lib to i) min max) (instances_of lib.components t) 2 (instances t) (omega arith) (λ i. few_bounds lib min max _ (out_variables lib to i))
  few_pattern_rows (InNeedsOut t from to) = few_flat (λ i. in_needs_out_rows lib i from to) (instances_of lib.components t) 512 (instances t) (omega arith) (λ i. few_mapped _ (in_variables lib from i) 512 (variables (λ e. nat_eq e.head.0 i && is_instance lib from e.tail.0)))
  few_pattern_rows (Exclusive t a b) = few_flat (λ i. exclusive_rows lib i a b) (instances_of lib.components t) 512 (instances t) (omega arith) (λ i. few_if (nat_lt 0 (length (in_variables lib b i))) _ 512 (few_mapped _ (in_variables lib a i) 512 (variables (λ e. nat_eq e.head.0 i && is_instance lib a e.tail.0))))
  few_pattern_rows (Implies a b) = few_mapped _ (instances_of lib.components a) (2 ^ 15) (let h = instances a in omega arith)
  few_pattern_rows (Forbid tail head) =
      let h = variables (λ e. nat_eq e.tail.0 tail.0 && nat_eq e.head.0 head.0) in
      few_mapped _ (edge_variables lib (λ e. nat_eq e.tail.0 tail.0 && nat_eq e.head.0 head.0)) (2 ^ 15) (omega arith)
  few_pattern_rows TotalSupply = omega arith
  few_pattern_rows (LocalSupply t) = few_mapped _ (instances_of lib.components t) (2 ^ 15) (let h = instances t in omega arith)
  few_pattern_rows (CostCap max) = omega arith

  few_edge_rows : length (edge_rows lib) ≤ 512 * 2
  few_edge_rows =
      let all = length-flat_map-le 2 (rows_of_edge lib) (enumerate_from (length lib.components) lib.edges) (λ p. omega arith) in
      omega (arith, all, length-enumerate (length lib.components) lib.edges)

pub few_base_rows : (lib : LibraryParts) → IsLibrary lib → length (base_rows_of lib) < 2 ^ 32
unfolding base_rows_of
few_base_rows lib right =
    let comps : length lib.components ≤ 64 = omega (arith, right.few_components) in
    let edges : length lib.edges ≤ 512 = omega (arith, right.few_edges) in
    let first = few_edge_rows lib comps edges in
    let second = few_mapped (λ (r : Requirement). member_row lib (plus r.sink.0 ∷ []) (pos 1)) lib.requirements 16 right.few_requirements in
    let third = length-flat_map-le (2 ^ 15) (pattern_rows lib) lib.patterns (few_pattern_rows lib comps edges) in
    let most : length lib.patterns * 2 ^ 15 ≤ 200 * 2 ^ 15 = mul-le-mul_right (2 ^ 15) right.few_patterns in
    omega (arith, length-append (edge_rows lib) (requirement_rows lib ++ flat_map (pattern_rows lib) lib.patterns), length-append (requirement_rows lib) (flat_map (pattern_rows lib) lib.patterns), first, second, third, most)
