-- Variables and terms of a row, as they are built.
use Rattle.std.proofs.Common.{◌≡◌, ℕ, ◌+◌, ◌^◌, ◌<◌, ◌≤◌, ℤ, pos, neg_ℤ, ◌-ℤ◌, to_z, of_z, Bool, not, nat_eq, List, [], ◌∷◌, ◌++◌, map, filter, length, get_or, take, refl, sym, ap, subst, ◌∙◌, arith}
use Rattle.std.specs.Int.{w128}
use Rattle.std.specs.List.{All, enumerate_from}
use Rattle.std.proofs.lemmas.List.{take_all, length-map, length-append}
use Rattle.std.proofs.lemmas.Int.{ints}
use Rattle.std.proofs.lemmas.List.Elements.{All-map, All-filter}
use Rattle.std.proofs.lemmas.List.FromFn.{length-enumerate_from, get_or-enumerate_from}
use Rattle.std.proofs.lemmas.List.Filters.{length-filter_both}
use Rattle.arch_model.specs.declared.sets.VarId.{VarId}
use Rattle.arch_model.specs.declared.template.Component.{Component}
use Rattle.arch_model.specs.declared.template.Edge.{Edge}
use Rattle.arch_model.specs.Parts.{LibraryParts}
use Rattle.arch_model.specs.Library.{IsLibrary}
use Rattle.arch_model.specs.Member.{member_count}
use Rattle.arch_model.specs.Pattern.{at_component}
use Rattle.arch_model.proofs.Ranges.{blank_component}
use Rattle.arch_model.proofs.RowReads.{supplies_small, demands_small}
use Rattle.rows.specs.declared.row.Term.{Term}
use Rattle.rows.specs.Row.{term}
use Rattle.rows.specs.BaseRows.{costs_of, member_cost_of, cost_terms}
use Rattle.binary_program.specs.declared.terms.EdgeKind.{EdgeKind}
use Rattle.binary_program.specs.Inner.Terms.{numbers_of, AreVariables, is_of_kind}
use Rattle.binary_program.proofs.BuildLists.{picked, picked_all, numbered_more}

-- a variable from its number
abbrev pub var : ℕ → VarId
var n = record { 0 = n }

abbrev pub var_of : {X : Type 0} → ℕ × X → VarId
var_of p = var p.0

-- whether a component is of a type
abbrev pub of_type : ℕ → ℕ × Component → Bool
of_type t p = nat_eq p.1.of t

-- the numbers of the variables of the items that pass
numbers-var : {X : Type 0} (ps : List (ℕ × X)) → numbers_of (map var_of ps) ≡ map (λ p. p.0) ps
numbers-var [] = refl
numbers-var (p ∷ ps) = ap (λ l. p.0 ∷ l) (numbers-var ps)

pub numbers-picked : {X : Type 0} (q : ℕ × X → Bool) (k : ℕ) (xs : List X) → numbers_of (picked q var_of k xs) ≡ map (λ p. p.0) (filter q (enumerate_from k xs))
numbers-picked q k xs = numbers-var (filter q (enumerate_from k xs))

-- they are few, and below the number after the last item
numbered_below : {X : Type 0} (k n : ℕ) (xs : List X) → k + length xs ≤ n → All (λ p. p.0 < n) (enumerate_from k xs)
numbered_below k n xs room = λ i p short.
    let here : i < length xs = omega (arith, short, length-enumerate_from k xs) in
    rw (get_or-enumerate_from k xs i p here) (omega arith)

pub picked_variables : {X : Type 0} (q : ℕ × X → Bool) (k n m : ℕ) (xs : List X) → k + length xs ≤ n → length xs ≤ m → AreVariables n m (picked q var_of k xs)
picked_variables q k n m xs room few = record {
  few =
      let kept = length-filter_both q (λ p. not (q p)) (λ p. refl) (enumerate_from k xs) in
      omega (arith, length-map (filter q (enumerate_from k xs)) var_of, kept, length-enumerate_from k xs);
  below = All-map (λ v. v.0 < n) var_of (filter q (enumerate_from k xs)) (All-filter q (λ p. p.0 < n) (enumerate_from k xs) (numbered_below k n xs room));
}

-- the same at the end of a loop over a slice that a library lends
pub numbers_all : {X : Type 0} (q : ℕ × X → Bool) (k : ℕ) (xs ys : List X) (i : ℕ) (vars : List VarId) → xs ≡ ys → length xs ≤ i → vars ≡ picked q var_of k (take i xs)
    → numbers_of vars ≡ map (λ p. p.0) (filter q (enumerate_from k ys))
numbers_all q k xs ys i vars same past made = ap numbers_of (made ∙ picked_all q var_of k xs ys i same past) ∙ numbers-picked q k ys

pub variables_all : {X : Type 0} (q : ℕ × X → Bool) (k n m : ℕ) (xs ys : List X) (i : ℕ) (vars : List VarId) → xs ≡ ys → length xs ≤ i → vars ≡ picked q var_of k (take i xs)
    → k + length ys ≤ n → length ys ≤ m → AreVariables n m vars
variables_all q k n m xs ys i vars same past made room few = subst (AreVariables n m) (sym (made ∙ picked_all q var_of k xs ys i same past)) (picked_variables q k n m ys room few)

-- whether an edge is of a kind, and a variable whose number is known
abbrev pub of_kind : LibraryParts → EdgeKind → ℕ × Edge → Bool
of_kind lib kind p = is_of_kind lib kind p.1

pub var_is : (v : VarId) (n : ℕ) → v.0 ≡ n → v ≡ var n
var_is v n e i = record { 0 = e i }

-- a term with this coefficient at each of some variables
abbrev pub at_coef : ℤ → ℕ → Term
at_coef a v = term v a

abbrev pub blank_var : VarId
blank_var = var 0

abbrev pub number : VarId → ℕ
number v = v.0

-- minus what a member costs
abbrev pub minus_cost : ℕ × ℕ → Term
minus_cost p = term p.0 (neg_ℤ (pos p.1))

-- a component's supply less its demand
abbrev pub balance : ℕ × Component → Term
balance p = term p.0 (pos p.1.supply -ℤ pos p.1.demand)

-- what the members cost, one after another
pub length-costs_of : (lib : LibraryParts) → length (costs_of lib) ≡ member_count lib
length-costs_of lib = grind (arith, length-append {A = ℕ}, length-map lib.components (λ (c : Component). c.cost), length-map lib.edges (λ (e : Edge). e.cost))

pub costs_more : (lib : LibraryParts) (v count n : ℕ) (t : Term) (before after : List Term) → count ≡ member_count lib → v < count → n ≡ member_cost_of lib v → t ≡ term v (neg_ℤ (pos n))
    → before ≡ map minus_cost (enumerate_from 0 (take v (costs_of lib))) → after ≡ before ++ t ∷ [] → after ≡ map minus_cost (enumerate_from 0 (take (v + 1) (costs_of lib)))
costs_more lib v count n t before after all short cost is so_far step =
    let here : v < length (costs_of lib) = omega (arith, length-costs_of lib) in
    numbered_more minus_cost 0 (costs_of lib) v v 0 [] before after here (omega arith) so_far (step ∙ ap (λ u. before ++ u ∷ []) (is ∙ ap (λ m. term v (neg_ℤ (pos m))) cost))

pub costs_all : (lib : LibraryParts) (v count : ℕ) (items : List Term) → count ≡ member_count lib → count ≤ v → items ≡ map minus_cost (enumerate_from 0 (take v (costs_of lib))) → items ≡ cost_terms lib
costs_all lib v count items all past made =
    let far : length (costs_of lib) ≤ v = omega (arith, length-costs_of lib) in
    made ∙ ap (λ l. map minus_cost (enumerate_from 0 l)) (take_all v (costs_of lib) far)

-- a difference of two small numbers, as the code has it
pub difference_is : (m n : ℕ) → m ≤ 10 ^ 12 → n ≤ 10 ^ 12 → to_z w128 (of_z w128 (to_z w128 m -ℤ to_z w128 n)) ≡ pos m -ℤ pos n
difference_is m n h k = omega (arith, ints)

pub balances_more : (lib : LibraryParts) (xs : List Component) (i : ℕ) (before after : List Term) → IsLibrary lib → xs ≡ lib.components → i < length xs
    → before ≡ map balance (enumerate_from 0 (take i xs))
    → after ≡ before ++ term i (to_z w128 (of_z w128 (to_z w128 (get_or xs i blank_component).supply -ℤ to_z w128 (get_or xs i blank_component).demand))) ∷ []
    → after ≡ map balance (enumerate_from 0 (take (i + 1) xs))
balances_more lib xs i before after right same here so_far step =
    let supplies : All (λ c. c.supply ≤ 10 ^ 12) xs = subst (All (λ (c : Component). c.supply ≤ 10 ^ 12)) (sym same) (supplies_small lib right) in
    let demands : All (λ c. c.demand ≤ 10 ^ 12) xs = subst (All (λ (c : Component). c.demand ≤ 10 ^ 12)) (sym same) (demands_small lib right) in
    numbered_more balance 0 xs i i blank_component [] before after here (omega arith) so_far
    (step ∙ ap (λ z. before ++ term i z ∷ []) (difference_is (get_or xs i blank_component).supply (get_or xs i blank_component).demand (supplies i blank_component here) (demands i blank_component here)))

-- the edges into a component and out of it, and what each brings to it or asks of it
abbrev pub into : ℕ → ℕ × Edge → Bool
into i p = nat_eq p.1.head.0 i

abbrev pub out_of : ℕ → ℕ × Edge → Bool
out_of i p = nat_eq p.1.tail.0 i

abbrev pub brought : LibraryParts → ℕ × Edge → Term
brought lib p = term p.0 (pos (at_component lib (λ c. c.supply) p.1.tail.0))

abbrev pub asked : LibraryParts → ℕ × Edge → Term
asked lib p = term p.0 (neg_ℤ (pos (at_component lib (λ c. c.demand) p.1.head.0)))

-- a small number, as the code has it
pub plain_of : (n : ℕ) → n ≤ 10 ^ 12 → to_z w128 n ≡ pos n
plain_of n h = omega (arith, ints)

-- a term from what its parts are
abbrev pub at_var : VarId → ℤ → Term
at_var v a = record { var = v; coef = a }

pub term_is : (v : VarId) (a b : ℤ) (n : ℕ) → v.0 ≡ n → a ≡ b → at_var v a ≡ term n b
term_is v a b n e f i = record { var = record { 0 = e i }; coef = f i }

pub minus_times_is : (t : Term) (v w m n : ℕ) → t ≡ term v (neg_ℤ (pos m)) → v ≡ w → m ≡ n → t ≡ term w (neg_ℤ (pos n))
minus_times_is t v w m n is e f = is ∙ ap (λ u. term u (neg_ℤ (pos m))) e ∙ ap (λ k. term w (neg_ℤ (pos k))) f
