-- The terms of rows are few, with small coefficients, over a library's members.
use Rattle.std.proofs.Common.{◌≡◌, ℕ, zero, suc, ◌+◌, ◌^◌, ◌<◌, ◌≤◌, ℤ, pos, negsuc, neg_ℤ, ◌-ℤ◌, unsigned_abs, Bool, not, List, [], ◌∷◌, ◌++◌, map, filter, length, get_or, refl, sym, ap, subst, ◌∙◌, arith}
use Rattle.std.specs.List.{All, enumerate_from}
use Rattle.std.proofs.lemmas.List.{length-map, length-append}
use Rattle.std.proofs.lemmas.List.Elements.{All-nil, All-cons, All-append, All-map, All-filter, All-from_get_or}
use Rattle.std.proofs.lemmas.List.Filters.{length-filter_both}
use Rattle.std.proofs.lemmas.List.FromFn.{length-enumerate_from, get_or-enumerate_from}
use Rattle.arch_model.specs.declared.sets.VarId.{VarId}
use Rattle.arch_model.specs.declared.template.Component.{Component}
use Rattle.arch_model.specs.declared.template.Edge.{Edge}
use Rattle.arch_model.specs.declared.limits.TheConstants.{EDGES}
use Rattle.arch_model.specs.Parts.{LibraryParts}
use Rattle.arch_model.specs.Library.{IsLibrary}
use Rattle.arch_model.specs.Member.{member_count}
use Rattle.arch_model.specs.Pattern.{at_component}
use Rattle.arch_model.proofs.Ranges.{blank_component, blank_edge}
use Rattle.arch_model.proofs.RowReads.{supplies_small, demands_small, at_small}
use Rattle.rows.specs.declared.row.Term.{Term}
use Rattle.rows.specs.Row.{term}
use Rattle.binary_program.specs.Inner.Terms.{numbers_of, AreVariables, AreTerms}
use Rattle.binary_program.proofs.BuildLists.{picked}
use Rattle.binary_program.proofs.BuildTerms.{at_coef, number, balance, brought, asked}

-- terms in a wider range
pub terms_along : (n k m : ℕ) (xs ys : List Term) → xs ≡ ys → k ≤ m → AreTerms n k ys → AreTerms n m xs
terms_along n k m xs ys e h are = subst (AreTerms n m) (sym e) (record { few = let few = are.few in omega arith; small = are.small; below = are.below })

-- no terms, one, those of several lists, and one at each of some variables
pub no_terms : (n : ℕ) → AreTerms n 0 []
no_terms n = record { few = omega arith; small = All-nil (λ (t : Term). unsigned_abs t.coef ≤ 10 ^ 12); below = All-nil (λ (t : Term). t.var.0 < n) }

pub terms_more : (n k : ℕ) (t : Term) (terms : List Term) → unsigned_abs t.coef ≤ 10 ^ 12 → t.var.0 < n → AreTerms n k terms → AreTerms n (suc k) (t ∷ terms)
terms_more n k t terms small below are = record {
  few = let few = are.few in omega arith;
  small = All-cons (λ (t : Term). unsigned_abs t.coef ≤ 10 ^ 12) t terms small are.small;
  below = All-cons (λ (t : Term). t.var.0 < n) t terms below are.below;
}

pub terms_both : (n k m : ℕ) (xs ys : List Term) → AreTerms n k xs → AreTerms n m ys → AreTerms n (k + m) (xs ++ ys)
terms_both n k m xs ys are too = record {
  few = let few = are.few in let also = too.few in omega (arith, length-append xs ys);
  small = All-append (λ t. unsigned_abs t.coef ≤ 10 ^ 12) xs ys are.small too.small;
  below = All-append (λ t. t.var.0 < n) xs ys are.below too.below;
}

pub terms_at : (n k : ℕ) (a : ℤ) (vars : List VarId) → unsigned_abs a ≤ 10 ^ 12 → AreVariables n k vars → AreTerms n k (map (at_coef a) (numbers_of vars))
terms_at n k a vars small are = record {
  few = let few = are.few in omega (arith, length-map (numbers_of vars) (at_coef a), length-map vars number);
  small = All-map (λ t. unsigned_abs t.coef ≤ 10 ^ 12) (at_coef a) (numbers_of vars) (All-map (λ v. unsigned_abs a ≤ 10 ^ 12) number vars (λ k d short. small));
  below = All-map (λ t. t.var.0 < n) (at_coef a) (numbers_of vars) (All-map (λ v. v < n) number vars are.below);
}

-- minus a small number is small, and so is a difference of two
pub minus_small : (n m : ℕ) → n ≤ m → unsigned_abs (neg_ℤ (pos n)) ≤ m
minus_small zero m h = omega arith
minus_small (suc n) m h = omega arith

-- one term for each numbered item, and one for each that passes a test
numbered_all : {X : Type 0} (P : ℕ × X → Type 0) (k : ℕ) (xs : List X) (d : X) → ((i : ℕ) → i < length xs → P (k + i, get_or xs i d)) → All P (enumerate_from k xs)
numbered_all P k xs d each = All-from_get_or P (enumerate_from k xs) (0, d) (λ i short.
    let here : i < length xs = omega (arith, short, length-enumerate_from k xs) in
    subst P (sym (get_or-enumerate_from k xs i (0, d) here)) (each i here))

pub each_term : {X : Type 0} (f : ℕ × X → ℤ) (k n m : ℕ) (xs : List X) (d : X) → k + length xs ≤ n → length xs ≤ m → ((i : ℕ) → i < length xs → unsigned_abs (f (k + i, get_or xs i d)) ≤ 10 ^ 12)
    → AreTerms n m (map (λ p. term p.0 (f p)) (enumerate_from k xs))
each_term {X = X} f k n m xs d room few small = record {
  few = omega (arith, length-map (enumerate_from k xs) (λ (p : ℕ × X). term p.0 (f p)), length-enumerate_from k xs);
  small = All-map (λ t. unsigned_abs t.coef ≤ 10 ^ 12) (λ (p : ℕ × X). term p.0 (f p)) (enumerate_from k xs) (numbered_all (λ (p : ℕ × X). unsigned_abs (f p) ≤ 10 ^ 12) k xs d small);
  below = All-map (λ t. t.var.0 < n) (λ (p : ℕ × X). term p.0 (f p)) (enumerate_from k xs) (numbered_all (λ (p : ℕ × X). p.0 < n) k xs d (λ i short. omega arith));
}

pub picked_terms : {X : Type 0} (q : ℕ × X → Bool) (f : ℕ × X → ℤ) (k n m : ℕ) (xs : List X) (d : X) → k + length xs ≤ n → length xs ≤ m → ((i : ℕ) → i < length xs → unsigned_abs (f (k + i, get_or xs i d)) ≤ 10 ^ 12)
    → AreTerms n m (picked q (λ p. term p.0 (f p)) k xs)
picked_terms {X = X} q f k n m xs d room few small = record {
  few =
      let kept = length-filter_both q (λ p. not (q p)) (λ p. refl) (enumerate_from k xs) in
      omega (arith, length-map (filter q (enumerate_from k xs)) (λ (p : ℕ × X). term p.0 (f p)), kept, length-enumerate_from k xs);
  small = All-map (λ t. unsigned_abs t.coef ≤ 10 ^ 12) (λ (p : ℕ × X). term p.0 (f p)) (filter q (enumerate_from k xs))
      (All-filter q (λ (p : ℕ × X). unsigned_abs (f p) ≤ 10 ^ 12) (enumerate_from k xs) (numbered_all (λ (p : ℕ × X). unsigned_abs (f p) ≤ 10 ^ 12) k xs d small));
  below = All-map (λ t. t.var.0 < n) (λ (p : ℕ × X). term p.0 (f p)) (filter q (enumerate_from k xs))
      (All-filter q (λ (p : ℕ × X). p.0 < n) (enumerate_from k xs) (numbered_all (λ (p : ℕ × X). p.0 < n) k xs d (λ i short. omega arith)));
}

-- the terms of costs and of balances, and those that edges bring or ask
pub terms_push : (n k : ℕ) (terms after : List Term) (t : Term) → AreTerms n k terms → unsigned_abs t.coef ≤ 10 ^ 12 → t.var.0 < n → after ≡ terms ++ t ∷ [] → AreTerms n (k + 1) after
terms_push n k terms after t are small below step = terms_along n (k + 1) (k + 1) after (terms ++ t ∷ []) step (omega arith) (terms_both n k 1 terms (t ∷ []) are (terms_more n 0 t [] small below (no_terms n)))

pub cost_push : (n k v m : ℕ) (terms after : List Term) (t : Term) → AreTerms n k terms → t ≡ term v (neg_ℤ (pos m)) → m ≤ 10 ^ 12 → v < n → after ≡ terms ++ t ∷ [] → AreTerms n (k + 1) after
cost_push n k v m terms after t are is small below step =
    terms_push n k terms after (term v (neg_ℤ (pos m))) are (minus_small m (10 ^ 12) small) below (step ∙ ap (λ u. terms ++ u ∷ []) is)

difference_small : (m n : ℕ) → m ≤ 10 ^ 12 → n ≤ 10 ^ 12 → unsigned_abs (pos m -ℤ pos n) ≤ 10 ^ 12
difference_small m n h k = grind arith

pub are_balances : (lib : LibraryParts) → IsLibrary lib → AreTerms (member_count lib) 64 (map balance (enumerate_from 0 lib.components))
are_balances lib right =
    each_term (λ (p : ℕ × Component). pos p.1.supply -ℤ pos p.1.demand) 0 (member_count lib) 64 lib.components blank_component (omega arith) right.few_components
    (λ i short. difference_small (get_or lib.components i blank_component).supply (get_or lib.components i blank_component).demand (supplies_small lib right i blank_component short) (demands_small lib right i blank_component short))

-- what edges bring to a component or ask of it, after other terms
pub with_brought : (lib : LibraryParts) (q : ℕ × Edge → Bool) (k : ℕ) (start after : List Term) → IsLibrary lib → AreTerms (member_count lib) k start
    → after ≡ start ++ picked q (brought lib) (length lib.components) lib.edges → AreTerms (member_count lib) (k + EDGES) after
with_brought lib q k start after right are made =
    terms_along (member_count lib) (k + EDGES) (k + EDGES) after (start ++ picked q (brought lib) (length lib.components) lib.edges) made (omega arith)
    (terms_both (member_count lib) k EDGES start (picked q (brought lib) (length lib.components) lib.edges) are
    (picked_terms q (λ (p : ℕ × Edge). pos (at_component lib (λ c. c.supply) p.1.tail.0)) (length lib.components) (member_count lib) EDGES lib.edges blank_edge (omega arith) right.few_edges
    (λ i short. at_small lib (λ c. c.supply) (get_or lib.edges i blank_edge).tail.0 (supplies_small lib right))))

pub with_asked : (lib : LibraryParts) (q : ℕ × Edge → Bool) (k : ℕ) (start after : List Term) → IsLibrary lib → AreTerms (member_count lib) k start
    → after ≡ start ++ picked q (asked lib) (length lib.components) lib.edges → AreTerms (member_count lib) (k + EDGES) after
with_asked lib q k start after right are made =
    terms_along (member_count lib) (k + EDGES) (k + EDGES) after (start ++ picked q (asked lib) (length lib.components) lib.edges) made (omega arith)
    (terms_both (member_count lib) k EDGES start (picked q (asked lib) (length lib.components) lib.edges) are
    (picked_terms q (λ (p : ℕ × Edge). neg_ℤ (pos (at_component lib (λ c. c.demand) p.1.head.0))) (length lib.components) (member_count lib) EDGES lib.edges blank_edge (omega arith) right.few_edges
    (λ i short. minus_small (at_component lib (λ c. c.demand) (get_or lib.edges i blank_edge).head.0) (10 ^ 12) (at_small lib (λ c. c.demand) (get_or lib.edges i blank_edge).head.0 (demands_small lib right)))))

-- the terms of the rows of patterns, as the code builds them from a list that is empty
abbrev each_at : ℤ → List VarId → List Term
each_at a vars = map (at_coef a) (numbers_of vars)

from_none : (a : ℤ) (vars : List VarId) (start made : List Term) → start ≡ [] → made ≡ start ++ each_at a vars → made ≡ each_at a vars
from_none a vars start made none step = step ∙ ap (λ l. l ++ each_at a vars) none

pub terms_of_each : (n : ℕ) (a : ℤ) (vars : List VarId) (start made lent : List Term) → AreVariables n EDGES vars → unsigned_abs a ≤ 10 ^ 12 → start ≡ [] → made ≡ start ++ each_at a vars → lent ≡ made → AreTerms n 2048 lent
terms_of_each n a vars start made lent are small none step same =
    terms_along n EDGES 2048 lent (each_at a vars) (same ∙ from_none a vars start made none step) (omega arith) (terms_at n EDGES a vars small are)

pub each_then_one : (n v : ℕ) (t : Term) (vars : List VarId) (start made after lent : List Term) → AreVariables n EDGES vars → v < n → t.var.0 ≡ v → unsigned_abs t.coef ≤ 10 ^ 12
    → start ≡ [] → made ≡ start ++ each_at (pos 1) vars → after ≡ made ++ t ∷ [] → lent ≡ after → AreTerms n 2048 lent
each_then_one n v t vars start made after lent are below var small none step more same =
    let inside : t.var.0 < n = omega arith in
    terms_along n (EDGES + 1) 2048 lent after same (omega arith)
    (terms_push n EDGES made after t (terms_along n EDGES EDGES made (each_at (pos 1) vars) (from_none (pos 1) vars start made none step) (omega arith) (terms_at n EDGES (pos 1) vars (omega arith) are)) small inside more)

pub one_then_each : (n v : ℕ) (t : Term) (vars : List VarId) (start first after lent : List Term) → AreVariables n EDGES vars → v < n → t.var.0 ≡ v → unsigned_abs t.coef ≤ 10 ^ 12
    → start ≡ [] → first ≡ start ++ t ∷ [] → after ≡ first ++ each_at (negsuc 0) vars → lent ≡ after → AreTerms n 2048 lent
one_then_each n v t vars start first after lent are below var small none one step same =
    let inside : t.var.0 < n = omega arith in
    terms_along n (suc EDGES) 2048 lent (t ∷ each_at (negsuc 0) vars)
    (same ∙ step ∙ ap (λ l. l ++ each_at (negsuc 0) vars) (one ∙ ap (λ l. l ++ t ∷ []) none)) (omega arith)
    (terms_more n EDGES t (each_at (negsuc 0) vars) small inside (terms_at n EDGES (negsuc 0) vars (omega arith) are))
