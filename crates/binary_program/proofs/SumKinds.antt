-- The kinds of patterns that add up costs and supplies: their rows hold exactly where the pattern is met.
use Rattle.std.proofs.Common.{◌≡◌, ℕ, ◌+◌, ◌<◌, ◌≤◌, ℤ, pos, neg_ℤ, ◌+ℤ◌, ◌-ℤ◌, ◌≤ℤ◌, Bool, true, false, cond, nat_eq, List, [], ◌∷◌, ◌++◌, map, filter, length, refl, sym, ap, subst, ◌∙◌, arith, inl, inr, eqb-true}
use Rattle.std.specs.Prelude.{◌↔◌, IsTrue}
use Rattle.std.specs.List.{All, AllByRecursion, enumerate_from, sum_by}
use Rattle.std.proofs.lemmas.Int.{ints}
use Rattle.std.proofs.lemmas.List.Elements.{All-from_recursion, recursion_from_All}
use Rattle.arch_model.specs.declared.template.Component.{Component}
use Rattle.arch_model.specs.declared.template.Edge.{Edge}
use Rattle.arch_model.specs.declared.library.Pattern.TheVariants.{TotalSupply, LocalSupply, CostCap}
use Rattle.arch_model.specs.Set.{has}
use Rattle.arch_model.specs.Parts.{LibraryParts, ArchitectureParts}
use Rattle.arch_model.specs.Library.{IsLibrary}
use Rattle.arch_model.specs.Architecture.{IsArchitecture, cost_of, present, present_edges}
use Rattle.arch_model.specs.Member.{member_count}
use Rattle.arch_model.specs.Pattern.{at_component, edges_into, edges_out_of}
use Rattle.arch_model.specs.Template.{instances_of}
use Rattle.arch_model.proofs.Members.{bool_cases}
use Rattle.rows.specs.declared.row.Term.{Term}
use Rattle.rows.specs.Parts.{RowParts}
use Rattle.rows.specs.Row.{int_sum_by, term, value_of, RowHolds, row_of}
use Rattle.rows.specs.BaseRows.{chosen_edges, cost_terms, local_supply_row}
use Rattle.rows.specs.Problem.{IsVectorOf}
use Rattle.rows.proofs.IntSums.{int_sum_by-append}
use Rattle.rows.proofs.AllParts.{all_joined}
use Rattle.rows.proofs.EdgeRows.{holds_from, holds_to}
use Rattle.rows.proofs.Chosen.{chosen_from, value_of-enumerated, value_of-numbered, int_sum_by-differences, int_sum_by-naturals, int_sum_by-negated}
use Rattle.rows.proofs.VectorLaws.{numbered_below, chosen_components, chosen_edges_present, cost_value, cost_terms_below}
use Rattle.binary_program.specs.Says.{Says}
use Rattle.binary_program.proofs.Counted.{chain, all_listed, all_map, all_same, all_any, each_instance}

-- one row says what its terms' sum says
one_row : (n : ℕ) (terms : List Term) (least sum : ℤ) (x : ℕ → Bool) (A : Type 0) → AllByRecursion (λ t. t.var.0 < n) terms → value_of terms x ≡ sum → (least ≤ℤ sum → A) → (A → least ≤ℤ sum)
    → RowHolds (row_of n terms least) x ↔ A
one_row n terms least sum x A below is to from = (
  (λ holds. to (subst (λ (z : ℤ). least ≤ℤ z) is (holds_to n terms least x below holds))),
  (λ a. holds_from n terms least x below (subst (λ (z : ℤ). least ≤ℤ z) (sym is) (from a))),
)

alone : (x : ℕ → Bool) (row : RowParts) (A : Type 0) → RowHolds row x ↔ A → All (λ r. RowHolds r x) (row ∷ []) ↔ A
alone x row A says = (
  (λ all. says.0 (recursion_from_All (λ (r : RowParts). RowHolds r x) (row ∷ []) all).0),
  (λ a. All-from_recursion (λ (r : RowParts). RowHolds r x) (row ∷ []) (says.1 a, tt)),
)

-- terms of numbered items that pass a test have their numbers as variables
filtered_below : {X : Type 0} (f : X → ℤ) (test : X → Bool) (b n : ℕ) (xs : List X) → b + length xs ≤ n → AllByRecursion (λ t. t.var.0 < n) (map (λ (p : ℕ × X). term p.0 (f p.1)) (filter (λ (p : ℕ × X). test p.1) (enumerate_from b xs)))
filtered_below f test b n [] h = tt
filtered_below {X = X} f test b n (x ∷ xs) h =
    let here : b < n = omega arith in
    let further : (b + 1) + length xs ≤ n = omega arith in
    joined (test x) here (filtered_below f test (b + 1) n xs further) where
      joined : (c : Bool) → b < n → AllByRecursion (λ t. t.var.0 < n) (map (λ (p : ℕ × X). term p.0 (f p.1)) (filter (λ (p : ℕ × X). test p.1) (enumerate_from (b + 1) xs)))
          → AllByRecursion (λ t. t.var.0 < n) (map (λ (p : ℕ × X). term p.0 (f p.1)) (cond c ((b, x) ∷ filter (λ (p : ℕ × X). test p.1) (enumerate_from (b + 1) xs)) (filter (λ (p : ℕ × X). test p.1) (enumerate_from (b + 1) xs))))
      joined true here rest = (here, rest)
      joined false here rest = rest

-- no edge leaves a component that isn't there
none_leaves : (s : ℕ → Bool) (i : ℕ) (es : List Edge) → AllByRecursion (λ e. s e.tail.0 ≡ true) es → s i ≡ false → filter (λ e. nat_eq e.tail.0 i) es ≡ []
none_leaves s i [] all off = refl
none_leaves s i (e ∷ es) all off = elim (bool_cases (nat_eq e.tail.0 i)) [
  | inl here ↦ absurd (let f : true ≡ false = sym all.0 ∙ ap s (eqb-true e.tail.0 i here) ∙ off in cc)
  | inr there ↦ ap (λ b. cond b (e ∷ filter (λ d. nat_eq d.tail.0 i) es) (filter (λ d. nat_eq d.tail.0 i) es)) there ∙ none_leaves s i es all.1 off
]

at_least_from : (d s : ℕ) → d ≤ s → pos 0 ≤ℤ (pos s -ℤ pos d)
at_least_from d s h = omega (arith, ints)

at_least_to : (d s : ℕ) → pos 0 ≤ℤ (pos s -ℤ pos d) → d ≤ s
at_least_to d s h = omega (arith, ints)

less_is : (s d : ℕ) → pos s +ℤ neg_ℤ (pos d) ≡ pos s -ℤ pos d
less_is s d = omega (arith, ints)

cap_from : (c m : ℕ) → c ≤ m → neg_ℤ (pos m) ≤ℤ neg_ℤ (pos c)
cap_from c m h = omega (arith, ints)

cap_to : (c m : ℕ) → neg_ℤ (pos m) ≤ℤ neg_ℤ (pos c) → c ≤ m
cap_to c m h = omega (arith, ints)

module _ (lib : LibraryParts) (right : IsLibrary lib) (arch : ArchitectureParts) (fits : IsArchitecture lib arch) (x : ℕ → Bool) (vector : IsVectorOf lib arch x) where
  abbrev supply_of : Component → ℕ
  supply_of c = c.supply

  abbrev demand_of : Component → ℕ
  demand_of c = c.demand

  abbrev supplies : ℕ
  supplies = sum_by supply_of (present (has arch.comps) lib.components)

  abbrev demands : ℕ
  demands = sum_by demand_of (present (has arch.comps) lib.components)

  total_value : value_of (map (λ (p : ℕ × Component). term p.0 (pos p.1.supply -ℤ pos p.1.demand)) (enumerate_from 0 lib.components)) x ≡ pos supplies -ℤ pos demands
  total_value =
      value_of-enumerated (λ (c : Component). pos c.supply -ℤ pos c.demand) x 0 lib.components
      ∙ int_sum_by-differences supply_of demand_of (chosen_from x 0 lib.components)
      ∙ ap (λ (l : List Component). pos (sum_by supply_of l) -ℤ pos (sum_by demand_of l)) (chosen_components lib arch x vector)

  pub total_supply_says : Says lib arch x TotalSupply
  total_supply_says =
      let few : 0 + length lib.components ≤ member_count lib = omega arith in
      alone x (row_of (member_count lib) (map (λ (p : ℕ × Component). term p.0 (pos p.1.supply -ℤ pos p.1.demand)) (enumerate_from 0 lib.components)) (pos 0)) (demands ≤ supplies)
      (one_row (member_count lib) (map (λ (p : ℕ × Component). term p.0 (pos p.1.supply -ℤ pos p.1.demand)) (enumerate_from 0 lib.components)) (pos 0) (pos supplies -ℤ pos demands) x (demands ≤ supplies)
      (numbered_below (λ (c : Component). pos c.supply -ℤ pos c.demand) 0 (member_count lib) lib.components few) total_value (at_least_to demands supplies) (at_least_from demands supplies))

  -- at one component
  abbrev supply_in : Edge → ℕ
  supply_in e = at_component lib (λ c. c.supply) e.tail.0

  abbrev demand_out : Edge → ℕ
  demand_out e = at_component lib (λ c. c.demand) e.head.0

  abbrev in_terms : ℕ → List Term
  in_terms i = map (λ (p : ℕ × Edge). term p.0 (pos (supply_in p.1))) (chosen_edges lib (λ e. nat_eq e.head.0 i))

  abbrev out_terms : ℕ → List Term
  out_terms i = map (λ (p : ℕ × Edge). term p.0 (neg_ℤ (pos (demand_out p.1)))) (chosen_edges lib (λ e. nat_eq e.tail.0 i))

  abbrev supply_at : ℕ → ℕ
  supply_at i = sum_by supply_in (edges_into lib arch i)

  abbrev demand_at : ℕ → ℕ
  demand_at i = sum_by demand_out (edges_out_of lib arch i)

  in_value : (i : ℕ) → value_of (in_terms i) x ≡ pos (supply_at i)
  in_value i =
      value_of-numbered (λ (e : Edge). pos (supply_in e)) (λ e. nat_eq e.head.0 i) x (length lib.components) lib.edges
      ∙ ap (λ (l : List Edge). int_sum_by (λ (e : Edge). pos (supply_in e)) (filter (λ e. nat_eq e.head.0 i) l)) (chosen_edges_present lib arch x vector)
      ∙ int_sum_by-naturals supply_in (edges_into lib arch i)

  out_value : (i : ℕ) → value_of (out_terms i) x ≡ neg_ℤ (pos (demand_at i))
  out_value i =
      value_of-numbered (λ (e : Edge). neg_ℤ (pos (demand_out e))) (λ e. nat_eq e.tail.0 i) x (length lib.components) lib.edges
      ∙ ap (λ (l : List Edge). int_sum_by (λ (e : Edge). neg_ℤ (pos (demand_out e))) (filter (λ e. nat_eq e.tail.0 i) l)) (chosen_edges_present lib arch x vector)
      ∙ int_sum_by-negated demand_out (edges_out_of lib arch i)

  both_value : (i : ℕ) → value_of (in_terms i ++ out_terms i) x ≡ pos (supply_at i) -ℤ pos (demand_at i)
  both_value i =
      int_sum_by-append (λ (t : Term). cond (x t.var.0) t.coef (pos 0)) (in_terms i) (out_terms i)
      ∙ ap (λ z. z +ℤ value_of (out_terms i) x) (in_value i) ∙ ap (λ z. pos (supply_at i) +ℤ z) (out_value i) ∙ less_is (supply_at i) (demand_at i)

  both_below : (i : ℕ) → AllByRecursion (λ t. t.var.0 < member_count lib) (in_terms i ++ out_terms i)
  both_below i =
      let few : length lib.components + length lib.edges ≤ member_count lib = omega arith in
      all_joined (λ (t : Term). t.var.0 < member_count lib) (in_terms i) (out_terms i)
      (filtered_below (λ (e : Edge). pos (supply_in e)) (λ e. nat_eq e.head.0 i) (length lib.components) (member_count lib) lib.edges few)
      (filtered_below (λ (e : Edge). neg_ℤ (pos (demand_out e))) (λ e. nat_eq e.tail.0 i) (length lib.components) (member_count lib) lib.edges few)

  local_row_says : (i : ℕ) → RowHolds (local_supply_row lib i) x ↔ (demand_at i ≤ supply_at i)
  local_row_says i =
      one_row (member_count lib) (in_terms i ++ out_terms i) (pos 0) (pos (supply_at i) -ℤ pos (demand_at i)) x (demand_at i ≤ supply_at i) (both_below i) (both_value i)
      (at_least_to (demand_at i) (supply_at i)) (at_least_from (demand_at i) (supply_at i))

  absent_demands_nothing : (i : ℕ) → has arch.comps i ≡ false → demand_at i ≤ supply_at i
  absent_demands_nothing i off =
      let none : demand_at i ≡ 0 = ap (sum_by demand_out) (none_leaves (has arch.comps) i (present_edges lib arch) (recursion_from_All (λ (e : Edge). has arch.comps e.tail.0 ≡ true) (present_edges lib arch) fits.tails) off) in
      omega arith

  -- a present instance is to stand, and an absent one does
  each_says : (i : ℕ) → RowHolds (local_supply_row lib i) x ↔ (IsTrue (has arch.comps i) → demand_at i ≤ supply_at i)
  each_says i = (
    (λ holds on. (local_row_says i).0 holds),
    (λ stands. (local_row_says i).1 (elim (bool_cases (has arch.comps i)) [ inl on ↦ stands on | inr off ↦ absent_demands_nothing i off ])),
  )

  pub local_supply_says : (t : ℕ) → Says lib arch x (LocalSupply t)
  local_supply_says t =
      let rows = instances_of lib.components t in
      let Stands : ℕ → Type 0 = λ i. IsTrue (has arch.comps i) → demand_at i ≤ supply_at i in
      chain (all_listed (λ (r : RowParts). RowHolds r x) (map (local_supply_row lib) rows))
      (chain (all_map (λ (r : RowParts). RowHolds r x) (local_supply_row lib) rows)
      (chain (all_same (λ i. RowHolds (local_supply_row lib i) x) Stands rows (all_any (λ i. RowHolds (local_supply_row lib i) x ↔ Stands i) each_says rows)) (each_instance lib t Stands)))

  pub cost_cap_says : (max : ℕ) → Says lib arch x (CostCap max)
  cost_cap_says max =
      alone x (row_of (member_count lib) (cost_terms lib) (neg_ℤ (pos max))) (cost_of lib arch ≤ max)
      (one_row (member_count lib) (cost_terms lib) (neg_ℤ (pos max)) (neg_ℤ (pos (cost_of lib arch))) x (cost_of lib arch ≤ max) (cost_terms_below lib) (cost_value lib arch x vector) (cap_to (cost_of lib arch) max) (cap_from (cost_of lib arch) max))
