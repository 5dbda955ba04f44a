-- What members cost, by their numbers, and the cost row's activities.
use Rattle.std.proofs.Common.{◌≡◌, ℕ, zero, suc, ◌+◌, ◌-◌, ◌^◌, ◌≤◌, ◌<◌, ℤ, pos, negsuc, neg_ℤ, ◌+ℤ◌, ◌-ℤ◌, to_z, of_z, unsigned_abs, Bool, true, false, nat_eq, List, [], ◌∷◌, map, length, get_or, Option, Some, None, refl, sym, ap, ◌∙◌, inl, inr, arith, eq-eqb, length-append, if◌then◌else◌}
use Rattle.std.specs.List.{All, enumerate_from, range_with_len}
use Rattle.std.proofs.Math.IntN.{+ℤ_idl, +ℤ_idr}
use Rattle.std.proofs.lemmas.Bool.Decides.{eqb_tells}
use Rattle.std.proofs.lemmas.List.{length-map, get_or-map, get_or_append_left, get_or-append_right}
use Rattle.std.proofs.lemmas.List.Elements.{All-append, All-map}
use Rattle.arch_model.specs.declared.template.Component.{Component}
use Rattle.arch_model.specs.declared.template.Edge.{Edge}
use Rattle.arch_model.specs.Parts.{LibraryParts}
use Rattle.arch_model.specs.Library.{IsLibrary}
use Rattle.arch_model.specs.Member.{member_count}
use Rattle.arch_model.proofs.Ranges.{blank_component, blank_edge, component_costs, edge_costs}
use Rattle.rows.specs.declared.row.Term.{Term}
use Rattle.rows.specs.Parts.{CubeParts}
use Rattle.rows.specs.Row.{int_sum_by, term, coef_at, is_nonzero, collected}
use Rattle.rows.specs.Cube.{value_at}
use Rattle.rows.specs.declared.activity.End.{End}
use Rattle.rows.specs.declared.activity.End.TheVariants.{Greatest, Least}
use Rattle.rows.specs.Inner.Ends.{taken_at, adds_at, activity_at}
use Rattle.rows.specs.BaseRows.{costs_of, cost_terms, cost_row_of, member_cost_of}
use Rattle.std.specs.Int.{w128}
use Rattle.rows.proofs.Activities.{taken-sized, minus_is, minus_sized}
use Rattle.rows.proofs.IntSums.{int_sum_by-map, int_sum_by-filter, int_sum_by-same}

-- members' costs are at most 10^12
costs_small : (lib : LibraryParts) → IsLibrary lib → All (λ n. n ≤ 10 ^ 12) (costs_of lib)
costs_small lib h =
    All-append (λ n. n ≤ 10 ^ 12) (map (λ (c : Component). c.cost) lib.components) (map (λ (e : Edge). e.cost) lib.edges)
    (All-map (λ n. n ≤ 10 ^ 12) (λ (c : Component). c.cost) lib.components (component_costs lib h)) (All-map (λ n. n ≤ 10 ^ 12) (λ (e : Edge). e.cost) lib.edges (edge_costs lib h))

pub length-costs_of : (lib : LibraryParts) → length (costs_of lib) ≡ member_count lib
length-costs_of lib = grind (arith, length-append {A = ℕ}, length-map lib.components (λ (c : Component). c.cost), length-map lib.edges (λ (e : Edge). e.cost))

pub member_cost_small : (lib : LibraryParts) → IsLibrary lib → (v : ℕ) → v < member_count lib → member_cost_of lib v ≤ 10 ^ 12
member_cost_small lib h v short = let here : v < length (costs_of lib) = omega (arith, short, length-costs_of lib) in costs_small lib h v 0 here

cost_of_component : (lib : LibraryParts) (c : ℕ) → c < length lib.components → (get_or lib.components c blank_component).cost ≡ member_cost_of lib c
cost_of_component lib c h =
    let short : c < length (map (λ (c : Component). c.cost) lib.components) = omega (arith, length-map lib.components (λ (c : Component). c.cost)) in
    sym (get_or_append_left (map (λ (c : Component). c.cost) lib.components) (map (λ (e : Edge). e.cost) lib.edges) 0 c short
    ∙ get_or-map (λ (c : Component). c.cost) lib.components c blank_component 0 h)

cost_of_edge : (lib : LibraryParts) (v : ℕ) → length lib.components ≤ v → v < member_count lib → (get_or lib.edges (v - length lib.components) blank_edge).cost ≡ member_cost_of lib v
cost_of_edge lib v far short =
    let here : v - length lib.components < length lib.edges = omega arith in
    sym (get_or-append_right (map (λ (c : Component). c.cost) lib.components) (map (λ (e : Edge). e.cost) lib.edges) (length lib.components) v 0 (length-map lib.components (λ (c : Component). c.cost)) far
    ∙ get_or-map (λ (e : Edge). e.cost) lib.edges (v - length lib.components) blank_edge 0 here)

-- the same of the slices that a library lends
pub cost_component_at : (lib : LibraryParts) (xs : List Component) (c : ℕ) → xs ≡ lib.components → c < length xs → (get_or xs c blank_component).cost ≡ member_cost_of lib c
cost_component_at lib xs c e h = let short : c < length lib.components = omega (arith, h, ap length e) in ap (λ (l : List Component). (get_or l c blank_component).cost) e ∙ cost_of_component lib c short

pub cost_edge_at : (lib : LibraryParts) (xs : List Component) (es : List Edge) (v : ℕ) → xs ≡ lib.components → es ≡ lib.edges → length xs ≤ v → v < member_count lib → (get_or es (v - length xs) blank_edge).cost ≡ member_cost_of lib v
cost_edge_at lib xs es v e k far short =
    let past : length lib.components ≤ v = omega (arith, far, ap length e) in
    ap (λ (l : List Edge). (get_or l (v - length xs) blank_edge).cost) k ∙ ap (λ (l : List Component). (get_or lib.edges (v - length l) blank_edge).cost) e ∙ cost_of_edge lib v past short

-- the coefficients of the cost row
abbrev minus_costs : ℕ → List ℕ → List Term
minus_costs k costs = map (λ p. term p.0 (neg_ℤ (pos p.1))) (enumerate_from k costs)

pub unlike : (a b : ℕ) → (a ≡ b → ⊥) → nat_eq a b ≡ false
unlike a b ne = elim (eqb_tells a b) [
  | inl w ↦ absurd (ne w.1)
  | inr w ↦ w.0
]

coef_before : (k v : ℕ) (costs : List ℕ) → v < k → coef_at (minus_costs k costs) v ≡ pos 0
coef_before k v [] below = refl
coef_before k v (n ∷ costs) below =
    let ne : k ≡ v → ⊥ = λ e. absurd (omega arith) in
    let later : v < k + 1 = omega arith in
    ap (λ b. (if b then neg_ℤ (pos n) else pos 0) +ℤ coef_at (minus_costs (k + 1) costs) v) (unlike k v ne) ∙ +ℤ_idl _ ∙ coef_before (k + 1) v costs later

coef_there : (k j v : ℕ) (costs : List ℕ) → k + j ≡ v → coef_at (minus_costs k costs) v ≡ neg_ℤ (pos (get_or costs j 0))
coef_there k j v [] e = refl
coef_there k zero v (n ∷ costs) e =
    let same : k ≡ v = omega arith in
    let later : v < k + 1 = omega arith in
    ap (λ b. (if b then neg_ℤ (pos n) else pos 0) +ℤ coef_at (minus_costs (k + 1) costs) v) (eq-eqb k v same) ∙ ap (λ z. neg_ℤ (pos n) +ℤ z) (coef_before (k + 1) v costs later) ∙ +ℤ_idr _
coef_there k (suc j) v (n ∷ costs) e =
    let ne : k ≡ v → ⊥ = λ s. absurd (omega arith) in
    let further : (k + 1) + j ≡ v = omega arith in
    ap (λ b. (if b then neg_ℤ (pos n) else pos 0) +ℤ coef_at (minus_costs (k + 1) costs) v) (unlike k v ne) ∙ +ℤ_idl _ ∙ coef_there (k + 1) j v costs further

pub cost_coef : (lib : LibraryParts) (v : ℕ) → coef_at (cost_terms lib) v ≡ neg_ℤ (pos (member_cost_of lib v))
cost_coef lib v = coef_there 0 v v (costs_of lib) (omega arith)

-- collected terms, one variable after another
none_taken : (end : End) (value : Option Bool) (a : ℤ) → is_nonzero a ≡ false → taken_at end value a ≡ pos 0
none_taken Greatest (Some true) (pos zero) h = refl
none_taken Greatest (Some false) (pos zero) h = refl
none_taken Greatest None (pos zero) h = refl
none_taken Least (Some true) (pos zero) h = refl
none_taken Least (Some false) (pos zero) h = refl
none_taken Least None (pos zero) h = refl
none_taken end value (pos (suc n)) h = absurd (let e : true ≡ false = h in cc)
none_taken end value (negsuc n) h = absurd (let e : true ≡ false = h in cc)

pub activity_collected : (end : End) (cube : CubeParts) (n : ℕ) (terms : List Term) → int_sum_by (adds_at end cube) (collected n terms) ≡ int_sum_by (λ v. taken_at end (value_at cube v) (coef_at terms v)) (range_with_len 0 n)
activity_collected end cube n terms =
    int_sum_by-filter (adds_at end cube) (λ t. is_nonzero t.coef) (λ t h. none_taken end (value_at cube t.var.0) t.coef h) (map (λ v. term v (coef_at terms v)) (range_with_len 0 n))
    ∙ int_sum_by-map (adds_at end cube) (λ v. term v (coef_at terms v)) (range_with_len 0 n)

-- what a member adds to the cost row's activity
abbrev pub cost_at : End → LibraryParts → CubeParts → ℕ → ℤ
cost_at end lib cube v = taken_at end (value_at cube v) (neg_ℤ (pos (member_cost_of lib v)))

pub cost_activity : (end : End) (lib : LibraryParts) (cube : CubeParts) (bound : ℕ) → int_sum_by (cost_at end lib cube) (range_with_len 0 (member_count lib)) ≡ activity_at end (cost_row_of lib bound) cube
cost_activity end lib cube bound =
    sym (activity_collected end cube (member_count lib) (cost_terms lib)
    ∙ int_sum_by-same (λ v. taken_at end (value_at cube v) (coef_at (cost_terms lib) v)) (cost_at end lib cube) (λ v. ap (taken_at end (value_at cube v)) (cost_coef lib v)) (range_with_len 0 (member_count lib)))

-- what a member adds, as a loop meets it
pub cost_added : (end : End) (lib : LibraryParts) (cube : CubeParts) (v n : ℕ) (value : Option Bool) (r : ℤ) → n ≤ 10 ^ 12 → n ≡ member_cost_of lib v → value ≡ value_at cube v
    → r ≡ taken_at end value (to_z w128 (of_z w128 (pos 0 -ℤ to_z w128 n))) → r ≡ cost_at end lib cube v
cost_added end lib cube v n value r small cost is e =
    e ∙ ap (taken_at end value) (minus_is n small) ∙ ap (λ o. taken_at end o (neg_ℤ (pos n))) is ∙ ap (λ m. taken_at end (value_at cube v) (neg_ℤ (pos m))) cost

pub cost_added_sized : (end : End) (value : Option Bool) (n : ℕ) (r : ℤ) → n ≤ 10 ^ 12 → r ≡ taken_at end value (to_z w128 (of_z w128 (pos 0 -ℤ to_z w128 n))) → unsigned_abs r ≤ 10 ^ 16
cost_added_sized end value n r small e =
    let sized = taken-sized end value (neg_ℤ (pos n)) (10 ^ 16) (minus_sized n small) in
    rw (e, minus_is n small) sized
