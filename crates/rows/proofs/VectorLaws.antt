-- Vectors of architectures: the edges' rows, and the cost.
use Rattle.std.proofs.Common.{◌≡◌, ℕ, ◌+◌, ◌-◌, ◌<◌, ◌≤◌, ℤ, pos, neg_ℤ, ◌-ℤ◌, ◌≤ℤ◌, Bool, List, [], ◌∷◌, map, length, refl, sym, ap, subst, ◌∙◌, arith, cond, zero-add}
use Rattle.std.specs.Prelude.{◌↔◌}
use Rattle.std.specs.List.{All, AllByRecursion, enumerate_from, sum_by}
use Rattle.std.proofs.lemmas.Int.{ints}
use Rattle.std.proofs.lemmas.Bool.{lt-ltb, le-ltb}
use Rattle.std.proofs.lemmas.Option.{slice_get_within}
use Rattle.std.proofs.lemmas.List.{length-map}
use Rattle.std.proofs.lemmas.List.Elements.{All-from_recursion, recursion_from_All}
use Rattle.std.proofs.lemmas.List.Sums.{sum_by-append, sum_by-cons}
use Rattle.arch_model.specs.declared.template.Component.{Component}
use Rattle.arch_model.specs.declared.template.Edge.{Edge}
use Rattle.arch_model.specs.Set.{has}
use Rattle.arch_model.specs.Parts.{LibraryParts, ArchitectureParts}
use Rattle.arch_model.specs.Library.{IsLibrary}
use Rattle.arch_model.specs.Architecture.{IsArchitecture, cost_of, present}
use Rattle.arch_model.specs.Member.{member_count, KeepsEnds}
use Rattle.arch_model.proofs.Vectors.{keeps_ends, from_ends}
use Rattle.rows.specs.Parts.{RowParts}
use Rattle.rows.specs.Row.{term, value_of, RowHolds}
use Rattle.rows.specs.BaseRows.{costs_of, cost_terms, cost_row_of, edge_rows}
use Rattle.rows.specs.Problem.{IsVectorOf}
use Rattle.rows.proofs.Costs.{length-costs_of}
use Rattle.rows.proofs.EdgeRows.{ends_from_rows, rows_from_ends, tail_below, head_below, holds_from, holds_to}
use Rattle.rows.proofs.Chosen.{chosen_from, chosen_alike, chosen_map, chosen_append, value_of-enumerated, int_sum_by-negated}

-- terms of numbered items have their numbers as variables
pub numbered_below : {X : Type 0} (f : X → ℤ) (b n : ℕ) (xs : List X) → b + length xs ≤ n → AllByRecursion (λ t. t.var.0 < n) (map (λ (p : ℕ × X). term p.0 (f p.1)) (enumerate_from b xs))
numbered_below f b n [] h = tt
numbered_below f b n (x ∷ xs) h =
    let here : b < n = omega arith in
    let further : (b + 1) + length xs ≤ n = omega arith in
    (here, numbered_below f (b + 1) n xs further)

sum_by-map : {X : Type 0} (f : X → ℕ) (xs : List X) → sum_by (λ n. n) (map f xs) ≡ sum_by f xs
sum_by-map f [] = refl
sum_by-map f (x ∷ xs) = sum_by-cons (λ n. n) (f x) (map f xs) ∙ ap (λ n. f x + n) (sum_by-map f xs) ∙ sym (sum_by-cons f x xs)

module _ (lib : LibraryParts) (arch : ArchitectureParts) (x : ℕ → Bool) (vector : IsVectorOf lib arch x) where
  -- the vector at a component and at an edge
  pub at_component : (c : ℕ) → c < length lib.components → x c ≡ has arch.comps c
  at_component c h =
      let short : c < member_count lib = omega arith in
      vector c short ∙ ap (λ b. cond b (has arch.comps c) (has arch.edges (c - length lib.components))) (lt-ltb c (length lib.components) h)

  pub at_edge : (e : ℕ) → e < length lib.edges → x (length lib.components + e) ≡ has arch.edges e
  at_edge e h =
      let short : length lib.components + e < member_count lib = omega arith in
      let far : length lib.components ≤ length lib.components + e = omega arith in
      let back : (length lib.components + e) - length lib.components ≡ e = omega arith in
      vector (length lib.components + e) short
      ∙ ap (λ b. cond b (has arch.comps (length lib.components + e)) (has arch.edges ((length lib.components + e) - length lib.components))) (le-ltb (length lib.components + e) (length lib.components) far)
      ∙ ap (has arch.edges) back

  -- what the vector chooses is what is present
  pub chosen_components : chosen_from x 0 lib.components ≡ present (has arch.comps) lib.components
  chosen_components = chosen_alike x (has arch.comps) 0 0 lib.components (λ i h. let same : 0 + i ≡ i = omega arith in ap x same ∙ at_component i h ∙ sym (ap (has arch.comps) same))

  pub chosen_edges_present : chosen_from x (length lib.components) lib.edges ≡ present (has arch.edges) lib.edges
  chosen_edges_present = chosen_alike x (has arch.edges) (length lib.components) 0 lib.edges (λ i h. let same : 0 + i ≡ i = omega arith in at_edge i h ∙ sym (ap (has arch.edges) same))

  -- minus the cost is what the cost terms come to
  cost_sum : sum_by (λ n. n) (chosen_from x 0 (costs_of lib)) ≡ cost_of lib arch
  cost_sum =
      let comp_cost : Component → ℕ = λ c. c.cost in
      let edge_cost : Edge → ℕ = λ e. e.cost in
      let here : 0 + length (map comp_cost lib.components) ≡ length lib.components = zero-add (length (map comp_cost lib.components)) ∙ length-map lib.components comp_cost in
      ap (sum_by (λ n. n)) (chosen_append x 0 (length lib.components) (map comp_cost lib.components) (map edge_cost lib.edges) here)
      ∙ sum_by-append (λ n. n) (chosen_from x 0 (map comp_cost lib.components)) (chosen_from x (length lib.components) (map edge_cost lib.edges))
      ∙ ap (λ l. sum_by (λ n. n) l + sum_by (λ n. n) (chosen_from x (length lib.components) (map edge_cost lib.edges))) (chosen_map comp_cost x 0 lib.components)
      ∙ ap (λ l. sum_by (λ n. n) (map comp_cost (chosen_from x 0 lib.components)) + sum_by (λ n. n) l) (chosen_map edge_cost x (length lib.components) lib.edges)
      ∙ ap (λ n. n + sum_by (λ n. n) (map edge_cost (chosen_from x (length lib.components) lib.edges))) (sum_by-map comp_cost (chosen_from x 0 lib.components) ∙ ap (sum_by comp_cost) chosen_components)
      ∙ ap (λ n. sum_by comp_cost (present (has arch.comps) lib.components) + n) (sum_by-map edge_cost (chosen_from x (length lib.components) lib.edges) ∙ ap (sum_by edge_cost) chosen_edges_present)

  pub cost_value : value_of (cost_terms lib) x ≡ neg_ℤ (pos (cost_of lib arch))
  cost_value = value_of-enumerated (λ n. neg_ℤ (pos n)) x 0 (costs_of lib) ∙ int_sum_by-negated (λ n. n) (chosen_from x 0 (costs_of lib)) ∙ ap (λ n. neg_ℤ (pos n)) cost_sum

pub cost_terms_below : (lib : LibraryParts) → AllByRecursion (λ t. t.var.0 < member_count lib) (cost_terms lib)
cost_terms_below lib = numbered_below (λ n. neg_ℤ (pos n)) 0 (member_count lib) (costs_of lib) (omega (arith, length-costs_of lib))

-- the cost row for a bound says that the cost is below it
below_from : (c u : ℕ) → c < u → (pos 1 -ℤ pos u) ≤ℤ neg_ℤ (pos c)
below_from c u h = omega (arith, ints)

below_to : (c u : ℕ) → (pos 1 -ℤ pos u) ≤ℤ neg_ℤ (pos c) → c < u
below_to c u h = omega (arith, ints)

pub cost_row_says : (lib : LibraryParts) (arch : ArchitectureParts) (x : ℕ → Bool) → IsVectorOf lib arch x → (u : ℕ) → RowHolds (cost_row_of lib u) x ↔ (cost_of lib arch < u)
cost_row_says lib arch x vector u = (
  (λ holds. below_to (cost_of lib arch) u (subst (λ (z : ℤ). (pos 1 -ℤ pos u) ≤ℤ z) (cost_value lib arch x vector) (holds_to (member_count lib) (cost_terms lib) (pos 1 -ℤ pos u) x (cost_terms_below lib) holds))),
  (λ less. holds_from (member_count lib) (cost_terms lib) (pos 1 -ℤ pos u) x (cost_terms_below lib) (subst (λ (z : ℤ). (pos 1 -ℤ pos u) ≤ℤ z) (sym (cost_value lib arch x vector)) (below_from (cost_of lib arch) u less))),
)

-- a vector keeps each edge's ends where it is that of an architecture
pub vector_keeps_ends : (lib : LibraryParts) (arch : ArchitectureParts) (x : ℕ → Bool) → IsLibrary lib → IsVectorOf lib arch x → IsArchitecture lib arch → KeepsEnds lib x
vector_keeps_ends lib arch x right vector fits =
    let ends = keeps_ends lib arch fits in
    record {
      tails = λ e edge is on.
          let short = slice_get_within lib.edges e edge is in
          let low = tail_below lib right x e edge is in
          let there : length lib.components + e < member_count lib = omega arith in
          let near : edge.tail.0 < member_count lib = omega arith in
          vector edge.tail.0 near ∙ ends.tails e edge is (sym (vector (length lib.components + e) there) ∙ on);
      heads = λ e edge is on.
          let short = slice_get_within lib.edges e edge is in
          let low = head_below lib right x e edge is in
          let there : length lib.components + e < member_count lib = omega arith in
          let near : edge.head.0 < member_count lib = omega arith in
          vector edge.head.0 near ∙ ends.heads e edge is (sym (vector (length lib.components + e) there) ∙ on);
    }

-- a vector meets the edges' rows exactly where it is that of an architecture
pub edge_rows_say : (lib : LibraryParts) (x : ℕ → Bool) → IsLibrary lib → All (λ row. RowHolds row x) (edge_rows lib) ↔ ((arch : ArchitectureParts) × IsVectorOf lib arch x × IsArchitecture lib arch)
edge_rows_say lib x right = (
  (λ all.
      let built = from_ends lib right x (ends_from_rows lib right x (recursion_from_All (λ (row : RowParts). RowHolds row x) (edge_rows lib) all)) in
      (built.0, (λ v short. sym (built.2 v short)), built.1)),
  (λ some. All-from_recursion (λ (row : RowParts). RowHolds row x) (edge_rows lib) (rows_from_ends lib right x (vector_keeps_ends lib some.0 x right some.1 some.2))),
)
