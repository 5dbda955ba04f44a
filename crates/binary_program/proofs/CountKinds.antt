-- The kinds of patterns that count: their rows hold exactly where the pattern is met.
use Rattle.std.proofs.Common.{◌≡◌, ◌≢◌, ◌↔◌, ℕ, ◌≤◌, ◌<◌, pos, neg_ℤ, Bool, true, false, ◌&&◌, nat_eq, nat_lt, length, IsTrue, List, [], map, ◌∷◌, ◌++◌, Option, subst, sym, ap, ◌∙◌, arith, inl, inr, eq-eqb, if◌then◌else◌}
use Rattle.std.specs.List.{AllByRecursion, flat_map, count_by}
use Rattle.std.proofs.lemmas.Bool.{eqb-true, ltb-true, ltb-false}
use Rattle.arch_model.specs.declared.sets.CompId.{CompId}
use Rattle.arch_model.specs.declared.template.Edge.{Edge}
use Rattle.arch_model.specs.declared.library.Pattern.TheVariants.{Count, InDegree, OutDegree, InNeedsOut, Exclusive, Implies, Forbid}
use Rattle.arch_model.specs.Set.{has}
use Rattle.arch_model.specs.Parts.{LibraryParts, ArchitectureParts}
use Rattle.arch_model.specs.Library.{IsLibrary}
use Rattle.arch_model.specs.Template.{instances_of}
use Rattle.arch_model.specs.Architecture.{IsArchitecture, present_components, present_edges}
use Rattle.arch_model.specs.Member.{member_count}
use Rattle.arch_model.specs.Pattern.{EachInstance, in_degree, out_degree, IsBetween}
use Rattle.arch_model.proofs.Members.{and_left, and_right, and_both, bool_cases}
use Rattle.rows.specs.Parts.{RowParts}
use Rattle.rows.specs.Row.{term}
use Rattle.rows.specs.Problem.{IsVectorOf}
use Rattle.rows.specs.BaseRows.{plus, minus, member_row, at_least, at_most, degree_rows, in_variables, out_variables, edge_variables, in_needs_out_rows, exclusive_rows}
use Rattle.binary_program.specs.Says.{Says}
use Rattle.rows.proofs.AllParts.{all_then}
use Rattle.binary_program.proofs.Counted.{chain, back, pair, moved, all_same, all_any, all_append, all_listed, all_flat, tally, tally-le, any_counts, least_row, needed_row, apart_row, absent_row, Holds, at_least_says, at_most_says, each_says, degree_says, component_value, instances_count, edges_count, in_count, out_count, instances_below, instances_members, edges_below, each_instance, no_in_edges, no_out_edges}

-- equal numbers need one another alike
moved_need : (k l m n : ℕ) → k ≡ l → m ≡ n → (0 < k → 0 < m) ↔ (0 < l → 0 < n)
moved_need k l m n e f = ((λ h some. let more = h (omega arith) in omega arith), (λ h some. let more = h (omega arith) in omega arith))

-- equal numbers rule one another out alike
moved_none : (k l m n : ℕ) → k ≡ l → m ≡ n → (0 < k → m ≡ 0) ↔ (0 < l → n ≡ 0)
moved_none k l m n e f = ((λ h some. let none = h (omega arith) in omega arith), (λ h some. let none = h (omega arith) in omega arith))

-- components with one number are one
same_component : (a b : CompId) → a.0 ≡ b.0 → a ≡ b
same_component a b h i = record { 0 = h i }

-- an edge fails the test of two ends exactly where it leads elsewhere
leads_elsewhere : (tail head : CompId) (e : Edge) → ((nat_eq e.tail.0 tail.0 && nat_eq e.head.0 head.0) ≡ true → ⊥) ↔ (e.tail ≡ tail → e.head ≢ head)
leads_elsewhere tail head e = (
  (λ none t h. none (and_both (nat_eq e.tail.0 tail.0) (nat_eq e.head.0 head.0) (eq-eqb e.tail.0 tail.0 (ap (λ c. c.0) t)) (eq-eqb e.head.0 head.0 (ap (λ c. c.0) h)))),
  (λ apart both.
      apart (same_component e.tail tail (eqb-true e.tail.0 tail.0 (and_left (nat_eq e.tail.0 tail.0) (nat_eq e.head.0 head.0) both)))
      (same_component e.head head (eqb-true e.head.0 head.0 (and_right (nat_eq e.tail.0 tail.0) (nat_eq e.head.0 head.0) both)))),
)

module _ (lib : LibraryParts) (right : IsLibrary lib) (arch : ArchitectureParts) (fits : IsArchitecture lib arch) (x : ℕ → Bool) (vector : IsVectorOf lib arch x) where
  -- rows for each instance of a type say what each says
  each_rows : (t : ℕ) (rows : ℕ → List RowParts) (Q : ℕ → Type 0) → ((i : ℕ) → i < length lib.components → AllByRecursion (Holds x) (rows i) ↔ Q i)
      → AllByRecursion (Holds x) (flat_map rows (instances_of lib.components t)) ↔ EachInstance lib t Q
  each_rows t rows Q says =
      chain (all_flat (Holds x) rows (instances_of lib.components t))
      (chain (all_same (λ i. AllByRecursion (Holds x) (rows i)) Q (instances_of lib.components t) (all_then (λ i. i < length lib.components) (λ i. AllByRecursion (Holds x) (rows i) ↔ Q i) says (instances_of lib.components t) (instances_below lib t)))
      (each_instance lib t Q))

  -- a number of present instances in range
  pub count_says : (t min : ℕ) (max : Option ℕ) → Says lib arch x (Count t min max)
  count_says t min max =
      let vs = instances_of lib.components t in
      let row = member_row lib (map plus vs) (pos min) in
      chain (all_listed (Holds x) (at_least min row ++ at_most lib max vs))
      (chain (all_append (Holds x) (at_least min row) (at_most lib max vs))
      (chain (pair (at_least_says x min row (min ≤ tally x vs) (least_row (member_count lib) x vs min (instances_members lib t)) (λ e. omega arith)) (at_most_says x lib max vs (instances_members lib t)))
      (moved (IsBetween min max) (tally x vs) (count_by (λ c. nat_eq c.of t) (present_components lib arch)) (instances_count lib arch x vector t))))

  -- the rows of one instance's degree say that it is in range where the instance is present
  instance_degree : (i : ℕ) (vs : List ℕ) (degree min : ℕ) (max : Option ℕ) → i < length lib.components → AllByRecursion (λ v. v < member_count lib) vs
      → tally x vs ≡ degree → (has arch.comps i ≡ false → degree ≡ 0) → AllByRecursion (Holds x) (degree_rows lib i vs min max) ↔ (IsTrue (has arch.comps i) → IsBetween min max degree)
  instance_degree i vs degree min max short below counts absent =
      let on = component_value lib arch x vector i short in
      chain (degree_says x lib i vs min max (omega arith) below (λ off. counts ∙ absent (sym on ∙ off)))
      ((λ h here. subst (IsBetween min max) counts (h (on ∙ here))), (λ h here. subst (IsBetween min max) (sym counts) (h (sym on ∙ here))))

  -- a number in range of present edges from instances of a type
  pub in_degree_says : (t from min : ℕ) (max : Option ℕ) → Says lib arch x (InDegree t from min max)
  in_degree_says t from min max =
      let rows : ℕ → List RowParts = λ i. degree_rows lib i (in_variables lib from i) min max in
      chain (all_listed (Holds x) (flat_map rows (instances_of lib.components t)))
      (each_rows t rows (λ i. IsTrue (has arch.comps i) → IsBetween min max (in_degree lib arch from i))
      (λ i short. instance_degree i (in_variables lib from i) (in_degree lib arch from i) min max short (edges_below lib _) (in_count lib arch x vector from i) (no_in_edges lib arch fits from i)))

  -- a number in range of present edges to instances of a type
  pub out_degree_says : (t to min : ℕ) (max : Option ℕ) → Says lib arch x (OutDegree t to min max)
  out_degree_says t to min max =
      let rows : ℕ → List RowParts = λ i. degree_rows lib i (out_variables lib to i) min max in
      chain (all_listed (Holds x) (flat_map rows (instances_of lib.components t)))
      (each_rows t rows (λ i. IsTrue (has arch.comps i) → IsBetween min max (out_degree lib arch to i))
      (λ i short. instance_degree i (out_variables lib to i) (out_degree lib arch to i) min max short (edges_below lib _) (out_count lib arch x vector to i) (no_out_edges lib arch fits to i)))

  -- each instance with a present edge in has one out
  pub in_needs_out_says : (t from to : ℕ) → Says lib arch x (InNeedsOut t from to)
  in_needs_out_says t from to =
      let rows : ℕ → List RowParts = λ i. in_needs_out_rows lib i from to in
      chain (all_listed (Holds x) (flat_map rows (instances_of lib.components t)))
      (each_rows t rows (λ i. 0 < in_degree lib arch from i → 0 < out_degree lib arch to i)
      (λ i short.
      let outs = out_variables lib to i in
      chain (each_says x (member_count lib) (0 < tally x outs) (λ e. member_row lib (map plus outs ++ minus e ∷ []) (pos 0)) (in_variables lib from i) (edges_below lib _)
      (λ e below. needed_row (member_count lib) x outs e (edges_below lib _) below))
      (moved_need (tally x (in_variables lib from i)) (in_degree lib arch from i) (tally x outs) (out_degree lib arch to i) (in_count lib arch x vector from i) (out_count lib arch x vector to i))))

  -- the rows of one instance say that it has no edges from b where it has one from a
  instance_apart : (i a b : ℕ) → AllByRecursion (Holds x) (exclusive_rows lib i a b) ↔ (0 < tally x (in_variables lib a i) → tally x (in_variables lib b i) ≡ 0)
  instance_apart i a b =
      let vs = in_variables lib b i in
      let f = neg_ℤ (pos (length vs)) in
      let some = map (λ e. member_row lib (term e f ∷ map minus vs) f) (in_variables lib a i) in
      let Goal : Bool → Type 0 = λ v. AllByRecursion (Holds x) (if v then some else []) ↔ (0 < tally x (in_variables lib a i) → tally x vs ≡ 0) in
      elim (bool_cases (nat_lt 0 (length vs))) [
        | inl yes_some ↦
            subst Goal (sym yes_some) (each_says x (member_count lib) (tally x vs ≡ 0) (λ e. member_row lib (term e f ∷ map minus vs) f) (in_variables lib a i) (edges_below lib _)
            (λ e below. apart_row (member_count lib) x vs e (edges_below lib _) below (ltb-true 0 (length vs) yes_some)))
        | inr none ↦
            let few = tally-le x vs in
            let low : length vs ≤ 0 = ltb-false 0 (length vs) none in
            subst Goal (sym none) ((λ h more. omega (arith, few, low)), (λ h. tt))
      ]

  -- no instance has present edges from both of two types
  pub exclusive_says : (t a b : ℕ) → Says lib arch x (Exclusive t a b)
  exclusive_says t a b =
      let rows : ℕ → List RowParts = λ i. exclusive_rows lib i a b in
      chain (all_listed (Holds x) (flat_map rows (instances_of lib.components t)))
      (each_rows t rows (λ i. 0 < in_degree lib arch a i → in_degree lib arch b i ≡ 0)
      (λ i short.
      chain (instance_apart i a b)
      (moved_none (tally x (in_variables lib a i)) (in_degree lib arch a i) (tally x (in_variables lib b i)) (in_degree lib arch b i) (in_count lib arch x vector a i) (in_count lib arch x vector b i))))

  -- a present instance of one type needs one of another
  pub implies_says : (a b : ℕ) → Says lib arch x (Implies a b)
  implies_says a b =
      let some = instances_of lib.components b in
      let row : ℕ → RowParts = λ i. member_row lib (map plus some ++ minus i ∷ []) (pos 0) in
      chain (all_listed (Holds x) (map row (instances_of lib.components a)))
      (chain (each_says x (member_count lib) (0 < tally x some) row (instances_of lib.components a) (instances_members lib a) (λ i below. needed_row (member_count lib) x some i (instances_members lib b) below))
      (moved_need (tally x (instances_of lib.components a)) _ (tally x some) _ (instances_count lib arch x vector a) (instances_count lib arch x vector b)))

  -- no present edge leads from one component to another
  pub forbid_says : (tail head : CompId) → Says lib arch x (Forbid tail head)
  forbid_says tail head =
      let test : Edge → Bool = λ e. nat_eq e.tail.0 tail.0 && nat_eq e.head.0 head.0 in
      let row : ℕ → RowParts = λ e. member_row lib (minus e ∷ []) (pos 0) in
      chain (all_listed (Holds x) (map row (edge_variables lib test)))
      (chain (each_says x (member_count lib) ⊥ row (edge_variables lib test) (edges_below lib test) (λ e below. absent_row (member_count lib) x e below))
      (chain (moved (λ n. 0 < n → ⊥) (tally x (edge_variables lib test)) (tally test (present_edges lib arch)) (edges_count lib arch x vector test))
      (chain (back (any_counts ⊥ test (present_edges lib arch)))
      (chain (all_same (λ e. test e ≡ true → ⊥) (λ e. e.tail ≡ tail → e.head ≢ head) (present_edges lib arch) (all_any _ (leads_elsewhere tail head) (present_edges lib arch)))
      (back (all_listed (λ (e : Edge). e.tail ≡ tail → e.head ≢ head) (present_edges lib arch)))))))
