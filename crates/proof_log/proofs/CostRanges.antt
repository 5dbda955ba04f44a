-- Costs, traces and sets are small enough for the fields of a log.
use Rattle.std.proofs.Common.{◌≡◌, ℕ, ◌+◌, ◌*◌, ◌^◌, ◌≤◌, ◌<◌, Bool, true, false, cond, List, [], ◌∷◌, map, filter, length, slice_get, Option, Some, None, refl, arith}
use Rattle.std.specs.Prelude.{IsTrue, sum_by, is_some}
use Rattle.std.specs.List.{AllByRecursion, enumerate_from, range_with_len}
use Rattle.std.proofs.lemmas.List.{length-take}
use Rattle.std.proofs.lemmas.List.FromFn.{length-range_with_len}
use Rattle.std.proofs.lemmas.List.Sums.{sum_by-cons, sum_by-le}
use Rattle.std.proofs.lemmas.List.Elements.{recursion_from_All, All-weaker, filter_passes}
use Rattle.std.proofs.lemmas.Option.{option_and_then_some, slice_get_within}
use Rattle.arch_model.specs.declared.template.Component.{Component}
use Rattle.arch_model.specs.declared.template.Edge.{Edge}
use Rattle.arch_model.specs.declared.limits.TheConstants.{COMPONENTS, EDGES}
use Rattle.arch_model.specs.Set.{Set, has, members_below}
use Rattle.arch_model.specs.Parts.{LibraryParts, ArchitectureParts}
use Rattle.arch_model.specs.Library.{IsLibrary}
use Rattle.arch_model.specs.Architecture.{cost_of}
use Rattle.arch_model.proofs.Present.{chosen_from}
use Rattle.arch_model.proofs.Ranges.{component_costs, edge_costs}
use Rattle.arch_model.proofs.Members.{length-filter-le}
use Rattle.arch_model.proofs.Counting.{len-members}
use Rattle.rows.specs.declared.known.RowRef.{RowRef}
use Rattle.rows.specs.declared.known.RowRef.TheVariants.{Base, Cut, Cost}
use Rattle.rows.specs.declared.known.Pair.{Pair}
use Rattle.rows.specs.Parts.{RowParts, CubeParts, KnownParts}
use Rattle.rows.specs.Row.{row_of_cut}
use Rattle.rows.specs.Cube.{IsCubeBelow}
use Rattle.rows.specs.Known.{row_at, has_row, known_cuts, variables, IsKnown}
use Rattle.rows.specs.Problem.{IsProblem}
use Rattle.rows.specs.Trace.{cube_after, cube_after_step}
use Rattle.rows.specs.Reason.{IsReason, AllThere}
use Rattle.rows.proofs.TraceLaws.{step_parts, trace_below, trace_counts, rows_below}
use Rattle.search_core.proofs.Options.{mapped_from}
use Rattle.proof_log.specs.Field.{RowNumber, AMOUNTS}
use Rattle.proof_log.specs.Value.{row_name, named_pair}
use Rattle.proof_log.proofs.Numbers.{IsFrom, PairInRange}

-- ---- costs

-- some items of a list sum to no more than all of them
chosen_le : {X : Type 0} (f : X → ℕ) (p : ℕ → Bool) (n : ℕ) (xs : List X) → sum_by f (chosen_from p n xs) ≤ sum_by f xs
chosen_le {X} f p n [] = omega arith
chosen_le {X} f p n (x ∷ xs) =
    let rest = chosen_le f p (n + 1) xs in
    let all = sum_by-cons f x xs in
    elim (p n) as (λ b. sum_by f (map (λ (e : ℕ × X). e.1) (cond b ((n, x) ∷ filter (λ (e : ℕ × X). p e.0) (enumerate_from (n + 1) xs)) (filter (λ (e : ℕ × X). p e.0) (enumerate_from (n + 1) xs)))) ≤ sum_by f (x ∷ xs)) [
      | true ↦ omega (arith, sum_by-cons f x (chosen_from p (n + 1) xs), rest, all)
      | false ↦ omega (arith, rest, all)
    ]

sum_small : (a b c d m n : ℕ) → a ≤ b → b ≤ m * 10 ^ 12 → m ≤ COMPONENTS → c ≤ d → d ≤ n * 10 ^ 12 → n ≤ EDGES → a + c < AMOUNTS
sum_small a b c d m n h k few i j some = omega arith

pub cost_small : (lib : LibraryParts) → IsLibrary lib → (arch : ArchitectureParts) → cost_of lib arch < AMOUNTS
cost_small lib right arch =
    sum_small (sum_by (λ (c : Component). c.cost) (chosen_from (has arch.comps) 0 lib.components)) (sum_by (λ (c : Component). c.cost) lib.components)
    (sum_by (λ (e : Edge). e.cost) (chosen_from (has arch.edges) 0 lib.edges)) (sum_by (λ (e : Edge). e.cost) lib.edges) (length lib.components) (length lib.edges)
    (chosen_le (λ (c : Component). c.cost) (has arch.comps) 0 lib.components) (sum_by-le (λ (c : Component). c.cost) (10 ^ 12) lib.components (component_costs lib right)) right.few_components
    (chosen_le (λ (e : Edge). e.cost) (has arch.edges) 0 lib.edges) (sum_by-le (λ (e : Edge). e.cost) (10 ^ 12) lib.edges (edge_costs lib right)) right.few_edges

-- ---- traces and reasons

-- the rows of a problem and the cuts have numbers of 32 bits
pub record FewRows (known : KnownParts) : Type 0 where
  pub base : length known.problem.base < 2 ^ 32
  pub cuts : length known.cuts < 2 ^ 32

in_range : (i n limit : ℕ) → i < n → n ≤ limit → IsFrom 0 limit i
in_range i n limit h k = (omega arith, omega arith)

module _ (known : KnownParts) (few : FewRows known) where
  row_number : (r : RowRef) (row : RowParts) → row_at known r ≡ Some row → RowNumber IsFrom (row_name r)
  row_number (Base i) row at = let inside = slice_get_within known.problem.base i row at in in_range i (length known.problem.base) (2 ^ 32) inside (omega (arith, few.base))
  row_number (Cut j) row at =
      mapped_from (IsFrom 0 (2 ^ 32) j) row_of_cut (slice_get (known_cuts known) j) row at
      (λ cut there is. let inside = slice_get_within (known_cuts known) j cut there in in_range j (length (known_cuts known)) (2 ^ 32) inside (omega (arith, length-take known.upto known.cuts, few.cuts)))
  row_number Cost row at = tt

  there_number : (r : RowRef) (o : Option RowParts) → row_at known r ≡ o → is_some o ≡ true → RowNumber IsFrom (row_name r)
  there_number r (Some row) at h = row_number r row at
  there_number r None at h = absurd (let e : false ≡ true = h in cc)

  pub trace_numbers : (trace : List RowRef) (cube after : CubeParts) → cube_after known cube trace ≡ Some after → AllByRecursion (RowNumber IsFrom) (map row_name trace)
  trace_numbers [] cube after leads = tt
  trace_numbers (r ∷ trace) cube after leads =
      option_and_then_some (λ c. cube_after known c trace) (cube_after_step known cube r) after leads
      (λ next at rest. let p = step_parts known cube r next at in (row_number r p.row p.there, trace_numbers trace next after rest))

  pair_numbers : (pairs : List Pair) → AllByRecursion (λ p. IsTrue (has_row known p.row)) pairs → AllByRecursion (λ p. 1 ≤ p.times) pairs → AllByRecursion (λ p. p.times ≤ 10 ^ 12) pairs → AllByRecursion PairInRange (map named_pair pairs)
  pair_numbers [] there some few = tt
  pair_numbers (p ∷ pairs) there some few = ((there_number p.row (row_at known p.row) refl there.0, (some.0, omega (arith, few.0))), pair_numbers pairs there.1 some.1 few.1)

  pub reason_numbers : (pairs : List Pair) → IsReason pairs → AllThere known pairs → AllByRecursion PairInRange (map named_pair pairs)
  reason_numbers pairs reason there =
      pair_numbers pairs (recursion_from_All (λ (p : Pair). IsTrue (has_row known p.row)) pairs there) (recursion_from_All (λ (p : Pair). 1 ≤ p.times) pairs reason.positive) (recursion_from_All (λ (p : Pair). p.times ≤ 10 ^ 12) pairs reason.sized)

-- a set of numbers below n has at most n
pub few_members : (s : Set) (n : ℕ) → length (members_below s n) ≤ n
unfolding members_below
few_members s n = omega (arith, length-filter-le (has s) (range_with_len 0 n), length-range_with_len 0 n)

-- a trace fixes one variable a step, so it has no more steps than there are variables
pub trace_few : (known : KnownParts) (trace : List RowRef) (cube after : CubeParts) → IsProblem known.problem → IsKnown known → IsCubeBelow (variables known) cube → cube_after known cube trace ≡ Some after → length trace ≤ variables known
trace_few known trace cube after problem is below leads =
    let n = variables known in
    let low : IsCubeBelow n after = trace_below known n (rows_below known problem is) trace cube after leads below in
    omega (arith, trace_counts known n trace cube after low leads, len-members after.fixed n low, few_members after.fixed n)

-- ---- members of sets

pub members_in : (s : Set) (n limit : ℕ) → ((v : ℕ) → IsTrue (has s v) → v < limit) → AllByRecursion (IsFrom 0 limit) (members_below s n)
unfolding members_below
members_in s n limit low =
    recursion_from_All (IsFrom 0 limit) (filter (has s) (range_with_len 0 n))
    (All-weaker (λ v. has s v ≡ true) (IsFrom 0 limit) (λ v on. in_range v limit limit (low v on) (omega arith)) (filter (has s) (range_with_len 0 n)) (filter_passes (has s) (range_with_len 0 n)))
