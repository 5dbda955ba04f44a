-- What a branching keeps.
use Rattle.std.proofs.Common.{◌≡◌, ℕ, ◌+◌, ◌-◌, ◌*◌, ◌^◌, ◌<◌, ◌≤◌, Bool, true, false, length, Some, None, arith, inl, inr}
use Rattle.std.specs.Prelude.{sum_by}
use Rattle.std.specs.Ordering.{nat_cmp}
use Rattle.std.specs.FinMap.{FinMap, get, insert, remove, len, values}
use Rattle.arch_model.specs.declared.limits.TheConstants.{MEMBERS}
use Rattle.arch_model.specs.Member.{is_present, member_count}
use Rattle.arch_model.proofs.Members.{bool_cases}
use Rattle.rows.specs.Parts.{CubeParts, ProblemParts}
use Rattle.rows.specs.Cube.{IsCube, IsCubeBelow, LiesIn, is_free, fixed_at}
use Rattle.rows.proofs.CubeLaws.{lies_fixed}
use Rattle.search_core.specs.Node.{Node, Open, Held, Pending, Studied, Parked, node_cube, EachNode}
use Rattle.search_core.specs.State.{SearchState}
use Rattle.search_core.specs.Step.{branched}
use Rattle.search_core.specs.Invariant.{KnowsOld, HasCandidate, ParkedAtLimit, IsCovered, free_count, space_of}
use Rattle.search_core.proofs.NodeMap.{total-insert_new, total-remove, len-insert_new, len-take_out}
use Rattle.search_core.proofs.KeptNodes.{each_insert, each_remove, covered_or, covered_here, covered_there, first_is_new, second_is_new}
use Rattle.search_core.proofs.FreeVariables.{one_less_free, split_space, less_space}
use Rattle.search_core.proofs.TraceLaws.{fixed_is_cube}
use Rattle.search_core.proofs.Kept.{IsKept, KeepsWanted}

less_split : (b f a c d s0 s1 s2 s3 top : ℕ) → a + s1 ≡ s0 → s2 ≡ c + s1 → s3 ≡ d + s2 → (1 + c) + d ≤ f → f ≤ a → b + s0 ≤ top → (b + 1) + s3 ≤ top
less_split b f a c d s0 s1 s2 s3 top e1 e2 e3 h k l = omega arith

one_more_node : (l0 l1 l2 l3 c b : ℕ) → 1 + l1 ≡ l0 → l2 ≡ 1 + l1 → l3 ≡ 1 + l2 → l0 + c ≤ b + 1 → l3 + c ≤ (b + 1) + 1
one_more_node l0 l1 l2 l3 c b e1 e2 e3 h = omega arith

-- nothing is parked while branchings are below the limit
parked_later : (old new : SearchState) (node : Node) → old.branchings < old.limit → ParkedAtLimit old node → ParkedAtLimit new node
parked_later old new (Open cube) below h = tt
parked_later old new (Held cube worker cuts bound) below h = tt
parked_later old new (Pending cube) below h = tt
parked_later old new (Studied cube worker) below h = tt
parked_later old new (Parked cube) below h = let at : old.branchings ≡ old.limit = h in absurd (omega arith)

module _ (problem : ProblemParts) (few : member_count problem.library ≤ MEMBERS) (old : SearchState) (kept : IsKept problem old) (i : ℕ) (node : Node) (there : get old.nodes i ≡ Some node)
    (after : CubeParts) (v : ℕ) (short : v < member_count problem.library) (free : is_free after v ≡ true) (below : old.branchings < old.limit)
    (cube : IsCube after × IsCubeBelow (member_count problem.library) after) (wanted : KeepsWanted problem old (node_cube node) after)
    (fewer : free_count (member_count problem.library) after ≤ free_count (member_count problem.library) (node_cube node)) where
  abbrev j : ℕ
  j = old.branchings

  abbrev one : Node
  one = Open (fixed_at after v true)

  abbrev zero_node : Node
  zero_node = Open (fixed_at after v false)

  abbrev left : FinMap nat_cmp Node
  left = remove old.nodes i

  abbrev with_one : FinMap nat_cmp Node
  with_one = insert left (2 * j + 1) one

  abbrev with_both : FinMap nat_cmp Node
  with_both = insert with_one (2 * j + 2) zero_node

  -- what holds of each old node and of the two new ones
  each_branched : (P : ℕ → Node → Type 0) → EachNode P old.nodes → P (2 * j + 1) one → P (2 * j + 2) zero_node → EachNode P with_both
  each_branched P each here there' = each_insert with_one (2 * j + 2) P zero_node (each_insert left (2 * j + 1) P one (each_remove old.nodes i P each) here) there'

  -- the new numbers are new
  first_new : get left (2 * j + 1) ≡ None
  first_new = first_is_new old.nodes i j kept.holds.numbers_are_bounded.numbers

  second_new : get with_one (2 * j + 2) ≡ None
  second_new = second_is_new old.nodes i j one kept.holds.numbers_are_bounded.numbers

  -- a vector of the cube lies in one of the two new cubes
  split_covers : (x : ℕ → Bool) → LiesIn x after → IsCovered with_both x
  split_covers x lies = elim (bool_cases (x v)) [
    | inl on ↦ covered_there with_one (2 * j + 2) x zero_node (covered_here left (2 * j + 1) x one (lies_fixed after x v true cube.0 free lies on)) second_new
    | inr off ↦ covered_here with_one (2 * j + 2) x zero_node (lies_fixed after x v false cube.0 free lies off)
  ]

  still_covered : (x : ℕ → Bool) → IsCovered left x → IsCovered with_both x
  still_covered x c = covered_there with_one (2 * j + 2) x zero_node (covered_there left (2 * j + 1) x one c first_new) second_new

  abbrev n : ℕ
  n = member_count problem.library

  space : (j + 1) + sum_by (space_of n) (values with_both) ≤ 2 ^ n - 1
  space =
      let f = free_count n after in
      let g = free_count n (fixed_at after v true) in
      let h = free_count n (fixed_at after v false) in
      less_split j (2 ^ f - 1) (space_of n node) (2 ^ g - 1) (2 ^ h - 1) (sum_by (space_of n) (values old.nodes)) (sum_by (space_of n) (values left)) (sum_by (space_of n) (values with_one)) (sum_by (space_of n) (values with_both)) (2 ^ n - 1)
      (total-remove (space_of n) old.nodes i node there) (total-insert_new (space_of n) left (2 * j + 1) one first_new) (total-insert_new (space_of n) with_one (2 * j + 2) zero_node second_new)
      (split_space f g h (one_less_free n after v true short free) (one_less_free n after v false short free)) (less_space (free_count n (node_cube node)) f fewer) kept.holds.space_is_bounded

  together : len with_both + length old.cuts ≤ (j + 1) + 1
  together =
      one_more_node (len old.nodes) (len left) (len with_one) (len with_both) (length old.cuts) j
      (len-take_out old.nodes i node there) (len-insert_new left (2 * j + 1) one first_new) (len-insert_new with_one (2 * j + 2) zero_node second_new) kept.holds.numbers_are_bounded.together

  pub branched_keeps : IsKept problem (branched old i after v)
  branched_keeps =
      let inv = kept.holds in record {
        over = record {
          cubes = each_branched (λ k other. IsCube (node_cube other) × IsCubeBelow n (node_cube other)) kept.over.cubes (fixed_is_cube n few after v true short cube) (fixed_is_cube n few after v false short cube);
          cuts = kept.over.cuts;
        };
        holds = record {
          knowledge_is_old = each_branched (λ k other. KnowsOld old other) inv.knowledge_is_old tt tt;
          candidates_meet_rows = each_branched (λ k other. HasCandidate problem other) inv.candidates_meet_rows tt tt;
          best_is_admissible = inv.best_is_admissible;
          cuts_hold = inv.cuts_hold;
          nothing_is_lost = λ arch is cheap. elim (covered_or old.nodes i (is_present problem.library arch) node (inv.nothing_is_lost arch is cheap) there) [
            | inl lies ↦ split_covers (is_present problem.library arch) (wanted arch is cheap lies)
            | inr c ↦ still_covered (is_present problem.library arch) c
          ];
          within_limit = record {
            at_most = omega arith;
            parked = each_branched (λ k other. ParkedAtLimit (branched old i after v) other) (λ k other at. parked_later old (branched old i after v) other below (inv.within_limit.parked k other at)) tt tt;
          };
          space_is_bounded = space;
          numbers_are_bounded = record {
            numbers = each_branched (λ k other. k ≤ 2 * (j + 1)) (λ k other at. let le = inv.numbers_are_bounded.numbers k other at in omega arith) (omega arith) (omega arith);
            together = together;
          };
        };
      }
