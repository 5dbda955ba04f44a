-- What holds at the start, and what a reopening keeps.
use Rattle.std.proofs.Common.{◌≡◌, ℕ, ◌+◌, ◌-◌, ◌*◌, ◌^◌, ◌≤◌, true, false, [], length, sym, subst, ◌∙◌, arith}
use Rattle.std.specs.Prelude.{sum_by}
use Rattle.std.specs.List.{range_with_len}
use Rattle.std.specs.Ordering.{nat_cmp}
use Rattle.std.specs.FinMap.{FinMap, empty, insert, len, values, get-empty, len-empty}
use Rattle.std.proofs.lemmas.List.FromFn.{length-range_with_len}
use Rattle.std.proofs.lemmas.List.Elements.{All-from_recursion}
use Rattle.arch_model.specs.Set.{has}
use Rattle.arch_model.specs.Member.{is_present, member_count}
use Rattle.arch_model.proofs.Members.{length-filter-le}
use Rattle.arch_model.proofs.SetLaws.{has-empty}
use Rattle.rows.specs.Parts.{ProblemParts}
use Rattle.rows.specs.Cut.{IsCut}
use Rattle.rows.specs.Known.{IsCutBelow}
use Rattle.rows.specs.Cube.{IsCube, IsCubeBelow, is_free, whole}
use Rattle.search_core.specs.Node.{Node, Open, node_cube, EachNode}
use Rattle.search_core.specs.State.{SearchState, start_of}
use Rattle.search_core.specs.Step.{reopened}
use Rattle.search_core.specs.Invariant.{KnowsOld, HasCandidate, ParkedAtLimit, HoldsInAll, free_count, space_of}
use Rattle.search_core.proofs.Options.{none_is_some}
use Rattle.search_core.proofs.NodeMap.{total-insert_new, total-empty, total-changed, len-insert_new, len-changed}
use Rattle.search_core.proofs.KeptNodes.{each_insert, each_open, covered_here, covered_open}
use Rattle.search_core.proofs.FreeVariables.{less_space}
use Rattle.search_core.proofs.Kept.{IsKept}

-- nothing is fixed in the whole cube
fixes_nothing : {P : Type 0} (v : ℕ) → has whole.fixed v ≡ true → P
fixes_nothing v on = absurd (let f : false ≡ true = sym (has-empty v) ∙ on in cc)

whole_is_cube : (n : ℕ) → IsCube whole × IsCubeBelow n whole
whole_is_cube n = (record { within = λ v on. on; small = λ v on. fixes_nothing v on }, λ v on. fixes_nothing v on)

abbrev pub none_yet : FinMap nat_cmp Node
none_yet = empty

each_none : (P : ℕ → Node → Type 0) → EachNode P none_yet
each_none P i node at = none_is_some node (sym (get-empty nat_cmp i) ∙ at)

each_start : (P : ℕ → Node → Type 0) → P 0 (Open whole) → EachNode P (insert none_yet 0 (Open whole))
each_start P here = each_insert none_yet 0 P (Open whole) (each_none P) here

first_space : (a b s top : ℕ) → s ≡ a + b → b ≡ 0 → a ≤ top → 0 + s ≤ top
first_space a b s top e f h = omega arith

first_node : (a b : ℕ) → a ≡ 1 + b → b ≡ 0 → a + 0 ≤ 0 + 1
first_node a b e f = omega arith

pub start_is_kept : (problem : ProblemParts) (limit : ℕ) → IsKept problem (start_of limit)
start_is_kept problem limit =
    let n = member_count problem.library in
    let at_most : free_count n whole ≤ n = omega (arith, length-filter-le (is_free whole) (range_with_len 0 n), length-range_with_len 0 n) in record {
      over = record {
        cubes = each_start (λ j other. IsCube (node_cube other) × IsCubeBelow n (node_cube other)) (whole_is_cube n);
        cuts = All-from_recursion (λ cut. IsCut cut × IsCutBelow n cut) [] tt;
      };
      holds = record {
        knowledge_is_old = each_start (λ j other. KnowsOld (start_of limit) other) tt;
        candidates_meet_rows = each_start (λ j other. HasCandidate problem other) tt;
        best_is_admissible = tt;
        cuts_hold = All-from_recursion (HoldsInAll problem.library) [] tt;
        nothing_is_lost = λ arch is cheap. covered_here none_yet 0 (is_present problem.library arch) (Open whole) (λ v on. fixes_nothing v on);
        within_limit = record {
          at_most = omega arith;
          parked = each_start (λ j other. ParkedAtLimit (start_of limit) other) tt;
        };
        space_is_bounded = first_space (space_of n (Open whole)) (sum_by (space_of n) (values none_yet)) (sum_by (space_of n) (values (insert none_yet 0 (Open whole)))) (2 ^ n - 1)
            (total-insert_new (space_of n) none_yet 0 (Open whole) (get-empty nat_cmp 0)) (total-empty (space_of n)) (less_space n (free_count n whole) at_most);
        numbers_are_bounded = record {
          numbers = each_start (λ j other. j ≤ 2 * 0) (omega arith);
          together = first_node (len (insert none_yet 0 (Open whole))) (len none_yet) (len-insert_new none_yet 0 (Open whole) (get-empty nat_cmp 0)) (len-empty nat_cmp Node);
        };
      };
    }

pub reopened_keeps : (problem : ProblemParts) (old : SearchState) (limit : ℕ) → IsKept problem old → old.limit ≤ limit → IsKept problem (reopened old limit)
reopened_keeps problem old limit kept not_less =
    let n = member_count problem.library in
    let inv = kept.holds in
    let opens : Node → Node = λ node. Open (node_cube node) in record {
      over = record {
        cubes = each_open old.nodes (λ j other. IsCube (node_cube other) × IsCubeBelow n (node_cube other)) (λ j other. IsCube (node_cube other) × IsCubeBelow n (node_cube other)) (λ j node h. h) kept.over.cubes;
        cuts = kept.over.cuts;
      };
      holds = record {
        knowledge_is_old = each_open old.nodes (λ j other. KnowsOld old other) (λ j other. KnowsOld (reopened old limit) other) (λ j node h. tt) inv.knowledge_is_old;
        candidates_meet_rows = each_open old.nodes (λ j other. HasCandidate problem other) (λ j other. HasCandidate problem other) (λ j node h. tt) inv.candidates_meet_rows;
        best_is_admissible = inv.best_is_admissible;
        cuts_hold = inv.cuts_hold;
        nothing_is_lost = λ arch is cheap. covered_open old.nodes (is_present problem.library arch) (inv.nothing_is_lost arch is cheap);
        within_limit = record {
          at_most = let le = inv.within_limit.at_most in omega arith;
          parked = each_open old.nodes (λ j other. ParkedAtLimit old other) (λ j other. ParkedAtLimit (reopened old limit) other) (λ j node h. tt) inv.within_limit.parked;
        };
        space_is_bounded = subst (λ (s : ℕ). old.branchings + s ≤ 2 ^ n - 1) (sym (total-changed opens (space_of n) old.nodes)) inv.space_is_bounded;
        numbers_are_bounded = record {
          numbers = each_open old.nodes (λ j other. j ≤ 2 * old.branchings) (λ j other. j ≤ 2 * old.branchings) (λ j node h. h) inv.numbers_are_bounded.numbers;
          together = subst (λ (l : ℕ). l + length old.cuts ≤ old.branchings + 1) (sym (len-changed opens old.nodes)) inv.numbers_are_bounded.together;
        };
      };
    }
