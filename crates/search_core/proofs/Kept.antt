-- What a change of one node keeps.
use Rattle.std.proofs.Common.{◌≡◌, ℕ, ◌+◌, ◌-◌, ◌*◌, ◌^◌, ◌≤◌, length, Some, sym, subst, arith}
use Rattle.std.specs.Prelude.{sum_by}
use Rattle.std.specs.FinMap.{get, insert, remove, len, values}
use Rattle.arch_model.specs.Parts.{ArchitectureParts}
use Rattle.arch_model.specs.Architecture.{cost_of}
use Rattle.arch_model.specs.Admissible.{IsAdmissible}
use Rattle.arch_model.specs.Member.{is_present, member_count}
use Rattle.rows.specs.Parts.{CubeParts, ProblemParts}
use Rattle.rows.specs.Cube.{IsCube, IsCubeBelow, LiesIn}
use Rattle.incumbent.specs.Best.{IsCheaper}
use Rattle.search_core.specs.Node.{Node, node_cube}
use Rattle.search_core.specs.State.{SearchState}
use Rattle.search_core.specs.Step.{with_node, without_node}
use Rattle.search_core.specs.Invariant.{KnowsOld, HasCandidate, ParkedAtLimit, free_count, space_of, SearchInvariant, IsOver}
use Rattle.search_core.proofs.NodeMap.{total-remove, total-replace, len-take_out, len-replace}
use Rattle.search_core.proofs.KeptNodes.{each_insert, each_remove, covered_replace, covered_remove}
use Rattle.search_core.proofs.FreeVariables.{less_space}

-- a state is over the problem's variables, and has what each step keeps
pub record IsKept (problem : ProblemParts) (state : SearchState) : Type 0 where
  pub over : IsOver problem state
  pub holds : SearchInvariant problem state

-- an admissible architecture that is cheaper than the best lies in a cube only where it lies in another
abbrev pub KeepsWanted : ProblemParts → SearchState → CubeParts → CubeParts → Type 0
KeepsWanted problem state cube next =
    (arch : ArchitectureParts) → IsAdmissible problem.library arch → IsCheaper (cost_of problem.library arch) state.best → LiesIn (is_present problem.library arch) cube → LiesIn (is_present problem.library arch) next

-- and it lies in none of them
abbrev pub HasNoneWanted : ProblemParts → SearchState → CubeParts → Type 0
HasNoneWanted problem state cube =
    (arch : ArchitectureParts) → IsAdmissible problem.library arch → IsCheaper (cost_of problem.library arch) state.best → LiesIn (is_present problem.library arch) cube → ⊥

-- sums after a change
less_after : (b f g s t top : ℕ) → f + t ≡ g + s → g ≤ f → b + s ≤ top → b + t ≤ top
less_after b f g s t top e le h = omega arith

pub less_without : (b f s t top : ℕ) → f + t ≡ s → b + s ≤ top → b + t ≤ top
less_without b f s t top e h = omega arith

pub fewer_without : (a b c d : ℕ) → 1 + a ≡ b → b + c ≤ d → a + c ≤ d
fewer_without a b c d e h = omega arith

module _ (problem : ProblemParts) (old : SearchState) (kept : IsKept problem old) (i : ℕ) (node : Node) (there : get old.nodes i ≡ Some node) where
  -- a node has a new state, with its own cube or one that lies in it
  pub replaced_keeps : (new : Node) → KnowsOld old new → HasCandidate problem new → ParkedAtLimit old new → IsCube (node_cube new) × IsCubeBelow (member_count problem.library) (node_cube new)
      → KeepsWanted problem old (node_cube node) (node_cube new) → free_count (member_count problem.library) (node_cube new) ≤ free_count (member_count problem.library) (node_cube node)
      → IsKept problem (with_node old i new)
  replaced_keeps new knows candidate parked cube wanted fewer =
      let n = member_count problem.library in
      let inv = kept.holds in record {
        over = record {
          cubes = each_insert old.nodes i (λ j other. IsCube (node_cube other) × IsCubeBelow n (node_cube other)) new kept.over.cubes cube;
          cuts = kept.over.cuts;
        };
        holds = record {
          knowledge_is_old = each_insert old.nodes i (λ j other. KnowsOld old other) new inv.knowledge_is_old knows;
          candidates_meet_rows = each_insert old.nodes i (λ j other. HasCandidate problem other) new inv.candidates_meet_rows candidate;
          best_is_admissible = inv.best_is_admissible;
          cuts_hold = inv.cuts_hold;
          nothing_is_lost = λ arch is cheap. covered_replace old.nodes i (is_present problem.library arch) node new (inv.nothing_is_lost arch is cheap) there (wanted arch is cheap);
          within_limit = record {
            at_most = inv.within_limit.at_most;
            parked = each_insert old.nodes i (λ j other. ParkedAtLimit old other) new inv.within_limit.parked parked;
          };
          space_is_bounded = less_after old.branchings (space_of n node) (space_of n new) (sum_by (space_of n) (values old.nodes)) (sum_by (space_of n) (values (insert old.nodes i new))) (2 ^ n - 1)
              (total-replace (space_of n) old.nodes i node new there) (less_space (free_count n (node_cube node)) (free_count n (node_cube new)) fewer) inv.space_is_bounded;
          numbers_are_bounded = record {
            numbers = each_insert old.nodes i (λ j other. j ≤ 2 * old.branchings) new inv.numbers_are_bounded.numbers (inv.numbers_are_bounded.numbers i node there);
            together = subst (λ (l : ℕ). l + length old.cuts ≤ old.branchings + 1) (sym (len-replace old.nodes i node new there)) inv.numbers_are_bounded.together;
          };
        };
      }

  -- a node is gone whose cube holds nothing that is looked for
  pub removed_keeps : HasNoneWanted problem old (node_cube node) → IsKept problem (without_node old i)
  removed_keeps none =
      let n = member_count problem.library in
      let inv = kept.holds in record {
        over = record {
          cubes = each_remove old.nodes i (λ j other. IsCube (node_cube other) × IsCubeBelow n (node_cube other)) kept.over.cubes;
          cuts = kept.over.cuts;
        };
        holds = record {
          knowledge_is_old = each_remove old.nodes i (λ j other. KnowsOld old other) inv.knowledge_is_old;
          candidates_meet_rows = each_remove old.nodes i (λ j other. HasCandidate problem other) inv.candidates_meet_rows;
          best_is_admissible = inv.best_is_admissible;
          cuts_hold = inv.cuts_hold;
          nothing_is_lost = λ arch is cheap. covered_remove old.nodes i (is_present problem.library arch) node (inv.nothing_is_lost arch is cheap) there (none arch is cheap);
          within_limit = record {
            at_most = inv.within_limit.at_most;
            parked = each_remove old.nodes i (λ j other. ParkedAtLimit old other) inv.within_limit.parked;
          };
          space_is_bounded = less_without old.branchings (space_of n node) (sum_by (space_of n) (values old.nodes)) (sum_by (space_of n) (values (remove old.nodes i))) (2 ^ n - 1)
              (total-remove (space_of n) old.nodes i node there) inv.space_is_bounded;
          numbers_are_bounded = record {
            numbers = each_remove old.nodes i (λ j other. j ≤ 2 * old.branchings) inv.numbers_are_bounded.numbers;
            together = fewer_without (len (remove old.nodes i)) (len old.nodes) (length old.cuts) (old.branchings + 1) (len-take_out old.nodes i node there) inv.numbers_are_bounded.together;
          };
        };
      }
