-- What every step of a search keeps.
use Rattle.std.specs.Prelude.{◌≡◌, ℕ, ◌+◌, ◌-◌, ◌*◌, ◌^◌, ◌≤◌, Bool, length, filter, sum_by, Option, Some, None, IfSome}
use Rattle.std.specs.List.{All, range_with_len}
use Rattle.std.specs.Option.{IsSomeAnd}
use Rattle.std.specs.Ordering.{nat_cmp}
use Rattle.std.specs.FinMap.{FinMap, get, len, values}
use Rattle.arch_model.specs.Set.{has}
use Rattle.arch_model.specs.Parts.{LibraryParts, ArchitectureParts}
use Rattle.arch_model.specs.Architecture.{cost_of}
use Rattle.arch_model.specs.Admissible.{IsAdmissible}
use Rattle.arch_model.specs.Member.{is_present, member_count}
use Rattle.rows.specs.Parts.{CubeParts, CutParts, ProblemParts}
use Rattle.rows.specs.Row.{RowHolds, row_of_cut}
use Rattle.rows.specs.Cube.{IsCube, IsCubeBelow, IsFull, LiesIn, is_free}
use Rattle.rows.specs.Cut.{IsCut}
use Rattle.rows.specs.Known.{IsCutBelow}
use Rattle.incumbent.specs.declared.best.Best.{Best}
use Rattle.incumbent.specs.Best.{IsCheaper}
use Rattle.search_core.specs.Node.{Node, Open, Held, Pending, Studied, Parked, node_cube, EachNode}
use Rattle.search_core.specs.State.{SearchState}

-- a bound that was the best cost once: none, or there is a best of at most this cost, in cost units
abbrev pub IsOldBound : Option Best → Option ℕ → Type 0
IsOldBound best None = Unit {0}
IsOldBound best (Some u) = IsSomeAnd best (λ b. b.cost ≤ u)

-- what a held node knows was known once: no more cuts than there are, and a bound that was the best cost
abbrev pub KnowsOld : SearchState → Node → Type 0
KnowsOld state (Open cube) = Unit {0}
KnowsOld state (Held cube worker cuts bound) = (cuts ≤ length state.cuts) × IsOldBound state.best bound
KnowsOld state (Pending cube) = Unit {0}
KnowsOld state (Studied cube worker) = Unit {0}
KnowsOld state (Parked cube) = Unit {0}

-- a cube in which nothing is free, and whose vector meets all base rows
pub record MeetsBaseRows (problem : ProblemParts) (cube : CubeParts) : Type 0 where
  pub full : IsFull (member_count problem.library) cube
  pub rows : All (λ row. RowHolds row (has cube.ones)) problem.base

-- a node that is pending or under study has such a cube
abbrev pub HasCandidate : ProblemParts → Node → Type 0
HasCandidate problem (Open cube) = Unit {0}
HasCandidate problem (Held cube worker cuts bound) = Unit {0}
HasCandidate problem (Pending cube) = MeetsBaseRows problem cube
HasCandidate problem (Studied cube worker) = MeetsBaseRows problem cube
HasCandidate problem (Parked cube) = Unit {0}

-- a best is admissible, and its cost is its architecture's, in cost units
pub record IsAdmissibleBest (lib : LibraryParts) (best : Best) : Type 0 where
  pub admissible : IsAdmissible lib best.architecture
  pub cost : best.cost ≡ cost_of lib best.architecture

-- the row of a cut holds in every admissible architecture
abbrev pub HoldsInAll : LibraryParts → CutParts → Type 0
HoldsInAll lib cut = (arch : ArchitectureParts) → IsAdmissible lib arch → RowHolds (row_of_cut cut) (is_present lib arch)

-- a vector lies in the cube of a live node
pub record IsCovered (nodes : FinMap nat_cmp Node) (x : ℕ → Bool) : Type 0 where
  pub number : ℕ
  pub node : Node
  pub live : get nodes number ≡ Some node
  pub lies : LiesIn x (node_cube node)

-- how many of the variables below n a cube leaves free
abbrev pub free_count : ℕ → CubeParts → ℕ
free_count n cube = length (filter (is_free cube) (range_with_len 0 n))

-- how often a node's cube can be split at most, over n variables: once less than it has vectors
abbrev pub space_of : ℕ → Node → ℕ
space_of n node = 2 ^ free_count n (node_cube node) - 1

-- a parked node is there only where branchings equal the limit
abbrev pub ParkedAtLimit : SearchState → Node → Type 0
ParkedAtLimit state (Open cube) = Unit {0}
ParkedAtLimit state (Held cube worker cuts bound) = Unit {0}
ParkedAtLimit state (Pending cube) = Unit {0}
ParkedAtLimit state (Studied cube worker) = Unit {0}
ParkedAtLimit state (Parked cube) = state.branchings ≡ state.limit

-- branchings are at most the limit, and equal it where something is parked
pub record IsWithinLimit (state : SearchState) : Type 0 where
  pub at_most : state.branchings ≤ state.limit
  pub parked : EachNode (λ i node. ParkedAtLimit state node) state.nodes

-- live numbers are at most twice the branchings, and live nodes and cuts together are at most branchings plus one
pub record AreNumbersBounded (state : SearchState) : Type 0 where
  pub numbers : EachNode (λ i node. i ≤ 2 * state.branchings) state.nodes
  pub together : len state.nodes + length state.cuts ≤ state.branchings + 1

-- what holds of every state that a legal history leads to
pub record SearchInvariant (problem : ProblemParts) (state : SearchState) : Type 0 where
  -- what a held node knows was known once
  pub knowledge_is_old : EachNode (λ i node. KnowsOld state node) state.nodes
  -- a pending or studied cube is full, and its vector meets all base rows
  pub candidates_meet_rows : EachNode (λ i node. HasCandidate problem node) state.nodes
  -- the best is admissible and has its cost
  pub best_is_admissible : IfSome state.best (IsAdmissibleBest problem.library)
  -- each cut's row holds in every admissible architecture
  pub cuts_hold : All (HoldsInAll problem.library) state.cuts
  -- each admissible architecture that is cheaper than the best lies in the cube of a live node
  pub nothing_is_lost : (arch : ArchitectureParts) → IsAdmissible problem.library arch → IsCheaper (cost_of problem.library arch) state.best → IsCovered state.nodes (is_present problem.library arch)
  -- branchings are at most the limit, and equal it where something is parked
  pub within_limit : IsWithinLimit state
  -- branchings and what the live cubes can still be split are together below the number of vectors
  pub space_is_bounded : state.branchings + sum_by (space_of (member_count problem.library)) (values state.nodes) ≤ 2 ^ member_count problem.library - 1
  -- live numbers, live nodes and cuts are bounded by the branchings
  pub numbers_are_bounded : AreNumbersBounded state

-- a state is one over a problem's variables: its cubes fix only these and are finite maps, and so are its cuts
pub record IsOver (problem : ProblemParts) (state : SearchState) : Type 0 where
  pub cubes : EachNode (λ i node. IsCube (node_cube node) × IsCubeBelow (member_count problem.library) (node_cube node)) state.nodes
  pub cuts : All (λ cut. IsCut cut × IsCutBelow (member_count problem.library) cut) state.cuts
