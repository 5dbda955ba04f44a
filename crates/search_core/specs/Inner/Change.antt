-- For the code's own contracts: what judging an entry finds that it changes.
use Rattle.std.specs.Prelude.{◌≡◌, ℕ, ◌*◌, ◌<◌, ◌≤◌, true, length}
use Rattle.arch_model.specs.declared.limits.TheConstants.{MEMBERS}
use Rattle.rows.specs.declared.cut.TheConstants.{CUTS}
use Rattle.rows.specs.Parts.{CubeParts}
use Rattle.rows.specs.Cube.{is_free}
use Rattle.search_core.specs.declared.limits.TheConstants.{BRANCHINGS}
use Rattle.search_core.specs.declared.change.Change.{Change}
use Rattle.search_core.specs.declared.change.Change.TheVariants.{Put, Forget, Split, Learn, Accept, Reopen}
use Rattle.search_core.specs.Node.{EachNode}
use Rattle.search_core.specs.State.{SearchState}
use Rattle.search_core.specs.Step.{with_node, without_node, branched, published, accepted, reopened}
use Rattle.search_core.specs.Inner.Nodes.{node_of, IsSpot}

-- the state after a change
abbrev pub changed : SearchState → Change → SearchState
changed state (Put spot node) = with_node state spot.number (node_of node)
changed state (Forget spot) = without_node state spot.number
changed state (Split spot cube v) = branched state spot.number cube v.0
changed state (Learn spot row) = published state spot.number row
changed state (Accept spot cost arch) = accepted state spot.number cost arch
changed state (Reopen limit) = reopened state limit

-- a cube can be split at a variable: it is free there, and the two new numbers are above all others
pub record CanSplit (state : SearchState) (cube : CubeParts) (v : ℕ) : Type 0 where
  pub free : is_free cube v ≡ true
  pub small : v < MEMBERS
  pub few : state.branchings < BRANCHINGS
  pub numbers : EachNode (λ i node. i ≤ 2 * state.branchings) state.nodes

-- a change can be made: its node lies where it says, a cube can be split, and there are few cuts
abbrev pub CanMake : SearchState → Change → Type 0
CanMake state (Put spot node) = IsSpot state.nodes spot
CanMake state (Forget spot) = IsSpot state.nodes spot
CanMake state (Split spot cube v) = IsSpot state.nodes spot × CanSplit state cube v.0
CanMake state (Learn spot row) = IsSpot state.nodes spot × (length state.cuts < CUTS)
CanMake state (Accept spot cost arch) = IsSpot state.nodes spot
CanMake state (Reopen limit) = Unit {0}
