-- For the code's own contracts: the live nodes as the code has them.
use Rattle.std.specs.Prelude.{◌≡◌, ℕ, ◌<◌, List, map, length, slice_index_or, IsTrue, Some, refl}
use Rattle.std.specs.Ordering.{nat_cmp}
use Rattle.std.specs.Coded.{Coded, code_by, coded×, coded_ℕ}
use Rattle.std.specs.FinMap.{FinMap, get, entries, from_sorted, code}
use Rattle.std.specs.FinMap.Entries.{is_sorted}
use Rattle.rows.specs.Cube.{whole}
use Rattle.search_core.specs.declared.nodes.NodeState.{NodeState}
use Rattle.search_core.specs.declared.nodes.NodeState.TheVariants.{Open as IsOpen, Held as IsHeld, Pending as IsPending, Studied as IsUnderStudy, Parked as IsParked}
use Rattle.search_core.specs.declared.nodes.Live.{Live}
use Rattle.search_core.specs.declared.nodes.Spot.{Spot}
use Rattle.search_core.specs.Inner.Codes.{node_code}
use Rattle.search_core.specs.Node.{Node, Open, Held, Pending, Studied, Parked, node_cube}

-- a node's state as contracts see it
abbrev pub node_of : NodeState → Node
node_of (IsOpen cube) = Open cube
node_of (IsHeld cube worker cuts bound) = Held cube worker cuts bound
node_of (IsPending cube) = Pending cube
node_of (IsUnderStudy cube worker) = Studied cube worker
node_of (IsParked cube) = Parked cube

-- a live node's number and state
abbrev pub entry_of : Live → ℕ × Node
entry_of live = (live.number, node_of live.state)

-- live nodes by number, from a list with ascending numbers
abbrev pub map_of : List Live → FinMap nat_cmp Node
map_of live = from_sorted (map entry_of live)

-- the numbers of a list of live nodes ascend
abbrev pub Ascend : List Live → Type 0
Ascend live = IsTrue (is_sorted nat_cmp (map entry_of live))

-- a live node that stands for none
abbrev pub blank_live : Live
blank_live = record { number = 0; state = IsOpen whole }

-- a live node that is open again, with its cube
abbrev pub opened : Live → Live
opened live = record { number = live.number; state = IsOpen (node_cube (node_of live.state)) }

-- the live node at place i of a list has the number
pub record IsPlace (live : List Live) (number i : ℕ) : Type 0 where
  pub within : i < length live
  pub named : (slice_index_or live i blank_live).number ≡ number

-- a spot is where a live node of its number lies: its place is that of the number among all in order
pub record IsSpot (nodes : FinMap nat_cmp Node) (spot : Spot) : Type 0 where
  pub within : spot.place < length (entries nodes)
  pub named : (slice_index_or (entries nodes) spot.place (entry_of blank_live)).0 ≡ spot.number

-- a spot is where the live node of a number lies
pub record IsSpotOf (nodes : FinMap nat_cmp Node) (number : ℕ) (spot : Spot) : Type 0 where
  pub numbered : spot.number ≡ number
  pub lies : IsSpot nodes spot

-- a number's node, and the spot where it lies
pub record IsFound (nodes : FinMap nat_cmp Node) (number : ℕ) (spot : Spot) (node : Node) : Type 0 where
  pub at : IsSpotOf nodes number spot
  pub live : get nodes number ≡ Some node

-- the live nodes by number, and for how many more there is room
pub record NodesParts : Type 0 where
  pub nodes : FinMap nat_cmp Node
  pub spare : ℕ

-- these are stored as the two
abbrev pub nodes_code : Coded NodesParts
nodes_code = code_by (FinMap nat_cmp Node × ℕ) (coded× (code coded_ℕ node_code) coded_ℕ) (λ p. (p.nodes, p.spare)) (λ p. record { nodes = p.0; spare = p.1 }) (λ _. refl)
