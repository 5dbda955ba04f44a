-- The live nodes of a search.
use Rattle.std.specs.Prelude.{◌≡◌, ℕ, nat_eq, Bool, true, false, Option, Some}
use Rattle.std.specs.Ordering.{nat_cmp}
use Rattle.std.specs.FinMap.{FinMap, get}
use Rattle.rows.specs.Parts.{CubeParts}

-- a node that is open with a cube; held with one by a worker, with the number of cuts and the bound on the cost, in cost units, that it knows; pending, with the cube of a complete candidate; under study by a worker, with such a cube; or parked with a cube
pub data Node : Type 0 where
  Open : (cube : CubeParts) → Node
  Held : (cube : CubeParts) (worker cuts : ℕ) (bound : Option ℕ) → Node
  Pending : (cube : CubeParts) → Node
  Studied : (cube : CubeParts) (worker : ℕ) → Node
  Parked : (cube : CubeParts) → Node

-- the cube of a node
abbrev pub node_cube : Node → CubeParts
node_cube (Open cube) = cube
node_cube (Held cube worker cuts bound) = cube
node_cube (Pending cube) = cube
node_cube (Studied cube worker) = cube
node_cube (Parked cube) = cube

-- whether a node is parked
abbrev pub is_parked : Node → Bool
is_parked (Open cube) = false
is_parked (Held cube worker cuts bound) = false
is_parked (Pending cube) = false
is_parked (Studied cube worker) = false
is_parked (Parked cube) = true

-- whether a node is open
abbrev pub is_open : Node → Bool
is_open (Open cube) = true
is_open (Held cube worker cuts bound) = false
is_open (Pending cube) = false
is_open (Studied cube worker) = false
is_open (Parked cube) = false

-- whether a node is pending
abbrev pub is_pending : Node → Bool
is_pending (Open cube) = false
is_pending (Held cube worker cuts bound) = false
is_pending (Pending cube) = true
is_pending (Studied cube worker) = false
is_pending (Parked cube) = false

-- whether a node is held by a worker
abbrev pub is_held_by : ℕ → Node → Bool
is_held_by worker (Open cube) = false
is_held_by worker (Held cube w cuts bound) = nat_eq w worker
is_held_by worker (Pending cube) = false
is_held_by worker (Studied cube w) = false
is_held_by worker (Parked cube) = false

-- whether a node is under study by a worker
abbrev pub is_studied_by : ℕ → Node → Bool
is_studied_by worker (Open cube) = false
is_studied_by worker (Held cube w cuts bound) = false
is_studied_by worker (Pending cube) = false
is_studied_by worker (Studied cube w) = nat_eq w worker
is_studied_by worker (Parked cube) = false

-- something holds of each live node and its number
abbrev pub EachNode : (ℕ → Node → Type 0) → FinMap nat_cmp Node → Type 0
EachNode P nodes = (i : ℕ) (node : Node) → get nodes i ≡ Some node → P i node

-- the cube of a node that is pending or under study
abbrev pub IsCandidateCube : Node → CubeParts → Type 0
IsCandidateCube (Open c) cube = ⊥
IsCandidateCube (Held c worker cuts bound) cube = ⊥
IsCandidateCube (Pending c) cube = c ≡ cube
IsCandidateCube (Studied c worker) cube = c ≡ cube
IsCandidateCube (Parked c) cube = ⊥
