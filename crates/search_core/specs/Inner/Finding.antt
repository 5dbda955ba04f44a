-- For the code's own contracts: the last live node in the code's list that passes a test.
use Rattle.std.specs.Prelude.{◌≡◌, ℕ, ◌<◌, Bool, true, false, List, length, slice_index_or}
use Rattle.search_core.specs.declared.nodes.Live.{Live}
use Rattle.search_core.specs.Node.{Node}
use Rattle.search_core.specs.Inner.Nodes.{node_of, blank_live}

-- a number is that of the last live node in a list that passes a test
pub record IsLastLive (test : Node → Bool) (live : List Live) (number : ℕ) : Type 0 where
  pub place : ℕ
  pub within : place < length live
  pub named : (slice_index_or live place blank_live).number ≡ number
  pub passes : test (node_of (slice_index_or live place blank_live).state) ≡ true
  pub last : (j : ℕ) → place < j → j < length live → test (node_of (slice_index_or live j blank_live).state) ≡ false
