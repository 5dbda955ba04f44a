-- The last live node of a kind.
use Rattle.std.specs.Prelude.{◌≡◌, ℕ, ◌<◌, Bool, true, false, ◌||◌, Some}
use Rattle.std.specs.Ordering.{nat_cmp}
use Rattle.std.specs.FinMap.{FinMap, get}
use Rattle.search_core.specs.declared.sought.Sought.{Sought}
use Rattle.search_core.specs.declared.sought.Sought.TheVariants.{Open, Pending, Of}
use Rattle.search_core.specs.Node.{Node, EachNode, is_open, is_pending, is_held_by, is_studied_by}

-- whether a node is of a kind: open, pending, or held or studied by a worker
abbrev pub sought_by : Sought → Node → Bool
sought_by Open node = is_open node
sought_by Pending node = is_pending node
sought_by (Of worker) node = is_held_by worker node || is_studied_by worker node

-- a number is the greatest of a live node that passes a test
pub record IsLastSought (test : Node → Bool) (nodes : FinMap nat_cmp Node) (number : ℕ) : Type 0 where
  pub node : Node
  pub live : get nodes number ≡ Some node
  pub passes : test node ≡ true
  pub last : EachNode (λ j other. number < j → test other ≡ false) nodes
