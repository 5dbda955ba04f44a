-- The state of a search.
use Rattle.std.specs.Prelude.{ℕ, List, [], Option, None, map}
use Rattle.std.specs.Ordering.{nat_cmp}
use Rattle.std.specs.FinMap.{FinMap, empty, insert, entries, from_sorted}
use Rattle.rows.specs.Parts.{CutParts, ProblemParts, KnownParts}
use Rattle.rows.specs.Cube.{whole}
use Rattle.rows.specs.Known.{known_from}
use Rattle.incumbent.specs.declared.best.Best.{Best}
use Rattle.search_core.specs.Node.{Node, Open, node_cube}

-- the live nodes by number, the rows of the learned cuts by number, the best accepted candidate or none, the number of branchings, and their limit
pub record SearchState : Type 0 where
  pub nodes : FinMap nat_cmp Node
  pub cuts : List CutParts
  pub best : Option Best
  pub branchings : ℕ
  pub limit : ℕ

-- the state in which a search with a limit begins: node 0 is open, with nothing fixed
abbrev pub start_of : ℕ → SearchState
start_of limit = record { nodes = insert empty 0 (Open whole); cuts = []; best = None; branchings = 0; limit = limit }

-- what is known at a node that was taken when there were this many cuts and this bound on the cost
abbrev pub known_at : ProblemParts → SearchState → ℕ → Option ℕ → KnownParts
known_at problem state cuts bound = known_from problem cuts bound state.cuts

-- the same nodes with the same cubes, all open
abbrev pub all_open : FinMap nat_cmp Node → FinMap nat_cmp Node
all_open nodes = from_sorted (map (λ e. (e.0, Open (node_cube e.1))) (entries nodes))
