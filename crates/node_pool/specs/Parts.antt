-- What contracts see of a pool.
use Rattle.std.specs.Prelude.{ℕ, Bool, List, min}
use Rattle.rows.specs.Parts.{ProblemParts}
use Rattle.search_core.specs.declared.entry.Entry.{Entry}
use Rattle.search_core.specs.State.{SearchState}
use Rattle.search_core.specs.Parts.{StateParts}
use Rattle.search_core.specs.HistoryParts.{HistoryParts}

-- the problem; the state from which the history runs; the numbers of workers and of analysts; the history and the state that it leads to; for how many entries there is room; and whether a worker met want of memory
pub record PoolParts : Type 0 where
  pub problem : ProblemParts
  pub base : SearchState
  pub workers : ℕ
  pub analysts : ℕ
  pub history : List Entry
  pub state : SearchState
  pub spare : ℕ
  pub short : Bool

-- what the parts of a pool say
abbrev pub pool_of : ProblemParts → StateParts → StateParts → HistoryParts → ℕ → ℕ → Bool → PoolParts
pool_of problem base state history workers analysts short = record {
  problem = problem;
  base = base.search;
  workers = workers;
  analysts = analysts;
  history = history.entries;
  state = state.search;
  spare = min state.spare history.spare;
  short = short;
}
