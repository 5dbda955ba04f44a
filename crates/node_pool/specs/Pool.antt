-- What the type of a pool keeps, and what appending an entry does.
use Rattle.std.specs.Prelude.{◌≡◌, ℕ, ◌+◌, ◌*◌, ◌<◌, ◌≤◌, false, [], ◌∷◌, ◌++◌, length}
use Rattle.std.specs.List.{All}
use Rattle.rows.specs.Parts.{ProblemParts}
use Rattle.search_core.specs.declared.limits.TheConstants.{WORKERS}
use Rattle.search_core.specs.declared.entry.Entry.{Entry}
use Rattle.search_core.specs.State.{SearchState}
use Rattle.search_core.specs.Step.{NamesWorkerBelow, Step}
use Rattle.search_core.specs.History.{Steps, IsReached, IsAllOpen, HasNoReopen}
use Rattle.search_core.specs.Diligent.{IsDiligent}
use Rattle.node_pool.specs.Parts.{PoolParts}

-- a team has 1 to 64 workers, and at most as many analysts
pub record IsTeam (workers analysts : ℕ) : Type 0 where
  pub some_workers : 1 ≤ workers
  pub few_workers : workers ≤ WORKERS
  pub few_analysts : analysts ≤ workers

-- a state from which a pool for a problem may run: a legal history of the problem leads to it, and nothing in it is held, pending, under study or parked
pub record IsPoolBase (problem : ProblemParts) (base : SearchState) : Type 0 where
  pub reached : IsReached problem base
  pub all_open : IsAllOpen base

-- what the type of a pool keeps
pub record IsPool (pool : PoolParts) : Type 0 where
  -- its team
  pub team : IsTeam pool.workers pool.analysts
  -- its history runs from a state from which it may
  pub base : IsPoolBase pool.problem pool.base
  -- the history leads from the base to the state, one step after another
  pub steps : Steps pool.problem pool.base pool.history pool.state
  -- no entry changes the limit
  pub no_reopen : HasNoReopen pool.history
  -- each entry's worker is one of the team
  pub workers_below : All (NamesWorkerBelow pool.workers) pool.history
  -- each entry is the one that the rules of the search ask for
  pub diligent : IsDiligent pool.problem pool.analysts pool.base pool.history
  -- there are at most 4 entries for each of the 2b+1 nodes that there can be, b the branchings
  pub few : length pool.history ≤ 4 * (2 * pool.state.branchings + 1)

-- all that no call of a pool changes is the same: its problem, its base and its team
pub record SamePool (old new : PoolParts) : Type 0 where
  pub problem : new.problem ≡ old.problem
  pub base : new.base ≡ old.base
  pub workers : new.workers ≡ old.workers
  pub analysts : new.analysts ≡ old.analysts

-- one entry is appended to a pool's history, a step that leads to the new state
pub record Appends (old : PoolParts) (entry : Entry) (new : PoolParts) : Type 0 where
  pub same : SamePool old new
  pub short : new.short ≡ old.short
  pub history : new.history ≡ old.history ++ entry ∷ []
  pub step : Step old.problem old.state entry new.state

-- a pool at its beginning: it runs from a state, its history is empty, there is no room for an entry yet, and it isn't short
pub record IsNewPool (problem : ProblemParts) (base : SearchState) (workers analysts : ℕ) (pool : PoolParts) : Type 0 where
  pub problem_is : pool.problem ≡ problem
  pub base_is : pool.base ≡ base
  pub workers_are : pool.workers ≡ workers
  pub analysts_are : pool.analysts ≡ analysts
  pub history_is : pool.history ≡ []
  pub state_is : pool.state ≡ base
  pub spare_is : pool.spare ≡ 0
  pub short_is : pool.short ≡ false
