-- For the code's own contracts: which entries a pool may append.
use Rattle.std.specs.Prelude.{◌≡◌, false}
use Rattle.search_core.specs.declared.entry.Entry.{Entry}
use Rattle.search_core.specs.State.{SearchState}
use Rattle.search_core.specs.Step.{NamesWorkerBelow, Step}
use Rattle.search_core.specs.History.{is_reopen}
use Rattle.search_core.specs.Diligent.{IsDiligentAt}
use Rattle.node_pool.specs.Parts.{PoolParts}

-- an entry may be appended: it is a step from the pool's state, changes no limit, names a worker of the team, and is the one that the rules of the search ask for
pub record MayAppend (pool : PoolParts) (entry : Entry) : Type 0 where
  pub next : SearchState
  pub step : Step pool.problem pool.state entry next
  pub kept_limit : is_reopen entry ≡ false
  pub worker : NamesWorkerBelow pool.workers entry
  pub diligent : IsDiligentAt pool.problem pool.analysts pool.state entry
