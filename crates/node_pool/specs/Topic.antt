-- What a pool is about.
use Rattle.std.specs.Prelude.{ℕ}
use Rattle.rows.specs.Parts.{ProblemParts}
use Rattle.search_core.specs.State.{SearchState}
use Rattle.node_pool.specs.Parts.{PoolParts}

-- the problem; the state from which the history runs, with its limit; and the numbers of workers and of analysts
pub record TopicParts : Type 0 where
  pub problem : ProblemParts
  pub base : SearchState
  pub workers : ℕ
  pub analysts : ℕ

-- all of a pool that no call of it changes
abbrev pub topic_of : PoolParts → TopicParts
topic_of pool = record { problem = pool.problem; base = pool.base; workers = pool.workers; analysts = pool.analysts }
