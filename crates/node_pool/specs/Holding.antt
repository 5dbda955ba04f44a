-- What a worker holds or studies.
use Rattle.std.specs.Prelude.{◌≡◌, ℕ, ◌||◌}
use Rattle.search_core.specs.Node.{is_held_by, is_studied_by}
use Rattle.search_core.specs.Step.{IsHeldBy, IsStudied}
use Rattle.search_core.specs.Sought.{IsLastSought}
use Rattle.node_pool.specs.declared.ticket.SearchTicket.{SearchTicket}
use Rattle.node_pool.specs.declared.ticket.StudyTicket.{StudyTicket}
use Rattle.node_pool.specs.declared.ticket.Work.{Work}
use Rattle.node_pool.specs.declared.ticket.Work.TheVariants.{Node as ANode, Candidate as ACandidate, Nothing, Done}
use Rattle.node_pool.specs.Parts.{PoolParts}
use Rattle.node_pool.specs.Tickets.{IsHeldFor, IsStudiedFor}

-- a worker holds and studies nothing
abbrev pub IsIdle : PoolParts → ℕ → Type 0
IsIdle pool worker = (node : ℕ) → (IsHeldBy pool.state worker node → ⊥) × (IsStudied pool.state worker node → ⊥)

-- a number is the greatest of a node that a worker holds or studies
abbrev pub IsWorkersLast : PoolParts → ℕ → ℕ → Type 0
IsWorkersLast pool worker number = IsLastSought (λ node. is_held_by worker node || is_studied_by worker node) pool.state.nodes number

-- a ticket is that of a worker's last node, which it holds
pub record HasNode (pool : PoolParts) (worker : ℕ) (ticket : SearchTicket) : Type 0 where
  pub named : ticket.worker ≡ worker
  pub last : IsWorkersLast pool worker ticket.node
  pub held : IsHeldFor pool ticket

-- a ticket is that of a worker's last node, whose candidate it studies
pub record HasCandidate (pool : PoolParts) (worker : ℕ) (ticket : StudyTicket) : Type 0 where
  pub named : ticket.worker ≡ worker
  pub last : IsWorkersLast pool worker ticket.node
  pub studied : IsStudiedFor pool ticket

-- the work that a worker has in hand: a node or a candidate, with its ticket
abbrev pub HasWork : PoolParts → ℕ → Work → Type 0
HasWork pool worker (ANode ticket) = HasNode pool worker ticket
HasWork pool worker (ACandidate ticket) = HasCandidate pool worker ticket
HasWork pool worker Nothing = ⊥
HasWork pool worker Done = ⊥
