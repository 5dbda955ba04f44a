-- What a pool hands out.
use Rattle.std.specs.Prelude.{◌≡◌, ◌⊎◌, ℕ, ◌<◌, ◌≤◌}
use Rattle.search_core.specs.declared.entry.Entry.TheVariants.{Take, Study}
use Rattle.search_core.specs.State.{SearchState}
use Rattle.search_core.specs.Step.{IsHeldBy, IsStudied}
use Rattle.search_core.specs.History.{IsAtRest}
use Rattle.search_core.specs.Diligent.{NothingOpen, NothingPending, IsLastOpen, IsLastPending}
use Rattle.node_pool.specs.declared.ticket.SearchTicket.{SearchTicket}
use Rattle.node_pool.specs.declared.ticket.StudyTicket.{StudyTicket}
use Rattle.node_pool.specs.declared.ticket.Work.{Work}
use Rattle.node_pool.specs.declared.ticket.Work.TheVariants.{Node as ANode, Candidate as ACandidate, Nothing, Done}
use Rattle.node_pool.specs.Parts.{PoolParts}
use Rattle.node_pool.specs.Pool.{Appends}
use Rattle.node_pool.specs.Tickets.{IsHeldFor, IsStudiedFor}

-- a worker is handed the open node of the greatest number; an analyst only where nothing is pending
pub record HandsNode (old : PoolParts) (worker : ℕ) (ticket : SearchTicket) (new : PoolParts) : Type 0 where
  pub named : ticket.worker ≡ worker
  pub last : IsLastOpen old.state ticket.node
  pub analyst : worker < old.analysts → NothingPending old.state
  pub appends : Appends old (Take worker ticket.node ticket.cuts ticket.bound) new
  pub held : IsHeldFor new ticket

-- a worker is handed the pending candidate of the greatest number; one who is no analyst only where nothing is open
pub record HandsCandidate (old : PoolParts) (worker : ℕ) (ticket : StudyTicket) (new : PoolParts) : Type 0 where
  pub named : ticket.worker ≡ worker
  pub last : IsLastPending old.state ticket.node
  pub other : old.analysts ≤ worker → NothingOpen old.state
  pub appends : Appends old (Study worker ticket.node) new
  pub studied : IsStudiedFor new ticket

-- some worker holds or studies some node
abbrev pub IsInHand : SearchState → Type 0
IsInHand state = (worker : ℕ) × (node : ℕ) × (IsHeldBy state worker node ⊎ IsStudied state worker node)

-- nothing is open or pending, but something is held or under study
pub record IsWaiting (state : SearchState) : Type 0 where
  pub nothing_open : NothingOpen state
  pub nothing_pending : NothingPending state
  pub something : IsInHand state

-- what a worker is handed, and what that does to the pool: Nothing and Done leave it as it was
abbrev pub HandsOut : PoolParts → ℕ → Work → PoolParts → Type 0
HandsOut old worker (ANode ticket) new = HandsNode old worker ticket new
HandsOut old worker (ACandidate ticket) new = HandsCandidate old worker ticket new
HandsOut old worker Nothing new = (new ≡ old) × IsWaiting old.state
HandsOut old worker Done new = (new ≡ old) × IsAtRest old.state
