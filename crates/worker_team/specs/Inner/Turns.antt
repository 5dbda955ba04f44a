-- For the code's own contracts: what a worker of a team brings to a turn, what the turn does to the pool, and with what the worker goes on.
use Rattle.std.specs.Prelude.{◌≡◌, ◌⊎◌, ℕ, ◌+◌, true, List, length}
use Rattle.std.specs.List.{All}
use Rattle.arch_model.specs.Member.{member_count}
use Rattle.rows.specs.Parts.{CutParts, ProblemParts}
use Rattle.rows.specs.Problem.{IsCandidate}
use Rattle.rows.specs.Cube.{IsCubeBelow}
use Rattle.rows.specs.Known.{IsKnown, IsCutBelow, known_from}
use Rattle.search_core.specs.History.{IsAtRest}
use Rattle.branch_worker.specs.Outcome.{IsOutcome}
use Rattle.node_pool.specs.declared.ticket.SearchTicket.{SearchTicket}
use Rattle.node_pool.specs.declared.ticket.Work.{Work}
use Rattle.node_pool.specs.declared.ticket.Work.TheVariants as work
use Rattle.node_pool.specs.Parts.{PoolParts}
use Rattle.node_pool.specs.Topic.{topic_of}
use Rattle.node_pool.specs.Tickets.{IsHeldFor, IsStudiedFor}
use Rattle.node_pool.specs.Taking.{IsWaiting}
use Rattle.worker_team.specs.declared.turn.Brought.{Brought}
use Rattle.worker_team.specs.declared.turn.Brought.TheVariants as brings
use Rattle.worker_team.specs.declared.turn.Next.{Next}
use Rattle.worker_team.specs.declared.turn.Next.TheVariants as next
use Rattle.worker_team.specs.Inner.Rounds.{IsVerdict}

-- what a gate asks of a pool that is given back: it is about the same, and its history is as long as before or one entry longer
pub record IsTurned (old new : PoolParts) : Type 0 where
  pub topic : topic_of new ≡ topic_of old
  pub count : (length new.history ≡ length old.history) ⊎ (length new.history ≡ length old.history + 1)

-- the cuts of a list are over a problem's variables
abbrev pub AreCutsOf : ProblemParts → List CutParts → Type 0
AreCutsOf problem cuts = All (IsCutBelow (member_count problem.library)) cuts

-- a worker with these cuts can search a ticket's node: it has as many cuts as are known there
pub record IsReady (problem : ProblemParts) (cuts : List CutParts) (ticket : SearchTicket) : Type 0 where
  pub known : IsKnown (known_from problem ticket.cuts ticket.bound cuts)
  pub below : IsCubeBelow (member_count problem.library) ticket.cube

-- what a worker with these cuts brings to a turn: an outcome by what it knew at a node, or a verdict on a candidate
abbrev pub IsBrought : ProblemParts → List CutParts → Brought → Type 0
IsBrought problem cuts (brings.Outcome ticket outcome) = IsOutcome (known_from problem ticket.cuts ticket.bound cuts) ticket.cube outcome
IsBrought problem cuts (brings.Verdict ticket verdict) = IsVerdict problem.library ticket.candidate verdict
IsBrought problem cuts brings.Nothing = Unit {0}
IsBrought problem cuts brings.Short = Unit {0}

-- the work of a worker: its own node or candidate, which the pool holds for it; nothing at the moment; or nothing any more
abbrev pub IsWorkOf : PoolParts → ℕ → Work → Type 0
IsWorkOf pool worker (work.Node ticket) = (ticket.worker ≡ worker) × IsHeldFor pool ticket
IsWorkOf pool worker (work.Candidate ticket) = (ticket.worker ≡ worker) × IsStudiedFor pool ticket
IsWorkOf pool worker work.Nothing = IsWaiting pool.state
IsWorkOf pool worker work.Done = IsAtRest pool.state

-- with what a worker goes on after a turn, by its cuts: a node that it can search, or a candidate that it can study
abbrev pub IsTask : ProblemParts → List CutParts → Next → Type 0
IsTask problem cuts (next.Node ticket taken) = IsReady problem cuts ticket
IsTask problem cuts (next.Candidate ticket taken) = IsCandidate problem.library ticket.candidate
IsTask problem cuts next.Turn = Unit {0}
IsTask problem cuts next.Wait = Unit {0}
IsTask problem cuts next.End = Unit {0}

-- why a worker goes on so: the node or candidate is its own; it waits where nothing is open or pending but something is in hand; it ends where the pool is short or at rest
abbrev pub IsDue : PoolParts → ℕ → Next → Type 0
IsDue pool worker (next.Node ticket taken) = (ticket.worker ≡ worker) × IsHeldFor pool ticket
IsDue pool worker (next.Candidate ticket taken) = (ticket.worker ≡ worker) × IsStudiedFor pool ticket
IsDue pool worker next.Turn = Unit {0}
IsDue pool worker next.Wait = IsWaiting pool.state
IsDue pool worker next.End = (pool.short ≡ true) ⊎ IsAtRest pool.state
