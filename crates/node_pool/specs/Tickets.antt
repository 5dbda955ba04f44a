-- What a pool asks of the tickets that come back to it.
use Rattle.std.specs.Prelude.{◌≡◌, ℕ, ◌≤◌, List, take, length, Some}
use Rattle.std.specs.FinMap.{get}
use Rattle.rows.specs.Parts.{CubeParts, CutParts, KnownParts}
use Rattle.redundancy_cut.specs.declared.cut.Cut.{Cut}
use Rattle.redundancy_cut.specs.ChosenCut.{chosen_cut_of}
use Rattle.search_core.specs.Node.{Held, Studied}
use Rattle.search_core.specs.State.{known_at}
use Rattle.search_core.specs.Candidate.{candidate_of}
use Rattle.node_pool.specs.declared.ticket.SearchTicket.{SearchTicket}
use Rattle.node_pool.specs.declared.ticket.StudyTicket.{StudyTicket}
use Rattle.node_pool.specs.declared.ticket.AtLimit.{AtLimit}
use Rattle.node_pool.specs.Parts.{PoolParts}

-- a pool holds a ticket's node for its worker, with the ticket's cube, cuts and bound
abbrev pub IsHeldFor : PoolParts → SearchTicket → Type 0
IsHeldFor pool ticket = get pool.state.nodes ticket.node ≡ Some (Held ticket.cube ticket.worker ticket.cuts ticket.bound)

-- a ticket's node is under study by its worker, with the ticket's candidate
pub record IsStudiedFor (pool : PoolParts) (ticket : StudyTicket) : Type 0 where
  pub cube : CubeParts
  pub studied : get pool.state.nodes ticket.node ≡ Some (Studied cube ticket.worker)
  pub candidate : ticket.candidate ≡ candidate_of pool.problem.library cube

-- two lists of cuts both begin with the same cuts, n of them
pub record BeginAlike (n : ℕ) (a b : List CutParts) : Type 0 where
  pub some : n ≤ length a
  pub others : n ≤ length b
  pub alike : take n a ≡ take n b

-- a ticket fits a pool and a worker's cuts: its node is held for it, and these cuts and the pool's begin alike with those that the ticket knows
pub record Fits (pool : PoolParts) (ticket : SearchTicket) (cuts : List CutParts) : Type 0 where
  pub held : IsHeldFor pool ticket
  pub alike : BeginAlike ticket.cuts cuts pool.state.cuts

-- what is known at a ticket's node
abbrev pub known_for : PoolParts → SearchTicket → KnownParts
known_for pool ticket = known_at pool.problem pool.state ticket.cuts ticket.bound

-- a cut is the one that must be published for a ticket's candidate
abbrev pub MustPublish : PoolParts → StudyTicket → Cut → Type 0
MustPublish pool ticket cut = chosen_cut_of pool.problem.library ticket.candidate ≡ Some cut

-- a node can't be split, since the branchings are at their limit: the ticket, and the two numbers, which are equal
pub record IsAtLimit (pool : PoolParts) (ticket : SearchTicket) (told : AtLimit) : Type 0 where
  pub handed_back : told.ticket ≡ ticket
  pub branchings_are : told.branchings ≡ pool.state.branchings
  pub limit_is : told.limit ≡ pool.state.limit
  pub equal : pool.state.branchings ≡ pool.state.limit
