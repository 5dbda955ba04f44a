-- For the code's own contracts: what a round of one worker does to a pool.
use Rattle.std.specs.Prelude.{◌≡◌, ℕ, ◌+◌, ◌*◌, ◌<◌, ◌≤◌, Bool, true, false, length, Some}
use Rattle.arch_model.specs.Parts.{LibraryParts, ArchitectureParts}
use Rattle.arch_model.specs.Admissible.{IsAdmissible}
use Rattle.redundancy_cut.specs.ChosenCut.{chosen_cut_of}
use Rattle.analyst.specs.declared.verdict.Verdict.{Verdict}
use Rattle.analyst.specs.declared.verdict.Verdict.TheVariants.{Meets, Breaks}
use Rattle.search_core.specs.History.{IsAtRest}
use Rattle.search_core.specs.Answers.{answer_of}
use Rattle.node_pool.specs.declared.ticket.Work.{Work}
use Rattle.node_pool.specs.declared.ticket.Work.TheVariants.{Node as ANode, Candidate as ACandidate, Nothing, Done}
use Rattle.node_pool.specs.Parts.{PoolParts}
use Rattle.node_pool.specs.Pool.{IsPool, SamePool}
use Rattle.node_pool.specs.Tickets.{IsHeldFor, IsStudiedFor}
use Rattle.node_pool.specs.Holding.{IsIdle}
use Rattle.worker_team.specs.declared.solved.Solved.{Solved}

-- a pool's history became longer by at least so many entries; its problem, its base, its team and whether it is short of memory are the same
pub record GoesOn (least : ℕ) (old new : PoolParts) : Type 0 where
  pub same : SamePool old new
  pub short : new.short ≡ old.short
  pub more : length old.history + least ≤ length new.history

-- a pool's history became longer by one entry; its problem, its base, its team and whether it is short of memory are the same
pub record AddsOne (old new : PoolParts) : Type 0 where
  pub same : SamePool old new
  pub short : new.short ≡ old.short
  pub one : length new.history ≡ length old.history + 1

-- what a round did: where there was work, the pool went on by an entry at least; where there was none, its state is at rest
abbrev pub IsRound : PoolParts → Bool → PoolParts → Type 0
IsRound old true new = GoesOn 1 old new
IsRound old false new = GoesOn 0 old new × IsAtRest new.state

-- the work that somebody has in hand, with its ticket; where there is none, the state is at rest
abbrev pub IsInHand : PoolParts → Work → Type 0
IsInHand pool (ANode ticket) = IsHeldFor pool ticket
IsInHand pool (ACandidate ticket) = IsStudiedFor pool ticket
IsInHand pool Nothing = IsAtRest pool.state
IsInHand pool Done = IsAtRest pool.state

-- nobody holds or studies anything
abbrev pub AllIdle : PoolParts → Type 0
AllIdle pool = (worker : ℕ) → worker < pool.workers → IsIdle pool worker

-- a pool's history is at most so long as its limit of branchings lets it be
abbrev pub IsWithinLimit : PoolParts → Type 0
IsWithinLimit pool = length pool.history ≤ 4 * (2 * pool.base.limit + 1)

-- what is left of a pool at the end of its search
pub record IsLeftOf (pool : PoolParts) (solved : Solved) : Type 0 where
  pub is : IsPool pool
  pub answer : answer_of pool.state ≡ Some solved.answer
  pub history : solved.history.entries ≡ pool.history
  pub best : solved.best ≡ pool.state.best
  pub branchings : solved.branchings ≡ pool.state.branchings
  pub cuts : solved.cuts ≡ length pool.state.cuts

-- a verdict on a candidate: it is admissible, or this is the cut that must be published for it
abbrev pub IsVerdict : LibraryParts → ArchitectureParts → Verdict → Type 0
IsVerdict lib arch Meets = IsAdmissible lib arch
IsVerdict lib arch (Breaks cut) = chosen_cut_of lib arch ≡ Some cut

-- what a search leaves that ended from a pool: what is left of a pool at rest, with the same problem, base and team
pub record IsEndOf (pool : PoolParts) (solved : Solved) : Type 0 where
  pub after : PoolParts
  pub same : SamePool pool after
  pub rest : IsAtRest after.state
  pub left : IsLeftOf after solved
