-- Histories: entries that are steps one after another.
use Rattle.std.specs.Prelude.{◌≡◌, ℕ, ◌≤◌, Bool, true, false, List, [], ◌∷◌, ◌++◌, IsTrue}
use Rattle.std.specs.List.{All, list_all}
use Rattle.std.specs.FinMap.{len, values}
use Rattle.rows.specs.Parts.{CutParts, ProblemParts}
use Rattle.search_core.specs.declared.limits.TheConstants.{BRANCHINGS}
use Rattle.search_core.specs.declared.entry.Entry.{Entry}
use Rattle.search_core.specs.declared.entry.Entry.TheVariants.{Take, Branch, Prune, Offer, Study, Publish, Accept, Park, Reopen}
use Rattle.search_core.specs.Node.{EachNode, is_open, is_parked}
use Rattle.search_core.specs.State.{SearchState, start_of}
use Rattle.search_core.specs.Step.{Step}

-- the entries lead from the old state to the new one, one step after another
abbrev pub Steps : ProblemParts → SearchState → List Entry → SearchState → Type 0
Steps problem old [] new = new ≡ old
Steps problem old (entry ∷ entries) new = (mid : SearchState) × Step problem old entry mid × Steps problem mid entries new

-- a history is legal for a problem and a limit, and leads to a state: the limit is at most 100000, and its entries are steps one after another from the start
pub record Reaches (problem : ProblemParts) (limit : ℕ) (entries : List Entry) (state : SearchState) : Type 0 where
  pub few : limit ≤ BRANCHINGS
  pub steps : Steps problem (start_of limit) entries state

-- a history is legal where it leads to some state
abbrev pub IsLegal : ProblemParts → ℕ → List Entry → Type 0
IsLegal problem limit entries = (state : SearchState) × Reaches problem limit entries state

-- a state that some legal history of the problem leads to
abbrev pub IsReached : ProblemParts → SearchState → Type 0
IsReached problem state = (limit : ℕ) × (entries : List Entry) × Reaches problem limit entries state

-- a list of cuts goes on with further ones
abbrev pub GoesOn : List CutParts → List CutParts → Type 0
GoesOn old new = (more : List CutParts) × (new ≡ old ++ more)

-- whether a state is at rest: nothing is open, held, pending or under study
abbrev pub is_at_rest : SearchState → Bool
is_at_rest state = list_all is_parked (values state.nodes)

-- a state is at rest
abbrev pub IsAtRest : SearchState → Type 0
IsAtRest state = IsTrue (is_at_rest state)

-- nothing is parked
abbrev pub NothingParked : SearchState → Type 0
NothingParked state = EachNode (λ i node. is_parked node ≡ false) state.nodes

-- a state is complete: no node is live, so that it is at rest and nothing is parked
abbrev pub IsComplete : SearchState → Type 0
IsComplete state = len state.nodes ≡ 0

-- nothing is held, pending, under study or parked
abbrev pub IsAllOpen : SearchState → Type 0
IsAllOpen state = All (λ node. is_open node ≡ true) (values state.nodes)

-- whether an entry changes the limit
abbrev pub is_reopen : Entry → Bool
is_reopen (Take worker node cuts bound) = false
is_reopen (Branch worker node trace var) = false
is_reopen (Prune worker node trace reason) = false
is_reopen (Offer worker node trace) = false
is_reopen (Study worker node) = false
is_reopen (Publish worker node cut) = false
is_reopen (Accept worker node cost) = false
is_reopen (Park worker node) = false
is_reopen (Reopen limit) = true

-- whether an entry branches
abbrev pub is_branch : Entry → Bool
is_branch (Take worker node cuts bound) = false
is_branch (Branch worker node trace var) = true
is_branch (Prune worker node trace reason) = false
is_branch (Offer worker node trace) = false
is_branch (Study worker node) = false
is_branch (Publish worker node cut) = false
is_branch (Accept worker node cost) = false
is_branch (Park worker node) = false
is_branch (Reopen limit) = false

-- whether an entry publishes a cut
abbrev pub is_publish : Entry → Bool
is_publish (Take worker node cuts bound) = false
is_publish (Branch worker node trace var) = false
is_publish (Prune worker node trace reason) = false
is_publish (Offer worker node trace) = false
is_publish (Study worker node) = false
is_publish (Publish worker node cut) = true
is_publish (Accept worker node cost) = false
is_publish (Park worker node) = false
is_publish (Reopen limit) = false

-- no entry of a history changes the limit
abbrev pub HasNoReopen : List Entry → Type 0
HasNoReopen entries = All (λ entry. is_reopen entry ≡ false) entries
