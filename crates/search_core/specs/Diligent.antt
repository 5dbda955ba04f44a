-- Diligent histories: each entry is the one that the rules of the search ask for.
use Rattle.std.specs.Prelude.{◌≡◌, ℕ, ◌≤◌, ◌<◌, false, List, [], ◌∷◌, Some}
use Rattle.rows.specs.declared.known.RowRef.{RowRef}
use Rattle.rows.specs.Parts.{ProblemParts}
use Rattle.rows.specs.Known.{IsQuiet}
use Rattle.rows.specs.Ascent.{is_ascent_refuted}
use Rattle.redundancy_cut.specs.ChosenCut.{chosen_cut_of}
use Rattle.search_core.specs.declared.entry.Entry.{Entry}
use Rattle.search_core.specs.declared.entry.Entry.TheVariants.{Take, Branch, Prune, Offer, Study, Publish, Accept, Park, Reopen}
use Rattle.search_core.specs.Node.{EachNode, is_open, is_pending}
use Rattle.search_core.specs.State.{SearchState, known_at}
use Rattle.search_core.specs.Candidate.{candidate_of}
use Rattle.search_core.specs.Step.{Step, IsTraced, IsStudied}

-- no live node is open
abbrev pub NothingOpen : SearchState → Type 0
NothingOpen state = EachNode (λ i node. is_open node ≡ false) state.nodes

-- no live node is pending
abbrev pub NothingPending : SearchState → Type 0
NothingPending state = EachNode (λ i node. is_pending node ≡ false) state.nodes

-- no open node has a greater number
abbrev pub IsLastOpen : SearchState → ℕ → Type 0
IsLastOpen state i = EachNode (λ j node. i < j → is_open node ≡ false) state.nodes

-- no pending node has a greater number
abbrev pub IsLastPending : SearchState → ℕ → Type 0
IsLastPending state i = EachNode (λ j node. i < j → is_pending node ≡ false) state.nodes

-- a Take names the greatest open number, and one by an analyst stands where nothing is pending
pub record TakesLast (analysts : ℕ) (state : SearchState) (worker node : ℕ) : Type 0 where
  pub last : IsLastOpen state node
  pub analyst : worker < analysts → NothingPending state

-- a Study names the greatest pending number, and one by no analyst stands where nothing is open
pub record StudiesLast (analysts : ℕ) (state : SearchState) (worker node : ℕ) : Type 0 where
  pub last : IsLastPending state node
  pub other : analysts ≤ worker → NothingOpen state

-- a Branch's cube after its trace is quiet for what is known at the node, and the ascent there isn't refuted
pub record IsQuietAfter (problem : ProblemParts) (state : SearchState) (worker node : ℕ) (trace : List RowRef) (traced : IsTraced problem state worker node trace) : Type 0 where
  pub quiet : IsQuiet (known_at problem state traced.cuts traced.bound) traced.after
  pub ascent : is_ascent_refuted (known_at problem state traced.cuts traced.bound) traced.after ≡ false

-- an entry is diligent at a state, for a number of analysts; a Publish has the cut that must be published for its candidate
abbrev pub IsDiligentAt : ProblemParts → ℕ → SearchState → Entry → Type 0
IsDiligentAt problem analysts state (Take worker node cuts bound) = TakesLast analysts state worker node
IsDiligentAt problem analysts state (Branch worker node trace var) = (traced : IsTraced problem state worker node trace) → IsQuietAfter problem state worker node trace traced
IsDiligentAt problem analysts state (Prune worker node trace reason) = Unit {0}
IsDiligentAt problem analysts state (Offer worker node trace) = Unit {0}
IsDiligentAt problem analysts state (Study worker node) = StudiesLast analysts state worker node
IsDiligentAt problem analysts state (Publish worker node cut) = (study : IsStudied state worker node) → chosen_cut_of problem.library (candidate_of problem.library study.cube) ≡ Some cut
IsDiligentAt problem analysts state (Accept worker node cost) = Unit {0}
IsDiligentAt problem analysts state (Park worker node) = Unit {0}
IsDiligentAt problem analysts state (Reopen limit) = Unit {0}

-- the entries from a state on are steps, and each is diligent where it stands
abbrev pub IsDiligent : ProblemParts → ℕ → SearchState → List Entry → Type 0
IsDiligent problem analysts state [] = Unit {0}
IsDiligent problem analysts state (entry ∷ entries) =
    IsDiligentAt problem analysts state entry × ((next : SearchState) × Step problem state entry next × IsDiligent problem analysts next entries)
