-- The rules that an entry breaks at a state, in the order in which they are judged.
use Rattle.std.specs.Prelude.{◌≡◌, ◌⊎◌, ℕ, ◌<◌, ◌≤◌, true, false, List, length, map, Option, Some, Err}
use Rattle.std.specs.List.{All}
use Rattle.std.specs.FinMap.{get}
use Rattle.arch_model.specs.Parts.{LibraryParts, ArchitectureParts}
use Rattle.arch_model.specs.Architecture.{cost_of}
use Rattle.arch_model.specs.Weight.{weight_of}
use Rattle.arch_model.specs.Member.{member_count}
use Rattle.rows.specs.declared.known.RowRef.{RowRef}
use Rattle.rows.specs.declared.known.Pair.{Pair}
use Rattle.rows.specs.Parts.{CubeParts, ProblemParts}
use Rattle.rows.specs.Row.{row_of_cut}
use Rattle.rows.specs.Cube.{is_free, IsFull}
use Rattle.rows.specs.Activity.{is_refuted}
use Rattle.rows.specs.Reason.{AllThere, is_together}
use Rattle.redundancy_cut.specs.declared.cut.Cut.{Cut}
use Rattle.redundancy_cut.specs.RightCut.{IsRightCut}
use Rattle.redundancy_cut.specs.CutRow.{cut_row_of}
use Rattle.incumbent.specs.Best.{best_cost}
use Rattle.search_core.specs.declared.limits.TheConstants.{WORKERS, BRANCHINGS}
use Rattle.search_core.specs.declared.rule.Rule.{Rule}
use Rattle.search_core.specs.declared.rule.Rule.TheVariants as rule
use Rattle.search_core.specs.declared.entry.Entry.{Entry}
use Rattle.search_core.specs.declared.entry.Entry.TheVariants.{Take, Branch, Prune, Offer, Study, Publish, Accept, Park, Reopen}
use Rattle.search_core.specs.Node.{Open, Pending}
use Rattle.search_core.specs.State.{SearchState, known_at}
use Rattle.search_core.specs.Candidate.{candidate_of}
use Rattle.search_core.specs.Follow.{follow_trace}
use Rattle.search_core.specs.Step.{IsHeldBy, IsTraced, IsStudied}

-- a rule is the first that is broken: what it asks doesn't hold, or that holds and the rule is the first of the rest
abbrev pub Breaks : Rule → Type 0 → Rule → Type 0 → Type 0
Breaks asking fact broken rest = ((fact → ⊥) × (broken ≡ asking)) ⊎ (fact × rest)

-- a node is open
abbrev pub IsOpenAt : SearchState → ℕ → Type 0
IsOpenAt state n = (cube : CubeParts) × (get state.nodes n ≡ Some (Open cube))

-- a node is pending
abbrev pub IsPendingAt : SearchState → ℕ → Type 0
IsPendingAt state n = (cube : CubeParts) × (get state.nodes n ≡ Some (Pending cube))

-- what a Take breaks first
abbrev pub TakeBreaks : SearchState → ℕ → ℕ → ℕ → Option ℕ → Rule → Type 0
TakeBreaks state worker n cuts bound broken =
    Breaks rule.Worker (worker < WORKERS) broken (Breaks rule.Node (IsOpenAt state n) broken (Breaks rule.Cuts (cuts ≡ length state.cuts) broken (Breaks rule.Bound (bound ≡ best_cost state.best) broken ⊥)))

-- what a Study breaks first
abbrev pub StudyBreaks : SearchState → ℕ → ℕ → Rule → Type 0
StudyBreaks state worker n broken = Breaks rule.Worker (worker < WORKERS) broken (Breaks rule.Node (IsPendingAt state n) broken ⊥)

-- what a Park breaks first
abbrev pub ParkBreaks : SearchState → ℕ → ℕ → Rule → Type 0
ParkBreaks state worker n broken = Breaks rule.Worker (worker < WORKERS) broken (Breaks rule.Node (IsHeldBy state worker n) broken (Breaks rule.Limit (state.branchings ≡ state.limit) broken ⊥))

-- a new limit is at least the old one and at most 100000
pub record IsNewLimit (state : SearchState) (limit : ℕ) : Type 0 where
  pub not_less : state.limit ≤ limit
  pub few : limit ≤ BRANCHINGS

-- what a Reopen breaks first
abbrev pub ReopenBreaks : SearchState → ℕ → Rule → Type 0
ReopenBreaks state limit broken = Breaks rule.Limit (IsNewLimit state limit) broken ⊥

-- a trace breaks a rule at its first bad step
pub record TraceBreaks (problem : ProblemParts) (state : SearchState) (worker n : ℕ) (trace : List RowRef) (broken : Rule) : Type 0 where
  pub whose : IsHeldBy state worker n
  pub stops : follow_trace (known_at problem state whose.cuts whose.bound) whose.cube trace ≡ Err broken

-- what an entry of a held node's worker with a trace breaks before anything after its trace is judged
abbrev pub HeldFails : ProblemParts → SearchState → ℕ → ℕ → List RowRef → Rule → Type 0
HeldFails problem state worker n trace broken = Breaks rule.Worker (worker < WORKERS) broken (Breaks rule.Node (IsHeldBy state worker n) broken (TraceBreaks problem state worker n trace broken))

-- an entry of a held node's worker with a trace: Worker, Node, the trace, and then what comes after the trace
abbrev pub HeldBreaks : (problem : ProblemParts) (state : SearchState) (worker n : ℕ) (trace : List RowRef) → Rule → (IsTraced problem state worker n trace → Type 0) → Type 0
HeldBreaks problem state worker n trace broken rest =
    Breaks rule.Worker (worker < WORKERS) broken
    (Breaks rule.Node (IsHeldBy state worker n) broken (TraceBreaks problem state worker n trace broken ⊎ ((t : IsTraced problem state worker n trace) × rest t)))

-- a variable is one of the problem's and free in a cube
pub record IsFreeVariable (problem : ProblemParts) (cube : CubeParts) (v : ℕ) : Type 0 where
  pub variable : v < member_count problem.library
  pub free : is_free cube v ≡ true

-- what a Branch breaks first
abbrev pub BranchBreaks : ProblemParts → SearchState → ℕ → ℕ → List RowRef → ℕ → Rule → Type 0
BranchBreaks problem state worker n trace v broken =
    HeldBreaks problem state worker n trace broken (λ t. Breaks rule.Free (IsFreeVariable problem t.after v) broken (Breaks rule.Limit (state.branchings < state.limit) broken ⊥))

-- what a Prune breaks first
abbrev pub PruneBreaks : ProblemParts → SearchState → ℕ → ℕ → List RowRef → List Pair → Rule → Type 0
PruneBreaks problem state worker n trace pairs broken =
    HeldBreaks problem state worker n trace broken (λ t.
    Breaks rule.Row (AllThere (known_at problem state t.cuts t.bound) pairs) broken (Breaks rule.Reason (is_together (known_at problem state t.cuts t.bound) pairs t.after ≡ true) broken ⊥))

-- what an Offer breaks first
abbrev pub OfferBreaks : ProblemParts → SearchState → ℕ → ℕ → List RowRef → Rule → Type 0
OfferBreaks problem state worker n trace broken =
    HeldBreaks problem state worker n trace broken (λ t.
    Breaks rule.Full (IsFull (member_count problem.library) t.after) broken (Breaks rule.Broken (All (λ row. is_refuted row t.after ≡ false) problem.base) broken ⊥))

-- an entry on a candidate under a worker's study: Worker, Node, and then what comes after
abbrev pub StudiedBreaks : (state : SearchState) (worker n : ℕ) → Rule → (IsStudied state worker n → Type 0) → Type 0
StudiedBreaks state worker n broken rest = Breaks rule.Worker (worker < WORKERS) broken (Breaks rule.Node (IsStudied state worker n) broken ((s : IsStudied state worker n) × rest s))

-- what an Accept breaks first
abbrev pub AcceptBreaks : ProblemParts → SearchState → ℕ → ℕ → ℕ → Rule → Type 0
AcceptBreaks problem state worker n cost broken =
    StudiedBreaks state worker n broken (λ s.
    Breaks rule.Weight (All (λ r. weight_of problem.library (candidate_of problem.library s.cube) r.sink.0 ≤ r.bound) problem.library.requirements) broken
    (Breaks rule.Cost (cost ≡ cost_of problem.library (candidate_of problem.library s.cube)) broken ⊥))

-- what a Publish breaks first
abbrev pub PublishBreaks : ProblemParts → SearchState → ℕ → ℕ → Cut → Rule → Type 0
PublishBreaks problem state worker n cut broken =
    StudiedBreaks state worker n broken (λ s.
    Breaks rule.Cut (IsRightCut problem.library cut (candidate_of problem.library s.cube)) broken
    (Breaks rule.Refute (is_refuted (row_of_cut (cut_row_of problem.library cut (candidate_of problem.library s.cube))) s.cube ≡ true) broken ⊥))

-- the first rule that an entry breaks at a state
abbrev pub FirstBroken : ProblemParts → SearchState → Entry → Rule → Type 0
FirstBroken problem state (Take worker node cuts bound) broken = TakeBreaks state worker node cuts bound broken
FirstBroken problem state (Branch worker node trace var) broken = BranchBreaks problem state worker node trace var.0 broken
FirstBroken problem state (Prune worker node trace reason) broken = PruneBreaks problem state worker node trace reason broken
FirstBroken problem state (Offer worker node trace) broken = OfferBreaks problem state worker node trace broken
FirstBroken problem state (Study worker node) broken = StudyBreaks state worker node broken
FirstBroken problem state (Publish worker node cut) broken = PublishBreaks problem state worker node cut broken
FirstBroken problem state (Accept worker node cost) broken = AcceptBreaks problem state worker node cost broken
FirstBroken problem state (Park worker node) broken = ParkBreaks state worker node broken
FirstBroken problem state (Reopen limit) broken = ReopenBreaks state limit broken

-- the weights of an architecture's required sinks, in requirement order, in units of 10^-18
abbrev pub weights_of : LibraryParts → ArchitectureParts → List ℕ
weights_of lib arch = map (λ r. weight_of lib arch r.sink.0) lib.requirements

-- some weights are those of the candidate that a worker studies
abbrev pub AreItsWeights : ProblemParts → SearchState → ℕ → ℕ → List ℕ → Type 0
AreItsWeights problem state worker n weights = (s : IsStudied state worker n) → weights ≡ weights_of problem.library (candidate_of problem.library s.cube)

-- what is asked of the weights that come with an entry: those of an Accept and of a Publish are the candidate's
abbrev pub HasWeights : ProblemParts → SearchState → Entry → List ℕ → Type 0
HasWeights problem state (Take worker node cuts bound) weights = Unit {0}
HasWeights problem state (Branch worker node trace var) weights = Unit {0}
HasWeights problem state (Prune worker node trace reason) weights = Unit {0}
HasWeights problem state (Offer worker node trace) weights = Unit {0}
HasWeights problem state (Study worker node) weights = Unit {0}
HasWeights problem state (Publish worker node cut) weights = AreItsWeights problem state worker node weights
HasWeights problem state (Accept worker node cost) weights = AreItsWeights problem state worker node weights
HasWeights problem state (Park worker node) weights = Unit {0}
HasWeights problem state (Reopen limit) weights = Unit {0}
