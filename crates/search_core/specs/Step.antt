-- What an entry does to the state of a search, and when it may stand there.
use Rattle.std.specs.Prelude.{◌≡◌, ℕ, ◌+◌, ◌*◌, ◌<◌, ◌≤◌, true, false, List, [], ◌∷◌, ◌++◌, length, Option, Some}
use Rattle.std.specs.List.{All}
use Rattle.std.specs.FinMap.{get, insert, remove}
use Rattle.arch_model.specs.Parts.{ArchitectureParts}
use Rattle.arch_model.specs.Admissible.{IsAdmissible}
use Rattle.arch_model.specs.Architecture.{cost_of}
use Rattle.arch_model.specs.Member.{member_count}
use Rattle.rows.specs.declared.known.RowRef.{RowRef}
use Rattle.rows.specs.declared.known.Pair.{Pair}
use Rattle.rows.specs.Parts.{CubeParts, CutParts, ProblemParts}
use Rattle.rows.specs.Row.{row_of_cut}
use Rattle.rows.specs.Cube.{is_free, fixed_at, IsFull}
use Rattle.rows.specs.Activity.{is_refuted}
use Rattle.rows.specs.Trace.{cube_after}
use Rattle.rows.specs.Reason.{IsReason, AllThere, is_together}
use Rattle.redundancy_cut.specs.declared.cut.Cut.{Cut}
use Rattle.redundancy_cut.specs.RightCut.{IsRightCut}
use Rattle.redundancy_cut.specs.CutRow.{cut_row_of}
use Rattle.incumbent.specs.Best.{best_after, best_cost}
use Rattle.search_core.specs.declared.limits.TheConstants.{WORKERS, BRANCHINGS}
use Rattle.search_core.specs.declared.entry.Entry.{Entry}
use Rattle.search_core.specs.declared.entry.Entry.TheVariants.{Take, Branch, Prune, Offer, Study, Publish, Accept, Park, Reopen}
use Rattle.search_core.specs.Node.{Node, Open, Held, Pending, Studied, Parked}
use Rattle.search_core.specs.State.{SearchState, known_at, all_open}
use Rattle.search_core.specs.Candidate.{candidate_of}

-- a node has this new state
abbrev pub with_node : SearchState → ℕ → Node → SearchState
with_node state i node = record state { nodes = insert state.nodes i node }

-- a node is gone
abbrev pub without_node : SearchState → ℕ → SearchState
without_node state i = record state { nodes = remove state.nodes i }

-- after branching number j a node is gone, node 2j+1 is open with its cube and the variable at 1, and node 2j+2 with the variable at 0
abbrev pub branched : SearchState → ℕ → CubeParts → ℕ → SearchState
branched state i cube v =
    let j = state.branchings in
    record state {
      nodes = insert (insert (remove state.nodes i) (2 * j + 1) (Open (fixed_at cube v true))) (2 * j + 2) (Open (fixed_at cube v false));
      branchings = j + 1;
    }

-- a node is gone, and its candidate was offered as the best
abbrev pub accepted : SearchState → ℕ → ℕ → ArchitectureParts → SearchState
accepted state i cost arch = record state { nodes = remove state.nodes i; best = best_after state.best cost arch }

-- a node is gone, and a cut's row has the next number
abbrev pub published : SearchState → ℕ → CutParts → SearchState
published state i row = record state { nodes = remove state.nodes i; cuts = state.cuts ++ row ∷ [] }

-- all live nodes are open, under a new limit
abbrev pub reopened : SearchState → ℕ → SearchState
reopened state limit = record state { nodes = all_open state.nodes; limit = limit }

-- a node is held by a worker
pub record IsHeldBy (state : SearchState) (worker n : ℕ) : Type 0 where
  pub cube : CubeParts
  pub cuts : ℕ
  pub bound : Option ℕ
  pub held : get state.nodes n ≡ Some (Held cube worker cuts bound)

-- a node is held by a worker, and a trace that is legal by what is known there leads from its cube to another
pub record IsTraced (problem : ProblemParts) (state : SearchState) (worker node : ℕ) (trace : List RowRef) : Type 0 where
  pub cube : CubeParts
  pub cuts : ℕ
  pub bound : Option ℕ
  pub held : get state.nodes node ≡ Some (Held cube worker cuts bound)
  pub after : CubeParts
  pub leads : cube_after (known_at problem state cuts bound) cube trace ≡ Some after

-- a node is under study by a worker
pub record IsStudied (state : SearchState) (worker node : ℕ) : Type 0 where
  pub cube : CubeParts
  pub studied : get state.nodes node ≡ Some (Studied cube worker)

-- Take: the node is open, and the entry names the number of cuts and the best cost of this moment
pub record Takes (old : SearchState) (worker node cuts : ℕ) (bound : Option ℕ) (new : SearchState) : Type 0 where
  pub cube : CubeParts
  pub opened : get old.nodes node ≡ Some (Open cube)
  pub cuts_now : cuts ≡ length old.cuts
  pub bound_now : bound ≡ best_cost old.best
  pub next : new ≡ with_node old node (Held cube worker cuts bound)

-- Branch: after the trace the variable is one of the problem and free, and branchings are below the limit
pub record Branches (problem : ProblemParts) (old : SearchState) (worker node : ℕ) (trace : List RowRef) (v : ℕ) (new : SearchState) : Type 0 where
  pub traced : IsTraced problem old worker node trace
  pub variable : v < member_count problem.library
  pub free : is_free traced.after v ≡ true
  pub below : old.branchings < old.limit
  pub next : new ≡ branched old node traced.after v

-- Prune: the reason's rows are known at the node, and their combination is refuted after the trace
pub record Prunes (problem : ProblemParts) (old : SearchState) (worker node : ℕ) (trace : List RowRef) (pairs : List Pair) (new : SearchState) : Type 0 where
  pub traced : IsTraced problem old worker node trace
  pub reason : IsReason pairs
  pub there : AllThere (known_at problem old traced.cuts traced.bound) pairs
  pub refuted : is_together (known_at problem old traced.cuts traced.bound) pairs traced.after ≡ true
  pub next : new ≡ without_node old node

-- Offer: after the trace nothing is free and no base row is refuted
pub record Offers (problem : ProblemParts) (old : SearchState) (worker node : ℕ) (trace : List RowRef) (new : SearchState) : Type 0 where
  pub traced : IsTraced problem old worker node trace
  pub full : IsFull (member_count problem.library) traced.after
  pub stands : All (λ row. is_refuted row traced.after ≡ false) problem.base
  pub next : new ≡ with_node old node (Pending traced.after)

-- Study: the node is pending
pub record Studies (old : SearchState) (worker node : ℕ) (new : SearchState) : Type 0 where
  pub cube : CubeParts
  pub pending : get old.nodes node ≡ Some (Pending cube)
  pub next : new ≡ with_node old node (Studied cube worker)

-- Accept: the candidate under study is admissible, and the entry names its cost
pub record Accepts (problem : ProblemParts) (old : SearchState) (worker node cost : ℕ) (new : SearchState) : Type 0 where
  pub study : IsStudied old worker node
  pub admissible : IsAdmissible problem.library (candidate_of problem.library study.cube)
  pub costs : cost ≡ cost_of problem.library (candidate_of problem.library study.cube)
  pub next : new ≡ accepted old node cost (candidate_of problem.library study.cube)

-- Publish: the cut is right for the candidate under study, and its row is refuted in the candidate's cube
pub record Publishes (problem : ProblemParts) (old : SearchState) (worker node : ℕ) (cut : Cut) (new : SearchState) : Type 0 where
  pub study : IsStudied old worker node
  pub right : IsRightCut problem.library cut (candidate_of problem.library study.cube)
  pub refuted : is_refuted (row_of_cut (cut_row_of problem.library cut (candidate_of problem.library study.cube))) study.cube ≡ true
  pub next : new ≡ published old node (cut_row_of problem.library cut (candidate_of problem.library study.cube))

-- Park: the node is held, and branchings equal the limit
pub record Parks (old : SearchState) (worker node : ℕ) (new : SearchState) : Type 0 where
  pub cube : CubeParts
  pub cuts : ℕ
  pub bound : Option ℕ
  pub held : get old.nodes node ≡ Some (Held cube worker cuts bound)
  pub at_limit : old.branchings ≡ old.limit
  pub next : new ≡ with_node old node (Parked cube)

-- Reopen: the new limit is at least the old one and at most 100000
pub record Reopens (old : SearchState) (limit : ℕ) (new : SearchState) : Type 0 where
  pub not_less : old.limit ≤ limit
  pub few : limit ≤ BRANCHINGS
  pub next : new ≡ reopened old limit

-- what an entry asks of the state and does to it, whoever the worker is
abbrev pub Case : ProblemParts → SearchState → Entry → SearchState → Type 0
Case problem old (Take worker node cuts bound) new = Takes old worker node cuts bound new
Case problem old (Branch worker node trace var) new = Branches problem old worker node trace var.0 new
Case problem old (Prune worker node trace reason) new = Prunes problem old worker node trace reason new
Case problem old (Offer worker node trace) new = Offers problem old worker node trace new
Case problem old (Study worker node) new = Studies old worker node new
Case problem old (Publish worker node cut) new = Publishes problem old worker node cut new
Case problem old (Accept worker node cost) new = Accepts problem old worker node cost new
Case problem old (Park worker node) new = Parks old worker node new
Case problem old (Reopen limit) new = Reopens old limit new

-- the worker that an entry names has a number below n
abbrev pub NamesWorkerBelow : ℕ → Entry → Type 0
NamesWorkerBelow n (Take worker node cuts bound) = worker < n
NamesWorkerBelow n (Branch worker node trace var) = worker < n
NamesWorkerBelow n (Prune worker node trace reason) = worker < n
NamesWorkerBelow n (Offer worker node trace) = worker < n
NamesWorkerBelow n (Study worker node) = worker < n
NamesWorkerBelow n (Publish worker node cut) = worker < n
NamesWorkerBelow n (Accept worker node cost) = worker < n
NamesWorkerBelow n (Park worker node) = worker < n
NamesWorkerBelow n (Reopen limit) = Unit {0}

-- the worker that an entry names has a number below 64
abbrev pub HasWorker : Entry → Type 0
HasWorker entry = NamesWorkerBelow WORKERS entry

-- one step of a search: from the old state the entry leads to the new one
pub record Step (problem : ProblemParts) (old : SearchState) (entry : Entry) (new : SearchState) : Type 0 where
  pub worker : HasWorker entry
  pub fits : Case problem old entry new
