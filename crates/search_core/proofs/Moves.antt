-- What each step keeps.
use Rattle.std.proofs.Common.{◌≡◌, ℕ, ◌<◌, ◌≤◌, false, List, take, length, get_or, Option, Some, None, refl, sym, subst, arith}
use Rattle.std.specs.List.{All}
use Rattle.std.proofs.lemmas.List.Elements.{All-weaker, All-take}
use Rattle.std.specs.FinMap.{get}
use Rattle.arch_model.specs.declared.limits.TheConstants.{MEMBERS}
use Rattle.arch_model.specs.Set.{has}
use Rattle.arch_model.specs.Parts.{LibraryParts, ArchitectureParts}
use Rattle.arch_model.specs.Library.{IsLibrary}
use Rattle.arch_model.specs.Architecture.{cost_of}
use Rattle.arch_model.specs.Admissible.{IsAdmissible}
use Rattle.arch_model.specs.Member.{is_present, member_count}
use Rattle.rows.specs.declared.known.RowRef.{RowRef}
use Rattle.rows.specs.declared.known.Pair.{Pair}
use Rattle.rows.specs.Parts.{RowParts, CubeParts, ProblemParts}
use Rattle.rows.specs.Row.{RowHolds, IsRowBelow, row_of_cut}
use Rattle.rows.specs.Cube.{IsCube, IsCubeBelow, IsFull}
use Rattle.rows.specs.Activity.{is_refuted}
use Rattle.rows.specs.Known.{row_at, known_rows, IsKnown}
use Rattle.rows.specs.Problem.{IsProblem, IsVectorOf, IsCandidate}
use Rattle.rows.proofs.CubeLaws.{holds_nowhere, is_refuted_when, stands_where_it_holds}
use Rattle.rows.proofs.RefutedReasons.{refuted_together}
use Rattle.rows.proofs.TraceLaws.{known_has}
use Rattle.rows.proofs.VectorLaws.{cost_row_says}
use Rattle.redundancy_cut.specs.declared.cut.Cut.{Cut}
use Rattle.redundancy_cut.specs.CutRow.{cut_row_of}
use Rattle.incumbent.specs.declared.best.Best.{Best}
use Rattle.incumbent.specs.Best.{IsCheaper, best_cost}
use Rattle.search_core.specs.declared.entry.Entry.{Entry}
use Rattle.search_core.specs.declared.entry.Entry.TheVariants.{Take, Branch, Prune, Offer, Study, Publish, Accept, Park, Reopen}
use Rattle.search_core.specs.Node.{Open, Held, Pending, Studied, Parked}
use Rattle.search_core.specs.State.{SearchState, known_at}
use Rattle.search_core.specs.Candidate.{candidate_of}
use Rattle.search_core.specs.Step.{IsTraced, Takes, Branches, Prunes, Offers, Studies, Accepts, Publishes, Parks, Reopens, Case, Step}
use Rattle.search_core.specs.Invariant.{IsOldBound, MeetsBaseRows, HoldsInAll}
use Rattle.search_core.proofs.CutRows.{RightCutsHold}
use Rattle.search_core.proofs.KnownAt.{all_known, known_rows_below}
use Rattle.search_core.proofs.TraceLaws.{cube_kept, lies_after}
use Rattle.search_core.proofs.FreeVariables.{fewer_after}
use Rattle.search_core.proofs.Candidates.{candidate_is, candidate_lies_alone}
use Rattle.search_core.proofs.Kept.{IsKept, KeepsWanted, replaced_keeps, removed_keeps}
use Rattle.search_core.proofs.KeptBranch.{branched_keeps}
use Rattle.search_core.proofs.KeptAccept.{accepted_keeps, published_keeps}
use Rattle.search_core.proofs.KeptWhole.{reopened_keeps}

-- the best cost of this moment is an old bound from now on
best_is_old : (best : Option Best) → IsOldBound best (best_cost best)
best_is_old None = tt
best_is_old (Some b) = omega arith

-- what is cheaper than the best is below each bound that was the best cost once
below_bound : (best : Option Best) (u : ℕ) (c : ℕ) → IsOldBound best (Some u) → IsCheaper c best → c < u
below_bound None u c old cheap = absurd old
below_bound (Some b) u c old cheap = let le : b.cost ≤ u = old in let lt : c < b.cost = cheap in omega arith

-- a full cube in which no row is refuted has a vector that meets all of them
all_met : (n : ℕ) (rows : List RowParts) (cube : CubeParts) → IsFull n cube → All (IsRowBelow n) rows → All (λ row. is_refuted row cube ≡ false) rows → All (λ row. RowHolds row (has cube.ones)) rows
all_met n rows cube full below stands k d short = (stands_where_it_holds n (get_or rows k d) cube (below k d short) full).0 (stands k d short)

module _ (problem : ProblemParts) (right : IsLibrary problem.library) (is : IsProblem problem) where
  abbrev lib : LibraryParts
  lib = problem.library

  abbrev n : ℕ
  n = member_count problem.library

  few : n ≤ MEMBERS
  few = omega (arith, right.few_components, right.few_edges)

  module _ (old : SearchState) (kept : IsKept problem old) where
    below : (k : ℕ) (u : Option ℕ) (r : RowRef) (row : RowParts) → row_at (known_at problem old k u) r ≡ Some row → IsRowBelow n row
    below k u = known_rows_below (known_at problem old k u) is (λ i cut short. (kept.over.cuts i cut short).1)

    is_known : (i worker k : ℕ) (cube : CubeParts) (u : Option ℕ) → get old.nodes i ≡ Some (Held cube worker k u) → IsKnown (known_at problem old k u)
    is_known i worker k cube u held = record {
      upto = (kept.holds.knowledge_is_old i (Held cube worker k u) held).0;
      cuts = λ j cut short. (kept.over.cuts j cut short).1;
    }

    -- all rows that a held node knows hold in each architecture that is looked for
    known_hold : (i worker k : ℕ) (cube : CubeParts) (u : Option ℕ) → get old.nodes i ≡ Some (Held cube worker k u) → (arch : ArchitectureParts) → IsAdmissible lib arch → IsCheaper (cost_of lib arch) old.best
        → All (λ row. RowHolds row (is_present lib arch)) (known_rows (known_at problem old k u))
    known_hold i worker k cube u held arch can cheap =
        let vector : IsVectorOf lib arch (is_present lib arch) = λ v short. refl in
        let candidate : IsCandidate lib arch = record { meets = can.meets; sinks = can.sinks } in
        all_known (λ row. RowHolds row (is_present lib arch)) (known_at problem old k u) ((is.decide.exact (is_present lib arch)).1 (arch, vector, candidate))
        (All-weaker (HoldsInAll lib) (λ cut. RowHolds (row_of_cut cut) (is_present lib arch)) (λ cut holds. holds arch can) (take k old.cuts) (All-take (HoldsInAll lib) k old.cuts kept.holds.cuts_hold))
        (λ b at. (cost_row_says lib arch (is_present lib arch) vector b).1
        (below_bound old.best b (cost_of lib arch) (subst (IsOldBound old.best) at (kept.holds.knowledge_is_old i (Held cube worker k u) held).1) cheap))

    -- a trace from a held node's cube
    module _ (worker i : ℕ) (trace : List RowRef) (t : IsTraced problem old worker i trace) where
      before : IsCube t.cube × IsCubeBelow n t.cube
      before = kept.over.cubes i (Held t.cube worker t.cuts t.bound) t.held

      cube_there : IsCube t.after × IsCubeBelow n t.after
      cube_there = cube_kept (known_at problem old t.cuts t.bound) n few (below t.cuts t.bound) trace t.cube t.after before t.leads

      stays : KeepsWanted problem old t.cube t.after
      stays arch can cheap lies =
          lies_after (known_at problem old t.cuts t.bound) n (is_present lib arch) few (below t.cuts t.bound)
          (λ r row at. known_has (λ row. RowHolds row (is_present lib arch)) (known_at problem old t.cuts t.bound) r row (known_hold i worker t.cuts t.cube t.bound t.held arch can cheap) at) trace t.cube t.after before lies t.leads

    takes_keeps : (worker node cuts : ℕ) (bound : Option ℕ) (new : SearchState) → Takes old worker node cuts bound new → IsKept problem new
    takes_keeps worker node cuts bound new step =
        let now : cuts ≡ length old.cuts = step.cuts_now in
        subst (IsKept problem) (sym step.next)
        (replaced_keeps problem old kept node (Open step.cube) step.opened (Held step.cube worker cuts bound) (omega arith, subst (IsOldBound old.best) (sym step.bound_now) (best_is_old old.best)) tt tt
        (kept.over.cubes node (Open step.cube) step.opened) (λ arch can cheap lies. lies) (omega arith))

    branches_keeps : (worker node : ℕ) (trace : List RowRef) (v : ℕ) (new : SearchState) → Branches problem old worker node trace v new → IsKept problem new
    branches_keeps worker node trace v new step =
        let t = step.traced in
        subst (IsKept problem) (sym step.next)
        (branched_keeps problem few old kept node (Held t.cube worker t.cuts t.bound) t.held t.after v step.variable step.free step.below (cube_there worker node trace t) (stays worker node trace t)
        (fewer_after (known_at problem old t.cuts t.bound) n trace t.cube t.after t.leads))

    prunes_keeps : (worker node : ℕ) (trace : List RowRef) (reason : List Pair) (new : SearchState) → Prunes problem old worker node trace reason new → IsKept problem new
    prunes_keeps worker node trace reason new step =
        let t = step.traced in
        let known = known_at problem old t.cuts t.bound in
        subst (IsKept problem) (sym step.next)
        (removed_keeps problem old kept node (Held t.cube worker t.cuts t.bound) t.held (λ arch can cheap lies.
        refuted_together known t.after reason (is_present lib arch) is (is_known node worker t.cuts t.cube t.bound t.held) step.there step.refuted (stays worker node trace t arch can cheap lies)
        (known_hold node worker t.cuts t.cube t.bound t.held arch can cheap)))

    offers_keeps : (worker node : ℕ) (trace : List RowRef) (new : SearchState) → Offers problem old worker node trace new → IsKept problem new
    offers_keeps worker node trace new step =
        let t = step.traced in
        subst (IsKept problem) (sym step.next)
        (replaced_keeps problem old kept node (Held t.cube worker t.cuts t.bound) t.held (Pending t.after) tt
        (record { full = step.full; rows = all_met n problem.base t.after step.full is.decide.variables step.stands }) tt
        (cube_there worker node trace t) (stays worker node trace t) (fewer_after (known_at problem old t.cuts t.bound) n trace t.cube t.after t.leads))

    studies_keeps : (worker node : ℕ) (new : SearchState) → Studies old worker node new → IsKept problem new
    studies_keeps worker node new step =
        subst (IsKept problem) (sym step.next)
        (replaced_keeps problem old kept node (Pending step.cube) step.pending (Studied step.cube worker) tt (kept.holds.candidates_meet_rows node (Pending step.cube) step.pending) tt
        (kept.over.cubes node (Pending step.cube) step.pending) (λ arch can cheap lies. lies) (omega arith))

    parks_keeps : (worker node : ℕ) (new : SearchState) → Parks old worker node new → IsKept problem new
    parks_keeps worker node new step =
        subst (IsKept problem) (sym step.next)
        (replaced_keeps problem old kept node (Held step.cube worker step.cuts step.bound) step.held (Parked step.cube) tt tt step.at_limit
        (kept.over.cubes node (Held step.cube worker step.cuts step.bound) step.held) (λ arch can cheap lies. lies) (omega arith))

    accepts_keeps : (worker node cost : ℕ) (new : SearchState) → Accepts problem old worker node cost new → IsKept problem new
    accepts_keeps worker node cost new step =
        let s = step.study in
        let meets : MeetsBaseRows problem s.cube = kept.holds.candidates_meet_rows node (Studied s.cube worker) s.studied in
        let over = kept.over.cubes node (Studied s.cube worker) s.studied in
        subst (IsKept problem) (sym step.next)
        (accepted_keeps problem old kept node (Studied s.cube worker) s.studied cost (candidate_of lib s.cube) step.admissible step.costs (λ other can lies.
        candidate_lies_alone lib s.cube other meets.full over.1 step.admissible.meets.architecture can.meets.architecture lies))

    publishes_keeps : RightCutsHold lib → (worker node : ℕ) (cut : Cut) (new : SearchState) → Publishes problem old worker node cut new → IsKept problem new
    publishes_keeps sound worker node cut new step =
        let s = step.study in
        let meets : MeetsBaseRows problem s.cube = kept.holds.candidates_meet_rows node (Studied s.cube worker) s.studied in
        let over = kept.over.cubes node (Studied s.cube worker) s.studied in
        let of = candidate_of lib s.cube in
        let fits = (candidate_is problem s.cube right is meets over.1).meets.architecture in
        let row = cut_row_of lib cut of in
        let holds : HoldsInAll lib row = sound.hold cut of fits step.right in
        subst (IsKept problem) (sym step.next)
        (published_keeps problem old kept node (Studied s.cube worker) s.studied row (sound.cut cut of fits step.right, sound.below cut of fits step.right) holds (λ arch can cheap lies.
        holds_nowhere (row_of_cut row) s.cube (is_present lib arch) lies (holds arch can) (is_refuted_when (row_of_cut row) s.cube step.refuted)))

    -- whatever the entry
    case_keeps : RightCutsHold lib → (entry : Entry) (new : SearchState) → Case problem old entry new → IsKept problem new
    case_keeps sound (Take worker node cuts bound) new step = takes_keeps worker node cuts bound new step
    case_keeps sound (Branch worker node trace var) new step = branches_keeps worker node trace var.0 new step
    case_keeps sound (Prune worker node trace reason) new step = prunes_keeps worker node trace reason new step
    case_keeps sound (Offer worker node trace) new step = offers_keeps worker node trace new step
    case_keeps sound (Study worker node) new step = studies_keeps worker node new step
    case_keeps sound (Publish worker node cut) new step = publishes_keeps sound worker node cut new step
    case_keeps sound (Accept worker node cost) new step = accepts_keeps worker node cost new step
    case_keeps sound (Park worker node) new step = parks_keeps worker node new step
    case_keeps sound (Reopen limit) new step = let s : Reopens old limit new = step in subst (IsKept problem) (sym s.next) (reopened_keeps problem old limit kept s.not_less)

pub step_keeps : (problem : ProblemParts) → IsLibrary problem.library → IsProblem problem → RightCutsHold problem.library → (old : SearchState) (entry : Entry) (new : SearchState) → IsKept problem old → Step problem old entry new → IsKept problem new
step_keeps problem right is sound old entry new kept step = case_keeps problem right is old kept sound entry new step.fits
