-- The entries of a legal history can be logged, and their lines are short.
use Rattle.std.proofs.Common.{◌≡◌, ℕ, suc, ◌+◌, ◌*◌, ◌^◌, ◌≤◌, ◌<◌, List, map, length, slice_get, Option, Some, None, IfSome, sym, subst, arith}
use Rattle.std.specs.Prelude.{IsTrue, IsSomeAnd}
use Rattle.std.specs.List.{AllByRecursion}
use Rattle.std.specs.FinMap.{get}
use Rattle.std.proofs.lemmas.List.{length-map}
use Rattle.std.proofs.lemmas.Option.{slice_get_within}
use Rattle.arch_model.specs.declared.limits.TheConstants.{COMPONENTS, MEMBERS, REQUIREMENTS}
use Rattle.arch_model.specs.Set.{has, members_below}
use Rattle.arch_model.specs.Parts.{LibraryParts, ArchitectureParts}
use Rattle.arch_model.specs.Library.{IsLibrary}
use Rattle.arch_model.specs.Member.{member_count}
use Rattle.rows.specs.declared.known.RowRef.{RowRef}
use Rattle.rows.specs.Parts.{ProblemParts}
use Rattle.rows.specs.Known.{IsKnown}
use Rattle.rows.specs.Problem.{IsProblem}
use Rattle.redundancy_cut.specs.declared.cut.Cut as learned
use Rattle.redundancy_cut.specs.declared.cut.Cut.TheVariants.{Redundancy, NoGood}
use Rattle.redundancy_cut.specs.RightCut.{IsRightCut}
use Rattle.incumbent.specs.declared.best.Best.{Best}
use Rattle.incumbent.specs.Best.{best_cost}
use Rattle.search_core.specs.declared.limits.TheConstants.{BRANCHINGS}
use Rattle.search_core.specs.declared.entry.Entry.{Entry}
use Rattle.search_core.specs.declared.entry.Entry.TheVariants.{Take, Branch, Prune, Offer, Study, Publish, Accept, Park, Reopen}
use Rattle.search_core.specs.Node.{Node, Open, Held, Pending, Studied}
use Rattle.search_core.specs.State.{SearchState, known_at}
use Rattle.search_core.specs.Candidate.{candidate_of}
use Rattle.search_core.specs.Step.{Takes, Branches, Prunes, Offers, Studies, Accepts, Publishes, Parks, Reopens, IsTraced, Step}
use Rattle.search_core.specs.Invariant.{IsAdmissibleBest}
use Rattle.search_core.proofs.Kept.{IsKept}
use Rattle.proof_log.specs.Field.{RowNumber, OptionalNumber}
use Rattle.proof_log.specs.Line.{SET_NUMBERS}
use Rattle.proof_log.specs.Fault.{IsInRange}
use Rattle.proof_log.specs.Value.{row_name, named_pair, entry_line, entry_text, EntryIsSmall}
use Rattle.proof_log.specs.Log.{NoEdgeFails}
use Rattle.proof_log.proofs.Numbers.{IsFrom}
use Rattle.proof_log.proofs.LineLengths.{takes_bytes, branches_bytes, prunes_bytes, offers_bytes, studies_bytes, redundancy_bytes, no_good_bytes, accepts_bytes, parks_bytes, reopens_bytes}
use Rattle.proof_log.proofs.CostRanges.{FewRows, cost_small, trace_numbers, reason_numbers, few_members, trace_few, members_in}
use Rattle.proof_log.proofs.EdgeFailures.{set_below}

-- a number of 32 bits
abbrev pub IsWord : ℕ → Type 0
IsWord = IsFrom 0 (2 ^ 32)

pub as_word : (n most : ℕ) → n ≤ most → most < 2 ^ 32 → IsWord n
as_word n most h k = (omega arith, omega arith)

-- the bytes that an entry's line has at most, with its line feed
abbrev pub most_bytes : Entry → ℕ
most_bytes (Take worker node cuts bound) = 100
most_bytes (Branch worker node trace var) = 9000
most_bytes (Prune worker node trace reason) = 9000
most_bytes (Offer worker node trace) = 7000
most_bytes (Study worker node) = 100
most_bytes (Publish worker node cut) = 3000
most_bytes (Accept worker node cost) = 100
most_bytes (Park worker node) = 100
most_bytes (Reopen limit) = 100

-- an entry whose line is in range, with small sets, and short
pub record CanBeLogged (entry : Entry) : Type 0 where
  pub range : IsInRange (entry_line entry)
  pub sets : EntryIsSmall entry
  pub bytes : suc (length (entry_text entry)) ≤ most_bytes entry

from_some_and : {X Y : Type 0} {P : X → Type 0} (o : Option X) → IsSomeAnd o P → ((x : X) → o ≡ Some x → P x → Y) → Y
from_some_and None h k = absurd h
from_some_and (Some x) h k = k x (λ i. Some x) h

pub best_in : (lib : LibraryParts) → IsLibrary lib → (best : Option Best) → IfSome best (IsAdmissibleBest lib) → OptionalNumber IsFrom (best_cost best)
best_in lib right None h = tt
best_in lib right (Some b) h = let costs = h.cost in let low = cost_small lib right b.architecture in (omega arith, omega (arith, costs, low))

module _ (problem : ProblemParts) (right : IsLibrary problem.library) (is : IsProblem problem) (never : NoEdgeFails problem.library) (old : SearchState) (kept : IsKept problem old) (few : old.limit ≤ BRANCHINGS) where
  abbrev lib : LibraryParts
  lib = problem.library

  branchings_few : old.branchings ≤ BRANCHINGS
  branchings_few = omega (arith, kept.holds.within_limit.at_most, few)

  node_in : (i : ℕ) (node : Node) → get old.nodes i ≡ Some node → IsWord i
  node_in i node at = as_word i (2 * old.branchings) (kept.holds.numbers_are_bounded.numbers i node at) (omega (arith, branchings_few))

  pub cuts_in : IsWord (length old.cuts)
  cuts_in = as_word (length old.cuts) (old.branchings + 1) (omega (arith, kept.holds.numbers_are_bounded.together)) (omega (arith, branchings_few))

  worker_in : (worker : ℕ) → worker < 64 → IsWord worker
  worker_in worker h = as_word worker 64 (omega arith) (omega arith)

  rows_few : (k : ℕ) (u : Option ℕ) → FewRows (known_at problem old k u)
  rows_few k u = record { base = is.decide.few; cuts = cuts_in.1 }

  variables_few : member_count lib ≤ MEMBERS
  variables_few = omega (arith, right.few_components, right.few_edges)

  module _ (worker i : ℕ) (trace : List RowRef) (t : IsTraced problem old worker i trace) where
    trace_in : AllByRecursion (RowNumber IsFrom) (map row_name trace)
    trace_in = trace_numbers (known_at problem old t.cuts t.bound) (rows_few t.cuts t.bound) trace t.cube t.after t.leads

    trace_short : length (map row_name trace) ≤ MEMBERS
    trace_short =
        let knows : IsKnown (known_at problem old t.cuts t.bound) = record {
          upto = (kept.holds.knowledge_is_old i (Held t.cube worker t.cuts t.bound) t.held).0;
          cuts = λ k cut short. (kept.over.cuts k cut short).1;
        } in
        omega (
          arith,
          length-map trace row_name,
          variables_few,
          trace_few (known_at problem old t.cuts t.bound) trace t.cube t.after is knows (kept.over.cubes i (Held t.cube worker t.cuts t.bound) t.held).1 t.leads,
        )

  cut_in : (worker i : ℕ) (cut : learned.Cut) (arch : ArchitectureParts) → IsWord worker → IsWord i → IsRightCut lib cut arch → CanBeLogged (Publish worker i cut)
  cut_in worker i (Redundancy q set far) arch w n good =
      from_some_and (slice_get lib.requirements q) good (λ r at fits.
      let q_in : IsWord q = as_word q REQUIREMENTS (omega (arith, slice_get_within lib.requirements q r at, right.few_requirements)) (omega arith) in
      let far_low : (c : ℕ) → IsTrue (has far c) → c < COMPONENTS = λ c on. omega (arith, fits.components c on, right.few_components) in
      let set_low : (v : ℕ) → IsTrue (has set v) → v < SET_NUMBERS = set_below lib right never r set far fits in
      let range : IsInRange (entry_line (Publish worker i (Redundancy q set far))) =
      ((tt, tt), ((w, tt), ((n, tt), ((tt, tt), ((q_in, tt), ((members_in set MEMBERS SET_NUMBERS set_low, tt), ((members_in far COMPONENTS COMPONENTS far_low, tt), tt))))))) in
      record {
        range = range;
        sets = ((λ v on. omega (arith, set_low v on)), far_low);
        bytes = redundancy_bytes worker i q (members_below set MEMBERS) (members_below far COMPONENTS) range (few_members set MEMBERS) (few_members far COMPONENTS);
      })
  cut_in worker i (NoGood q cone) arch w n good =
      from_some_and (slice_get lib.requirements q) good (λ r at fits.
      let q_in : IsWord q = as_word q REQUIREMENTS (omega (arith, slice_get_within lib.requirements q r at, right.few_requirements)) (omega arith) in
      let low : (c : ℕ) → IsTrue (has cone c) → c < COMPONENTS = λ c on. omega (arith, fits.components c on, right.few_components) in
      let range : IsInRange (entry_line (Publish worker i (NoGood q cone))) = ((tt, tt), ((w, tt), ((n, tt), ((tt, tt), ((q_in, tt), ((members_in cone COMPONENTS COMPONENTS low, tt), tt)))))) in
      record {
        range = range;
        sets = low;
        bytes = no_good_bytes worker i q (members_below cone COMPONENTS) range (few_members cone COMPONENTS);
      })

  -- whatever the entry
  pub step_logged : (entry : Entry) (new : SearchState) → Step problem old entry new → CanBeLogged entry
  step_logged (Take worker node cuts bound) new step =
      let s : Takes old worker node cuts bound new = step.fits in
      let C : ℕ → Type 0 = IsWord in
      let range : IsInRange (entry_line (Take worker node cuts bound)) = (
        (tt, tt),
        (
          (worker_in worker step.worker, tt),
          (
            (node_in node (Open s.cube) s.opened, tt),
            (
              (subst C (sym s.cuts_now) cuts_in, tt),
              ((subst (OptionalNumber IsFrom) (sym s.bound_now) (best_in lib right old.best kept.holds.best_is_admissible), tt), tt),
            ),
          ),
        ),
      ) in
      record { range = range; sets = tt; bytes = takes_bytes worker node cuts bound range }
  step_logged (Branch worker node trace var) new step =
      let s : Branches problem old worker node trace var.0 new = step.fits in
      let t = s.traced in
      let range : IsInRange (entry_line (Branch worker node trace var)) = (
        (tt, tt),
        (
          (worker_in worker step.worker, tt),
          (
            (node_in node (Held t.cube worker t.cuts t.bound) t.held, tt),
            (
              (trace_in worker node trace t, tt),
              ((as_word var.0 MEMBERS (omega (arith, s.variable, variables_few)) (omega arith), tt), tt),
            ),
          ),
        ),
      ) in
      record { range = range; sets = tt; bytes = branches_bytes worker node (map row_name trace) var.0 range (trace_short worker node trace t) }
  step_logged (Prune worker node trace reason) new step =
      let s : Prunes problem old worker node trace reason new = step.fits in
      let t = s.traced in
      let known = known_at problem old t.cuts t.bound in
      let pairs : length (map named_pair reason) ≡ length reason = length-map reason named_pair in
      let range : IsInRange (entry_line (Prune worker node trace reason)) = (
        (tt, tt),
        (
          (worker_in worker step.worker, tt),
          (
            (node_in node (Held t.cube worker t.cuts t.bound) t.held, tt),
            (
              (trace_in worker node trace t, tt),
              ((reason_numbers known (rows_few t.cuts t.bound) reason s.reason s.there, (omega (arith, pairs, s.reason.some), omega (arith, pairs, s.reason.few))), tt),
            ),
          ),
        ),
      ) in
      record { range = range; sets = tt; bytes = prunes_bytes worker node (map row_name trace) (map named_pair reason) range (trace_short worker node trace t) }
  step_logged (Offer worker node trace) new step =
      let s : Offers problem old worker node trace new = step.fits in
      let t = s.traced in
      let range : IsInRange (entry_line (Offer worker node trace)) =
      ((tt, tt), ((worker_in worker step.worker, tt), ((node_in node (Held t.cube worker t.cuts t.bound) t.held, tt), ((trace_in worker node trace t, tt), tt)))) in
      record { range = range; sets = tt; bytes = offers_bytes worker node (map row_name trace) range (trace_short worker node trace t) }
  step_logged (Study worker node) new step =
      let s : Studies old worker node new = step.fits in
      let range : IsInRange (entry_line (Study worker node)) = ((tt, tt), ((worker_in worker step.worker, tt), ((node_in node (Pending s.cube) s.pending, tt), tt))) in
      record { range = range; sets = tt; bytes = studies_bytes worker node range }
  step_logged (Publish worker node cut) new step =
      let s : Publishes problem old worker node cut new = step.fits in
      cut_in worker node cut (candidate_of lib s.study.cube) (worker_in worker step.worker) (node_in node (Studied s.study.cube worker) s.study.studied) s.right
  step_logged (Accept worker node cost) new step =
      let s : Accepts problem old worker node cost new = step.fits in
      let low = cost_small lib right (candidate_of lib s.study.cube) in
      let range : IsInRange (entry_line (Accept worker node cost)) =
      ((tt, tt), ((worker_in worker step.worker, tt), ((node_in node (Studied s.study.cube worker) s.study.studied, tt), (((omega arith, omega (arith, s.costs, low)), tt), tt)))) in
      record { range = range; sets = tt; bytes = accepts_bytes worker node cost range }
  step_logged (Park worker node) new step =
      let s : Parks old worker node new = step.fits in
      let range : IsInRange (entry_line (Park worker node)) = ((tt, tt), ((worker_in worker step.worker, tt), ((node_in node (Held s.cube worker s.cuts s.bound) s.held, tt), tt))) in
      record { range = range; sets = tt; bytes = parks_bytes worker node range }
  step_logged (Reopen limit) new step =
      let s : Reopens old limit new = step.fits in
      let range : IsInRange (entry_line (Reopen limit)) = ((tt, tt), ((as_word limit BRANCHINGS s.few (omega arith), tt), tt)) in
      record { range = range; sets = tt; bytes = reopens_bytes limit range }
