-- Entries as the code makes them, one kind after another.
use Rattle.std.proofs.Common.{◌≡◌, ℕ, ◌+◌, ◌<◌, ◌≤◌, true, List, [], ◌∷◌, ◌++◌, length, Option, Some, refl, sym, ap, subst, ◌∙◌, arith}
use Rattle.std.specs.FinMap.{get, remove, len}
use Rattle.arch_model.specs.Parts.{ArchitectureParts}
use Rattle.arch_model.specs.declared.sets.VarId.{VarId}
use Rattle.arch_model.specs.declared.limits.TheConstants.{MEMBERS}
use Rattle.arch_model.specs.Library.{IsLibrary}
use Rattle.arch_model.specs.Member.{member_count}
use Rattle.rows.specs.declared.known.RowRef.{RowRef}
use Rattle.rows.specs.declared.cut.TheConstants.{CUTS}
use Rattle.rows.specs.Parts.{CubeParts, CutParts, ProblemParts}
use Rattle.rows.specs.Cube.{is_free}
use Rattle.rows.specs.Problem.{IsProblem}
use Rattle.redundancy_cut.specs.declared.cut.Cut.{Cut}
use Rattle.redundancy_cut.specs.CutRow.{cut_row_of}
use Rattle.search_core.specs.declared.limits.TheConstants.{BRANCHINGS}
use Rattle.search_core.specs.declared.entry.Entry.{Entry}
use Rattle.search_core.specs.declared.entry.Entry.TheVariants.{Take, Branch, Prune, Offer, Study, Publish, Accept, Park, Reopen}
use Rattle.search_core.specs.Node.{Node, Open, Held, Pending, Studied, Parked, node_cube}
use Rattle.search_core.specs.State.{SearchState, start_of}
use Rattle.search_core.specs.Candidate.{candidate_in, candidate_of}
use Rattle.search_core.specs.Step.{IsTraced, Takes, Branches, Offers, Studies, Accepts, Publishes, Parks, Reopens, Case, Step, with_node, branched, accepted, published}
use Rattle.search_core.specs.History.{Steps, IsReached}
use Rattle.search_core.specs.Parts.{StateParts, IsStateOf}
use Rattle.search_core.specs.Inner.Template.{SameTemplate}
use Rattle.search_core.specs.Inner.Change.{CanSplit}
use Rattle.search_core.proofs.NodeMap.{len-take_out}
use Rattle.search_core.proofs.Kept.{IsKept}
use Rattle.search_core.proofs.CutRows.{right_cuts}
use Rattle.search_core.proofs.Runs.{reached_is_kept}
use Rattle.search_core.proofs.Counts.{case_keeps_limit, steps_join}
use Rattle.search_core.proofs.Applying.{HasCube}

-- the limit is at most 100000 in each state that a legal history leads to
at_most : (a b c : ℕ) → a ≡ b → b ≤ c → a ≤ c
at_most a b c e h = omega arith

case_limit : (problem : ProblemParts) (old : SearchState) (entry : Entry) (new : SearchState) → old.limit ≤ BRANCHINGS → Case problem old entry new → new.limit ≤ BRANCHINGS
case_limit problem old (Take worker node cuts bound) new few step = at_most new.limit old.limit BRANCHINGS (case_keeps_limit problem old (Take worker node cuts bound) new refl step) few
case_limit problem old (Branch worker node trace var) new few step = at_most new.limit old.limit BRANCHINGS (case_keeps_limit problem old (Branch worker node trace var) new refl step) few
case_limit problem old (Prune worker node trace reason) new few step = at_most new.limit old.limit BRANCHINGS (case_keeps_limit problem old (Prune worker node trace reason) new refl step) few
case_limit problem old (Offer worker node trace) new few step = at_most new.limit old.limit BRANCHINGS (case_keeps_limit problem old (Offer worker node trace) new refl step) few
case_limit problem old (Study worker node) new few step = at_most new.limit old.limit BRANCHINGS (case_keeps_limit problem old (Study worker node) new refl step) few
case_limit problem old (Publish worker node cut) new few step = at_most new.limit old.limit BRANCHINGS (case_keeps_limit problem old (Publish worker node cut) new refl step) few
case_limit problem old (Accept worker node cost) new few step = at_most new.limit old.limit BRANCHINGS (case_keeps_limit problem old (Accept worker node cost) new refl step) few
case_limit problem old (Park worker node) new few step = at_most new.limit old.limit BRANCHINGS (case_keeps_limit problem old (Park worker node) new refl step) few
case_limit problem old (Reopen limit) new few step = let s : Reopens old limit new = step in at_most new.limit limit BRANCHINGS (ap (λ (n : SearchState). n.limit) s.next) s.few

steps_limit : (problem : ProblemParts) (entries : List Entry) (old new : SearchState) → old.limit ≤ BRANCHINGS → Steps problem old entries new → new.limit ≤ BRANCHINGS
steps_limit problem [] old new few steps = at_most new.limit old.limit BRANCHINGS (ap (λ (n : SearchState). n.limit) steps) few
steps_limit problem (entry ∷ entries) old new few steps = steps_limit problem entries steps.0 new (case_limit problem old entry steps.0 few steps.1.fits) steps.2

pub limit_few : (problem : ProblemParts) (state : SearchState) → IsReached problem state → state.limit ≤ BRANCHINGS
limit_few problem state reached = steps_limit problem reached.1 (start_of reached.0) state reached.2.few reached.2.steps

-- a state that one more entry leads to is reached as well
pub reached_next : (problem : ProblemParts) (old new : SearchState) (entry : Entry) → IsReached problem old → Step problem old entry new → IsReached problem new
reached_next problem old new entry reached step =
    (reached.0, reached.1 ++ entry ∷ [], record { few = reached.2.few; steps = steps_join problem reached.1 (entry ∷ []) (start_of reached.0) old new reached.2.steps (new, step, refl) })

pub state_next : (problem : ProblemParts) (old new : StateParts) (entry : Entry) → IsStateOf problem old → Step problem old.search entry new.search → SameTemplate old new → IsStateOf problem new
state_next problem old new entry of step same = record {
  reached = reached_next problem old.search new.search entry of.reached step;
  components = same.components ∙ of.components;
  edges = same.edges ∙ of.edges;
}

-- an entry is a step of its kind
abbrev pub CanStep : ProblemParts → SearchState → Entry → Type 0
CanStep problem old entry = (new : SearchState) × Step problem old entry new

pub is_kind : (problem : ProblemParts) (old : SearchState) (entry kind : Entry) → entry ≡ kind → CanStep problem old entry → CanStep problem old kind
is_kind problem old entry kind is case = let P : Entry → Type 0 = CanStep problem old in subst P is case

to_entry : (problem : ProblemParts) (old new : SearchState) (entry kind : Entry) → entry ≡ kind → Step problem old kind new → Step problem old entry new
to_entry problem old new entry kind is step = let P : Entry → Type 0 = λ e. Step problem old e new in subst P (sym is) step

-- what a candidate in the template's numbers is
pub candidate_is_of : (problem : ProblemParts) (now : StateParts) (cube : CubeParts) → IsStateOf problem now → candidate_in now.components now.edges cube ≡ candidate_of problem.library cube
unfolding candidate_of
candidate_is_of problem now cube of = ap (λ n. candidate_in n now.edges cube) of.components ∙ ap (λ n. candidate_in (length problem.library.components) n cube) of.edges

abbrev pub HasCandidateOf : StateParts → ℕ → ArchitectureParts → Type 0
HasCandidateOf now n arch = (node : Node) → get now.search.nodes n ≡ Some node → arch ≡ candidate_in now.components now.edges (node_cube node)

abbrev pub HasTraced : ProblemParts → SearchState → ℕ → ℕ → List RowRef → CubeParts → Type 0
HasTraced problem old worker n trace after = (t : IsTraced problem old worker n trace) → after ≡ t.after

-- there is room for what a branching and a cut add
module _ (problem : ProblemParts) (right : IsLibrary problem.library) (is : IsProblem problem) (now : StateParts) (of : IsStateOf problem now) where
  holds : IsKept problem now.search
  holds = reached_is_kept problem right is (right_cuts problem.library right) now.search of.reached

  pub can_split : (cube : CubeParts) (v count : ℕ) → count ≡ member_count problem.library → count ≤ MEMBERS → v < member_count problem.library → is_free cube v ≡ true → now.search.branchings < now.search.limit → CanSplit now.search cube v
  can_split cube v count counted few variable free less =
      let most = limit_few problem now.search of.reached in
      record { free = free; small = omega arith; few = omega arith; numbers = holds.holds.numbers_are_bounded.numbers }

  pub cuts_few : (n : ℕ) (node : Node) → get now.search.nodes n ≡ Some node → length now.search.cuts < CUTS
  cuts_few n node at =
      let live : 1 + len (remove now.search.nodes n) ≡ len now.search.nodes = len-take_out now.search.nodes n node at in
      let together = holds.holds.numbers_are_bounded.together in
      let within = holds.holds.within_limit.at_most in
      let few = limit_few problem now.search of.reached in
      counted (len (remove now.search.nodes n)) (len now.search.nodes) (length now.search.cuts) now.search.branchings now.search.limit live together within few where
        counted : (a l c b m : ℕ) → 1 + a ≡ l → l + c ≤ b + 1 → b ≤ m → m ≤ BRANCHINGS → c < CUTS
        counted a l c b m h k p q = omega arith

module _ (problem : ProblemParts) (right : IsLibrary problem.library) (is : IsProblem problem) (now : StateParts) (of : IsStateOf problem now) (entry : Entry) (case : CanStep problem now.search entry) where
  abbrev old : SearchState
  old = now.search

  pub branch_can : (w n : ℕ) (trace : List RowRef) (var : VarId) (after : CubeParts) (count : ℕ) → entry ≡ Branch w n trace var → HasTraced problem old w n trace after → count ≡ member_count problem.library → count ≤ MEMBERS → CanSplit old after var.0
  branch_can w n trace var after count e has counted few =
      let s : Branches problem old w n trace var.0 (is_kind problem old entry (Branch w n trace var) e case).0 = (is_kind problem old entry (Branch w n trace var) e case).1.fits in
      can_split problem right is now of after var.0 count counted few s.variable (ap (λ c. is_free c var.0) (has s.traced) ∙ s.free) s.below

  pub enters_branch : (w n : ℕ) (trace : List RowRef) (var : VarId) (after : CubeParts) (new : SearchState) → entry ≡ Branch w n trace var → HasTraced problem old w n trace after → new ≡ branched old n after var.0 → Step problem old entry new
  enters_branch w n trace var after new e has made =
      let can = is_kind problem old entry (Branch w n trace var) e case in
      let s : Branches problem old w n trace var.0 can.0 = can.1.fits in
      to_entry problem old new entry (Branch w n trace var) e (record {
        worker = can.1.worker;
        fits = record { traced = s.traced; variable = s.variable; free = s.free; below = s.below; next = made ∙ ap (λ c. branched old n c var.0) (has s.traced) };
      })

  pub publish_few : (w n : ℕ) (cut : Cut) → entry ≡ Publish w n cut → length old.cuts < CUTS
  publish_few w n cut e =
      let s : Publishes problem old w n cut (is_kind problem old entry (Publish w n cut) e case).0 = (is_kind problem old entry (Publish w n cut) e case).1.fits in cuts_few problem right is now of n (Studied s.study.cube w) s.study.studied

  pub enters_take : (w n k : ℕ) (u : Option ℕ) (cube : CubeParts) (new : SearchState) → entry ≡ Take w n k u → HasCube old n cube → new ≡ with_node old n (Held cube w k u) → Step problem old entry new
  enters_take w n k u cube new e has made =
      let can = is_kind problem old entry (Take w n k u) e case in
      let s : Takes old w n k u can.0 = can.1.fits in
      to_entry problem old new entry (Take w n k u) e (record {
        worker = can.1.worker;
        fits = record { cube = s.cube; opened = s.opened; cuts_now = s.cuts_now; bound_now = s.bound_now; next = made ∙ ap (λ c. with_node old n (Held c w k u)) (has (Open s.cube) s.opened) };
      })

  pub enters_offer : (w n : ℕ) (trace : List RowRef) (after : CubeParts) (new : SearchState) → entry ≡ Offer w n trace → HasTraced problem old w n trace after → new ≡ with_node old n (Pending after) → Step problem old entry new
  enters_offer w n trace after new e has made =
      let can = is_kind problem old entry (Offer w n trace) e case in
      let s : Offers problem old w n trace can.0 = can.1.fits in
      to_entry problem old new entry (Offer w n trace) e (record {
        worker = can.1.worker;
        fits = record { traced = s.traced; full = s.full; stands = s.stands; next = made ∙ ap (λ c. with_node old n (Pending c)) (has s.traced) };
      })

  pub enters_study : (w n : ℕ) (cube : CubeParts) (new : SearchState) → entry ≡ Study w n → HasCube old n cube → new ≡ with_node old n (Studied cube w) → Step problem old entry new
  enters_study w n cube new e has made =
      let can = is_kind problem old entry (Study w n) e case in
      let s : Studies old w n can.0 = can.1.fits in
      to_entry problem old new entry (Study w n) e (record {
        worker = can.1.worker;
        fits = record { cube = s.cube; pending = s.pending; next = made ∙ ap (λ c. with_node old n (Studied c w)) (has (Pending s.cube) s.pending) };
      })

  pub enters_park : (w n : ℕ) (cube : CubeParts) (new : SearchState) → entry ≡ Park w n → HasCube old n cube → new ≡ with_node old n (Parked cube) → Step problem old entry new
  enters_park w n cube new e has made =
      let can = is_kind problem old entry (Park w n) e case in
      let s : Parks old w n can.0 = can.1.fits in
      to_entry problem old new entry (Park w n) e (record {
        worker = can.1.worker;
        fits = record { cube = s.cube; cuts = s.cuts; bound = s.bound; held = s.held; at_limit = s.at_limit; next = made ∙ ap (λ c. with_node old n (Parked c)) (has (Held s.cube w s.cuts s.bound) s.held) };
      })

  pub enters_publish : (w n : ℕ) (cut : Cut) (arch : ArchitectureParts) (row : CutParts) (new : SearchState) → entry ≡ Publish w n cut → HasCandidateOf now n arch → row ≡ cut_row_of problem.library cut arch → new ≡ published old n row → Step problem old entry new
  enters_publish w n cut arch row new e has row_is made =
      let can = is_kind problem old entry (Publish w n cut) e case in
      let s : Publishes problem old w n cut can.0 = can.1.fits in
      let its : arch ≡ candidate_of problem.library s.study.cube = has (Studied s.study.cube w) s.study.studied ∙ candidate_is_of problem now s.study.cube of in
      to_entry problem old new entry (Publish w n cut) e (record {
        worker = can.1.worker;
        fits = record { study = s.study; right = s.right; refuted = s.refuted; next = made ∙ ap (published old n) (row_is ∙ ap (cut_row_of problem.library cut) its) };
      })

  pub enters_accept : (w n cost : ℕ) (arch : ArchitectureParts) (new : SearchState) → entry ≡ Accept w n cost → HasCandidateOf now n arch → new ≡ accepted old n cost arch → Step problem old entry new
  enters_accept w n cost arch new e has made =
      let can = is_kind problem old entry (Accept w n cost) e case in
      let s : Accepts problem old w n cost can.0 = can.1.fits in
      let its : arch ≡ candidate_of problem.library s.study.cube = has (Studied s.study.cube w) s.study.studied ∙ candidate_is_of problem now s.study.cube of in
      to_entry problem old new entry (Accept w n cost) e (record {
        worker = can.1.worker;
        fits = record { study = s.study; admissible = s.admissible; costs = s.costs; next = made ∙ ap (accepted old n cost) its };
      })
