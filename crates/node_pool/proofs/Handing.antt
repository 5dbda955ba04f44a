-- What a pool that hands out work appends, and what it answers.
use Rattle.std.proofs.Common.{◌≡◌, ℕ, ◌<◌, ◌≤◌, Bool, true, false, nat_eq, length, Option, Some, None, refl, sym, ap, subst, ◌∙◌, arith}
use Rattle.std.specs.Prelude.{if◌then◌else◌}
use Rattle.std.specs.FinMap.{get, len}
use Rattle.arch_model.specs.Parts.{ArchitectureParts}
use Rattle.rows.specs.Parts.{CubeParts, ProblemParts}
use Rattle.incumbent.specs.Best.{best_cost}
use Rattle.search_core.specs.declared.limits.TheConstants.{WORKERS}
use Rattle.search_core.specs.declared.answer.Answer.{Answer}
use Rattle.search_core.specs.declared.answer.Answer.TheVariants.{NodeLimit}
use Rattle.search_core.specs.declared.entry.Entry.{Entry}
use Rattle.search_core.specs.declared.entry.Entry.TheVariants.{Take, Study}
use Rattle.search_core.specs.Node.{Node, Open, Held, Pending, Studied, Parked, is_open, is_pending, IsCandidateCube}
use Rattle.search_core.specs.State.{SearchState}
use Rattle.search_core.specs.Candidate.{candidate_of}
use Rattle.search_core.specs.Step.{Takes, Studies, with_node}
use Rattle.search_core.specs.History.{is_at_rest}
use Rattle.search_core.specs.Parts.{StateParts, IsStateOf, HasCandidateAt}
use Rattle.search_core.specs.Diligent.{NothingOpen, NothingPending, IsLastOpen, IsLastPending}
use Rattle.search_core.specs.Answers.{answer_by, answer_of}
use Rattle.search_core.proofs.NodeMap.{get-insert_same}
use Rattle.search_core.proofs.Entering.{candidate_is_of}
use Rattle.search_core.proofs.Options.{none_is_some}
use Rattle.node_pool.specs.Parts.{PoolParts}
use Rattle.node_pool.specs.Pool.{IsPool, Appends}
use Rattle.node_pool.specs.Inner.Appending.{MayAppend}
use Rattle.node_pool.specs.Taking.{HandsNode, HandsCandidate}

-- what a node that passes a test is
pub open_is : (node : Node) → is_open node ≡ true → (cube : CubeParts) × (node ≡ Open cube)
open_is (Open cube) e = (cube, refl)
open_is (Held cube w k u) e = absurd (let f : false ≡ true = e in cc)
open_is (Pending cube) e = absurd (let f : false ≡ true = e in cc)
open_is (Studied cube w) e = absurd (let f : false ≡ true = e in cc)
open_is (Parked cube) e = absurd (let f : false ≡ true = e in cc)

pub pending_is : (node : Node) → is_pending node ≡ true → (cube : CubeParts) × (node ≡ Pending cube)
pending_is (Open cube) e = absurd (let f : false ≡ true = e in cc)
pending_is (Held cube w k u) e = absurd (let f : false ≡ true = e in cc)
pending_is (Pending cube) e = (cube, refl)
pending_is (Studied cube w) e = absurd (let f : false ≡ true = e in cc)
pending_is (Parked cube) e = absurd (let f : false ≡ true = e in cc)

pub open_at : (state : SearchState) (number : ℕ) (node : Node) → get state.nodes number ≡ Some node → is_open node ≡ true → (cube : CubeParts) × (get state.nodes number ≡ Some (Open cube))
open_at state number node live e = let o = open_is node e in (o.0, live ∙ ap (λ n. Some n) o.1)

pub pending_at : (state : SearchState) (number : ℕ) (node : Node) → get state.nodes number ≡ Some node → is_pending node ≡ true → (cube : CubeParts) × (get state.nodes number ≡ Some (Pending cube))
pending_at state number node live e = let o = pending_is node e in (o.0, live ∙ ap (λ n. Some n) o.1)

same_open : (o : Option Node) (a b : CubeParts) → o ≡ Some (Open a) → o ≡ Some (Open b) → a ≡ b
same_open o a b e f = cc

same_pending : (o : Option Node) (a b : CubeParts) → o ≡ Some (Pending a) → o ≡ Some (Pending b) → a ≡ b
same_pending o a b e f = cc

few_workers : (w n : ℕ) → w < n → n ≤ WORKERS → w < WORKERS
few_workers w n a b = omega (arith, a, b)

-- the last open node may be taken
pub take_may_append : (pool : PoolParts) → IsPool pool → (worker node cuts : ℕ) (bound : Option ℕ) → worker < pool.workers → (cube : CubeParts) × (get pool.state.nodes node ≡ Some (Open cube))
    → cuts ≡ length pool.state.cuts → bound ≡ best_cost pool.state.best → IsLastOpen pool.state node → (worker < pool.analysts → NothingPending pool.state)
    → MayAppend pool (Take worker node cuts bound)
take_may_append pool is worker node cuts bound below there cuts_now bound_now last analyst = record {
  next = with_node pool.state node (Held there.0 worker cuts bound);
  step = record {
    worker = few_workers worker pool.workers below is.team.few_workers;
    fits = record { cube = there.0; opened = there.1; cuts_now = cuts_now; bound_now = bound_now; next = refl };
  };
  kept_limit = refl;
  worker = below;
  diligent = record { last = last; analyst = analyst };
}

pub hands_node : (old new : PoolParts) (worker node cuts : ℕ) (bound : Option ℕ) (cube : CubeParts) → IsLastOpen old.state node → (worker < old.analysts → NothingPending old.state)
    → (entry : Entry) → entry ≡ Take worker node cuts bound → Appends old entry new → (there : (c : CubeParts) × (get old.state.nodes node ≡ Some (Open c))) → cube ≡ there.0
    → HandsNode old worker (record { worker = worker; node = node; cube = cube; cuts = cuts; bound = bound }) new
hands_node old new worker node cuts bound cube last analyst entry is appended there same =
    let appends : Appends old (Take worker node cuts bound) new = subst (λ e. Appends old e new) is appended in
    let s : Takes old.state worker node cuts bound new.state = appends.step.fits in
    let its : s.cube ≡ cube = same_open (get old.state.nodes node) s.cube there.0 s.opened there.1 ∙ sym same in record {
      named = refl;
      last = last;
      analyst = analyst;
      appends = appends;
      held = ap (λ (t : SearchState). get t.nodes node) s.next ∙ get-insert_same old.state.nodes node (Held s.cube worker cuts bound) ∙ ap (λ c. Some (Held c worker cuts bound)) its;
    }

-- the last pending candidate may be studied
pub study_may_append : (pool : PoolParts) → IsPool pool → (worker node : ℕ) → worker < pool.workers → (cube : CubeParts) × (get pool.state.nodes node ≡ Some (Pending cube))
    → IsLastPending pool.state node → (pool.analysts ≤ worker → NothingOpen pool.state) → MayAppend pool (Study worker node)
study_may_append pool is worker node below there last other = record {
  next = with_node pool.state node (Studied there.0 worker);
  step = record {
    worker = few_workers worker pool.workers below is.team.few_workers;
    fits = record { cube = there.0; pending = there.1; next = refl };
  };
  kept_limit = refl;
  worker = below;
  diligent = record { last = last; other = other };
}

pub hands_candidate : (old new : PoolParts) (worker node : ℕ) (candidate : ArchitectureParts) → IsLastPending old.state node → (old.analysts ≤ worker → NothingOpen old.state)
    → (entry : Entry) → entry ≡ Study worker node → Appends old entry new → (there : (c : CubeParts) × (get old.state.nodes node ≡ Some (Pending c))) → candidate ≡ candidate_of old.problem.library there.0
    → HandsCandidate old worker (record { worker = worker; node = node; candidate = candidate }) new
hands_candidate old new worker node candidate last other entry is appended there same =
    let appends : Appends old (Study worker node) new = subst (λ e. Appends old e new) is appended in
    let s : Studies old.state worker node new.state = appends.step.fits in
    let its : s.cube ≡ there.0 = same_pending (get old.state.nodes node) s.cube there.0 s.pending there.1 in record {
      named = refl;
      last = last;
      other = other;
      appends = appends;
      studied = record {
        cube = there.0;
        studied = ap (λ (t : SearchState). get t.nodes node) s.next ∙ get-insert_same old.state.nodes node (Studied s.cube worker) ∙ ap (λ c. Some (Studied c worker)) its;
        candidate = same ∙ ap (λ (p : ProblemParts). candidate_of p.library there.0) (sym appends.same.problem);
      };
    }

-- the candidate at a node is that of its cube
same_candidate : (n : Node) (a b : CubeParts) → IsCandidateCube n a → IsCandidateCube n b → a ≡ b
same_candidate (Open c) a b x y = absurd x
same_candidate (Held c w k u) a b x y = absurd x
same_candidate (Pending c) a b x y = sym x ∙ y
same_candidate (Studied c w) a b x y = sym x ∙ y
same_candidate (Parked c) a b x y = absurd x

same_node : (o : Option Node) (m n : Node) → o ≡ Some m → o ≡ Some n → m ≡ n
same_node o m n e f = cc

pub candidate_at : (problem : ProblemParts) (now : StateParts) → IsStateOf problem now → (number : ℕ) (arch : ArchitectureParts) → HasCandidateAt now number arch
    → (n : Node) (cube : CubeParts) → get now.search.nodes number ≡ Some n → IsCandidateCube n cube → arch ≡ candidate_of problem.library cube
candidate_at problem now of number arch has n cube there whose =
    let here : IsCandidateCube n has.cube = subst (λ m. IsCandidateCube m has.cube) (same_node (get now.search.nodes number) has.node n has.live there) has.whose in
    has.candidate ∙ candidate_is_of problem now has.cube of ∙ ap (candidate_of problem.library) (same_candidate n has.cube cube here whose)

-- an answer is there exactly at rest
rest_by : (state : SearchState) (answer : Answer) (rest none : Bool) → (if rest then (if none then Some (answer_by state.best) else Some (NodeLimit (best_cost state.best))) else None) ≡ Some answer → rest ≡ true
rest_by state answer true none e = refl
rest_by state answer false none e = none_is_some answer e

pub rest_where_answer : (state : SearchState) (answer : Answer) → answer_of state ≡ Some answer → is_at_rest state ≡ true
rest_where_answer state answer e = rest_by state answer (is_at_rest state) (nat_eq (len state.nodes) 0) e

pub no_rest_without : (state : SearchState) → answer_of state ≡ None → is_at_rest state ≡ false
no_rest_without state e = by_rest (is_at_rest state) (nat_eq (len state.nodes) 0) e where
  by_rest : (rest none : Bool) → (if rest then (if none then Some (answer_by state.best) else Some (NodeLimit (best_cost state.best))) else None) ≡ None → rest ≡ false
  by_rest true true f = none_is_some (answer_by state.best) (sym f)
  by_rest true false f = none_is_some (NodeLimit (best_cost state.best)) (sym f)
  by_rest false none f = refl
