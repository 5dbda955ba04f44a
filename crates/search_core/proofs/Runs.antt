-- Histories: what all of them keep, and how long they are.
use Rattle.std.proofs.Common.{◌≡◌, ℕ, suc, ◌+◌, ◌*◌, ◌<◌, ◌≤◌, Bool, true, false, List, [], ◌∷◌, ◌++◌, length, Option, Some, refl, sym, ap, subst, ◌∙◌, arith, append_assoc}
use Rattle.std.specs.Prelude.{sum_by}
use Rattle.std.specs.List.{AllByRecursion}
use Rattle.std.specs.Ordering.{nat_cmp}
use Rattle.std.specs.FinMap.{FinMap, get, insert, remove, len, values}
use Rattle.std.proofs.lemmas.List.{append-nil}
use Rattle.std.proofs.lemmas.List.Sums.{sum_by-cons, AllPass-from_list_all}
use Rattle.std.proofs.lemmas.List.Elements.{recursion_from_All}
use Rattle.arch_model.specs.Library.{IsLibrary}
use Rattle.rows.specs.Parts.{CubeParts, ProblemParts}
use Rattle.rows.specs.Cube.{fixed_at}
use Rattle.rows.specs.Problem.{IsProblem}
use Rattle.search_core.specs.declared.entry.Entry.{Entry}
use Rattle.search_core.specs.declared.entry.Entry.TheVariants.{Take, Branch, Prune, Offer, Study, Publish, Accept, Park, Reopen}
use Rattle.search_core.specs.Node.{Node, Open, Held, Pending, Studied, Parked, is_open, is_parked, EachNode}
use Rattle.search_core.specs.State.{SearchState, start_of}
use Rattle.redundancy_cut.specs.CutRow.{cut_row_of}
use Rattle.search_core.specs.Candidate.{candidate_of}
use Rattle.search_core.specs.Step.{Takes, Branches, Prunes, Offers, Studies, Accepts, Publishes, Parks, Reopens, Case, Step, with_node, without_node, branched}
use Rattle.search_core.specs.History.{Steps, IsReached, GoesOn, IsAtRest, IsAllOpen, is_reopen, HasNoReopen}
use Rattle.search_core.proofs.NodeMap.{total-insert_new, total-remove, total-replace, len_total, value_at_number}
use Rattle.search_core.proofs.KeptNodes.{first_is_new, second_is_new}
use Rattle.search_core.proofs.Kept.{IsKept}
use Rattle.search_core.proofs.CutRows.{RightCutsHold}
use Rattle.search_core.proofs.KeptWhole.{start_is_kept}
use Rattle.search_core.proofs.Moves.{step_keeps}

module _ (problem : ProblemParts) (right : IsLibrary problem.library) (is : IsProblem problem) (sound : RightCutsHold problem.library) where
  pub steps_keep : (entries : List Entry) (old new : SearchState) → IsKept problem old → Steps problem old entries new → IsKept problem new
  steps_keep [] old new kept steps = subst (IsKept problem) (sym steps) kept
  steps_keep (entry ∷ entries) old new kept steps = steps_keep entries steps.0 new (step_keeps problem right is sound old entry steps.0 kept steps.1) steps.2

  pub reached_is_kept : (state : SearchState) → IsReached problem state → IsKept problem state
  reached_is_kept state reached = steps_keep reached.1 (start_of reached.0) state (start_is_kept problem reached.0) reached.2.steps

-- how many entries a node can still have before it is gone or parked
abbrev pub entries_left : Node → ℕ
entries_left (Open cube) = 4
entries_left (Held cube worker cuts bound) = 3
entries_left (Pending cube) = 2
entries_left (Studied cube worker) = 1
entries_left (Parked cube) = 0

abbrev pub work_of : SearchState → ℕ
work_of state = sum_by entries_left (values state.nodes)

-- one entry takes one from the work, but for a branching, which adds eight for its two nodes
abbrev pub TakesWork : SearchState → SearchState → Type 0
TakesWork old new = (1 + work_of new) + 8 * old.branchings ≤ work_of old + 8 * new.branchings

replaced_work : (a b s t k : ℕ) → a + t ≡ b + s → b < a → (1 + t) + k ≤ s + k
replaced_work a b s t k e h = omega arith

removed_work : (a s t k : ℕ) → a + t ≡ s → 0 < a → (1 + t) + k ≤ s + k
removed_work a s t k e h = omega arith

branched_work : (s0 s1 s2 s3 b : ℕ) → 3 + s1 ≡ s0 → s2 ≡ 4 + s1 → s3 ≡ 4 + s2 → (1 + s3) + 8 * b ≤ s0 + 8 * (b + 1)
branched_work s0 s1 s2 s3 b e1 e2 e3 = omega arith

module _ (old : SearchState) (i : ℕ) (node : Node) (there : get old.nodes i ≡ Some node) where
  work_replaced : (next : Node) (new : SearchState) → entries_left next < entries_left node → new ≡ with_node old i next → TakesWork old new
  work_replaced next new less is =
      subst (TakesWork old) (sym is)
      (replaced_work (entries_left node) (entries_left next) (work_of old) (sum_by entries_left (values (insert old.nodes i next))) (8 * old.branchings) (total-replace entries_left old.nodes i node next there) less)

  work_removed : (k new : SearchState) → 0 < entries_left node → k.nodes ≡ remove old.nodes i → k.branchings ≡ old.branchings → new ≡ k → TakesWork old new
  work_removed k new some nodes same is =
      let gone : (1 + sum_by entries_left (values (remove old.nodes i))) + 8 * old.branchings ≤ work_of old + 8 * old.branchings =
      removed_work (entries_left node) (work_of old) (sum_by entries_left (values (remove old.nodes i))) (8 * old.branchings) (total-remove entries_left old.nodes i node there) some in
      let at_nodes : (1 + sum_by entries_left (values k.nodes)) + 8 * old.branchings ≤ work_of old + 8 * old.branchings =
      subst (λ (m : FinMap nat_cmp Node). (1 + sum_by entries_left (values m)) + 8 * old.branchings ≤ work_of old + 8 * old.branchings) (sym nodes) gone in
      subst (TakesWork old) (sym is) (subst (λ (b : ℕ). (1 + work_of k) + 8 * old.branchings ≤ work_of old + 8 * b) (sym same) at_nodes)

work_branched : (old : SearchState) (i : ℕ) (cube : CubeParts) (worker k : ℕ) (u : Option ℕ) (after : CubeParts) (v : ℕ) (new : SearchState) → get old.nodes i ≡ Some (Held cube worker k u)
    → EachNode (λ j node. j ≤ 2 * old.branchings) old.nodes → new ≡ branched old i after v → TakesWork old new
work_branched old i cube worker k u after v new held low is =
    let j = old.branchings in
    let left = remove old.nodes i in
    let one = Open (fixed_at after v true) in
    let other = Open (fixed_at after v false) in
    let with_one = insert left (2 * j + 1) one in
    subst (TakesWork old) (sym is)
    (branched_work (work_of old) (sum_by entries_left (values left)) (sum_by entries_left (values with_one)) (sum_by entries_left (values (insert with_one (2 * j + 2) other))) j
    (total-remove entries_left old.nodes i (Held cube worker k u) held) (total-insert_new entries_left left (2 * j + 1) one (first_is_new old.nodes i j low))
    (total-insert_new entries_left with_one (2 * j + 2) other (second_is_new old.nodes i j one low)))

work_of_case : (problem : ProblemParts) (old : SearchState) (entry : Entry) (new : SearchState) → IsKept problem old → is_reopen entry ≡ false → Case problem old entry new → TakesWork old new
work_of_case problem old (Take worker node cuts bound) new kept keeps step = let s : Takes old worker node cuts bound new = step in work_replaced old node (Open s.cube) s.opened (Held s.cube worker cuts bound) new (omega arith) s.next
work_of_case problem old (Branch worker node trace var) new kept keeps step =
    let s : Branches problem old worker node trace var.0 new = step in
    work_branched old node s.traced.cube worker s.traced.cuts s.traced.bound s.traced.after var.0 new s.traced.held kept.holds.numbers_are_bounded.numbers s.next
work_of_case problem old (Prune worker node trace reason) new kept keeps step =
    let s : Prunes problem old worker node trace reason new = step in
    work_removed old node (Held s.traced.cube worker s.traced.cuts s.traced.bound) s.traced.held (without_node old node) new (omega arith) refl refl s.next
work_of_case problem old (Offer worker node trace) new kept keeps step =
    let s : Offers problem old worker node trace new = step in
    work_replaced old node (Held s.traced.cube worker s.traced.cuts s.traced.bound) s.traced.held (Pending s.traced.after) new (omega arith) s.next
work_of_case problem old (Study worker node) new kept keeps step = let s : Studies old worker node new = step in work_replaced old node (Pending s.cube) s.pending (Studied s.cube worker) new (omega arith) s.next
work_of_case problem old (Publish worker node cut) new kept keeps step =
    let s : Publishes problem old worker node cut new = step in work_removed old node (Studied s.study.cube worker) s.study.studied new new (omega arith) (ap (λ (n : SearchState). n.nodes) s.next) (ap (λ (n : SearchState). n.branchings) s.next) refl
work_of_case problem old (Accept worker node cost) new kept keeps step =
    let s : Accepts problem old worker node cost new = step in work_removed old node (Studied s.study.cube worker) s.study.studied new new (omega arith) (ap (λ (n : SearchState). n.nodes) s.next) (ap (λ (n : SearchState). n.branchings) s.next) refl
work_of_case problem old (Park worker node) new kept keeps step = let s : Parks old worker node new = step in work_replaced old node (Held s.cube worker s.cuts s.bound) s.held (Parked s.cube) new (omega arith) s.next
work_of_case problem old (Reopen limit) new kept keeps step = absurd (let f : true ≡ false = keeps in cc)

no_entry : (w b : ℕ) → 0 + w + 8 * b ≤ w + 8 * b
no_entry w b = omega arith

next_entry : (l w0 w1 w2 b0 b1 b2 : ℕ) → (1 + w1) + 8 * b0 ≤ w0 + 8 * b1 → l + w2 + 8 * b1 ≤ w1 + 8 * b2 → suc l + w2 + 8 * b0 ≤ w0 + 8 * b2
next_entry l w0 w1 w2 b0 b1 b2 h k = omega arith

all_work : (nodes : List Node) → AllByRecursion (λ node. is_open node ≡ true) nodes → sum_by entries_left nodes ≡ 4 * sum_by (λ _. 1) nodes
all_work [] all = refl
all_work (node ∷ nodes) all = sum_by-cons entries_left node nodes ∙ four (entries_left node) (sum_by entries_left nodes) (sum_by (λ _. 1) nodes) (is_four node all.0) (all_work nodes all.1) ∙ ap (λ n. 4 * n) (sym (sum_by-cons (λ _. 1) node nodes)) where
  is_four : (node : Node) → is_open node ≡ true → entries_left node ≡ 4
  is_four (Open cube) h = refl
  is_four (Held cube worker cuts bound) h = absurd (let f : false ≡ true = h in cc)
  is_four (Pending cube) h = absurd (let f : false ≡ true = h in cc)
  is_four (Studied cube worker) h = absurd (let f : false ≡ true = h in cc)
  is_four (Parked cube) h = absurd (let f : false ≡ true = h in cc)

  four : (a s t : ℕ) → a ≡ 4 → s ≡ 4 * t → a + s ≡ 4 * (1 + t)
  four a s t e f = omega arith

few_entries : (l w2 b0 b2 n w0 c : ℕ) → l + w2 + 8 * b0 ≤ w0 + 8 * b2 → w0 ≡ 4 * n → n + c ≤ b0 + 1 → l ≤ 4 * (2 * b2 + 1)
few_entries l w2 b0 b2 n w0 c h e k = omega arith

module _ (problem : ProblemParts) (right : IsLibrary problem.library) (is : IsProblem problem) (sound : RightCutsHold problem.library) where
  steps_work : (entries : List Entry) (old new : SearchState) → IsKept problem old → AllByRecursion (λ entry. is_reopen entry ≡ false) entries → Steps problem old entries new
      → length entries + work_of new + 8 * old.branchings ≤ work_of old + 8 * new.branchings
  steps_work [] old new kept none steps = let P : SearchState → Type 0 = λ s. 0 + work_of s + 8 * old.branchings ≤ work_of old + 8 * s.branchings in subst P (sym steps) (no_entry (work_of old) old.branchings)
  steps_work (entry ∷ entries) old new kept none steps =
      next_entry (length entries) (work_of old) (work_of steps.0) (work_of new) old.branchings steps.0.branchings new.branchings
      (work_of_case problem old entry steps.0 kept none.0 steps.1.fits)
      (steps_work entries steps.0 new (step_keeps problem right is sound old entry steps.0 kept steps.1) none.1 steps.2)

  -- a history without a change of the limit, from a state where all nodes are open, is short
  pub steps_are_few : (old new : SearchState) (entries : List Entry) → IsReached problem old → IsAllOpen old → HasNoReopen entries → Steps problem old entries new → length entries ≤ 4 * (2 * new.branchings + 1)
  steps_are_few old new entries reached all none steps =
      let kept = reached_is_kept problem right is sound old reached in
      few_entries (length entries) (work_of new) old.branchings new.branchings (len old.nodes) (work_of old) (length old.cuts)
      (steps_work entries old new kept (recursion_from_All (λ (entry : Entry). is_reopen entry ≡ false) entries none) steps)
      (all_work (values old.nodes) (recursion_from_All (λ (node : Node). is_open node ≡ true) (values old.nodes) all) ∙ ap (λ n. 4 * n) (sym (len_total old.nodes)))
      kept.holds.numbers_are_bounded.together

-- cuts only grow
case_goes_on : (problem : ProblemParts) (old : SearchState) (entry : Entry) (new : SearchState) → Case problem old entry new → GoesOn old.cuts new.cuts
case_goes_on problem old (Take worker node cuts bound) new step = let s : Takes old worker node cuts bound new = step in ([], ap (λ (n : SearchState). n.cuts) s.next ∙ sym (append-nil old.cuts))
case_goes_on problem old (Branch worker node trace var) new step = let s : Branches problem old worker node trace var.0 new = step in ([], ap (λ (n : SearchState). n.cuts) s.next ∙ sym (append-nil old.cuts))
case_goes_on problem old (Prune worker node trace reason) new step = let s : Prunes problem old worker node trace reason new = step in ([], ap (λ (n : SearchState). n.cuts) s.next ∙ sym (append-nil old.cuts))
case_goes_on problem old (Offer worker node trace) new step = let s : Offers problem old worker node trace new = step in ([], ap (λ (n : SearchState). n.cuts) s.next ∙ sym (append-nil old.cuts))
case_goes_on problem old (Study worker node) new step = let s : Studies old worker node new = step in ([], ap (λ (n : SearchState). n.cuts) s.next ∙ sym (append-nil old.cuts))
case_goes_on problem old (Publish worker node cut) new step = let s : Publishes problem old worker node cut new = step in (cut_row_of problem.library cut (candidate_of problem.library s.study.cube) ∷ [], ap (λ (n : SearchState). n.cuts) s.next)
case_goes_on problem old (Accept worker node cost) new step = let s : Accepts problem old worker node cost new = step in ([], ap (λ (n : SearchState). n.cuts) s.next ∙ sym (append-nil old.cuts))
case_goes_on problem old (Park worker node) new step = let s : Parks old worker node new = step in ([], ap (λ (n : SearchState). n.cuts) s.next ∙ sym (append-nil old.cuts))
case_goes_on problem old (Reopen limit) new step = let s : Reopens old limit new = step in ([], ap (λ (n : SearchState). n.cuts) s.next ∙ sym (append-nil old.cuts))

pub cuts_go_on : (problem : ProblemParts) (entries : List Entry) (old new : SearchState) → Steps problem old entries new → GoesOn old.cuts new.cuts
cuts_go_on problem [] old new steps = ([], ap (λ (n : SearchState). n.cuts) steps ∙ sym (append-nil old.cuts))
cuts_go_on problem (entry ∷ entries) old new steps =
    let first = case_goes_on problem old entry steps.0 steps.1.fits in
    let rest = cuts_go_on problem entries steps.0 new steps.2 in
    (first.0 ++ rest.0, rest.1 ∙ ap (λ l. l ++ rest.0) first.1 ∙ append_assoc old.cuts first.0 rest.0)

-- at rest every live node is parked
pub parked_at : (state : SearchState) → IsAtRest state → (i : ℕ) (node : Node) → get state.nodes i ≡ Some node → is_parked node ≡ true
parked_at state rest i node at = value_at_number (λ other. is_parked other ≡ true) state.nodes i node (recursion_from_All (λ (other : Node). is_parked other ≡ true) (values state.nodes) (AllPass-from_list_all is_parked (values state.nodes) rest)) at

not_parked : {P : Type 0} (b : Bool) → b ≡ false → b ≡ true → P
not_parked b e h = absurd (let f : false ≡ true = sym e ∙ h in cc)

pub rest_stays : (problem : ProblemParts) (old new : SearchState) (entry : Entry) → IsAtRest old → Step problem old entry new → is_reopen entry ≡ true
rest_stays problem old new (Take worker node cuts bound) rest step = let s : Takes old worker node cuts bound new = step.fits in not_parked false refl (parked_at old rest node (Open s.cube) s.opened)
rest_stays problem old new (Branch worker node trace var) rest step =
    let s : Branches problem old worker node trace var.0 new = step.fits in not_parked false refl (parked_at old rest node (Held s.traced.cube worker s.traced.cuts s.traced.bound) s.traced.held)
rest_stays problem old new (Prune worker node trace reason) rest step =
    let s : Prunes problem old worker node trace reason new = step.fits in not_parked false refl (parked_at old rest node (Held s.traced.cube worker s.traced.cuts s.traced.bound) s.traced.held)
rest_stays problem old new (Offer worker node trace) rest step =
    let s : Offers problem old worker node trace new = step.fits in not_parked false refl (parked_at old rest node (Held s.traced.cube worker s.traced.cuts s.traced.bound) s.traced.held)
rest_stays problem old new (Study worker node) rest step = let s : Studies old worker node new = step.fits in not_parked false refl (parked_at old rest node (Pending s.cube) s.pending)
rest_stays problem old new (Publish worker node cut) rest step = let s : Publishes problem old worker node cut new = step.fits in not_parked false refl (parked_at old rest node (Studied s.study.cube worker) s.study.studied)
rest_stays problem old new (Accept worker node cost) rest step = let s : Accepts problem old worker node cost new = step.fits in not_parked false refl (parked_at old rest node (Studied s.study.cube worker) s.study.studied)
rest_stays problem old new (Park worker node) rest step = let s : Parks old worker node new = step.fits in not_parked false refl (parked_at old rest node (Held s.cube worker s.cuts s.bound) s.held)
rest_stays problem old new (Reopen limit) rest step = refl
