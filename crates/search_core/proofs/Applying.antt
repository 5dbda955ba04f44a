-- What the code's steps find in a state, and what they make of it.
use Rattle.std.proofs.Common.{◌≡◌, ℕ, ◌+◌, ◌*◌, ◌<◌, ◌≤◌, List, [], length, Option, Some, None, Result, Ok, sym, ap, subst, ◌∙◌, arith}
use Rattle.std.specs.Ordering.{nat_cmp}
use Rattle.std.specs.FinMap.{FinMap, get, insert, remove, empty, get-empty}
use Rattle.arch_model.specs.Library.{IsLibrary}
use Rattle.rows.specs.declared.known.RowRef.{RowRef}
use Rattle.rows.specs.Parts.{CubeParts, CutParts, ProblemParts, KnownParts}
use Rattle.rows.specs.Cube.{whole}
use Rattle.rows.specs.Known.{IsKnown}
use Rattle.rows.specs.Problem.{IsProblem}
use Rattle.search_core.specs.declared.limits.TheConstants.{BRANCHINGS}
use Rattle.search_core.specs.declared.rule.Rule.{Rule}
use Rattle.search_core.specs.Node.{Node, Open, Held, node_cube, EachNode}
use Rattle.search_core.specs.State.{SearchState, start_of, known_at}
use Rattle.search_core.specs.Step.{IsHeldBy, IsTraced}
use Rattle.search_core.specs.Follow.{follow_trace}
use Rattle.search_core.specs.Parts.{StateParts, IsStateOf}
use Rattle.search_core.specs.History.{IsReached}
use Rattle.search_core.proofs.Options.{none_is_some}
use Rattle.search_core.proofs.KeptNodes.{each_insert, each_remove}
use Rattle.search_core.proofs.Kept.{IsKept}
use Rattle.search_core.proofs.CutRows.{right_cuts}
use Rattle.search_core.proofs.Runs.{reached_is_kept}
use Rattle.search_core.proofs.Following.{legal_is_followed}
use Rattle.search_core.proofs.Determined.{same_held}

-- the cube of a live node
abbrev pub HasCube : SearchState → ℕ → CubeParts → Type 0
HasCube state n cube = (node : Node) → get state.nodes n ≡ Some node → cube ≡ node_cube node

-- what the holder of a node knows, as the code passes it
abbrev pub knowing : ProblemParts → List CutParts → ℕ → Option ℕ → KnownParts
knowing problem cuts upto bound = record { problem = problem; cuts = cuts; upto = upto; bound = bound }

module _ (problem : ProblemParts) (right : IsLibrary problem.library) (is : IsProblem problem) (parts now : StateParts) (e : parts ≡ now) (of : IsStateOf problem now) (worker n : ℕ) (h : IsHeldBy now.search worker n) where
  kept : IsKept problem now.search
  kept = reached_is_kept problem right is (right_cuts problem.library right) now.search of.reached

  pub known_held : IsKnown (knowing problem parts.search.cuts h.cuts h.bound)
  known_held =
      let few : h.cuts ≤ length now.search.cuts = (kept.holds.knowledge_is_old n (Held h.cube worker h.cuts h.bound) h.held).0 in
      let P : StateParts → Type 0 = λ p. IsKnown (knowing problem p.search.cuts h.cuts h.bound) in
      subst P (sym e) (record { upto = few; cuts = λ i d short. (kept.over.cuts i d short).1 })

  pub followed : (trace : List RowRef) (res : Result CubeParts Rule) → res ≡ follow_trace (knowing problem parts.search.cuts h.cuts h.bound) h.cube trace → res ≡ follow_trace (known_at problem now.search h.cuts h.bound) h.cube trace
  followed trace res is_res = is_res ∙ ap (λ (p : StateParts). follow_trace (knowing problem p.search.cuts h.cuts h.bound) h.cube trace) e

  pub leads_to : (trace : List RowRef) (res : Result CubeParts Rule) → res ≡ follow_trace (knowing problem parts.search.cuts h.cuts h.bound) h.cube trace → (t : IsTraced problem now.search worker n trace) → res ≡ Ok t.after
  leads_to trace res is_res t =
      let same = same_held (get now.search.nodes n) h.cube t.cube worker h.cuts t.cuts h.bound t.bound h.held t.held in
      followed trace res is_res
      ∙ ap (λ c. follow_trace (known_at problem now.search h.cuts h.bound) c trace) same.0
      ∙ ap (λ k. follow_trace (known_at problem now.search k h.bound) t.cube trace) same.1
      ∙ ap (λ u. follow_trace (known_at problem now.search t.cuts u) t.cube trace) same.2
      ∙ legal_is_followed (known_at problem now.search t.cuts t.bound) trace t.cube t.after t.leads

-- the numbers of the two nodes of a branching are above all others
module _ (parts now : StateParts) (e : parts ≡ now) (low : EachNode (λ k node. k ≤ 2 * now.search.branchings) now.search.nodes) (i : ℕ) (left : FinMap nat_cmp Node) (left_is : left ≡ remove parts.search.nodes i) where
  low_here : EachNode (λ k node. k ≤ 2 * parts.search.branchings) left
  low_here =
      let P : StateParts → Type 0 = λ p. EachNode (λ k node. k ≤ 2 * p.search.branchings) p.search.nodes in
      let Q : FinMap nat_cmp Node → Type 0 = EachNode (λ k node. k ≤ 2 * parts.search.branchings) in
      subst Q (sym left_is) (each_remove parts.search.nodes i (λ k node. k ≤ 2 * parts.search.branchings) (subst P (sym e) low))

  pub first_above : EachNode (λ k node. k < 2 * parts.search.branchings + 1) left
  first_above k node at = let le = low_here k node at in omega arith

  pub second_above : (with_one : FinMap nat_cmp Node) (one : Node) → with_one ≡ insert left (2 * parts.search.branchings + 1) one → EachNode (λ k node. k < 2 * parts.search.branchings + 2) with_one
  second_above with_one one is =
      let Q : FinMap nat_cmp Node → Type 0 = EachNode (λ k node. k < 2 * parts.search.branchings + 2) in
      subst Q (sym is) (each_insert left (2 * parts.search.branchings + 1) (λ k node. k < 2 * parts.search.branchings + 2) one (λ k node at. let le = low_here k node at in omega arith) (omega arith))

-- the beginning
pub none_below : (nodes given : FinMap nat_cmp Node) (n : ℕ) → nodes ≡ given → given ≡ empty → EachNode (λ k node. k < n) nodes
none_below nodes given n e f k node at = none_is_some node (sym (get-empty nat_cmp k) ∙ ap (λ (m : FinMap nat_cmp Node). get m k) (sym (e ∙ f)) ∙ at)

pub begun : (problem : ProblemParts) (limit : ℕ) (state : SearchState) → limit ≤ BRANCHINGS → state ≡ start_of limit → IsReached problem state
begun problem limit state few is = (limit, [], record { few = few; steps = is })

pub started : (nodes reserved given : FinMap nat_cmp Node) (cube : CubeParts) (cuts : List CutParts) (limit : ℕ) → nodes ≡ insert reserved 0 (Open cube) → reserved ≡ given → given ≡ empty → cube ≡ whole → cuts ≡ []
    → ◌≡◌ {A = SearchState} (record { nodes = nodes; cuts = cuts; best = None; branchings = 0; limit = limit }) (start_of limit)
started nodes reserved given cube cuts limit is e f w none =
    let all : nodes ≡ insert empty 0 (Open whole) = is ∙ ap (λ m. insert m 0 (Open cube)) (e ∙ f) ∙ ap (λ c. insert empty 0 (Open c)) w in
    λ i. record { nodes = all i; cuts = none i; best = None; branchings = 0; limit = limit }
