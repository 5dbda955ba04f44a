-- An entry leads to one state.
use Rattle.std.proofs.Common.{◌≡◌, ℕ, List, [], ◌∷◌, Option, Some, sym, ap, subst, ◌∙◌}
use Rattle.std.specs.FinMap.{get}
use Rattle.rows.specs.declared.known.RowRef.{RowRef}
use Rattle.rows.specs.Parts.{CubeParts, ProblemParts}
use Rattle.rows.specs.Trace.{cube_after}
use Rattle.redundancy_cut.specs.CutRow.{cut_row_of}
use Rattle.search_core.specs.declared.entry.Entry.{Entry}
use Rattle.search_core.specs.declared.entry.Entry.TheVariants.{Take, Branch, Prune, Offer, Study, Publish, Accept, Park, Reopen}
use Rattle.search_core.specs.Node.{Node, Open, Held, Pending, Studied, Parked}
use Rattle.search_core.specs.State.{SearchState, known_at}
use Rattle.search_core.specs.Candidate.{candidate_of}
use Rattle.search_core.specs.Step.{IsTraced, Takes, Branches, Prunes, Offers, Studies, Accepts, Publishes, Parks, Reopens, Case, Step, with_node, branched, accepted, published}
use Rattle.search_core.specs.History.{Steps}

-- what is at a number determines the cube
same_open : (o : Option Node) (a b : CubeParts) → o ≡ Some (Open a) → o ≡ Some (Open b) → a ≡ b
same_open o a b e f = cc

same_pending : (o : Option Node) (a b : CubeParts) → o ≡ Some (Pending a) → o ≡ Some (Pending b) → a ≡ b
same_pending o a b e f = cc

pub same_studied : (o : Option Node) (a b : CubeParts) (w : ℕ) → o ≡ Some (Studied a w) → o ≡ Some (Studied b w) → a ≡ b
same_studied o a b w e f = cc

pub same_held : (o : Option Node) (a b : CubeParts) (w k l : ℕ) (u v : Option ℕ) → o ≡ Some (Held a w k u) → o ≡ Some (Held b w l v) → (a ≡ b) × (k ≡ l) × (u ≡ v)
same_held o a b w k l u v e f = (cc, cc, cc)

pub same_after : (problem : ProblemParts) (old : SearchState) (worker node : ℕ) (trace : List RowRef) (s t : IsTraced problem old worker node trace) → s.after ≡ t.after
same_after problem old worker node trace s t =
    let is = same_held (get old.nodes node) s.cube t.cube worker s.cuts t.cuts s.bound t.bound s.held t.held in
    same_some (sym s.leads
    ∙ ap (λ c. cube_after (known_at problem old s.cuts s.bound) c trace) is.0
    ∙ ap (λ k. cube_after (known_at problem old k s.bound) t.cube trace) is.1
    ∙ ap (λ u. cube_after (known_at problem old t.cuts u) t.cube trace) is.2 ∙ t.leads) where
      same_some : {x y : CubeParts} → Some x ≡ Some y → x ≡ y
      same_some e = cc

pub case_is_determined : (problem : ProblemParts) (old a b : SearchState) (entry : Entry) → Case problem old entry a → Case problem old entry b → a ≡ b
case_is_determined problem old a b (Take worker node cuts bound) x y =
    let s : Takes old worker node cuts bound a = x in
    let t : Takes old worker node cuts bound b = y in
    s.next ∙ ap (λ c. with_node old node (Held c worker cuts bound)) (same_open (get old.nodes node) s.cube t.cube s.opened t.opened) ∙ sym t.next
case_is_determined problem old a b (Branch worker node trace var) x y =
    let s : Branches problem old worker node trace var.0 a = x in
    let t : Branches problem old worker node trace var.0 b = y in
    s.next ∙ ap (λ c. branched old node c var.0) (same_after problem old worker node trace s.traced t.traced) ∙ sym t.next
case_is_determined problem old a b (Prune worker node trace reason) x y =
    let s : Prunes problem old worker node trace reason a = x in
    let t : Prunes problem old worker node trace reason b = y in s.next ∙ sym t.next
case_is_determined problem old a b (Offer worker node trace) x y =
    let s : Offers problem old worker node trace a = x in
    let t : Offers problem old worker node trace b = y in
    s.next ∙ ap (λ c. with_node old node (Pending c)) (same_after problem old worker node trace s.traced t.traced) ∙ sym t.next
case_is_determined problem old a b (Study worker node) x y =
    let s : Studies old worker node a = x in
    let t : Studies old worker node b = y in
    s.next ∙ ap (λ c. with_node old node (Studied c worker)) (same_pending (get old.nodes node) s.cube t.cube s.pending t.pending) ∙ sym t.next
case_is_determined problem old a b (Publish worker node cut) x y =
    let s : Publishes problem old worker node cut a = x in
    let t : Publishes problem old worker node cut b = y in
    s.next ∙ ap (λ c. published old node (cut_row_of problem.library cut (candidate_of problem.library c))) (same_studied (get old.nodes node) s.study.cube t.study.cube worker s.study.studied t.study.studied) ∙ sym t.next
case_is_determined problem old a b (Accept worker node cost) x y =
    let s : Accepts problem old worker node cost a = x in
    let t : Accepts problem old worker node cost b = y in
    s.next ∙ ap (λ c. accepted old node cost (candidate_of problem.library c)) (same_studied (get old.nodes node) s.study.cube t.study.cube worker s.study.studied t.study.studied) ∙ sym t.next
case_is_determined problem old a b (Park worker node) x y =
    let s : Parks old worker node a = x in
    let t : Parks old worker node b = y in
    s.next ∙ ap (λ c. with_node old node (Parked c)) (same_held (get old.nodes node) s.cube t.cube worker s.cuts t.cuts s.bound t.bound s.held t.held).0 ∙ sym t.next
case_is_determined problem old a b (Reopen limit) x y =
    let s : Reopens old limit a = x in
    let t : Reopens old limit b = y in s.next ∙ sym t.next

pub step_is_determined : (problem : ProblemParts) (old a b : SearchState) (entry : Entry) → Step problem old entry a → Step problem old entry b → a ≡ b
step_is_determined problem old a b entry s t = case_is_determined problem old a b entry s.fits t.fits

pub steps_are_determined : (problem : ProblemParts) (entries : List Entry) (old a b : SearchState) → Steps problem old entries a → Steps problem old entries b → a ≡ b
steps_are_determined problem [] old a b s t = s ∙ sym t
steps_are_determined problem (entry ∷ entries) old a b s t =
    let same : s.0 ≡ t.0 = step_is_determined problem old s.0 t.0 entry s.1 t.1 in
    let P : SearchState → Type 0 = λ m. Steps problem m entries a in
    steps_are_determined problem entries t.0 a b (subst P same s.2) t.2
