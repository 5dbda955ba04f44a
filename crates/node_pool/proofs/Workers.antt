-- Whoever holds or studies a node of a pool is one of its team.
use Rattle.std.proofs.Common.{◌≡◌, ℕ, ◌<◌, true, false, List, [], ◌∷◌, sym, subst}
use Rattle.std.specs.List.{AllByRecursion}
use Rattle.std.specs.FinMap.{values}
use Rattle.std.proofs.lemmas.List.Elements.{recursion_from_All}
use Rattle.rows.specs.Parts.{ProblemParts}
use Rattle.search_core.specs.declared.entry.Entry.{Entry}
use Rattle.search_core.specs.declared.entry.Entry.TheVariants.{Take, Branch, Prune, Offer, Study, Publish, Accept, Park, Reopen}
use Rattle.search_core.specs.Node.{Node, Open, Held, Pending, Studied, Parked, EachNode, is_open}
use Rattle.search_core.specs.State.{SearchState}
use Rattle.search_core.specs.Step.{NamesWorkerBelow, Takes, Branches, Prunes, Offers, Studies, Accepts, Publishes, Parks, Case}
use Rattle.search_core.specs.History.{Steps, is_reopen}
use Rattle.search_core.proofs.KeptNodes.{each_insert, each_remove}
use Rattle.search_core.proofs.NodeMap.{value_at_number}
use Rattle.node_pool.specs.Parts.{PoolParts}
use Rattle.node_pool.specs.Pool.{IsPool}

-- the worker that holds or studies a node has a number below n
abbrev pub IsWorkedBelow : ℕ → Node → Type 0
IsWorkedBelow n (Open cube) = Unit {0}
IsWorkedBelow n (Held cube worker cuts bound) = worker < n
IsWorkedBelow n (Pending cube) = Unit {0}
IsWorkedBelow n (Studied cube worker) = worker < n
IsWorkedBelow n (Parked cube) = Unit {0}

-- one entry
module _ (problem : ProblemParts) (n : ℕ) (old new : SearchState) (worked : EachNode (λ i node. IsWorkedBelow n node) old.nodes) where
  pub case_keeps_worked : (entry : Entry) → is_reopen entry ≡ false → NamesWorkerBelow n entry → Case problem old entry new → EachNode (λ i node. IsWorkedBelow n node) new.nodes
  case_keeps_worked (Take worker node cuts bound) kept below x =
      let s : Takes old worker node cuts bound new = x in
      let P : SearchState → Type 0 = λ t. EachNode (λ i node. IsWorkedBelow n node) t.nodes in
      subst P (sym s.next) (each_insert old.nodes node (λ i node. IsWorkedBelow n node) (Held s.cube worker cuts bound) worked below)
  case_keeps_worked (Branch worker node trace var) kept below x =
      let s : Branches problem old worker node trace var.0 new = x in
      let P : SearchState → Type 0 = λ t. EachNode (λ i node. IsWorkedBelow n node) t.nodes in
      subst P (sym s.next) (each_insert _ _ (λ i node. IsWorkedBelow n node) (Open _) (each_insert _ _ (λ i node. IsWorkedBelow n node) (Open _) (each_remove old.nodes node (λ i node. IsWorkedBelow n node) worked) tt) tt)
  case_keeps_worked (Prune worker node trace reason) kept below x =
      let s : Prunes problem old worker node trace reason new = x in
      let P : SearchState → Type 0 = λ t. EachNode (λ i node. IsWorkedBelow n node) t.nodes in
      subst P (sym s.next) (each_remove old.nodes node (λ i node. IsWorkedBelow n node) worked)
  case_keeps_worked (Offer worker node trace) kept below x =
      let s : Offers problem old worker node trace new = x in
      let P : SearchState → Type 0 = λ t. EachNode (λ i node. IsWorkedBelow n node) t.nodes in
      subst P (sym s.next) (each_insert old.nodes node (λ i node. IsWorkedBelow n node) (Pending s.traced.after) worked tt)
  case_keeps_worked (Study worker node) kept below x =
      let s : Studies old worker node new = x in
      let P : SearchState → Type 0 = λ t. EachNode (λ i node. IsWorkedBelow n node) t.nodes in
      subst P (sym s.next) (each_insert old.nodes node (λ i node. IsWorkedBelow n node) (Studied s.cube worker) worked below)
  case_keeps_worked (Publish worker node cut) kept below x =
      let s : Publishes problem old worker node cut new = x in
      let P : SearchState → Type 0 = λ t. EachNode (λ i node. IsWorkedBelow n node) t.nodes in
      subst P (sym s.next) (each_remove old.nodes node (λ i node. IsWorkedBelow n node) worked)
  case_keeps_worked (Accept worker node cost) kept below x =
      let s : Accepts problem old worker node cost new = x in
      let P : SearchState → Type 0 = λ t. EachNode (λ i node. IsWorkedBelow n node) t.nodes in
      subst P (sym s.next) (each_remove old.nodes node (λ i node. IsWorkedBelow n node) worked)
  case_keeps_worked (Park worker node) kept below x =
      let s : Parks old worker node new = x in
      let P : SearchState → Type 0 = λ t. EachNode (λ i node. IsWorkedBelow n node) t.nodes in
      subst P (sym s.next) (each_insert old.nodes node (λ i node. IsWorkedBelow n node) (Parked s.cube) worked tt)
  case_keeps_worked (Reopen limit) kept below x = absurd (let f : true ≡ false = kept in cc)

steps_keep_worked : (problem : ProblemParts) (n : ℕ) (entries : List Entry) (old new : SearchState) → EachNode (λ i node. IsWorkedBelow n node) old.nodes
    → AllByRecursion (λ entry. is_reopen entry ≡ false) entries → AllByRecursion (NamesWorkerBelow n) entries → Steps problem old entries new → EachNode (λ i node. IsWorkedBelow n node) new.nodes
steps_keep_worked problem n [] old new worked none below steps = let P : SearchState → Type 0 = λ s. EachNode (λ i node. IsWorkedBelow n node) s.nodes in subst P (sym steps) worked
steps_keep_worked problem n (entry ∷ entries) old new worked none below steps =
    steps_keep_worked problem n entries steps.0 new (case_keeps_worked problem n old steps.0 worked entry none.0 below.0 steps.1.fits) none.1 below.1 steps.2

open_is_unworked : (n : ℕ) (node : Node) → is_open node ≡ true → IsWorkedBelow n node
open_is_unworked n (Open cube) e = tt
open_is_unworked n (Held cube w k u) e = absurd (let f : false ≡ true = e in cc)
open_is_unworked n (Pending cube) e = tt
open_is_unworked n (Studied cube w) e = absurd (let f : false ≡ true = e in cc)
open_is_unworked n (Parked cube) e = tt

pub pool_is_worked : (pool : PoolParts) → IsPool pool → EachNode (λ i node. IsWorkedBelow pool.workers node) pool.state.nodes
pool_is_worked pool is =
    steps_keep_worked pool.problem pool.workers pool.history pool.base pool.state
    (λ i node there. open_is_unworked pool.workers node (value_at_number (λ other. is_open other ≡ true) pool.base.nodes i node (recursion_from_All (λ (other : Node). is_open other ≡ true) (values pool.base.nodes) is.base.all_open) there))
    (recursion_from_All (λ (entry : Entry). is_reopen entry ≡ false) pool.history is.no_reopen)
    (recursion_from_All (NamesWorkerBelow pool.workers) pool.history is.workers_below)
    is.steps
