-- A pool in which nobody has work and nothing is to be handed out is at rest.
use Rattle.std.proofs.Common.{◌≡◌, ℕ, Bool, true, false, List, [], ◌∷◌, map, Some, refl, ◌∙◌}
use Rattle.std.specs.Prelude.{T}
use Rattle.std.specs.List.{AllByRecursion, list_all}
use Rattle.std.specs.FinMap.{get, entries, entries_sorted, get-entries}
use Rattle.std.specs.FinMap.Entries.{is_sorted}
use Rattle.std.specs.Ordering.{nat_cmp}
use Rattle.arch_model.proofs.Members.{and_both}
use Rattle.search_core.specs.Node.{Node, Open, Held, Pending, Studied, Parked, EachNode, is_parked}
use Rattle.search_core.specs.State.{SearchState}
use Rattle.search_core.specs.History.{IsAtRest}
use Rattle.search_core.specs.Diligent.{NothingOpen, NothingPending}
use Rattle.search_core.proofs.Places.{rising_from, each_found}
use Rattle.node_pool.specs.Parts.{PoolParts}
use Rattle.node_pool.specs.Pool.{IsPool}
use Rattle.node_pool.proofs.Workers.{pool_is_worked}
use Rattle.worker_team.specs.Inner.Rounds.{AllIdle}

passing : (b : Bool) → T b → b ≡ true
passing true t = refl
passing false t = absurd t

each_parked : (es : List (ℕ × Node)) → AllByRecursion (λ e. is_parked e.1 ≡ true) es → list_all is_parked (map (λ e. e.1) es) ≡ true
each_parked [] all = refl
each_parked (e ∷ es) all = and_both (is_parked e.1) (list_all is_parked (map (λ f. f.1) es)) all.0 (each_parked es all.1)

-- where every live node is parked, the state is at rest
pub all_parked : (state : SearchState) → EachNode (λ i node. is_parked node ≡ true) state.nodes → IsAtRest state
all_parked state all =
    each_parked (entries state.nodes)
    (each_found (λ e. is_parked e.1 ≡ true) (entries state.nodes) (rising_from (entries state.nodes) (passing (is_sorted nat_cmp (entries state.nodes)) (entries_sorted state.nodes)))
    (λ i node at. all i node (get-entries state.nodes i ∙ at)))

module _ (pool : PoolParts) (is : IsPool pool) (idle : AllIdle pool) (none_open : NothingOpen pool.state) (none_pending : NothingPending pool.state) where
  parked_there : (i : ℕ) (node : Node) → get pool.state.nodes i ≡ Some node → is_parked node ≡ true
  parked_there i (Open cube) at = absurd (let f : true ≡ false = none_open i (Open cube) at in cc)
  parked_there i (Held cube w k u) at = absurd ((idle w (pool_is_worked pool is i (Held cube w k u) at) i).0 (record { cube = cube; cuts = k; bound = u; held = at }))
  parked_there i (Pending cube) at = absurd (let f : true ≡ false = none_pending i (Pending cube) at in cc)
  parked_there i (Studied cube w) at = absurd ((idle w (pool_is_worked pool is i (Studied cube w) at) i).1 (record { cube = cube; studied = at }))
  parked_there i (Parked cube) at = refl

  pub nothing_is_left : IsAtRest pool.state
  nothing_is_left = all_parked pool.state parked_there
