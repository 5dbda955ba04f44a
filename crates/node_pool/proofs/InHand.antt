-- Who has which node in hand: an idle worker none, and where a pool waits, somebody has one.
use Rattle.std.proofs.Common.{◌≡◌, inl, inr, ℕ, nat_eq, Bool, true, false, ◌||◌, ◌&&◌, List, [], ◌∷◌, map, Some, refl, sym, ap, ◌∙◌}
use Rattle.std.specs.Prelude.{T}
use Rattle.std.specs.List.{list_all, AllByRecursion}
use Rattle.std.specs.Ordering.{nat_cmp}
use Rattle.std.specs.FinMap.{get, entries, entries_sorted, get-entries}
use Rattle.std.specs.FinMap.Entries.{find, is_sorted}
use Rattle.std.proofs.lemmas.Bool.{eqb-true, eq-eqb}
use Rattle.arch_model.proofs.Members.{or_left}
use Rattle.search_core.specs.declared.sought.Sought.TheVariants.{Of}
use Rattle.search_core.specs.Node.{Node, Open, Held, Pending, Studied, Parked, EachNode, is_open, is_pending, is_parked}
use Rattle.search_core.specs.State.{SearchState}
use Rattle.search_core.specs.History.{is_at_rest}
use Rattle.search_core.specs.Diligent.{NothingOpen, NothingPending}
use Rattle.search_core.specs.Sought.{sought_by, IsLastSought}
use Rattle.search_core.proofs.Runs.{parked_at}
use Rattle.search_core.proofs.Places.{rising_from, each_found}
use Rattle.node_pool.specs.Parts.{PoolParts}
use Rattle.node_pool.specs.Holding.{IsIdle}
use Rattle.node_pool.specs.Taking.{IsInHand, IsWaiting}

never : {P : Type 0} (b : Bool) → b ≡ false → b ≡ true → P
never b e f = absurd (let g : false ≡ true = sym e ∙ f in cc)

-- a worker of whom no live node is, holds and studies nothing
module _ (pool : PoolParts) (worker : ℕ) where
  pub idle_where : EachNode (λ i node. sought_by (Of worker) node ≡ false) pool.state.nodes → IsIdle pool worker
  idle_where none number = (
    λ held. never _ (none number (Held held.cube worker held.cuts held.bound) held.held) (or_left (nat_eq worker worker) false (eq-eqb worker worker refl)),
    λ study. never _ (none number (Studied study.cube worker) study.studied) (eq-eqb worker worker refl),
  )

  -- one of whom some is, doesn't
  not_of : (number : ℕ) (node : Node) → get pool.state.nodes number ≡ Some node → sought_by (Of worker) node ≡ true → IsIdle pool worker → ⊥
  not_of number (Open cube) there passes idle = never _ refl passes
  not_of number (Held cube w cuts bound) there passes idle =
      let same : w ≡ worker = eqb-true w worker (left_only (nat_eq w worker) passes) in
      (idle number).0 (record { cube = cube; cuts = cuts; bound = bound; held = there ∙ ap (λ v. Some (Held cube v cuts bound)) same }) where
        left_only : (b : Bool) → (b || false) ≡ true → b ≡ true
        left_only true e = refl
        left_only false e = e
  not_of number (Pending cube) there passes idle = never _ refl passes
  not_of number (Studied cube w) there passes idle = (idle number).1 (record { cube = cube; studied = there ∙ ap (λ v. Some (Studied cube v)) (eqb-true w worker passes) })
  not_of number (Parked cube) there passes idle = never _ refl passes

  pub busy_where : (number : ℕ) → IsLastSought (sought_by (Of worker)) pool.state.nodes number → IsIdle pool worker → ⊥
  busy_where number last idle = not_of number last.node last.live last.passes idle

-- a live node that isn't parked, where not all are
record IsWork (state : SearchState) : Type 0 where
  number : ℕ
  node : Node
  there : get state.nodes number ≡ Some node
  work : is_parked node ≡ false

from_T : (b : Bool) → T b → b ≡ true
from_T true t = refl
from_T false t = absurd t

module _ (state : SearchState) where
  work_among : (es : List (ℕ × Node)) → AllByRecursion (λ e. find nat_cmp e.0 (entries state.nodes) ≡ Some e.1) es → list_all is_parked (map (λ e. e.1) es) ≡ false → IsWork state
  work_among [] all some = never true some refl
  work_among (e ∷ es) all some = by_first (is_parked e.1) refl (work_among es all.1) where
    by_first : (b : Bool) → is_parked e.1 ≡ b → (list_all is_parked (map (λ f. f.1) es) ≡ false → IsWork state) → IsWork state
    by_first true is rest = rest (sym (ap (λ b. b && list_all is_parked (map (λ f. f.1) es)) is) ∙ some)
    by_first false is rest = record { number = e.0; node = e.1; there = get-entries state.nodes e.0 ∙ all.0; work = is }

  work_where : is_at_rest state ≡ false → IsWork state
  work_where busy =
      let es = entries state.nodes in
      work_among es (each_found (λ e. find nat_cmp e.0 es ≡ Some e.1) es (rising_from es (from_T (is_sorted nat_cmp es) (entries_sorted state.nodes))) (λ k v at. at)) busy

  in_hand_at : (number : ℕ) (node : Node) → get state.nodes number ≡ Some node → is_open node ≡ false → is_pending node ≡ false → is_parked node ≡ false → IsInHand state
  in_hand_at number (Open cube) there unopened unpended unparked = never true unopened refl
  in_hand_at number (Held cube worker cuts bound) there unopened unpended unparked = (worker, number, inl (record { cube = cube; cuts = cuts; bound = bound; held = there }))
  in_hand_at number (Pending cube) there unopened unpended unparked = never true unpended refl
  in_hand_at number (Studied cube worker) there unopened unpended unparked = (worker, number, inr (record { cube = cube; studied = there }))
  in_hand_at number (Parked cube) there unopened unpended unparked = never true unparked refl

  -- where nothing is open or pending, but the state isn't at rest, the pool waits
  pub waits : NothingOpen state → NothingPending state → is_at_rest state ≡ false → IsWaiting state
  waits unopened unpended busy =
      let w = work_where busy in
      record { nothing_open = unopened; nothing_pending = unpended; something = in_hand_at w.number w.node w.there (unopened w.number w.node w.there) (unpended w.number w.node w.there) w.work }

  -- and where somebody has a node in hand, it isn't at rest
  pub no_rest_in_hand : IsInHand state → is_at_rest state ≡ true → ⊥
  no_rest_in_hand hand rest = elim hand.2 [
    | inl held ↦ never false refl (parked_at state rest hand.1 (Held held.cube hand.0 held.cuts held.bound) held.held)
    | inr study ↦ never false refl (parked_at state rest hand.1 (Studied study.cube hand.0) study.studied)
  ]
