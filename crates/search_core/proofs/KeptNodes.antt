-- What holds of each live node after a change, and whose cube a vector lies in then.
use Rattle.std.proofs.Common.{◌≡◌, ℕ, ◌+◌, ◌*◌, ◌<◌, ◌≤◌, Bool, Option, Some, None, option_map, refl, sym, ap, subst, ◌∙◌, arith, inl, inr, ◌⊎◌}
use Rattle.std.proofs.lemmas.Bool.{cases_eq}
use Rattle.std.specs.Ordering.{nat_cmp}
use Rattle.std.specs.FinMap.{FinMap, get, insert, remove}
use Rattle.rows.specs.Cube.{LiesIn}
use Rattle.search_core.specs.Node.{Node, Open, node_cube, EachNode}
use Rattle.search_core.specs.State.{all_open}
use Rattle.search_core.specs.Invariant.{IsCovered}
use Rattle.search_core.proofs.NodeMap.{get-insert_same, get-insert_other, get-remove_same, get-remove_other, get-changed}
use Rattle.search_core.proofs.Options.{none_is_some, same_some, mapped_from}

module _ (nodes : FinMap nat_cmp Node) (i : ℕ) where
  -- the node at a number, once it has a new state
  inserted_is : (j : ℕ) (new other : Node) → j ≡ i → get (insert nodes i new) j ≡ Some other → new ≡ other
  inserted_is j new other same at = same_some (sym (get-insert_same nodes i new) ∙ ap (get (insert nodes i new)) (sym same) ∙ at)

  pub each_insert : (P : ℕ → Node → Type 0) (new : Node) → EachNode P nodes → P i new → EachNode P (insert nodes i new)
  each_insert P new each here j other at = elim (cases_eq j i) [
    | inl same ↦ let Q : ℕ → Type 0 = λ k. P k other in subst Q (sym same) (subst (P i) (inserted_is j new other same at) here)
    | inr ne ↦ each j other (sym (get-insert_other nodes i j new ne) ∙ at)
  ]

  pub each_remove : (P : ℕ → Node → Type 0) → EachNode P nodes → EachNode P (remove nodes i)
  each_remove P each j other at = elim (cases_eq j i) [
    | inl same ↦ none_is_some other (sym (get-remove_same nodes i) ∙ ap (get (remove nodes i)) (sym same) ∙ at)
    | inr ne ↦ each j other (sym (get-remove_other nodes i j ne) ∙ at)
  ]

  -- a vector that lies in a live cube lies in one where a node's cube still has it
  pub covered_replace : (x : ℕ → Bool) (node new : Node) → IsCovered nodes x → get nodes i ≡ Some node → (LiesIn x (node_cube node) → LiesIn x (node_cube new)) → IsCovered (insert nodes i new) x
  covered_replace x node new c there keeps = elim (cases_eq c.number i) [
    | inl same ↦
        let is : c.node ≡ node = same_some (sym c.live ∙ ap (get nodes) same ∙ there) in
        let P : Node → Type 0 = λ n. LiesIn x (node_cube n) in
        record { number = i; node = new; live = get-insert_same nodes i new; lies = keeps (subst P is c.lies) }
    | inr ne ↦ record { number = c.number; node = c.node; live = get-insert_other nodes i c.number new ne ∙ c.live; lies = c.lies }
  ]

  -- and where it didn't lie in the cube of a node that is gone
  pub covered_remove : (x : ℕ → Bool) (node : Node) → IsCovered nodes x → get nodes i ≡ Some node → (LiesIn x (node_cube node) → ⊥) → IsCovered (remove nodes i) x
  covered_remove x node c there lies_not = elim (cases_eq c.number i) [
    | inl same ↦
        let is : c.node ≡ node = same_some (sym c.live ∙ ap (get nodes) same ∙ there) in
        let P : Node → Type 0 = λ n. LiesIn x (node_cube n) in
        absurd (lies_not (subst P is c.lies))
    | inr ne ↦ record { number = c.number; node = c.node; live = get-remove_other nodes i c.number ne ∙ c.live; lies = c.lies }
  ]

  -- it lies in a node's cube or in one of the others
  pub covered_or : (x : ℕ → Bool) (node : Node) → IsCovered nodes x → get nodes i ≡ Some node → LiesIn x (node_cube node) ⊎ IsCovered (remove nodes i) x
  covered_or x node c there = elim (cases_eq c.number i) [
    | inl same ↦
        let is : c.node ≡ node = same_some (sym c.live ∙ ap (get nodes) same ∙ there) in
        let P : Node → Type 0 = λ n. LiesIn x (node_cube n) in
        inl (subst P is c.lies)
    | inr ne ↦ inr (record { number = c.number; node = c.node; live = get-remove_other nodes i c.number ne ∙ c.live; lies = c.lies })
  ]

  pub covered_here : (x : ℕ → Bool) (new : Node) → LiesIn x (node_cube new) → IsCovered (insert nodes i new) x
  covered_here x new lies = record { number = i; node = new; live = get-insert_same nodes i new; lies = lies }

  pub covered_there : (x : ℕ → Bool) (new : Node) → IsCovered nodes x → get nodes i ≡ None → IsCovered (insert nodes i new) x
  covered_there x new c none =
      let ne : c.number ≡ i → ⊥ = λ same. none_is_some c.node (sym none ∙ ap (get nodes) (sym same) ∙ c.live) in
      record { number = c.number; node = c.node; live = get-insert_other nodes i c.number new ne ∙ c.live; lies = c.lies }

-- no node has a number past the bound
none_past : (o : Option Node) → ((node : Node) → o ≡ Some node → ⊥) → o ≡ None
none_past None h = refl
none_past (Some node) h = absurd (h node refl)

pub unused : (nodes : FinMap nat_cmp Node) (bound i : ℕ) → EachNode (λ j node. j ≤ bound) nodes → bound < i → get nodes i ≡ None
unused nodes bound i each past = none_past (get nodes i) (λ node at. let low = each i node at in absurd (omega arith))

-- the numbers of the two nodes that a branching makes are new
pub first_is_new : (nodes : FinMap nat_cmp Node) (i j : ℕ) → EachNode (λ k node. k ≤ 2 * j) nodes → get (remove nodes i) (2 * j + 1) ≡ None
first_is_new nodes i j low = unused (remove nodes i) (2 * j) (2 * j + 1) (each_remove nodes i (λ k node. k ≤ 2 * j) low) (omega arith)

pub second_is_new : (nodes : FinMap nat_cmp Node) (i j : ℕ) (one : Node) → EachNode (λ k node. k ≤ 2 * j) nodes → get (insert (remove nodes i) (2 * j + 1) one) (2 * j + 2) ≡ None
second_is_new nodes i j one low =
    unused (insert (remove nodes i) (2 * j + 1) one) (2 * j + 1) (2 * j + 2)
    (each_insert (remove nodes i) (2 * j + 1) (λ k node. k ≤ 2 * j + 1) one (λ k node at. let le = each_remove nodes i (λ k' node'. k' ≤ 2 * j) low k node at in omega arith) (omega arith)) (omega arith)

-- all nodes open
module _ (nodes : FinMap nat_cmp Node) where
  opened : (j : ℕ) → get (all_open nodes) j ≡ option_map (λ node. Open (node_cube node)) (get nodes j)
  opened j = get-changed (λ (node : Node). Open (node_cube node)) nodes j

  pub each_open : (P Q : ℕ → Node → Type 0) → ((j : ℕ) (node : Node) → P j node → Q j (Open (node_cube node))) → EachNode P nodes → EachNode Q (all_open nodes)
  each_open P Q keeps each j other at =
      mapped_from (Q j other) (λ node. Open (node_cube node)) (get nodes j) other (sym (opened j) ∙ at) (λ node there is. subst (Q j) (sym is) (keeps j node (each j node there)))

  pub covered_open : (x : ℕ → Bool) → IsCovered nodes x → IsCovered (all_open nodes) x
  covered_open x c = record {
    number = c.number;
    node = Open (node_cube c.node);
    live = opened c.number ∙ ap (option_map (λ node. Open (node_cube node))) c.live;
    lies = c.lies;
  }
