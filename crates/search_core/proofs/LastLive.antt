-- The last live node of a kind, in a list with ascending numbers and in the map that it is seen as.
use Rattle.std.proofs.Common.{◌≡◌, ℕ, zero, suc, ◌+◌, ◌-◌, ◌<◌, ◌≤◌, Bool, true, false, nat_eq, cond, List, [], ◌∷◌, map, length, get_or, Option, Some, None, IfSome, refl, sym, ap, subst, ◌∙◌, arith}
use Rattle.std.specs.Prelude.{IfNone}
use Rattle.std.specs.List.{AllByRecursion}
use Rattle.std.specs.Ordering.{nat_cmp, eq_by_cmp}
use Rattle.std.specs.FinMap.Entries.{find}
use Rattle.std.proofs.lemmas.Bool.{eqb-true, eq-eqb}
use Rattle.std.proofs.lemmas.List.{get_or_default}
use Rattle.search_core.specs.declared.nodes.Live.{Live}
use Rattle.search_core.specs.Node.{Node, EachNode}
use Rattle.search_core.specs.Inner.Nodes.{node_of, entry_of, map_of, Ascend, blank_live}
use Rattle.search_core.specs.Inner.Finding.{IsLastLive}
use Rattle.search_core.specs.Sought.{IsLastSought}
use Rattle.search_core.proofs.Options.{none_is_some, same_some}
use Rattle.search_core.proofs.NodeMap.{not_tied}
use Rattle.search_core.proofs.Places.{Rising, rising_from, get-map}
use Rattle.search_core.proofs.LiveLists.{get_there}

same_number : (k q : ℕ) → eq_by_cmp nat_cmp k q ≡ true → k ≡ q
same_number k q t = by_eq (nat_eq k q) refl where
  by_eq : (b : Bool) → nat_eq k q ≡ b → k ≡ q
  by_eq true e = eqb-true k q e
  by_eq false e = absurd (let f : true ≡ false = sym t ∙ not_tied k q (λ same. let g : false ≡ true = sym e ∙ eq-eqb k q same in cc) in cc)

-- what holds of each entry holds of the one that is found at a number
found_entry : (P : ℕ → Node → Type 0) (k : ℕ) (v : Node) (es : List (ℕ × Node)) → AllByRecursion (λ e. P e.0 e.1) es → find nat_cmp k es ≡ Some v → P k v
found_entry P k v [] all is = none_is_some v is
found_entry P k v (e ∷ es) all is = by_tie (eq_by_cmp nat_cmp k e.0) refl (λ h. found_entry P k v es all.1 h) is where
  by_tie : (b : Bool) → eq_by_cmp nat_cmp k e.0 ≡ b → (find nat_cmp k es ≡ Some v → P k v) → cond b (Some e.1) (find nat_cmp k es) ≡ Some v → P k v
  by_tie true t later h = subst (λ n. P n v) (sym (same_number k e.0 t)) (subst (P e.0) (same_some h) all.0)
  by_tie false t later h = later h

each_found : (P : ℕ → Node → Type 0) (live : List Live) → Ascend live → AllByRecursion (λ e. P e.0 e.1) (map entry_of live) → EachNode P (map_of live)
each_found P live ascend all k v there = found_entry P k v (map entry_of live) all (sym (get-map (map entry_of live) ascend k) ∙ there)

below_at : (k : ℕ) (live : List Live) (p : ℕ) → AllByRecursion (λ f. k < f.0) (map entry_of live) → p < length live → k < (get_or live p blank_live).number
below_at k [] p all short = absurd (omega arith)
below_at k (l ∷ live) zero all short = all.0
below_at k (l ∷ live) (suc p) all short = below_at k live p all.1 (omega arith)

module _ (test : Node → Bool) where
  none_all : (P : ℕ → Type 0) (live : List Live) → ((j : ℕ) → j < length live → test (node_of (get_or live j blank_live).state) ≡ false) → AllByRecursion (λ e. P e.0 → test e.1 ≡ false) (map entry_of live)
  none_all P [] none = tt
  none_all P (l ∷ live) none = ((λ p. none 0 (omega arith)), none_all P live (λ j short. none (suc j) (omega arith)))

  last_all : (i : ℕ) (live : List Live) (p : ℕ) → Rising (map entry_of live) → p < length live → (get_or live p blank_live).number ≡ i
      → ((j : ℕ) → p < j → j < length live → test (node_of (get_or live j blank_live).state) ≡ false) → AllByRecursion (λ e. i < e.0 → test e.1 ≡ false) (map entry_of live)
  last_all i [] p rising short named last = tt
  last_all i (l ∷ live) zero rising short named last =
      ((λ less. absurd (let same : l.number ≡ i = named in omega (arith, same, less))), none_all (λ n. i < n) live (λ j within. last (suc j) (omega arith) (omega arith)))
  last_all i (l ∷ live) (suc p) rising short named last =
      let low : l.number < (get_or live p blank_live).number = below_at l.number live p rising.0 (omega arith) in (
        (λ less. absurd (let same : (get_or live p blank_live).number ≡ i = named in omega (arith, same, low, less))),
        last_all i live p rising.1 (omega arith) named (λ j above within. last (suc j) (omega arith) (omega arith)),
      )

  pub last_found : (live : List Live) → Ascend live → (i : ℕ) → IsLastLive test live i → IsLastSought test (map_of live) i
  last_found live ascend i is = record {
    node = node_of (get_or live is.place blank_live).state;
    live = get_there live ascend i is.place (record { within = is.within; named = is.named });
    passes = is.passes;
    last = each_found (λ j other. i < j → test other ≡ false) live ascend (last_all i live is.place (rising_from (map entry_of live) ascend) is.within is.named is.last);
  }

  always : (es : List (ℕ × Node)) → AllByRecursion (λ e. Unit {0} → test e.1 ≡ false) es → AllByRecursion (λ e. test e.1 ≡ false) es
  always [] all = tt
  always (e ∷ es) all = (all.0 tt, always es all.1)

  pub none_found : (live : List Live) → Ascend live → ((j : ℕ) → j < length live → test (node_of (get_or live j blank_live).state) ≡ false) → EachNode (λ i node. test node ≡ false) (map_of live)
  none_found live ascend none = each_found (λ i node. test node ≡ false) live ascend (always (map entry_of live) (none_all (λ n. Unit {0}) live none))

  -- what was found in a list, of its map
  pub last_for : (o : Option ℕ) (live given : List Live) → Ascend live → given ≡ live → IfSome o (IsLastLive test given) → IfSome o (IsLastSought test (map_of live))
  last_for None live given ascend same h = tt
  last_for (Some i) live given ascend same h = last_found live ascend i (subst (λ l. IsLastLive test l i) same h)

  pub none_for : (o : Option ℕ) (live given : List Live) → Ascend live → given ≡ live
      → IfNone o ((j : ℕ) → j < length given → test (node_of (get_or given j blank_live).state) ≡ false) → IfNone o (EachNode (λ i node. test node ≡ false) (map_of live))
  none_for None live given ascend same h =
      none_found live ascend (subst (λ (l : List Live). (j : ℕ) → j < length l → test (node_of (get_or l j blank_live).state) ≡ false) same h)
  none_for (Some i) live given ascend same h = tt

  -- the node at the place that was reached is the last
  pub last_here : (live : List Live) (back at : ℕ) (found : Live) → back < length live → at ≡ length live - 1 - back → found ≡ get_or live at found → test (node_of found.state) ≡ true
      → ((j : ℕ) → length live ≤ j + back → j < length live → test (node_of (get_or live j blank_live).state) ≡ false) → IsLastLive test live found.number
  last_here live back at found short is here passes before =
      let inside : at < length live = omega (arith, short, is) in
      let its : found ≡ get_or live at blank_live = here ∙ get_or_default live at found blank_live inside in record {
        place = at;
        within = inside;
        named = ap (λ (l : Live). l.number) (sym its);
        passes = ap (λ (l : Live). test (node_of l.state)) (sym its) ∙ passes;
        last = λ j above within. before j (omega (arith, short, is, above)) within;
      }
