-- Lists of entries with ascending numbers: where a number is, and what a change of the list does to the map.
use Rattle.std.proofs.Common.{◌≡◌, ℕ, zero, suc, ◌<◌, ◌≤◌, Bool, true, false, cond, List, [], ◌∷◌, ◌++◌, length, get_or, set, Some, None, refl, sym, ap, subst, ◌∙◌, arith, inl, inr}
use Rattle.std.specs.Prelude.{T}
use Rattle.std.specs.List.{AllByRecursion, remove as list_remove}
use Rattle.std.specs.declared.cmp.Ordering.{Ordering}
use Rattle.std.specs.declared.cmp.Ordering.TheVariants.{Less, Equal, Greater}
use Rattle.std.specs.Ordering.{nat_cmp, eq_by_cmp, is_lt}
use Rattle.std.specs.Cmp.{ranked, nat_cmp_is}
use Rattle.std.specs.FinMap.{get, insert, remove, entries, from_sorted, entries-insert, entries-from_sorted, get-from_sorted, same_map, same_entries_map, nat_cmp-IsAntisymmetric, get-remove}
use Rattle.std.specs.FinMap.Entries.{find, put, by_order, below_all, is_sorted, is_sorted-put}
use Rattle.std.proofs.lemmas.Cmp.{nat_cmp_total}
use Rattle.std.proofs.lemmas.Bool.{cases_eq, cases_lt}
use Rattle.arch_model.proofs.Members.{and_left, and_right, and_both}
use Rattle.search_core.proofs.NodeMap.{not_tied, ties}

-- comparisons of numbers
less_from : (x y : ℕ) (r : Ordering) → nat_cmp x y ≡ r → is_lt r ≡ true → x < y
less_from x y Less e h = ranked x y Less (sym e)
less_from x y Equal e h = absurd (let f : false ≡ true = h in cc)
less_from x y Greater e h = absurd (let f : false ≡ true = h in cc)

is_less : (x y : ℕ) → x < y → nat_cmp x y ≡ Less
is_less x y h = sym (nat_cmp_is x y Less h)

is_greater : (x y : ℕ) → y < x → nat_cmp x y ≡ Greater
is_greater x y h = sym (nat_cmp_is x y Greater h)

is_same : (x y : ℕ) → x ≡ y → nat_cmp x y ≡ Equal
is_same x y h = sym (nat_cmp_is x y Equal h)

module _ {X : Type 0} where
  -- the numbers ascend, by recursion
  abbrev pub Rising : List (ℕ × X) → Type 0
  Rising [] = Unit {0}
  Rising (e ∷ es) = AllByRecursion (λ f. e.0 < f.0) es × Rising es

  below_from : (k : ℕ) (es : List (ℕ × X)) → below_all nat_cmp k es ≡ true → AllByRecursion (λ f. k < f.0) es
  below_from k [] h = tt
  below_from k (e ∷ es) h = (less_from k e.0 (nat_cmp k e.0) refl (and_left (is_lt (nat_cmp k e.0)) (below_all nat_cmp k es) h), below_from k es (and_right (is_lt (nat_cmp k e.0)) (below_all nat_cmp k es) h))

  below_to : (k : ℕ) (es : List (ℕ × X)) → AllByRecursion (λ f. k < f.0) es → below_all nat_cmp k es ≡ true
  below_to k [] h = refl
  below_to k (e ∷ es) h = and_both (is_lt (nat_cmp k e.0)) (below_all nat_cmp k es) (ap is_lt (is_less k e.0 h.0)) (below_to k es h.1)

  pub rising_from : (es : List (ℕ × X)) → is_sorted nat_cmp es ≡ true → Rising es
  rising_from [] h = tt
  rising_from (e ∷ es) h = (below_from e.0 es (and_left (below_all nat_cmp e.0 es) (is_sorted nat_cmp es) h), rising_from es (and_right (below_all nat_cmp e.0 es) (is_sorted nat_cmp es) h))

  pub rising_to : (es : List (ℕ × X)) → Rising es → is_sorted nat_cmp es ≡ true
  rising_to [] h = refl
  rising_to (e ∷ es) h = and_both (below_all nat_cmp e.0 es) (is_sorted nat_cmp es) (below_to e.0 es h.0) (rising_to es h.1)

  -- an entry is found by its number, and a number of none isn't
  not_found : (k : ℕ) (es : List (ℕ × X)) → AllByRecursion (λ f. k ≡ f.0 → ⊥) es → find nat_cmp k es ≡ None
  not_found k [] h = refl
  not_found k (e ∷ es) h = ap (λ b. cond b (Some e.1) (find nat_cmp k es)) (not_tied k e.0 h.0) ∙ not_found k es h.1

  below_apart : (k : ℕ) (es : List (ℕ × X)) → AllByRecursion (λ f. k < f.0) es → AllByRecursion (λ f. k ≡ f.0 → ⊥) es
  below_apart k [] h = tt
  below_apart k (e ∷ es) h = let less : k < e.0 = h.0 in ((λ same. absurd (omega arith)), below_apart k es h.1)

  pub all_at : (P : ℕ × X → Type 0) (es : List (ℕ × X)) (i : ℕ) (d : ℕ × X) → AllByRecursion P es → i < length es → P (get_or es i d)
  all_at P [] i d all short = absurd (omega arith)
  all_at P (e ∷ es) zero d all short = all.0
  all_at P (e ∷ es) (suc i) d all short = all_at P es i d all.1 (omega arith)

  found_here : (k : ℕ) (e : ℕ × X) (es : List (ℕ × X)) → k ≡ e.0 → find nat_cmp k (e ∷ es) ≡ Some e.1
  found_here k e es same = ap (λ n. cond (eq_by_cmp nat_cmp n e.0) (Some e.1) (find nat_cmp n es)) same ∙ ap (λ b. cond b (Some e.1) (find nat_cmp e.0 es)) (ties e.0)

  pub found_at : (es : List (ℕ × X)) (k i : ℕ) (d : ℕ × X) → Rising es → i < length es → (get_or es i d).0 ≡ k → find nat_cmp k es ≡ Some (get_or es i d).1
  found_at [] k i d rises short named = absurd (omega arith)
  found_at (e ∷ es) k zero d rises short named = found_here k e es (sym named)
  found_at (e ∷ es) k (suc i) d rises short named =
      let there : i < length es = omega arith in
      let after : e.0 < (get_or es i d).0 = all_at (λ f. e.0 < f.0) es i d rises.0 there in
      let ne : k ≡ e.0 → ⊥ = λ same. absurd (omega (arith, after, named, same)) in
      ap (λ b. cond b (Some e.1) (find nat_cmp k es)) (not_tied k e.0 ne) ∙ found_at es k i d rises.1 there named

  -- a gap: numbers before it are less, and those after it greater
  pub not_in_gap : (es : List (ℕ × X)) (k i : ℕ) (d : ℕ × X) → ((j : ℕ) → j < i → j < length es → (get_or es j d).0 < k) → ((j : ℕ) → i ≤ j → j < length es → k < (get_or es j d).0) → find nat_cmp k es ≡ None
  not_in_gap es k i d before after = not_found k es (apart es (λ j short. elim (cases_lt j i) [
    | inl near ↦ λ same. let less = before j near short in absurd (omega (arith, less, same))
    | inr far ↦ λ same. let more = after j far short in absurd (omega (arith, more, same))
  ])) where
    apart : (fs : List (ℕ × X)) → ((j : ℕ) → j < length fs → k ≡ (get_or fs j d).0 → ⊥) → AllByRecursion (λ f. k ≡ f.0 → ⊥) fs
    apart [] h = tt
    apart (f ∷ fs) h = (h 0 (omega arith), apart fs (λ j short. h (suc j) (omega arith)))

  -- a list with the entry of a number changed is the map with the number's value changed
  pub set_is_put : (es : List (ℕ × X)) (k i : ℕ) (v : X) (d : ℕ × X) → Rising es → i < length es → (get_or es i d).0 ≡ k → set es i (k, v) ≡ put nat_cmp k v es
  set_is_put [] k i v d rises short named = absurd (omega arith)
  set_is_put (e ∷ es) k zero v d rises short named =
      sym (ap (λ r. by_order r ((k, v) ∷ e ∷ es) ((e.0, v) ∷ es) (e ∷ put nat_cmp k v es)) (is_same k e.0 (sym named)) ∙ ap (λ n. (n, v) ∷ es) named)
  set_is_put (e ∷ es) k (suc i) v d rises short named =
      let there : i < length es = omega arith in
      let after : e.0 < (get_or es i d).0 = all_at (λ f. e.0 < f.0) es i d rises.0 there in
      let less : e.0 < k = omega (arith, after, named) in
      ap (λ l. e ∷ l) (set_is_put es k i v d rises.1 there named) ∙ sym (ap (λ r. by_order r ((k, v) ∷ e ∷ es) ((e.0, v) ∷ es) (e ∷ put nat_cmp k v es)) (is_greater k e.0 less))

  -- an entry with a number above all others comes last
  pub push_is_put : (es : List (ℕ × X)) (k : ℕ) (v : X) → AllByRecursion (λ f. f.0 < k) es → es ++ (k, v) ∷ [] ≡ put nat_cmp k v es
  push_is_put [] k v below = refl
  push_is_put (e ∷ es) k v below =
      ap (λ l. e ∷ l) (push_is_put es k v below.1) ∙ sym (ap (λ r. by_order r ((k, v) ∷ e ∷ es) ((e.0, v) ∷ es) (e ∷ put nat_cmp k v es)) (is_greater k e.0 below.0))

  -- what holds of each entry that is found, holds of each
  pub each_found : (P : ℕ × X → Type 0) (es : List (ℕ × X)) → Rising es → ((k : ℕ) (v : X) → find nat_cmp k es ≡ Some v → P (k, v)) → AllByRecursion P es
  each_found P [] rises h = tt
  each_found P (e ∷ es) rises h = (h e.0 e.1 (found_here e.0 e es refl), each_found P es rises.1 (λ k v at. h k v (ap (λ b. cond b (Some e.1) (find nat_cmp k es)) (not_tied k e.0 (apart k v at)) ∙ at))) where
    apart : (k : ℕ) (v : X) → find nat_cmp k es ≡ Some v → k ≡ e.0 → ⊥
    apart k v at same =
        let gone : find nat_cmp k es ≡ None = ap (λ n. find nat_cmp n es) same ∙ not_found e.0 es (below_apart e.0 es rises.0) in
        (let f : Some v ≡ None = sym at ∙ gone in cc)

  -- a list without the entry of a number
  removed_apart : (es : List (ℕ × X)) (k i : ℕ) (d : ℕ × X) → Rising es → i < length es → (get_or es i d).0 ≡ k → AllByRecursion (λ f. k ≡ f.0 → ⊥) (list_remove es i)
  removed_apart [] k i d rises short named = absurd (omega arith)
  removed_apart (e ∷ es) k zero d rises short named = let P : ℕ → Type 0 = λ n. AllByRecursion (λ f. n ≡ f.0 → ⊥) es in subst P named (below_apart e.0 es rises.0)
  removed_apart (e ∷ es) k (suc i) d rises short named =
      let there : i < length es = omega arith in
      let after : e.0 < (get_or es i d).0 = all_at (λ f. e.0 < f.0) es i d rises.0 there in
      ((λ same. absurd (omega (arith, after, named, same))), removed_apart es k i d rises.1 there named)

  find-removed : (es : List (ℕ × X)) (k i q : ℕ) (d : ℕ × X) → i < length es → (get_or es i d).0 ≡ k → (q ≡ k → ⊥) → find nat_cmp q (list_remove es i) ≡ find nat_cmp q es
  find-removed [] k i q d short named ne = absurd (omega arith)
  find-removed (e ∷ es) k zero q d short named ne = sym (ap (λ b. cond b (Some e.1) (find nat_cmp q es)) (not_tied q e.0 (λ same. ne (same ∙ named))))
  find-removed (e ∷ es) k (suc i) q d short named ne = ap (λ o. cond (eq_by_cmp nat_cmp q e.0) (Some e.1) o) (find-removed es k i q d (omega arith) named ne)

  all_removed : (P : ℕ × X → Type 0) (es : List (ℕ × X)) (i : ℕ) → AllByRecursion P es → AllByRecursion P (list_remove es i)
  all_removed P [] zero all = tt
  all_removed P [] (suc i) all = tt
  all_removed P (e ∷ es) zero all = all.1
  all_removed P (e ∷ es) (suc i) all = (all.0, all_removed P es i all.1)

  pub rising_removed : (es : List (ℕ × X)) (i : ℕ) → Rising es → Rising (list_remove es i)
  rising_removed [] zero h = tt
  rising_removed [] (suc i) h = tt
  rising_removed (e ∷ es) zero h = h.1
  rising_removed (e ∷ es) (suc i) h = (all_removed (λ f. e.0 < f.0) es i h.0, rising_removed es i h.1)

-- the maps of these lists
to_T : (b : Bool) → b ≡ true → T b
to_T true e = tt
to_T false e = absurd (let f : false ≡ true = e in cc)

from_T : (b : Bool) → T b → b ≡ true
from_T true t = refl
from_T false t = absurd t

module _ {X : Type 0} (es : List (ℕ × X)) (sorted : is_sorted nat_cmp es ≡ true) where
  pub get-map : (k : ℕ) → get (from_sorted {R = nat_cmp} es) k ≡ find nat_cmp k es
  get-map k = get-from_sorted nat_cmp es k (to_T (is_sorted nat_cmp es) sorted)

  pub entries-map : entries (from_sorted {R = nat_cmp} es) ≡ es
  entries-map = entries-from_sorted nat_cmp es (to_T (is_sorted nat_cmp es) sorted)

  pub sorted-put : (k : ℕ) (v : X) → is_sorted nat_cmp (put nat_cmp k v es) ≡ true
  sorted-put k v = from_T (is_sorted nat_cmp (put nat_cmp k v es)) (is_sorted-put nat_cmp nat_cmp_total k v es (to_T (is_sorted nat_cmp es) sorted))

  put_is_insert : (k : ℕ) (v : X) → from_sorted {R = nat_cmp} (put nat_cmp k v es) ≡ insert (from_sorted es) k v
  put_is_insert k v =
      same_entries_map (from_sorted {R = nat_cmp} (put nat_cmp k v es)) (insert (from_sorted es) k v)
      (entries-from_sorted nat_cmp (put nat_cmp k v es) (to_T (is_sorted nat_cmp (put nat_cmp k v es)) (sorted-put k v)) ∙ sym (entries-insert nat_cmp_total (from_sorted es) k v ∙ ap (put nat_cmp k v) entries-map))

  module _ (k i : ℕ) (d : ℕ × X) (short : i < length es) (named : (get_or es i d).0 ≡ k) where
    pub get-place : get (from_sorted {R = nat_cmp} es) k ≡ Some (get_or es i d).1
    get-place = get-map k ∙ found_at es k i d (rising_from es sorted) short named

    pub set_map : (v : X) → from_sorted {R = nat_cmp} (set es i (k, v)) ≡ insert (from_sorted es) k v
    set_map v = ap (λ l. from_sorted {R = nat_cmp} l) (set_is_put es k i v d (rising_from es sorted) short named) ∙ put_is_insert k v

    pub sorted-set : (v : X) → is_sorted nat_cmp (set es i (k, v)) ≡ true
    sorted-set v = ap (is_sorted nat_cmp) (set_is_put es k i v d (rising_from es sorted) short named) ∙ sorted-put k v

    pub sorted-removed : is_sorted nat_cmp (list_remove es i) ≡ true
    sorted-removed = rising_to (list_remove es i) (rising_removed es i (rising_from es sorted))

    removed_get : (q : ℕ) → get (from_sorted {R = nat_cmp} (list_remove es i)) q ≡ find nat_cmp q (list_remove es i)
    removed_get q = get-from_sorted nat_cmp (list_remove es i) q (to_T (is_sorted nat_cmp (list_remove es i)) sorted-removed)

    pub remove_map : from_sorted {R = nat_cmp} (list_remove es i) ≡ remove (from_sorted es) k
    remove_map = same_map nat_cmp_total nat_cmp-IsAntisymmetric (from_sorted {R = nat_cmp} (list_remove es i)) (remove (from_sorted es) k) (λ q. removed_get q ∙ elim (cases_eq q k) [
      | inl same ↦
          ap (λ n. find nat_cmp n (list_remove es i)) same ∙ not_found k (list_remove es i) (removed_apart es k i d (rising_from es sorted) short named)
          ∙ sym (get-remove nat_cmp_total (from_sorted es) k q ∙ ap (λ n. cond (eq_by_cmp nat_cmp n k) None (get (from_sorted {R = nat_cmp} es) n)) same ∙ ap (λ b. cond b None (get (from_sorted {R = nat_cmp} es) k)) (ties k))
      | inr ne ↦
          find-removed es k i q d short named ne
          ∙ sym (get-remove nat_cmp_total (from_sorted es) k q ∙ ap (λ b. cond b None (get (from_sorted {R = nat_cmp} es) q)) (not_tied q k ne) ∙ get-map q)
    ])

  module _ (k : ℕ) (v : X) (last : (q : ℕ) (w : X) → get (from_sorted {R = nat_cmp} es) q ≡ Some w → q < k) where
    below : AllByRecursion (λ f. f.0 < k) es
    below = each_found (λ f. f.0 < k) es (rising_from es sorted) (λ q w at. last q w (get-map q ∙ at))

    pub push_map : from_sorted {R = nat_cmp} (es ++ (k, v) ∷ []) ≡ insert (from_sorted es) k v
    push_map = ap (λ l. from_sorted {R = nat_cmp} l) (push_is_put es k v below) ∙ put_is_insert k v

    pub sorted-push : is_sorted nat_cmp (es ++ (k, v) ∷ []) ≡ true
    sorted-push = ap (is_sorted nat_cmp) (push_is_put es k v below) ∙ sorted-put k v
