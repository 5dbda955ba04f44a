-- Finite maps by number: what is there after a change, and sums over the values.
use Rattle.std.proofs.Common.{◌≡◌, ℕ, suc, ◌+◌, Bool, true, false, cond, ◌&&◌, List, [], ◌∷◌, map, length, Some, None, refl, sym, ap, subst, ◌∙◌, arith, inl, inr}
use Rattle.std.specs.Prelude.{sum_by}
use Rattle.std.specs.declared.cmp.Ordering.{Ordering}
use Rattle.std.specs.declared.cmp.Ordering.TheVariants.{Less, Equal, Greater}
use Rattle.std.specs.Ordering.{nat_cmp, eq_by_cmp, is_eq}
use Rattle.std.specs.Cmp.{ranked}
use Rattle.std.proofs.lemmas.Bool.{cases_eq}
use Rattle.std.specs.Prelude.{T}
use Rattle.std.specs.Option.{option_map}
use Rattle.std.specs.List.{AllByRecursion}
use Rattle.std.specs.Ordering.{is_lt}
use Rattle.std.proofs.lemmas.Cmp.{nat_cmp_total, tied_itself}
use Rattle.std.proofs.lemmas.List.Sums.{sum_by-cons}
use Rattle.std.specs.FinMap.{FinMap, get, insert, remove, entries, entries_sorted, values, len, empty, from_sorted, get-empty, get-insert, get-remove, get-entries, get-from_sorted, entries-insert, entries-from_sorted, len-entries, len-empty, empty_of_len, same_map, nat_cmp-IsAntisymmetric}
use Rattle.std.specs.FinMap.Entries.{find, put, by_order, below_all, is_sorted}

-- a number ties with itself, and with no other
pub ties : (k : ℕ) → eq_by_cmp nat_cmp k k ≡ true
ties k = ap is_eq (tied_itself nat_cmp_total k)

tied_same : (q k : ℕ) (r : Ordering) → nat_cmp q k ≡ r → is_eq r ≡ true → q ≡ k
tied_same q k Less e t = absurd (let f : false ≡ true = t in cc)
tied_same q k Equal e t = ranked q k Equal (sym e)
tied_same q k Greater e t = absurd (let f : false ≡ true = t in cc)

apart : (b : Bool) (q k : ℕ) → eq_by_cmp nat_cmp q k ≡ b → (q ≡ k → ⊥) → eq_by_cmp nat_cmp q k ≡ false
apart true q k e ne = absurd (ne (tied_same q k (nat_cmp q k) refl e))
apart false q k e ne = e

pub not_tied : (q k : ℕ) → (q ≡ k → ⊥) → eq_by_cmp nat_cmp q k ≡ false
not_tied q k ne = apart (eq_by_cmp nat_cmp q k) q k refl ne

module _ {X : Type 0} (m : FinMap nat_cmp X) where
  pub get-insert_same : (k : ℕ) (v : X) → get (insert m k v) k ≡ Some v
  get-insert_same k v = get-insert nat_cmp_total m k v k ∙ ap (λ b. cond b (Some v) (get m k)) (ties k)

  pub get-insert_other : (k q : ℕ) (v : X) → (q ≡ k → ⊥) → get (insert m k v) q ≡ get m q
  get-insert_other k q v ne = get-insert nat_cmp_total m k v q ∙ ap (λ b. cond b (Some v) (get m q)) (not_tied q k ne)

  pub get-remove_same : (k : ℕ) → get (remove m k) k ≡ None
  get-remove_same k = get-remove nat_cmp_total m k k ∙ ap (λ b. cond b None (get m k)) (ties k)

  pub get-remove_other : (k q : ℕ) → (q ≡ k → ⊥) → get (remove m k) q ≡ get m q
  get-remove_other k q ne = get-remove nat_cmp_total m k q ∙ ap (λ b. cond b None (get m q)) (not_tied q k ne)

  -- a value that is there can be taken out and put back, and a new one takes its place
  pub put_back : (k : ℕ) (v : X) → get m k ≡ Some v → insert (remove m k) k v ≡ m
  put_back k v there = same_map nat_cmp_total nat_cmp-IsAntisymmetric (insert (remove m k) k v) m (λ q. elim (cases_eq q k) [
    | inl same ↦ ap (get (insert (remove m k) k v)) same ∙ (get_put k v ∙ sym there) ∙ ap (get m) (sym same)
    | inr ne ↦ get_kept k q v ne
  ]) where
    get_put : (k : ℕ) (v : X) → get (insert (remove m k) k v) k ≡ Some v
    get_put k v = get-insert nat_cmp_total (remove m k) k v k ∙ ap (λ b. cond b (Some v) (get (remove m k) k)) (ties k)

    get_kept : (k q : ℕ) (v : X) → (q ≡ k → ⊥) → get (insert (remove m k) k v) q ≡ get m q
    get_kept k q v ne = get-insert nat_cmp_total (remove m k) k v q ∙ ap (λ b. cond b (Some v) (get (remove m k) q)) (not_tied q k ne) ∙ get-remove_other k q ne

  pub take_place : (k : ℕ) (v : X) → insert m k v ≡ insert (remove m k) k v
  take_place k v = same_map nat_cmp_total nat_cmp-IsAntisymmetric (insert m k v) (insert (remove m k) k v) (λ q. elim (cases_eq q k) [
    | inl same ↦ ap (get (insert m k v)) same ∙ (get-insert_same k v ∙ sym (get-insert nat_cmp_total (remove m k) k v k ∙ ap (λ b. cond b (Some v) (get (remove m k) k)) (ties k))) ∙ ap (get (insert (remove m k) k v)) (sym same)
    | inr ne ↦ get-insert_other k q v ne ∙ sym (get-insert nat_cmp_total (remove m k) k v q ∙ ap (λ b. cond b (Some v) (get (remove m k) q)) (not_tied q k ne) ∙ get-remove_other k q ne)
  ])

-- sums over the values
module _ {X : Type 0} (f : X → ℕ) where
  abbrev total : List (ℕ × X) → ℕ
  total es = sum_by f (map (λ e. e.1) es)

swapped : (a b c : ℕ) → a + (b + c) ≡ b + (a + c)
swapped a b c = omega arith

no_value : {X : Type 0} (v : X) → Some v ≡ None → ⊥
no_value v e = cc

module _ {X : Type 0} (f : X → ℕ) where
  total-cons : (e : ℕ × X) (es : List (ℕ × X)) → total f (e ∷ es) ≡ f e.1 + total f es
  total-cons e es = sum_by-cons f e.1 (map (λ e. e.1) es)

  total-put : (k : ℕ) (v : X) (es : List (ℕ × X)) → find nat_cmp k es ≡ None → total f (put nat_cmp k v es) ≡ f v + total f es
  total-put k v [] none = total-cons (k, v) []
  total-put k v (e ∷ es) none =
      elim (nat_cmp k e.0) as (λ r. cond (is_eq r) (Some e.1) (find nat_cmp k es) ≡ None → total f (by_order r ((k, v) ∷ e ∷ es) ((e.0, v) ∷ es) (e ∷ put nat_cmp k v es)) ≡ f v + total f (e ∷ es)) [
        | Less ↦ λ n. total-cons (k, v) (e ∷ es)
        | Equal ↦ λ n. absurd (no_value e.1 n)
        | Greater ↦ λ n.
            total-cons e (put nat_cmp k v es) ∙ ap (λ t. f e.1 + t) (total-put k v es n) ∙ swapped (f e.1) (f v) (total f es) ∙ ap (λ t. f v + t) (sym (total-cons e es))
      ] none

  values_total : (m : FinMap nat_cmp X) → sum_by f (values m) ≡ total f (entries m)
  values_total m = refl

  pub total-insert_new : (m : FinMap nat_cmp X) (k : ℕ) (v : X) → get m k ≡ None → sum_by f (values (insert m k v)) ≡ f v + sum_by f (values m)
  total-insert_new m k v none =
      values_total (insert m k v) ∙ ap (total f) (entries-insert nat_cmp_total m k v) ∙ total-put k v (entries m) (sym (get-entries m k) ∙ none) ∙ ap (λ t. f v + t) (sym (values_total m))

  pub total-remove : (m : FinMap nat_cmp X) (k : ℕ) (v : X) → get m k ≡ Some v → f v + sum_by f (values (remove m k)) ≡ sum_by f (values m)
  total-remove m k v there = sym (total-insert_new (remove m k) k v (get-remove_same m k)) ∙ ap (λ n. sum_by f (values n)) (put_back m k v there)

  pub total-replace : (m : FinMap nat_cmp X) (k : ℕ) (v w : X) → get m k ≡ Some v → f v + sum_by f (values (insert m k w)) ≡ f w + sum_by f (values m)
  total-replace m k v w there =
      let left : ℕ = sum_by f (values (remove m k)) in
      let out : f v + left ≡ sum_by f (values m) = total-remove m k v there in
      let put : sum_by f (values (insert m k w)) ≡ f w + left = ap (λ n. sum_by f (values n)) (take_place m k w) ∙ total-insert_new (remove m k) k w (get-remove_same m k) in
      moved (f v) (f w) left (sum_by f (values (insert m k w))) (sum_by f (values m)) put out where
        moved : (a b l p q : ℕ) → p ≡ b + l → a + l ≡ q → a + p ≡ b + q
        moved a b l p q e d = omega arith

-- how many values there are
ones : {X : Type 0} (es : List (ℕ × X)) → length es ≡ sum_by (λ _. 1) (map (λ e. e.1) es)
ones [] = refl
ones (e ∷ es) = more (length es) (sum_by (λ _. 1) (map (λ e. e.1) es)) (ones es) ∙ sym (sum_by-cons (λ _. 1) e.1 (map (λ e. e.1) es)) where
  more : (a b : ℕ) → a ≡ b → suc a ≡ 1 + b
  more a b e = omega arith

pub len_total : {X : Type 0} (m : FinMap nat_cmp X) → len m ≡ sum_by (λ _. 1) (values m)
len_total m = len-entries m ∙ ones (entries m)

-- what holds of all values holds of the one at a number
found_in : {X : Type 0} (P : X → Type 0) (k : ℕ) (v : X) (es : List (ℕ × X)) → AllByRecursion P (map (λ e. e.1) es) → find nat_cmp k es ≡ Some v → P v
found_in P k v [] all e = absurd (no_value v (sym e))
found_in {X} P k v (e ∷ es) all is =
    elim (eq_by_cmp nat_cmp k e.0) as (λ b. cond b (Some e.1) (find nat_cmp k es) ≡ Some v → P v) [
      | true ↦ λ h. subst P (same_value e.1 v h) all.0
      | false ↦ λ h. found_in P k v es all.1 h
    ] is where
      same_value : (a b : X) → Some a ≡ Some b → a ≡ b
      same_value a b h = cc

pub value_at_number : {X : Type 0} (P : X → Type 0) (m : FinMap nat_cmp X) (k : ℕ) (v : X) → AllByRecursion P (values m) → get m k ≡ Some v → P v
value_at_number P m k v all there = found_in P k v (entries m) all (sym (get-entries m k) ∙ there)

-- where there is no value, none is at a number, and else there is a first
pub nothing_at : {X : Type 0} (m : FinMap nat_cmp X) (k : ℕ) → len m ≡ 0 → get m k ≡ None
nothing_at {X} m k none = ap (λ (n : FinMap nat_cmp X). get n k) (empty_of_len m none) ∙ get-empty nat_cmp k

pub record IsThere {X : Type 0} (m : FinMap nat_cmp X) : Type 0 where
  pub number : ℕ
  pub value : X
  pub there : get m number ≡ Some value

first_of : {X : Type 0} (m : FinMap nat_cmp X) (es : List (ℕ × X)) → entries m ≡ es → (length es ≡ 0 → ⊥) → IsThere m
first_of m [] e some = absurd (some refl)
first_of m (f ∷ es) e some = record { number = f.0; value = f.1; there = get-entries m f.0 ∙ ap (find nat_cmp f.0) e ∙ ap (λ b. cond b (Some f.1) (find nat_cmp f.0 es)) (ties f.0) }

pub something_there : {X : Type 0} (m : FinMap nat_cmp X) → (len m ≡ 0 → ⊥) → IsThere m
something_there m some = first_of m (entries m) refl (λ none. some (len-entries m ∙ none))

-- a map with each value changed
module _ {X Y : Type 0} (g : X → Y) where
  abbrev pub changed : List (ℕ × X) → List (ℕ × Y)
  changed es = map (λ e. (e.0, g e.1)) es

module _ {X Y : Type 0} (g : X → Y) where
  below-changed : (k : ℕ) (es : List (ℕ × X)) → below_all nat_cmp k (changed g es) ≡ below_all nat_cmp k es
  below-changed k [] = refl
  below-changed k (e ∷ es) = ap (λ b. is_lt (nat_cmp k e.0) && b) (below-changed k es)

  pub sorted-changed : (es : List (ℕ × X)) → is_sorted nat_cmp (changed g es) ≡ is_sorted nat_cmp es
  sorted-changed [] = refl
  sorted-changed (e ∷ es) = ap (λ b. b && is_sorted nat_cmp (changed g es)) (below-changed e.0 es) ∙ ap (λ b. below_all nat_cmp e.0 es && b) (sorted-changed es)

  find-changed : (q : ℕ) (es : List (ℕ × X)) → find nat_cmp q (changed g es) ≡ option_map g (find nat_cmp q es)
  find-changed q [] = refl
  find-changed q (e ∷ es) =
      elim (eq_by_cmp nat_cmp q e.0) as (λ b. cond b (Some (g e.1)) (find nat_cmp q (changed g es)) ≡ option_map g (cond b (Some e.1) (find nat_cmp q es))) [
        | true ↦ refl
        | false ↦ find-changed q es
      ]

  values-changed : (f : Y → ℕ) (es : List (ℕ × X)) → sum_by f (map (λ e. e.1) (changed g es)) ≡ sum_by (λ x. f (g x)) (map (λ e. e.1) es)
  values-changed f [] = refl
  values-changed f (e ∷ es) =
      sum_by-cons f (g e.1) (map (λ e. e.1) (changed g es)) ∙ ap (λ t. f (g e.1) + t) (values-changed f es) ∙ sym (sum_by-cons (λ x. f (g x)) e.1 (map (λ e. e.1) es))

  is_in_order : (m : FinMap nat_cmp X) → T (is_sorted nat_cmp (changed g (entries m)))
  is_in_order m = subst T (sym (sorted-changed (entries m))) (entries_sorted m)

  pub get-changed : (m : FinMap nat_cmp X) (q : ℕ) → get (from_sorted {R = nat_cmp} (changed g (entries m))) q ≡ option_map g (get m q)
  get-changed m q = get-from_sorted nat_cmp (changed g (entries m)) q (is_in_order m) ∙ find-changed q (entries m) ∙ ap (option_map g) (sym (get-entries m q))

  pub total-changed : (f : Y → ℕ) (m : FinMap nat_cmp X) → sum_by f (values (from_sorted {R = nat_cmp} (changed g (entries m)))) ≡ sum_by (λ x. f (g x)) (values m)
  total-changed f m = ap (λ es. sum_by f (map (λ (e : ℕ × Y). e.1) es)) (entries-from_sorted nat_cmp (changed g (entries m)) (is_in_order m)) ∙ values-changed f (entries m)

-- how many values there are after a change
pub len-insert_new : {X : Type 0} (m : FinMap nat_cmp X) (k : ℕ) (v : X) → get m k ≡ None → len (insert m k v) ≡ 1 + len m
len-insert_new m k v none = len_total (insert m k v) ∙ total-insert_new (λ _. 1) m k v none ∙ ap (λ n. 1 + n) (sym (len_total m))

pub len-take_out : {X : Type 0} (m : FinMap nat_cmp X) (k : ℕ) (v : X) → get m k ≡ Some v → 1 + len (remove m k) ≡ len m
len-take_out m k v there = ap (λ n. 1 + n) (len_total (remove m k)) ∙ total-remove (λ _. 1) m k v there ∙ sym (len_total m)

same_after : (a b : ℕ) → 1 + a ≡ 1 + b → a ≡ b
same_after a b e = omega arith

pub len-replace : {X : Type 0} (m : FinMap nat_cmp X) (k : ℕ) (v w : X) → get m k ≡ Some v → len (insert m k w) ≡ len m
len-replace m k v w there = same_after (len (insert m k w)) (len m) (ap (λ n. 1 + n) (len_total (insert m k w)) ∙ total-replace (λ _. 1) m k v w there ∙ ap (λ n. 1 + n) (sym (len_total m)))

pub len-changed : {X Y : Type 0} (g : X → Y) (m : FinMap nat_cmp X) → len (from_sorted {R = nat_cmp} (changed g (entries m))) ≡ len m
len-changed g m = len_total (from_sorted {R = nat_cmp} (changed g (entries m))) ∙ total-changed g (λ _. 1) m ∙ sym (len_total m)

-- the empty map
no_total : {X : Type 0} (f : X → ℕ) (es : List (ℕ × X)) → length es ≡ 0 → sum_by f (map (λ e. e.1) es) ≡ 0
no_total f [] e = refl
no_total f (x ∷ es) e = absurd (omega arith)

pub total-empty : {X : Type 0} (f : X → ℕ) → sum_by f (values (empty {X = X} {R = nat_cmp})) ≡ 0
total-empty {X} f = no_total f (entries (empty {X = X} {R = nat_cmp})) (sym (len-entries (empty {X = X} {R = nat_cmp})) ∙ len-empty nat_cmp X)
