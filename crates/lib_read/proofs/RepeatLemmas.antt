-- A loop that looks for the first row with an earlier row's value.
use Rattle.std.proofs.Common.{◌≡◌, ℕ, ◌+◌, ◌-◌, ◌<◌, Bool, true, false, cond, not, List, [], ◌∷◌, ◌++◌, map, drop, take, length, get_or, Option, Some, None, refl, sym, ap, ◌∙◌, arith}
use Rattle.std.specs.Option.{option_map_or}
use Rattle.std.specs.List.{AllByRecursion, list_any, filter_map, flat_map, enumerate_from}
use Rattle.std.proofs.lemmas.List.{take_more, take-map, map-append}
use Rattle.std.proofs.lemmas.List.Elements.{filter_map-append}
use Rattle.toml.specs.Data.{Data}
use Rattle.toml.specs.View.{view}
use Rattle.toml.specs.declared.value.Value.{Value}
use Rattle.lib_read.specs.declared.fault.LibClass.TheVariants.{Duplicate}
use Rattle.lib_read.specs.declared.fault.TableName.{TableName}
use Rattle.lib_read.specs.declared.fault.LibFault.{LibFault}
use Rattle.lib_read.specs.Fault.{least}
use Rattle.lib_read.specs.Faults.{fault, is_repeat}
use Rattle.lib_read.proofs.LeastLemmas.{InRow, turn_past, turn_here}

-- the values of some rows, and of one more
pub values_more : {X : Type 0} (value : Data → Option X) (vs : List Value) (i : ℕ) (d : Value) → i < length vs
    → filter_map value (map view (take (i + 1) vs)) ≡ filter_map value (map view (take i vs)) ++ filter_map value (view (get_or vs i d) ∷ [])
values_more value vs i d here =
    ap (λ l. filter_map value (map view l)) (take_more vs i d here)
    ∙ ap (filter_map value) (map-append view (take i vs) (get_or vs i d ∷ []))
    ∙ filter_map-append value (map view (take i vs)) (view (get_or vs i d) ∷ [])

pub values_new : {X : Type 0} (value : Data → Option X) (vs : List Value) (i : ℕ) (d : Value) (seen after : List X) (x : X) → i < length vs
    → Some x ≡ value (view (get_or vs i d)) → seen ≡ filter_map value (map view (take i vs)) → after ≡ seen ++ x ∷ []
    → after ≡ filter_map value (map view (take (i + 1) vs))
values_new value vs i d seen after x here is so_far step =
    step ∙ ap (λ l. l ++ x ∷ []) so_far ∙ sym (values_more value vs i d here ∙ ap (λ l. filter_map value (map view (take i vs)) ++ l) (one is))
  where
    one : Some x ≡ value (view (get_or vs i d)) → filter_map value (view (get_or vs i d) ∷ []) ≡ x ∷ []
    one e = rw (← e)

pub values_old : {X : Type 0} (value : Data → Option X) (vs : List Value) (i : ℕ) (d : Value) (seen after : List X) → i < length vs
    → None ≡ value (view (get_or vs i d)) → seen ≡ filter_map value (map view (take i vs)) → after ≡ seen
    → after ≡ filter_map value (map view (take (i + 1) vs))
values_old {X = X} value vs i d seen after here is so_far step =
    step ∙ so_far ∙ sym (values_more value vs i d here ∙ ap (λ l. filter_map value (map view (take i vs)) ++ l) (none is) ∙ append_none _)
  where
    none : None ≡ value (view (get_or vs i d)) → filter_map value (view (get_or vs i d) ∷ []) ≡ []
    none e = rw (← e)

    append_none : (xs : List X) → xs ++ [] ≡ xs
    append_none [] = refl
    append_none (y ∷ ys) = ap (λ l. y ∷ l) (append_none ys)

module _ {X : Type 0} (same : X → X → Bool) (value : Data → Option X) (t : TableName) (key : List ℕ) (rs : List Data) where
  -- what a row adds to the faults
  abbrev pub repeats_at : ℕ × Data → List LibFault
  repeats_at p = cond (is_repeat same value (take (p.0 - 1) rs) p.1) (fault Duplicate t p.0 key ∷ []) []

  own : (p : ℕ × Data) → AllByRecursion (InRow Duplicate t p.0) (repeats_at p)
  own p = at_most_one (is_repeat same value (take (p.0 - 1) rs) p.1)
    where
      at_most_one : (b : Bool) → AllByRecursion (InRow Duplicate t p.0) (cond b (fault Duplicate t p.0 key ∷ []) [])
      at_most_one true = (record { class = refl; table = refl; position = refl }, tt)
      at_most_one false = tt

  earlier : (vs : List Value) (i : ℕ) → map view vs ≡ rs → take (i + 1 - 1) rs ≡ map view (take i vs)
  earlier vs i e = let n : i + 1 - 1 ≡ i = omega arith in ap (λ k. take k rs) n ∙ ap (take i) (sym e) ∙ take-map view i vs

  at_turn : (vs : List Value) (i : ℕ) (d : Value) (seen : List X) → map view vs ≡ rs → seen ≡ filter_map value (map view (take i vs))
      → repeats_at (i + 1, view (get_or vs i d)) ≡ cond (option_map_or (λ x. list_any (same x) seen) (value (view (get_or vs i d))) false) (fault Duplicate t (i + 1) key ∷ []) []
  at_turn vs i d seen e so_far =
      ap (λ l. cond (option_map_or (λ x. list_any (same x) l) (value (view (get_or vs i d))) false) (fault Duplicate t (i + 1) key ∷ []) [])
      (ap (filter_map value) (earlier vs i e) ∙ sym so_far)

  hit : (o : Option X) (seen : List X) (x : X) (f : LibFault) → Some x ≡ o → list_any (same x) seen ≡ true
      → Some f ≡ least (cond (option_map_or (λ y. list_any (same y) seen) o false) (f ∷ []) [])
  hit o seen x f is found = rw (← is, found)

  miss : (o : Option X) (seen : List X) (x : X) (f : LibFault) → Some x ≡ o → list_any (same x) seen ≡ false
      → None ≡ least (cond (option_map_or (λ y. list_any (same y) seen) o false) (f ∷ []) [])
  miss o seen x f is absent = rw (← is, absent)

  blank : (o : Option X) (seen : List X) (f : LibFault) → None ≡ o
      → None ≡ least (cond (option_map_or (λ y. list_any (same y) seen) o false) (f ∷ []) [])
  blank o seen f is = rw (← is)

  module _ (vs : List Value) (i : ℕ) (d : Value) (seen : List X) (all : Option LibFault) (whole : map view vs ≡ rs) (here : i < length vs)
      (so_far : seen ≡ filter_map value (map view (take i vs))) (before : least (flat_map repeats_at (enumerate_from (i + 1) (map view (drop i vs)))) ≡ all) where
    pub repeats_here : (x : X) → Some x ≡ value (view (get_or vs i d)) → list_any (same x) seen ≡ true → Some (fault Duplicate t (i + 1) key) ≡ all
    repeats_here x is found =
        turn_here Duplicate t repeats_at own view vs (i + 1) i d all (fault Duplicate t (i + 1) key) here (hit (value (view (get_or vs i d))) seen x (fault Duplicate t (i + 1) key) is found ∙ sym (ap least (at_turn vs i d seen whole so_far))) before

    pub repeats_new : (x : X) → Some x ≡ value (view (get_or vs i d)) → list_any (same x) seen ≡ false
        → least (flat_map repeats_at (enumerate_from (i + 1 + 1) (map view (drop (i + 1) vs)))) ≡ all
    repeats_new x is absent =
        turn_past Duplicate t repeats_at own view vs (i + 1) i d all here (miss (value (view (get_or vs i d))) seen x (fault Duplicate t (i + 1) key) is absent ∙ sym (ap least (at_turn vs i d seen whole so_far))) before

    pub repeats_none : None ≡ value (view (get_or vs i d)) → least (flat_map repeats_at (enumerate_from (i + 1 + 1) (map view (drop (i + 1) vs)))) ≡ all
    repeats_none is =
        turn_past Duplicate t repeats_at own view vs (i + 1) i d all here (blank (value (view (get_or vs i d))) seen (fault Duplicate t (i + 1) key) is ∙ sym (ap least (at_turn vs i d seen whole so_far))) before

-- what `add` says of an entry that it finds, and of one that is new
pub was_there : (a b : Bool) → b ≡ not a → b ≡ false → a ≡ true
was_there true b new old = refl
was_there false b new old = absurd (cc)

pub was_absent : (a b : Bool) → b ≡ not a → b ≡ true → a ≡ false
was_absent true b new old = absurd (cc)
was_absent false b new old = refl
