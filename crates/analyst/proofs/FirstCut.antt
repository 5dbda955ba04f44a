-- The first cut that a list of requirements makes, as a loop over them meets it.
use Rattle.std.proofs.Common.{◌≡◌, ℕ, zero, suc, ◌+◌, ◌<◌, Bool, true, false, List, [], ◌∷◌, Option, Some, None, refl, sym, ap, ◌∙◌, arith, inl, inr}
use Rattle.std.specs.Prelude.{slice_get, is_some}
use Rattle.std.specs.List.{enumerate_from, filter_map, cons_option}
use Rattle.std.proofs.lemmas.Bool.{cases_lt}

-- none where no item makes one
pub none_all : {X Y : Type 0} (f : ℕ × X → Option Y) (b : ℕ) (xs : List X) → ((k : ℕ) (x : X) → slice_get xs k ≡ Some x → f (b + k, x) ≡ None) → slice_get (filter_map f (enumerate_from b xs)) 0 ≡ None
none_all f b [] each = refl
none_all {X} {Y} f b (x ∷ xs) each =
    let here : b ≡ b + 0 = omega arith in
    ap (λ (o : Option Y). slice_get (cons_option o (filter_map f (enumerate_from (b + 1) xs))) 0) (ap (λ (n : ℕ). f (n, x)) here ∙ each 0 x refl)
    ∙ none_all f (b + 1) xs (λ k y at. let further : (b + 1) + k ≡ b + suc k = omega arith in ap (λ (n : ℕ). f (n, y)) further ∙ each (suc k) y at)

-- the first that makes one
pub first_is : {X Y : Type 0} (f : ℕ × X → Option Y) (b : ℕ) (xs : List X) (i : ℕ) (x : X) (c : Y) → slice_get xs i ≡ Some x → ((k : ℕ) (y : X) → k < i → slice_get xs k ≡ Some y → f (b + k, y) ≡ None)
    → f (b + i, x) ≡ Some c → slice_get (filter_map f (enumerate_from b xs)) 0 ≡ Some c
first_is f b [] i x c at before e = absurd (let d : None ≡ Some x = at in cc)
first_is {X} {Y} f b (z ∷ xs) zero x c at before e =
    let here : b ≡ b + 0 = omega arith in
    let same : z ≡ x = cc in
    ap (λ (o : Option Y). slice_get (cons_option o (filter_map f (enumerate_from (b + 1) xs))) 0) (ap (λ (n : ℕ). f (n, z)) here ∙ ap (λ (w : X). f (b + 0, w)) same ∙ e)
first_is {X} {Y} f b (z ∷ xs) (suc i) x c at before e =
    let here : b ≡ b + 0 = omega arith in
    let further : (b + 1) + i ≡ b + suc i = omega arith in
    ap (λ (o : Option Y). slice_get (cons_option o (filter_map f (enumerate_from (b + 1) xs))) 0) (ap (λ (n : ℕ). f (n, z)) here ∙ before 0 z (omega arith) refl)
    ∙ first_is f (b + 1) xs i x c at
    (λ k y low at'. let on : (b + 1) + k ≡ b + suc k = omega arith in ap (λ (n : ℕ). f (n, y)) on ∙ before (suc k) y (omega (arith, low)) at')
    (ap (λ (n : ℕ). f (n, x)) further ∙ e)

-- what the loop returns
pub returned : {X Y : Type 0} (f : ℕ × X → Option Y) (xs : List X) (i : ℕ) (x : X) (o : Option Y) → slice_get xs i ≡ Some x → ((k : ℕ) (y : X) → k < i → slice_get xs k ≡ Some y → f (k, y) ≡ None)
    → is_some o ≡ true → o ≡ f (i, x) → o ≡ slice_get (filter_map f (enumerate_from 0 xs)) 0
returned f xs i x None at before some e = absurd (let d : false ≡ true = some in cc)
returned {X} {Y} f xs i x (Some c) at before some e =
    let same : (n : ℕ) → 0 + n ≡ n = λ n. omega arith in
    sym (first_is f 0 xs i x c at (λ k y low at'. ap (λ (n : ℕ). f (n, y)) (same k) ∙ before k y low at') (ap (λ (n : ℕ). f (n, x)) (same i) ∙ sym e))

pub returned_none : {X Y : Type 0} (f : ℕ × X → Option Y) (xs : List X) → ((k : ℕ) (x : X) → slice_get xs k ≡ Some x → f (k, x) ≡ None) → None ≡ slice_get (filter_map f (enumerate_from 0 xs)) 0
returned_none f xs each = let same : (n : ℕ) → 0 + n ≡ n = λ n. omega arith in sym (none_all f 0 xs (λ k x at. ap (λ (n : ℕ). f (n, x)) (same k) ∙ each k x at))

-- one more requirement that makes none
not_some : {Y : Type 0} (o : Option Y) → is_some o ≡ false → o ≡ None
not_some None h = refl
not_some (Some y) h = absurd (let e : true ≡ false = h in cc)

pub none_more : {X Y : Type 0} (f : ℕ × X → Option Y) (xs : List X) (i : ℕ) (x : X) (o : Option Y) → slice_get xs i ≡ Some x → ((k : ℕ) (y : X) → k < i → slice_get xs k ≡ Some y → f (k, y) ≡ None)
    → is_some o ≡ false → o ≡ f (i, x) → (k : ℕ) (y : X) → k < i + 1 → slice_get xs k ≡ Some y → f (k, y) ≡ None
none_more {X} {Y} f xs i x o at before none e k y low at' = elim (cases_lt k i) [
  | inl earlier ↦ before k y earlier at'
  | inr not_earlier ↦
      let here : i ≡ k = omega arith in
      let same : x ≡ y = (let d : Some x ≡ Some y = sym at ∙ ap (slice_get xs) here ∙ at' in cc) in
      ap (λ (n : ℕ). f (n, y)) (sym here) ∙ ap (λ (w : X). f (i, w)) (sym same) ∙ sym e ∙ not_some o none
]

-- ---- the first cut among the items below i

pub record IsFirst {X Y : Type 0} (f : ℕ × X → Option Y) (xs : List X) (i : ℕ) (o : Option Y) : Type 0 where
  pub none : is_some o ≡ false → (k : ℕ) (x : X) → k < i → slice_get xs k ≡ Some x → f (k, x) ≡ None
  pub some : is_some o ≡ true → o ≡ slice_get (filter_map f (enumerate_from 0 xs)) 0

pub first_none : {X Y : Type 0} (f : ℕ × X → Option Y) (xs : List X) → IsFirst f xs 0 None
first_none f xs = record { none = λ e k x low at. absurd (omega (arith, low)); some = λ e. absurd (let d : false ≡ true = e in cc) }

-- one more item, looked at where none before it makes one
pub first_step : {X Y : Type 0} (f : ℕ × X → Option Y) (xs : List X) (i : ℕ) (x : X) (before o : Option Y) → slice_get xs i ≡ Some x → IsFirst f xs i before → is_some before ≡ false → o ≡ f (i, x) → IsFirst f xs (i + 1) o
first_step f xs i x before o at so_far none e = record {
  none = λ no_o. none_more f xs i x o at (so_far.none none) no_o e;
  some = λ yes_o. returned f xs i x o at (so_far.none none) yes_o e;
}

-- and passed over where one does
pub first_kept : {X Y : Type 0} (f : ℕ × X → Option Y) (xs : List X) (i : ℕ) (o : Option Y) → IsFirst f xs i o → is_some o ≡ true → IsFirst f xs (i + 1) o
first_kept f xs i o so_far yes_o = record { none = λ no_o. absurd (let d : true ≡ false = sym yes_o ∙ no_o in cc); some = so_far.some }

-- at the end it is the first of all
pub first_done : {X Y : Type 0} (f : ℕ × X → Option Y) (xs : List X) (n : ℕ) (o : Option Y) → IsFirst f xs n o → ((k : ℕ) (x : X) → slice_get xs k ≡ Some x → k < n) → o ≡ slice_get (filter_map f (enumerate_from 0 xs)) 0
first_done {X} {Y} f xs n o first all = by (is_some o) refl where
  by : (b : Bool) → is_some o ≡ b → o ≡ slice_get (filter_map f (enumerate_from 0 xs)) 0
  by true e = first.some e
  by false e = not_some o e ∙ returned_none f xs (λ k x at. first.none e k x (all k x at) at)
