-- Options and lists: what a value that is there comes from.
use Rattle.std.specs.Prelude.{IsOk}
use Rattle.std.proofs.Common.{◌≡◌, Result, Ok, Err, ℕ, ◌<◌, List, take, length, slice_get, Option, Some, None, IfSome, option_map, refl, sym, subst, ◌∙◌, arith}
use Rattle.std.specs.List.{All}
use Rattle.std.specs.Option.{option_and_then}
use Rattle.std.proofs.lemmas.List.{length-take, get_or-take}
use Rattle.std.proofs.lemmas.Option.{slice_get_within, get_or_from_slice_get}

pub none_is_some : {X : Type 0} {P : Type 0} (x : X) → None ≡ Some x → P
none_is_some x e = absurd (no x e) where
  no : {X : Type 0} (x : X) → None ≡ Some x → ⊥
  no x e = cc

pub same_some : {X : Type 0} {x y : X} → Some x ≡ Some y → x ≡ y
same_some e = cc

-- what a function of a value that is there was given
pub mapped_from : {X Y : Type 0} (P : Type 0) (f : X → Y) (o : Option X) (y : Y) → option_map f o ≡ Some y → ((x : X) → o ≡ Some x → y ≡ f x → P) → P
mapped_from P f None y e k = none_is_some y e
mapped_from P f (Some x) y e k = k x refl (sym (same_some e))

pub chained_from : {X Y : Type 0} (P : Type 0) (f : X → Option Y) (o : Option X) (y : Y) → option_and_then f o ≡ Some y → ((x : X) → o ≡ Some x → f x ≡ Some y → P) → P
chained_from P f None y e k = none_is_some y e
chained_from P f (Some x) y e k = k x refl e

pub from_if_some : {X : Type 0} (P : X → Type 0) (o : Option X) (x : X) → IfSome o P → o ≡ Some x → P x
from_if_some P None x h e = none_is_some x e
from_if_some P (Some y) x h e = subst P (same_some e) h

-- an item of a list, and of its first items
pub all_at : {X : Type 0} (P : X → Type 0) (xs : List X) (i : ℕ) (x : X) → All P xs → slice_get xs i ≡ Some x → P x
all_at P xs i x all at = subst P (get_or_from_slice_get xs i x x at) (all i x (slice_get_within xs i x at))

pub all_in_front : {X : Type 0} (P : X → Type 0) (xs : List X) (n i : ℕ) (x : X) → All P xs → slice_get (take n xs) i ≡ Some x → P x
all_in_front P xs n i x all at =
    let inside : i < length (take n xs) = slice_get_within (take n xs) i x at in
    let short : i < n = omega (arith, length-take n xs, inside) in
    let there : i < length xs = omega (arith, length-take n xs, inside) in
    subst P (sym (get_or-take n xs i x short) ∙ get_or_from_slice_get (take n xs) i x x at) (all i x there)

-- results
pub same_ok : {X E : Type 0} {x y : X} → ◌≡◌ {A = Result X E} (Ok x) (Ok y) → x ≡ y
same_ok e = cc

pub is_ok_by : {X E : Type 0} (r : Result X E) (x : X) → r ≡ Ok x → IsOk r
is_ok_by (Ok y) x e = refl
is_ok_by (Err f) x e = absurd (no f x e) where
  no : {X E : Type 0} (f : E) (x : X) → ◌≡◌ {A = Result X E} (Err f) (Ok x) → ⊥
  no f x e = cc

pub err_is_ok : {X E P : Type 0} (f : E) (x : X) → ◌≡◌ {A = Result X E} (Err f) (Ok x) → P
err_is_ok f x e = absurd (no f x e) where
  no : {X E : Type 0} (f : E) (x : X) → ◌≡◌ {A = Result X E} (Err f) (Ok x) → ⊥
  no f x e = cc
