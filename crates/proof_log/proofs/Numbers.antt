-- Numbers in range, and the runs of digits that they are written vs.
use Rattle.std.proofs.Common.{◌≡◌, ℕ, suc, ◌^◌, ◌≤◌, ◌<◌, List, [], ◌∷◌, ◌++◌, length, map, codes, Option, Some, None, option_map, refl, sym, ap, subst, ◌∙◌, arith}
use Rattle.std.specs.List.{flat_map, AllByRecursion}
use Rattle.std.specs.Fmt.{decimal}
use Rattle.std.specs.Str.Parse.{IsNumeral}
use Rattle.proof_log.specs.Field.{RowName, base_row, cut_row, cost_row, AMOUNTS, TIMES, row_text, pair_text, list_text, optional_text, field_text, RowNumber, OptionalNumber, EachNumber, HasPairs}
use Rattle.proof_log.specs.Inner.Reading.{both, in_front, number_of, Kind, a_number, an_optional, a_trace, a_reason, a_list, Got, set_read}
use Rattle.proof_log.proofs.Runs.{number_of_is, number_of-decimal, decimal_numeral}
use Rattle.proof_log.proofs.ReadLaws.{as_it_is, IsRun, row_of, IsPair, pair_of, optional_of}
use Rattle.proof_log.proofs.Lists.{all_of}
use Rattle.proof_log.proofs.KindLaws.{Value, field_of, IsGood, got, text_at}

-- a number in a range
abbrev pub IsFrom : ℕ → ℕ → ℕ → Type 0
IsFrom low limit n = (low ≤ n) × (n < limit)

-- what is written, and what it is read vs: a value in range, with the same text
pub record Fits {W A : Type 0} (text : W → List ℕ) (Good : W → Type 0) (value : W → Option A) (printed : A → List ℕ) (InRange : A → Type 0) : Type 0 where
  pub sound : (w : W) (a : A) → Good w → value w ≡ Some a → InRange a × (printed a ≡ text w)
  pub whole : (a : A) → InRange a → (w : W) × Good w × (text w ≡ printed a) × (value w ≡ Some a)

pub number_fits : (low limit : ℕ) → limit ≤ 2 ^ 64 → Fits as_it_is (IsNumeral 10) (number_of low limit) decimal (IsFrom low limit)
number_fits low limit le = record {
  sound = λ w a g e. let t = number_of_is low limit w a le g e in ((t.0, t.1), t.2);
  whole = λ a r. (decimal a, decimal_numeral a (omega (arith, r.1)), refl, number_of-decimal low limit a le r.0 r.1);
}

map_some : {A B : Type 0} (f : A → B) (o : Option A) (b : B) → option_map f o ≡ Some b → (a : A) × (o ≡ Some a) × (f a ≡ b)
map_some f None b e = absurd cc
map_some f (Some a) b e = (a, refl, cc)

both_some : {A B : Type 0} (o : Option A) (p : Option B) (x : A × B) → both o p ≡ Some x → (o ≡ Some x.0) × (p ≡ Some x.1)
both_some None p x e = absurd cc
both_some (Some a) None x e = absurd cc
both_some {A} {B} (Some a) (Some b) x e = let s : (a, b) ≡ x = cc in (ap (λ (y : A × B). Some y.0) s, ap (λ (y : A × B). Some y.1) s)

row_sound : (w : RowName (List ℕ)) (a : RowName ℕ) → RowNumber IsRun w → row_of w ≡ Some a → RowNumber IsFrom a × (row_text decimal a ≡ row_text as_it_is w)
row_sound (base_row ds) a g e =
    let m = map_some base_row (number_of 0 (2 ^ 32) ds) a e in
    let t = (number_fits 0 (2 ^ 32) (omega arith)).sound ds m.0 g m.1 in
    let P : RowName ℕ → Type 0 = λ r. RowNumber IsFrom r × (row_text decimal r ≡ row_text as_it_is (base_row ds)) in subst P m.2 (t.0, ap (λ (l : List ℕ). codes "b" ++ l) t.1)
row_sound (cut_row ds) a g e =
    let m = map_some cut_row (number_of 0 (2 ^ 32) ds) a e in
    let t = (number_fits 0 (2 ^ 32) (omega arith)).sound ds m.0 g m.1 in
    let P : RowName ℕ → Type 0 = λ r. RowNumber IsFrom r × (row_text decimal r ≡ row_text as_it_is (cut_row ds)) in subst P m.2 (t.0, ap (λ (l : List ℕ). codes "c" ++ l) t.1)
row_sound cost_row a g e = let s : cost_row ≡ a = cc in let P : RowName ℕ → Type 0 = λ r. RowNumber IsFrom r × (row_text decimal r ≡ row_text as_it_is cost_row) in subst P s (tt, refl)

row_whole : (a : RowName ℕ) → RowNumber IsFrom a → (w : RowName (List ℕ)) × RowNumber IsRun w × (row_text as_it_is w ≡ row_text decimal a) × (row_of w ≡ Some a)
row_whole (base_row n) r = let t = (number_fits 0 (2 ^ 32) (omega arith)).whole n r in (base_row t.0, t.1, ap (λ (l : List ℕ). codes "b" ++ l) t.2, rw t.3 refl)
row_whole (cut_row n) r = let t = (number_fits 0 (2 ^ 32) (omega arith)).whole n r in (cut_row t.0, t.1, ap (λ (l : List ℕ). codes "c" ++ l) t.2, rw t.3 refl)
row_whole cost_row r = (cost_row, tt, refl, refl)

pub row_fits : Fits (row_text as_it_is) (RowNumber IsRun) row_of (row_text decimal) (RowNumber IsFrom)
row_fits = record { sound = row_sound; whole = row_whole }

-- a pair whose numbers are in range
abbrev pub PairInRange : RowName ℕ × ℕ → Type 0
PairInRange p = RowNumber IsFrom p.0 × IsFrom 1 TIMES p.1

pair_sound : (w : RowName (List ℕ) × List ℕ) (a : RowName ℕ × ℕ) → IsPair w → pair_of w ≡ Some a → PairInRange a × (pair_text decimal a ≡ pair_text as_it_is w)
pair_sound w a g e =
    let b = both_some (row_of w.0) (number_of 1 TIMES w.1) a e in
    let r = row_sound w.0 a.0 g.0 b.0 in
    let t = (number_fits 1 TIMES (omega arith)).sound w.1 a.1 g.1 b.1 in
    ((r.0, t.0), λ i. r.1 i ++ (codes "*" ++ t.1 i))

pair_whole : (a : RowName ℕ × ℕ) → PairInRange a → (w : RowName (List ℕ) × List ℕ) × IsPair w × (pair_text as_it_is w ≡ pair_text decimal a) × (pair_of w ≡ Some a)
pair_whole a r =
    let o = row_whole a.0 r.0 in
    let t = (number_fits 1 TIMES (omega arith)).whole a.1 r.1 in
    ((o.0, t.0), (o.1, t.1), (λ i. o.2 i ++ (codes "*" ++ t.2 i)), rw (o.3, t.3) refl)

pub pair_fits : Fits (pair_text as_it_is) IsPair pair_of (pair_text decimal) PairInRange
pair_fits = record { sound = pair_sound; whole = pair_whole }

-- ---- lists

in_front_some : {A : Type 0} (o : Option A) (p : Option (List A)) (xs : List A) → in_front o p ≡ Some xs → (a : A) × (vs : List A) × (o ≡ Some a) × (p ≡ Some vs) × (a ∷ vs ≡ xs)
in_front_some None p xs e = absurd cc
in_front_some (Some a) None xs e = absurd cc
in_front_some (Some a) (Some vs) xs e = (a, vs, refl, refl, cc)

-- items that are read vs values in range, with the same text
abbrev pub SameItems : {W A : Type 0} → (W → List ℕ) → (A → List ℕ) → (A → Type 0) → List W → List A → Type 0
SameItems text printed InRange ws vs = AllByRecursion InRange vs × (length vs ≡ length ws) × (map printed vs ≡ map text ws)

flat_map-texts : {A : Type 0} (text : A → List ℕ) (xs : List A) → flat_map (λ y. codes "," ++ text y) xs ≡ flat_map (λ t. codes "," ++ t) (map text xs)
flat_map-texts text [] = refl
flat_map-texts text (x ∷ xs) = ap (λ (l : List ℕ). (codes "," ++ text x) ++ l) (flat_map-texts text xs)

texts_are : {A : Type 0} (text : A → List ℕ) (xs : List A) → list_text text xs ≡ list_text (λ (t : List ℕ). t) (map text xs)
texts_are text [] = refl
texts_are text (x ∷ xs) = ap (λ (l : List ℕ). text x ++ l) (flat_map-texts text xs)

pub same_list_text : {W A : Type 0} (text : W → List ℕ) (printed : A → List ℕ) (ws : List W) (vs : List A) → map printed vs ≡ map text ws → list_text printed vs ≡ list_text text ws
same_list_text text printed ws vs e = texts_are printed vs ∙ ap (λ (l : List (List ℕ)). list_text (λ (t : List ℕ). t) l) e ∙ sym (texts_are text ws)

pub items_sound : {W A : Type 0} (text : W → List ℕ) (Good : W → Type 0) (value : W → Option A) (printed : A → List ℕ) (InRange : A → Type 0) → Fits text Good value printed InRange → (ws : List W) (vs : List A)
    → AllByRecursion Good ws → all_of (map value ws) ≡ Some vs → SameItems text printed InRange ws vs
items_sound {A = A} text Good value printed InRange fits [] vs g e = let s : [] ≡ vs = cc in let P : List A → Type 0 = SameItems text printed InRange [] in subst P s (tt, refl, refl)
items_sound {A = A} text Good value printed InRange fits (w ∷ ws) vs g e =
    let t = in_front_some (value w) (all_of (map value ws)) vs e in
    let one = fits.sound w t.0 g.0 t.2 in
    let rest = items_sound text Good value printed InRange fits ws t.1 g.1 t.3 in
    let P : List A → Type 0 = SameItems text printed InRange (w ∷ ws) in
    subst P t.4 ((one.0, rest.0), ap suc rest.1, λ i. one.1 i ∷ rest.2 i)

pub items_whole : {W A : Type 0} (text : W → List ℕ) (Good : W → Type 0) (value : W → Option A) (printed : A → List ℕ) (InRange : A → Type 0) → Fits text Good value printed InRange → (vs : List A) → AllByRecursion InRange vs
    → (ws : List W) × AllByRecursion Good ws × (length ws ≡ length vs) × (map text ws ≡ map printed vs) × (all_of (map value ws) ≡ Some vs)
items_whole text Good value printed InRange fits [] r = ([], tt, refl, refl, refl)
items_whole text Good value printed InRange fits (a ∷ vs) r =
    let one = fits.whole a r.0 in
    let rest = items_whole text Good value printed InRange fits vs r.1 in
    (one.0 ∷ rest.0, (one.1, rest.1), ap suc rest.2, (λ i. one.2 i ∷ rest.3 i), rw (one.3, rest.4) refl)

-- ---- kinds

-- a kind's numbers have 64 bits
abbrev pub IsSized : Kind → Type 0
IsSized (a_number limit) = limit ≤ 2 ^ 64
IsSized an_optional = Unit {0}
IsSized a_trace = Unit {0}
IsSized a_reason = Unit {0}
IsSized (a_list limit) = limit ≤ 2 ^ 64

-- what a value is read vs
abbrev pub from : (k : Kind) → Value ℕ k → Got k
from (a_number limit) n = n
from an_optional o = o
from a_trace rows = rows
from a_reason pairs = pairs
from (a_list limit) ns = set_read ns

-- a field whose numbers are in range
abbrev pub InRangeAt : (k : Kind) → Value ℕ k → Type 0
InRangeAt k v = EachNumber IsFrom (field_of k v) × HasPairs (field_of k v)

-- a value that is in range, has the text and is read so
abbrev pub Sound : (k : Kind) → Value (List ℕ) k → Got k → Type 0
Sound k w g = (v : Value ℕ k) × InRangeAt k v × (from k v ≡ g) × (field_text decimal (field_of k v) ≡ text_at k w)

optional_sound : (w : Option (List ℕ)) (g : Option ℕ) → OptionalNumber IsRun w → optional_of w ≡ Some g → OptionalNumber IsFrom g × (optional_text decimal g ≡ optional_text as_it_is w)
optional_sound None g good e = let s : None ≡ g = cc in let P : Option ℕ → Type 0 = λ o. OptionalNumber IsFrom o × (optional_text decimal o ≡ codes "none") in subst P s (tt, refl)
optional_sound (Some ds) g good e =
    let m = map_some (λ n. Some n) (number_of 0 AMOUNTS ds) g e in
    let t = (number_fits 0 AMOUNTS (omega arith)).sound ds m.0 good m.1 in
    let P : Option ℕ → Type 0 = λ o. OptionalNumber IsFrom o × (optional_text decimal o ≡ ds) in subst P m.2 (t.0, t.1)

pub kind_sound : (k : Kind) (w : Value (List ℕ) k) (g : Got k) → IsSized k → IsGood k w → got k w ≡ Some g → Sound k w g
kind_sound (a_number limit) w g le good e = let t = (number_fits 0 limit le).sound w g good.0 e in (g, (t.0, tt), refl, t.1)
kind_sound an_optional w g le good e = let t = optional_sound w g good.0 e in (g, (t.0, tt), refl, t.1)
kind_sound a_trace w g le good e =
    let t = items_sound (row_text as_it_is) (RowNumber IsRun) row_of (row_text decimal) (RowNumber IsFrom) row_fits w g good.0 e in
    (g, (t.0, tt), refl, same_list_text (row_text as_it_is) (row_text decimal) w g t.2)
kind_sound a_reason w g le good e =
    let t = items_sound (pair_text as_it_is) IsPair pair_of (pair_text decimal) PairInRange pair_fits w g good.0 e in
    (g, (t.0, (omega (arith, good.1.0, t.1), omega (arith, good.1.1, t.1))), refl, same_list_text (pair_text as_it_is) (pair_text decimal) w g t.2)
kind_sound (a_list limit) w g le good e =
    let m = map_some set_read (all_of (map (number_of 0 limit) w)) g e in
    let t = items_sound as_it_is (IsNumeral 10) (number_of 0 limit) decimal (IsFrom 0 limit) (number_fits 0 limit le) w m.0 good.0 m.1 in
    (m.0, (t.0, tt), m.2, same_list_text as_it_is decimal w m.0 t.2)

-- what is written for a value in range, and it is read vs that value
abbrev pub Whole : (k : Kind) → Value ℕ k → Type 0
Whole k v = (w : Value (List ℕ) k) × IsGood k w × (text_at k w ≡ field_text decimal (field_of k v)) × (got k w ≡ Some (from k v))

optional_whole : (v : Option ℕ) → OptionalNumber IsFrom v → (w : Option (List ℕ)) × OptionalNumber IsRun w × (optional_text as_it_is w ≡ optional_text decimal v) × (optional_of w ≡ Some v)
optional_whole None r = (None, tt, refl, refl)
optional_whole (Some n) r = let t = (number_fits 0 AMOUNTS (omega arith)).whole n r in (Some t.0, t.1, t.2, rw t.3 refl)

pub kind_whole : (k : Kind) (v : Value ℕ k) → IsSized k → InRangeAt k v → Whole k v
kind_whole (a_number limit) v le r = let t = (number_fits 0 limit le).whole v r.0 in (t.0, (t.1, tt), t.2, t.3)
kind_whole an_optional v le r = let t = optional_whole v r.0 in (t.0, (t.1, tt), t.2, t.3)
kind_whole a_trace v le r =
    let t = items_whole (row_text as_it_is) (RowNumber IsRun) row_of (row_text decimal) (RowNumber IsFrom) row_fits v r.0 in
    (t.0, (t.1, tt), same_list_text (row_text decimal) (row_text as_it_is) v t.0 t.3, t.4)
kind_whole a_reason v le r =
    let t = items_whole (pair_text as_it_is) IsPair pair_of (pair_text decimal) PairInRange pair_fits v r.0 in
    (t.0, (t.1, (omega (arith, r.1.0, t.2), omega (arith, r.1.1, t.2))), same_list_text (pair_text decimal) (pair_text as_it_is) v t.0 t.3, t.4)
kind_whole (a_list limit) v le r =
    let t = items_whole as_it_is (IsNumeral 10) (number_of 0 limit) decimal (IsFrom 0 limit) (number_fits 0 limit le) v r.0 in
    (t.0, (t.1, tt), same_list_text decimal as_it_is v t.0 t.3, rw t.4 refl)
