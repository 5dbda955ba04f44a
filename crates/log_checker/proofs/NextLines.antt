-- The first line feed of a text, and the front that is kept of a line.
use Rattle.std.proofs.Common.{◌≡◌, ℕ, suc, ◌+◌, ◌-◌, ◌≤◌, ◌<◌, min, Bool, true, false, eqb, ltb, List, [], ◌∷◌, ◌++◌, length, take, drop, get_or, position, cond, Some, None, refl, sym, ap, ◌∙◌, add-one, ⊎_elim, arith}
use Rattle.std.specs.List.{position_or_len}
use Rattle.std.proofs.lemmas.Bool.{eqb-true, eqb-false, ltb-false, cases_lt}
use Rattle.std.proofs.lemmas.List.{length-take, length-drop, take_all, take-append-le, take-append-drop, append-nil, get_or-take}
use Rattle.std.proofs.lemmas.List.Elements.{All-nil, All-from_get_or}
use Rattle.std.proofs.lemmas.List.Quantifiers.{position-Some}
use Rattle.std.proofs.lemmas.List.Sums.{fails_before_first}
use Rattle.std.proofs.Math.Seq.{take-append-add, drop-cons}
use Rattle.log_checker.specs.Text.{LINE_FEED, HasNoLineFeed}

-- ---- fronts

-- a front of one element more than so many is the whole list where it has no more than so many
pub whole_front : (n : ℕ) (xs : List ℕ) → length (take (n + 1) xs) ≤ n → take (n + 1) xs ≡ xs
whole_front n xs h = take_all (n + 1) xs (omega (arith, h, length-take (n + 1) xs))

-- what stands behind a place, as the code takes it
pub rest_is : (n : ℕ) (xs : List ℕ) → take (length xs - n) (drop n xs) ≡ drop n xs
rest_is n xs = take_all (length xs - n) (drop n xs) (omega (arith, length-drop n xs))

-- the front of a list that goes on
pub front_more : (n : ℕ) (xs ys : List ℕ) → take n (xs ++ ys) ≡ take n xs ++ take (n - length (take n xs)) ys
front_more n xs ys =
    let long : length (take n xs) ≡ min n (length xs) = length-take n xs in
    ⊎_elim
    (λ (h : n < length xs).
    let none : n - length (take n xs) ≡ 0 = omega (arith, long, h) in
    take-append-le n xs ys (omega (arith, h)) ∙ sym (append-nil (take n xs)) ∙ ap (λ k. take n xs ++ take k ys) (sym none))
    (λ (h : length xs ≤ n).
    let rest : n - length (take n xs) ≡ n - length xs = omega (arith, long, h) in
    let parts : n ≡ length xs + (n - length xs) = omega (arith, h) in
    ap (λ k. take k (xs ++ ys)) parts
    ∙ take-append-add xs ys (n - length xs)
    ∙ ap (λ (l : List ℕ). l ++ take (n - length xs) ys) (sym (take_all n xs h))
    ∙ ap (λ k. take n xs ++ take k ys) (sym rest))
    (cases_lt n (length xs))

-- ---- line feeds

abbrev IsOther : ℕ → Type 0
IsOther b = b ≡ LINE_FEED → ⊥

pub no_feeds : HasNoLineFeed []
no_feeds = All-nil IsOther

-- a list has no line feed up to this place, where its first one stands
pub record IsFirstFeed (bytes : List ℕ) (i : ℕ) : Type 0 where
  pub within : i < length bytes
  pub free : HasNoLineFeed (take i bytes)
  pub parts : bytes ≡ take i bytes ++ (LINE_FEED ∷ drop (i + 1) bytes)

other : (b : ℕ) → eqb b LINE_FEED ≡ false → IsOther b
other b h = eqb-false b LINE_FEED h

pub feed_found : (bytes : List ℕ) (i : ℕ) → position (λ b. eqb b LINE_FEED) bytes ≡ Some i → IsFirstFeed bytes i
feed_found bytes i found =
    let at = position-Some (λ b. eqb b LINE_FEED) bytes i 0 found in
    let feed : get_or bytes i 0 ≡ LINE_FEED = eqb-true (get_or bytes i 0) LINE_FEED at.1 in
    let long : length (take i bytes) ≡ min i (length bytes) = length-take i bytes in
    record {
      within = at.0;
      free = All-from_get_or IsOther (take i bytes) 0 (λ k h.
          let below : k < i = omega (arith, long, h) in
          let same : get_or (take i bytes) k 0 ≡ get_or bytes k 0 = get_or-take i bytes k 0 below in
          λ e. other (get_or bytes k 0) (at.2 k below) (sym same ∙ e));
      parts = sym (take-append-drop i bytes) ∙ ap (λ (l : List ℕ). take i bytes ++ l) (drop-cons bytes i 0 at.0 ∙ (λ j. feed j ∷ drop (suc i) bytes) ∙ ap (λ k. LINE_FEED ∷ drop k bytes) (sym (add-one i)));
    }

nothing_found : (n long : ℕ) (b : Bool) → ltb n long ≡ b → cond (ltb n long) (Some n) None ≡ None → long ≤ n
nothing_found n long true e missing = absurd (let found : cond (ltb n long) (Some n) None ≡ Some n = ap (λ c. cond c (Some n) None) e in cc)
nothing_found n long false e missing = ltb-false n long e

pub feed_missing : (bytes : List ℕ) → position (λ b. eqb b LINE_FEED) bytes ≡ None → HasNoLineFeed bytes
feed_missing bytes missing =
    let p : ℕ → Bool = λ b. eqb b LINE_FEED in
    let n : ℕ = position_or_len p bytes in
    let past : length bytes ≤ n = nothing_found n (length bytes) (ltb n (length bytes)) refl missing in
    All-from_get_or IsOther bytes 0 (λ k h. other (get_or bytes k 0) (fails_before_first p bytes k 0 (omega (arith, h, past))))
