-- Words and runs of digits in front of some bytes.
use Rattle.std.proofs.Common.{◌≡◌, ℕ, ◌+◌, ◌-◌, ◌*◌, ◌^◌, ◌≤◌, ◌<◌, min, Bool, true, false, cond, ◌&&◌, eqb, List, [], ◌∷◌, ◌++◌, length, take, drop, get_or, Option, Some, None, option_map, refl, sym, ap, ◌∙◌, append_assoc, arith, ⊎_elim}
use Rattle.std.specs.Prelude.{MatchOption, nat_eq, not, nat_lt, nat_le, Ok, Err}
use Rattle.std.specs.Borrow.{Bor}
use Rattle.std.specs.Char.{is_ascii_digit, digit_value}
use Rattle.std.specs.Str.Parse.{digits_value}
use lib.Pointwise.{pointwise}
use Rattle.std.proofs.lemmas.Bool.{eqb-true, cases_lt, le-ltb}
use Rattle.std.proofs.lemmas.List.{append-nil, take_more, drop_more, drop_all, take_all, drop_at, length-take-le, take_rest, get_or_append_left}
use Rattle.std.proofs.lemmas.Int.Digits.{digits_value_more}
use Rattle.proof_log.specs.Inner.Reading.{after, digits_front, digits_rest, leads_with_zero, number_of, number_at}
use Rattle.proof_log.specs.declared.log_line.LineFault.TheVariants.{Form}

-- ---- words

pub after_again : (word rest : List ℕ) → after word (word ++ rest) ≡ Some rest
after_again [] rest = refl
after_again (w ∷ ws) rest = rw (eqb-refl w) (after_again ws rest)
  where
    eqb-refl : (n : ℕ) → eqb n n ≡ true
    eqb-refl n = grind arith

tests_word : (b : Bool) (word rest : List ℕ) (w : ℕ) (bytes : List ℕ) (c : ℕ) → (b ≡ true → c ≡ w) → (after word bytes ≡ Some rest → bytes ≡ word ++ rest) → cond b (after word bytes) None ≡ Some rest → (c ∷ bytes) ≡ (w ∷ word) ++ rest
tests_word true word rest w bytes c head tail e = let h : c ≡ w = head refl in let t : bytes ≡ word ++ rest = tail e in cc
tests_word false word rest w bytes c head tail e = absurd cc

pub after_is : (word bytes rest : List ℕ) → after word bytes ≡ Some rest → bytes ≡ word ++ rest
after_is [] bytes rest e = cc
after_is (w ∷ ws) [] rest e = absurd cc
after_is (w ∷ ws) (b ∷ bytes) rest e = tests_word (eqb b w) ws rest w bytes b (λ h. eqb-true b w h) (λ h. after_is ws bytes rest h) e

and_true : (a b : Bool) → (a && b) ≡ true → (a ≡ true) × (b ≡ true)
and_true true b e = (refl, e)
and_true false b e = absurd cc

and_false : (a b : Bool) → (a && b) ≡ false → a ≡ true → b ≡ false
and_false true b e h = e
and_false false b e h = absurd cc

after_yes : (word bytes : List ℕ) → pointwise nat_eq (take (length word) bytes) word ≡ true → after word bytes ≡ Some (drop (length word) bytes)
after_yes [] bytes e = refl
after_yes (w ∷ ws) [] e = absurd cc
after_yes (w ∷ ws) (b ∷ bytes) e = let t = and_true (eqb b w) (pointwise nat_eq (take (length ws) bytes) ws) e in rw t.0 (after_yes ws bytes t.1)

after_no_by : (b : Bool) (o : Option (List ℕ)) → (b ≡ true → o ≡ None) → cond b o None ≡ None
after_no_by true o h = h refl
after_no_by false o h = refl

after_no : (word bytes : List ℕ) → pointwise nat_eq (take (length word) bytes) word ≡ false → after word bytes ≡ None
after_no [] bytes e = absurd (first_false bytes e)
  where
    first_false : (bytes : List ℕ) → pointwise nat_eq (take 0 bytes) [] ≡ false → ⊥
    first_false bytes e = cc
after_no (w ∷ ws) [] e = refl
after_no (w ∷ ws) (b ∷ bytes) e = after_no_by (eqb b w) (after ws bytes) (λ h. after_no ws bytes (and_false (eqb b w) (pointwise nat_eq (take (length ws) bytes) ws) e h))

-- what stripping a word answers
pub strip_is : (word bytes : List ℕ) (r : Option (Bor (List ℕ))) → MatchOption r (pointwise nat_eq (take (length word) bytes) word ≡ false) (λ x. (pointwise nat_eq (take (length word) bytes) word ≡ true) × (x.now ≡ drop (length word) bytes) × (length x.now + length word ≡ length bytes)) → option_map (λ x. x.now) r ≡ after word bytes
strip_is word bytes None h = sym (after_no word bytes h)
strip_is word bytes (Some x) h = let e : after word bytes ≡ Some (drop (length word) bytes) = after_yes word bytes h.0 in let t : x.now ≡ drop (length word) bytes = h.1 in cc

-- ---- digits

front_cons : (c : ℕ) (cs : List ℕ) → is_ascii_digit c ≡ true → digits_front (c ∷ cs) ≡ c ∷ digits_front cs
unfolding digits_front
front_cons c cs e = rw e refl

front_stops : (c : ℕ) (cs : List ℕ) → is_ascii_digit c ≡ false → digits_front (c ∷ cs) ≡ []
unfolding digits_front
front_stops c cs e = rw e refl

front_nil : digits_front [] ≡ []
unfolding digits_front
front_nil = refl

-- the digits so far and those of the rest are all
pub front_more : (bytes : List ℕ) (i : ℕ) → i < length bytes → is_ascii_digit (get_or bytes i 0) ≡ true → digits_front bytes ≡ take i bytes ++ digits_front (drop i bytes)
    → digits_front bytes ≡ take (i + 1) bytes ++ digits_front (drop (i + 1) bytes)
front_more bytes i lt digit so_far =
    so_far
    ∙ ap (λ (l : List ℕ). take i bytes ++ digits_front l) (drop_more bytes i 0 lt)
    ∙ ap (λ (l : List ℕ). take i bytes ++ l) (front_cons (get_or bytes i 0) (drop (i + 1) bytes) digit)
    ∙ sym (append_assoc (take i bytes) (get_or bytes i 0 ∷ []) (digits_front (drop (i + 1) bytes)))
    ∙ ap (λ (l : List ℕ). l ++ digits_front (drop (i + 1) bytes)) (sym (take_more bytes i 0 lt))

pub front_ends : (bytes : List ℕ) (i : ℕ) → i < length bytes → is_ascii_digit (get_or bytes i 0) ≡ false → digits_front bytes ≡ take i bytes ++ digits_front (drop i bytes) → digits_front bytes ≡ take i bytes
front_ends bytes i lt is_not so_far =
    so_far
    ∙ ap (λ (l : List ℕ). take i bytes ++ digits_front l) (drop_more bytes i 0 lt)
    ∙ ap (λ (l : List ℕ). take i bytes ++ l) (front_stops (get_or bytes i 0) (drop (i + 1) bytes) is_not)
    ∙ append-nil (take i bytes)

pub front_is_all : (bytes : List ℕ) (i : ℕ) → length bytes ≤ i → digits_front bytes ≡ take i bytes ++ digits_front (drop i bytes) → digits_front bytes ≡ take i bytes
front_is_all bytes i le so_far =
    so_far ∙ ap (λ (l : List ℕ). take i bytes ++ digits_front l) (drop_all i bytes le) ∙ ap (λ (l : List ℕ). take i bytes ++ l) front_nil ∙ append-nil (take i bytes)

rest_by : (c : ℕ) (cs : List ℕ) (b : Bool) → is_ascii_digit c ≡ b → digits_front cs ++ digits_rest cs ≡ cs → digits_front (c ∷ cs) ++ digits_rest (c ∷ cs) ≡ c ∷ cs
unfolding digits_front digits_rest
rest_by c cs true e ih = rw e (ap (λ (l : List ℕ). c ∷ l) ih)
rest_by c cs false e ih = rw e refl

-- a run of digits and what stands behind it are all
pub front_and_rest : (bytes : List ℕ) → digits_front bytes ++ digits_rest bytes ≡ bytes
unfolding digits_front digits_rest
front_and_rest [] = refl
front_and_rest (c ∷ cs) = rest_by c cs (is_ascii_digit c) refl (front_and_rest cs)

pub rest_dropped : (bytes : List ℕ) → drop (length (digits_front bytes)) bytes ≡ digits_rest bytes
rest_dropped bytes = ap (λ (l : List ℕ). drop (length (digits_front bytes)) l) (sym (front_and_rest bytes)) ∙ drop_at (digits_front bytes) (digits_rest bytes) (length (digits_front bytes)) refl

digit_is : (c : ℕ) → is_ascii_digit c ≡ true → digit_value c ≡ c - 48
digit_is c e = grind arith

-- the number so far, with one digit more
pub value_more : (bytes : List ℕ) (i value product digit next : ℕ) → i < length bytes → is_ascii_digit (get_or bytes i 0) ≡ true → value ≡ min (digits_value 10 (take i bytes)) (2 ^ 64 - 1)
    → product ≡ min (value * 10) (2 ^ 64 - 1) → digit ≡ get_or bytes i 0 - 48 → next ≡ min (product + digit) (2 ^ 64 - 1) → next ≡ min (digits_value 10 (take (i + 1) bytes)) (2 ^ 64 - 1)
value_more bytes i value product digit next lt is so_far p d n =
    let more : digits_value 10 (take (i + 1) bytes) ≡ digits_value 10 (take i bytes) * 10 + digit_value (get_or bytes i 0) = digits_value_more 10 bytes i lt in
    let v : digit_value (get_or bytes i 0) ≡ get_or bytes i 0 - 48 = digit_is (get_or bytes i 0) is in
    n ∙ bounded (digits_value 10 (take i bytes)) value product digit so_far p ∙ ap (λ k. min k (2 ^ 64 - 1)) (ap (λ k. digits_value 10 (take i bytes) * 10 + k) (d ∙ sym v) ∙ sym more)
  where
    bounded : (v value product d : ℕ) → value ≡ min v (2 ^ 64 - 1) → product ≡ min (value * 10) (2 ^ 64 - 1) → min (product + d) (2 ^ 64 - 1) ≡ min (v * 10 + d) (2 ^ 64 - 1)
    bounded v value product d e p = omega arith

pub value_at_front : (bytes : List ℕ) (i value : ℕ) → value ≡ min (digits_value 10 (take i bytes)) (2 ^ 64 - 1) → digits_front bytes ≡ take i bytes → value ≡ min (digits_value 10 (digits_front bytes)) (2 ^ 64 - 1)
value_at_front bytes i value e front = e ∙ ap (λ (l : List ℕ). min (digits_value 10 l) (2 ^ 64 - 1)) (sym front)

pub length_at_front : (bytes : List ℕ) (i : ℕ) → i ≤ length bytes → digits_front bytes ≡ take i bytes → i ≡ length (digits_front bytes)
length_at_front bytes i le front = sym (ap (λ (l : List ℕ). length l) front ∙ length-take-le i bytes le)

pub all_at_front : (bytes : List ℕ) (i : ℕ) → length bytes ≤ i → digits_front bytes ≡ take i bytes → length bytes ≡ length (digits_front bytes)
all_at_front bytes i le front = sym (ap (λ (l : List ℕ). length l) (front ∙ take_all i bytes le))

-- ---- numbers

pub number_empty : (low limit : ℕ) (bytes : List ℕ) → length (digits_front bytes) ≡ 0 → number_at low limit bytes ≡ Err Form
unfolding number_at
number_empty low limit bytes e = rw e refl

pub number_run : (low limit : ℕ) (bytes : List ℕ) → 0 < length (digits_front bytes) → number_at low limit bytes ≡ Ok (number_of low limit (digits_front bytes), digits_rest bytes)
unfolding number_at
number_run low limit bytes lt = let e : eqb (length (digits_front bytes)) 0 ≡ false = grind arith in rw e refl

chosen : (led : Bool) (low limit v top : ℕ) → limit ≤ top → cond (not led && nat_le low v && nat_lt v limit) (Some v) None ≡ cond (not led && nat_le low (min v top) && nat_lt (min v top) limit) (Some (min v top)) None
chosen led low limit v top le = ⊎_elim (λ h. let e : min v top ≡ v = omega arith in rw e refl) (λ h. past h) (cases_lt v limit)
  where
    gone : (a b : Bool) → b ≡ false → (a && b) ≡ false
    gone true b e = e
    gone false b e = refl

    past : limit ≤ v → cond (not led && nat_le low v && nat_lt v limit) (Some v) None ≡ cond (not led && nat_le low (min v top) && nat_lt (min v top) limit) (Some (min v top)) None
    past h = rw (gone (not led && nat_le low v) (nat_lt v limit) (le-ltb v limit h), gone (not led && nat_le low (min v top)) (nat_lt (min v top) limit) (le-ltb (min v top) limit (omega arith))) refl

front_head : (bytes : List ℕ) → 0 < length (digits_front bytes) → get_or (digits_front bytes) 0 0 ≡ get_or bytes 0 0
front_head bytes lt = sym (ap (λ (l : List ℕ). get_or l 0 0) (sym (front_and_rest bytes)) ∙ get_or_append_left (digits_front bytes) (digits_rest bytes) 0 0 lt)

-- what a run of digits is read as
pub number_is : (low limit : ℕ) (bytes : List ℕ) (value len : ℕ) (led : Bool) (r : Option ℕ) → value ≡ min (digits_value 10 (digits_front bytes)) (2 ^ 64 - 1) → len ≡ length (digits_front bytes) → 0 < len → limit ≤ 2 ^ 64 - 1
    → led ≡ (nat_lt 1 len && eqb (get_or bytes 0 0) 48) → r ≡ cond (not led && nat_le low value && nat_lt value limit) (Some value) None
    → number_at low limit bytes ≡ Ok (r, take (length bytes - len) (drop len bytes))
unfolding number_of
number_is low limit bytes value len led r v n lt le l e =
    let n0 : 0 < length (digits_front bytes) = omega arith in
    let z : leads_with_zero (digits_front bytes) ≡ led = sym (l ∙ ap (λ k. nat_lt 1 k && eqb (get_or bytes 0 0) 48) n ∙ ap (λ k. nat_lt 1 (length (digits_front bytes)) && eqb k 48) (sym (front_head bytes n0))) in
    let of : number_of low limit (digits_front bytes) ≡ r =
    ap (λ b. cond (not b && nat_le low (digits_value 10 (digits_front bytes)) && nat_lt (digits_value 10 (digits_front bytes)) limit) (Some (digits_value 10 (digits_front bytes))) None) z
    ∙ chosen led low limit (digits_value 10 (digits_front bytes)) (2 ^ 64 - 1) le
    ∙ ap (λ k. cond (not led && nat_le low k && nat_lt k limit) (Some k) None) (sym v)
    ∙ sym e in
    let t : take (length bytes - len) (drop len bytes) ≡ digits_rest bytes = take_rest bytes len ∙ ap (λ k. drop k bytes) n ∙ rest_dropped bytes in
    number_run low limit bytes n0 ∙ λ i. Ok (of i, sym t i)
