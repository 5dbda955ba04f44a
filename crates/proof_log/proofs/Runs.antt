-- Runs of digits and the numbers that they stand for.
use Rattle.std.proofs.Common.{◌≡◌, ℕ, zero, suc, ◌^◌, ◌≤◌, ◌<◌, Bool, true, false, cond, ◌&&◌, eqb, List, [], ◌∷◌, ◌++◌, length, get_or, Some, None, refl, sym, ap, subst, ◌∙◌, arith, inl, inr, ⊎_elim, ◌⊎◌}
use Rattle.std.specs.Prelude.{not, nat_le, nat_lt, Ok, Err}
use Rattle.std.specs.Char.{is_ascii_digit, digit_value}
use Rattle.std.specs.Fmt.{decimal}
use Rattle.std.specs.Str.Parse.{AllDigits, IsNumeral, digits_value}
use Rattle.std.proofs.lemmas.Fmt.{decimal_is_IsNumeral, decimal-digits_value, first_decimal, decimal_digit}
use Rattle.std.proofs.lemmas.Str.Parse.{IsNumeralModel, numerals_by_value, tells_digits}
use Rattle.std.proofs.lemmas.Bool.{cases_lt, eqb-true}
use Rattle.proof_log.specs.declared.log_line.LineFault.TheVariants.{Form}
use Rattle.proof_log.specs.Inner.Reading.{after, digits_front, digits_rest, leads_with_zero, number_of, number_at}
use Rattle.proof_log.proofs.Scanning.{number_run, number_empty, front_and_rest}

-- no digit stands in front
abbrev pub NoDigit : List ℕ → Type 0
NoDigit rest = is_ascii_digit (get_or rest 0 0) ≡ false

front_of_stop : (rest : List ℕ) → NoDigit rest → digits_front rest ≡ []
unfolding digits_front
front_of_stop [] h = refl
front_of_stop (c ∷ cs) h = rw h refl

rest_of_stop : (rest : List ℕ) → NoDigit rest → digits_rest rest ≡ rest
unfolding digits_rest
rest_of_stop [] h = refl
rest_of_stop (c ∷ cs) h = rw h refl

pub digit_from_value : (c : ℕ) → digit_value c < 10 → is_ascii_digit c ≡ true
digit_from_value c h = grind arith

value_from_digit : (c : ℕ) → is_ascii_digit c ≡ true → digit_value c < 10
value_from_digit c h = grind arith

-- a run of digits is what stands in front, whatever else follows
pub front_again : (ds rest : List ℕ) → AllDigits 10 ds → NoDigit rest → digits_front (ds ++ rest) ≡ ds
unfolding digits_front
front_again [] rest d h = front_of_stop rest h
front_again (c ∷ cs) rest d h = rw (digit_from_value c d.0) (ap (λ (l : List ℕ). c ∷ l) (front_again cs rest d.1 h))

pub rest_again : (ds rest : List ℕ) → AllDigits 10 ds → NoDigit rest → digits_rest (ds ++ rest) ≡ rest
unfolding digits_rest
rest_again [] rest d h = rest_of_stop rest h
rest_again (c ∷ cs) rest d h = rw (digit_from_value c d.0) (rest_again cs rest d.1 h)

front_digits_by : (c : ℕ) (cs : List ℕ) (b : Bool) → is_ascii_digit c ≡ b → AllDigits 10 (digits_front cs) → AllDigits 10 (digits_front (c ∷ cs))
unfolding digits_front
front_digits_by c cs true e h = rw e (value_from_digit c e, h)
front_digits_by c cs false e h = rw e tt

pub front_digits : (bytes : List ℕ) → AllDigits 10 (digits_front bytes)
unfolding digits_front
front_digits [] = tt
front_digits (c ∷ cs) = front_digits_by c cs (is_ascii_digit c) refl (front_digits cs)

-- what reading a number finds: a run of digits and the rest, or no line's form
pub number_found : (low limit : ℕ) (bytes : List ℕ) → ((ds : List ℕ) × (rest : List ℕ) × IsNumeral 10 ds × (bytes ≡ ds ++ rest) × (number_at low limit bytes ≡ Ok (number_of low limit ds, rest))) ⊎ (number_at low limit bytes ≡ Err Form)
number_found low limit bytes =
    ⊎_elim
    (λ h. inl (digits_front bytes, digits_rest bytes, (h, front_digits bytes), sym (front_and_rest bytes), number_run low limit bytes h))
    (λ h. inr (number_empty low limit bytes (omega (arith, h))))
    (cases_lt 0 (length (digits_front bytes)))

pub number_again : (low limit : ℕ) (ds rest : List ℕ) → IsNumeral 10 ds → NoDigit rest → number_at low limit (ds ++ rest) ≡ Ok (number_of low limit ds, rest)
number_again low limit ds rest n h =
    let f = front_again ds rest n.1 h in
    let r = rest_again ds rest n.1 h in
    let some : 0 < length (digits_front (ds ++ rest)) = subst (λ (l : List ℕ). 0 < length l) (sym f) n.0 in
    number_run low limit (ds ++ rest) some ∙ λ i. Ok (number_of low limit (f i), r i)

-- ---- numbers

own : IsNumeralModel (AllDigits 10) (digits_value 10)
own = numerals_by_value (AllDigits 10) tells_digits

chosen_some : (b : Bool) (v n : ℕ) → cond b (Some v) None ≡ Some n → (b ≡ true) × (v ≡ n)
chosen_some true v n e = (refl, cc)
chosen_some false v n e = absurd cc

and_true : (a b : Bool) → (a && b) ≡ true → (a ≡ true) × (b ≡ true)
and_true true b e = (refl, e)
and_true false b e = absurd cc

not_true : (a : Bool) → not a ≡ true → a ≡ false
not_true true e = absurd cc
not_true false e = refl

-- a zero that leads is the only digit
no_leading : (ds : List ℕ) → leads_with_zero ds ≡ false → get_or ds 0 0 ≡ 48 → 0 < length ds → length ds ≡ 1
no_leading ds e z some = grind arith

-- what a run of digits is read as, it is the decimal of
pub number_of_is : (low limit : ℕ) (ds : List ℕ) (n : ℕ) → limit ≤ 2 ^ 64 → IsNumeral 10 ds → number_of low limit ds ≡ Some n → (low ≤ n) × (n < limit) × (decimal n ≡ ds)
unfolding number_of
number_of_is low limit ds n le num e =
    let c = chosen_some (not (leads_with_zero ds) && nat_le low (digits_value 10 ds) && nat_lt (digits_value 10 ds) limit) (digits_value 10 ds) n e in
    let t = and_true (not (leads_with_zero ds) && nat_le low (digits_value 10 ds)) (nat_lt (digits_value 10 ds) limit) c.0 in
    let u = and_true (not (leads_with_zero ds)) (nat_le low (digits_value 10 ds)) t.0 in
    let v : digits_value 10 ds ≡ n = c.1 in
    let z : leads_with_zero ds ≡ false = not_true (leads_with_zero ds) u.0 in
    let below : digits_value 10 ds < limit = grind (arith, t.1) in
    let above : low ≤ digits_value 10 ds = grind (arith, u.1) in
    let text : decimal (digits_value 10 ds) ≡ ds = decimal-digits_value own ds num.1 num.0 (λ h. no_leading ds z h num.0) (omega arith) in
    (omega arith, omega arith, ap decimal (sym v) ∙ text)

decimal_leads : (n : ℕ) → n < 2 ^ 64 → leads_with_zero (decimal n) ≡ false
decimal_leads zero h = ap leads_with_zero (decimal_digit 0 (omega arith))
decimal_leads (suc n) h = let f : 48 < get_or (decimal (suc n)) 0 0 = first_decimal (suc n) (omega arith) h in head (decimal (suc n)) f
  where
    head : (ds : List ℕ) → 48 < get_or ds 0 0 → leads_with_zero ds ≡ false
    head ds f = grind arith

-- the decimal of a number in range is read as that number
pub number_of-decimal : (low limit n : ℕ) → limit ≤ 2 ^ 64 → low ≤ n → n < limit → number_of low limit (decimal n) ≡ Some n
unfolding number_of
number_of-decimal low limit n le above below =
    let d = decimal_is_IsNumeral n (omega arith) in
    let z = decimal_leads n (omega arith) in
    let a : nat_le low n ≡ true = grind arith in
    let b : nat_lt n limit ≡ true = grind arith in
    rw (z, d.1, a, b) refl

pub decimal_numeral : (n : ℕ) → n < 2 ^ 64 → IsNumeral 10 (decimal n)
decimal_numeral n h = (decimal_is_IsNumeral n h).0

-- a word that doesn't begin with a digit isn't a run of digits
pub not_word : (w : ℕ) (ws ds rest : List ℕ) → IsNumeral 10 ds → 10 ≤ digit_value w → after (w ∷ ws) (ds ++ rest) ≡ None
not_word w ws [] rest n h = absurd (omega (arith, n.0))
not_word w ws (d ∷ ds) rest n h = let e : eqb d w ≡ false = apart d w n.1.0 h in rw e refl
  where
    apart : (d w : ℕ) → digit_value d < 10 → 10 ≤ digit_value w → eqb d w ≡ false
    apart d w a b = le_apart (eqb d w) refl
      where
        le_apart : (t : Bool) → eqb d w ≡ t → t ≡ false
        le_apart true e = absurd (let s : d ≡ w = eqb-true d w e in let k : digit_value d ≡ digit_value w = ap digit_value s in omega arith)
        le_apart false e = refl
