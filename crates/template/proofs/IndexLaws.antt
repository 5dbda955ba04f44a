-- The index in a component's name: what follows its type's name and a dot.
use Rattle.std.proofs.Common.{◌≡◌, ◌≢◌, ℕ, zero, suc, ◌+◌, ◌^◌, ◌<◌, ◌≤◌, true, false, nat_eq, List, [], ◌∷◌, ◌++◌, drop, length, get_or, Option, Some, None, IfSome, IfNone, MatchOption, Result, Ok, Err, Bor, refl, sym, ap, ◌∙◌, arith, lit<}
use Rattle.std.specs.Fmt.{decimal}
use Rattle.std.specs.Result.{result_ok}
use Rattle.std.specs.Option.{option_eq}
use Rattle.std.proofs.lemmas.Bool.{eqb-true, eq-eqb}
use Rattle.std.specs.Str.{all_ascii_digits}
use Rattle.std.specs.Str.Parse.{digits_value, ParsesUnsigned}
use Rattle.std.specs.Str.Pattern.{FindsTextPrefix, FindsCharPrefix, StripsPrefix}
use Rattle.std.proofs.lemmas.Fmt.{decimal-digits_value, parse-decimal, first_decimal, decimal_digit, decimal_injective, digits_decimal, decimal_nonempty}
use Rattle.std.proofs.lemmas.List.{append_assoc, append_cancel_left}
use Rattle.std.proofs.lemmas.Str.Parse.{IsNumeralModel, numerals_by_value, tells_all_ascii_digits, parse_plain, digit_at}
use Rattle.std.proofs.lemmas.Str.Pattern.{strip_prefix_char}
use Rattle.std.proofs.lemmas.Option.{MatchOption-at_some, MatchOption-at_none}
use Rattle.template.specs.Names.{instance_name}

own : IsNumeralModel (λ ds. all_ascii_digits ds ≡ true) (digits_value 10)
own = numerals_by_value (λ ds. all_ascii_digits ds ≡ true) tells_all_ascii_digits

-- digits that begin with no 0 are what is written of the number that they read as
index_read : {E : Type 0} (text : List ℕ) (r : Result ℕ E) (n : ℕ) → ParsesUnsigned 64 10 text r → 49 ≤ get_or text 0 0 → get_or text 0 0 ≤ 57 → r ≡ Ok n → (text ≡ decimal n) × (1 ≤ n) × (n < 2 ^ 64)
index_read text r n parsed low high is =
    let plain = parse_plain own 64 text r parsed (λ plus. absurd (omega (arith, plus))) in
    let so = rw is at plain in
    let written : decimal (digits_value 10 text) ≡ text = decimal-digits_value own text so.0.0 so.0.1 (λ zero. absurd (omega (arith, zero))) so.0.2 in
    let value : n ≡ digits_value 10 text = so.1 in
    let same : text ≡ decimal n = sym written ∙ ap decimal (sym value) in
    (same, some n text same low, omega (arith, value, so.0.2))
  where
    some : (n : ℕ) (text : List ℕ) → text ≡ decimal n → 49 ≤ get_or text 0 0 → 1 ≤ n
    some zero text e low = let first : get_or text 0 0 ≡ 48 = ap (λ l. get_or l 0 0) (e ∙ decimal_digit 0 (omega arith)) in absurd (omega arith)
    some (suc n) text e low = omega arith

index_not_read : {E : Type 0} (text : List ℕ) (r : Result ℕ E) (e : E) → ParsesUnsigned 64 10 text r → r ≡ Err e → (n : ℕ) → 1 ≤ n → n < 2 ^ 64 → text ≢ decimal n
index_not_read text r e parsed is n some small same = let read = parse-decimal 64 n text r small small same parsed in absurd (cc)

pub no_first : (text : List ℕ) (n : ℕ) → 1 ≤ n → n < 2 ^ 64 → text ≡ decimal n → (49 ≤ get_or text 0 0) × (get_or text 0 0 ≤ 57)
no_first text n some small same =
    let first = first_decimal n some small in
    let digit = digit_at (decimal n) 0 (own.to (decimal n) (digits_decimal own n small)) (decimal_nonempty n small) in
    let is : get_or text 0 0 ≡ get_or (decimal n) 0 0 = ap (λ l. get_or l 0 0) same in
    (omega (arith, first, is), omega (arith, digit.1, is))

-- the number that a text was read as, and none where it is no such number's
pub read_is : {E : Type 0} (text : List ℕ) (r : Result ℕ E) → ParsesUnsigned 64 10 text r → 49 ≤ get_or text 0 0 → get_or text 0 0 ≤ 57
    → IfSome (result_ok r) (λ n. (text ≡ decimal n) × (1 ≤ n) × (n < 2 ^ 64))
read_is {E = E} text (Ok n) parsed low high = index_read {E = E} text (Ok n) n parsed low high refl
read_is text (Err e) parsed low high = tt

pub read_none : {E : Type 0} (text : List ℕ) (r : Result ℕ E) → ParsesUnsigned 64 10 text r → IfNone (result_ok r) ((n : ℕ) → 1 ≤ n → n < 2 ^ 64 → text ≢ decimal n)
read_none text (Ok n) parsed = tt
read_none {E = E} text (Err e) parsed = index_not_read {E = E} text (Err e) e parsed refl

-- a name and what is left of a text after it
joined : (name rest digits text : List ℕ) → text ≡ name ++ rest → rest ≡ 46 ∷ digits → text ≡ name ++ (46 ∷ digits)
joined name rest digits text e f = e ∙ ap (λ l. name ++ l) f

pub instance_of : (name : List ℕ) (n : ℕ) → instance_name name n ≡ name ++ (46 ∷ decimal n)
instance_of name n = append_assoc name (46 ∷ []) (decimal n)

pub after_name : (name text rest : List ℕ) → StripsPrefix (FindsTextPrefix name) text rest → text ≡ name ++ rest
after_name name text rest h = h.1.1 ∙ ap (λ l. name ++ l) (sym h.2)

-- names of one type with different indices differ
pub alike : (name : List ℕ) (m n : ℕ) → m < 2 ^ 64 → n < 2 ^ 64 → instance_name name m ≡ instance_name name n → m ≡ n
alike name m n small low e =
    let rest : 46 ∷ decimal m ≡ 46 ∷ decimal n = append_cancel_left name (46 ∷ decimal m) (46 ∷ decimal n) (sym (instance_of name m) ∙ e ∙ instance_of name n) in
    let same : decimal m ≡ decimal n = cc in
    decimal_injective m n small low same

-- what follows a type's name and a dot
pub after_dot : (rest : List ℕ) (r : Option (Bor (List ℕ))) (x : Bor (List ℕ))
    → MatchOption r (FindsCharPrefix 46 rest None) (λ x. (n : ℕ) × FindsCharPrefix 46 rest (Some n) × (x.now ≡ drop n rest) × (length x.now + n ≡ length rest)) → r ≡ Some x → rest ≡ 46 ∷ x.now
after_dot rest r x h is = MatchOption-at_some _ (λ (y : Bor (List ℕ)). rest ≡ 46 ∷ y.now) x is (strip_prefix_char 46 rest r h (lit< tt))

pub no_dot : (rest : List ℕ) (r : Option (Bor (List ℕ)))
    → MatchOption r (FindsCharPrefix 46 rest None) (λ x. (n : ℕ) × FindsCharPrefix 46 rest (Some n) × (x.now ≡ drop n rest) × (length x.now + n ≡ length rest)) → r ≡ None → (digits : List ℕ) → rest ≢ 46 ∷ digits
no_dot rest r h is = MatchOption-at_none ((digits : List ℕ) → rest ≢ 46 ∷ digits) (λ (y : Bor (List ℕ)). rest ≡ 46 ∷ y.now) is (strip_prefix_char 46 rest r h (lit< tt))

pub not_dotted : (name rest text : List ℕ) → text ≡ name ++ rest → ((digits : List ℕ) → rest ≢ 46 ∷ digits) → (i : ℕ) → text ≢ instance_name name i
not_dotted name rest text is none i e = none (decimal i) (append_cancel_left name rest (46 ∷ decimal i) (sym is ∙ e ∙ instance_of name i))

pub found_in : (o : Option ℕ) (name rest digits text : List ℕ) → text ≡ name ++ rest → rest ≡ 46 ∷ digits → IfSome o (λ n. (digits ≡ decimal n) × (1 ≤ n) × (n < 2 ^ 64))
    → IfSome o (λ i. (text ≡ instance_name name i) × (1 ≤ i) × (i < 2 ^ 64))
found_in None name rest digits text e f h = tt
found_in (Some n) name rest digits text e f h = (joined name rest digits text e f ∙ ap (λ l. name ++ (46 ∷ l)) h.0 ∙ sym (instance_of name n), h.1, h.2)

pub not_found_in : (o : Option ℕ) (name rest digits text : List ℕ) → text ≡ name ++ rest → rest ≡ 46 ∷ digits → IfNone o ((n : ℕ) → 1 ≤ n → n < 2 ^ 64 → digits ≢ decimal n)
    → IfNone o ((i : ℕ) → 1 ≤ i → i < 2 ^ 64 → text ≢ instance_name name i)
not_found_in (Some n) name rest digits text e f h = tt
not_found_in None name rest digits text e f h = λ i some small same.
    let tail : 46 ∷ digits ≡ 46 ∷ decimal i = append_cancel_left name (46 ∷ digits) (46 ∷ decimal i) (sym (joined name rest digits text e f) ∙ same ∙ instance_of name i) in
    h i some small (cc)

-- whether a text is the name of the instance of an index, by the index that was read in it
pub names_instance : (o : Option ℕ) (name text : List ℕ) (i : ℕ) → IfSome o (λ k. (text ≡ instance_name name k) × (1 ≤ k) × (k < 2 ^ 64)) → true ≡ option_eq nat_eq o (Some i) → text ≡ instance_name name i
names_instance None name text i h e = absurd (cc)
names_instance (Some k) name text i h e = h.0 ∙ ap (instance_name name) (eqb-true k i (sym e))

pub names_another : (o : Option ℕ) (name text : List ℕ) (i : ℕ) → 1 ≤ i → i < 2 ^ 64 → IfSome o (λ k. (text ≡ instance_name name k) × (1 ≤ k) × (k < 2 ^ 64))
    → IfNone o ((k : ℕ) → 1 ≤ k → k < 2 ^ 64 → text ≢ instance_name name k) → false ≡ option_eq nat_eq o (Some i) → text ≢ instance_name name i
names_another None name text i some small is none e same = none i some small same
names_another (Some k) name text i some small is none e same = absurd (let f : false ≡ true = e ∙ eq-eqb k i (alike name k i is.2 small (sym is.0 ∙ same)) in cc)
