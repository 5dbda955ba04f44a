-- Numbers among the words: what a word's parse and the number's own text say of `numeral`.
use Rattle.std.proofs.Common.{◌≡◌, ℕ, ◌^◌, ◌<◌, ◌≤◌, Bool, true, false, ◌&&◌, nat_le, List, Some, None, Result, Ok, Err, sym, ap, subst, ◌∙◌, arith, inl, inr, if◌then◌else◌}
use Rattle.std.specs.Str.{bytes_eq}
use Rattle.std.specs.Str.Parse.{IsNumeral, digits_value, without_leading_plus, ParsesUnsigned}
use Rattle.std.specs.Fmt.{decimal}
use Rattle.std.proofs.lemmas.Fmt.{parse-decimal, decimal_is_IsNumeral}
use Rattle.std.proofs.lemmas.Result.{OkIff-at_ok}
use Rattle.std.proofs.lemmas.Slice.Eq.{bytes_eq-Decides}
use Rattle.std.proofs.lemmas.Bool.{leb-true, le-leb}
use Rattle.arch_model.proofs.Members.{bool_cases, and_left, and_right}
use Rattle.archex_app.specs.Words.{numeral}

-- the word is the text of this number
pub value_of_text : (word : List ℕ) (n : ℕ) → n < 2 ^ 64 → decimal n ≡ word → digits_value 10 word ≡ n
value_of_text word n small is = ap (digits_value 10) (sym is) ∙ (decimal_is_IsNumeral n small).1

in_range : (least most n : ℕ) (word : List ℕ) → digits_value 10 word ≡ n → numeral least most word ≡ (if bytes_eq (decimal n) word && (nat_le least n && nat_le n most) then Some n else None)
in_range least most n word is = ap (λ v. if bytes_eq (decimal v) word && (nat_le least v && nat_le v most) then Some v else None) is

-- what was parsed fits 64 bits
parsed_small : {E : Type 0} (word : List ℕ) (r : Result ℕ E) (n : ℕ) → ParsesUnsigned 64 10 word r → r ≡ Ok n → n < 2 ^ 64
parsed_small word r n parses is =
    let v = digits_value 10 (without_leading_plus word) in
    let at = OkIff-at_ok r (IsNumeral 10 (without_leading_plus word) × (v < 2 ^ 64)) v n parses is in
    subst (λ (k : ℕ). k < 2 ^ 64) (sym at.1) at.0.1

pub numeral_found : {E : Type 0} (least most n : ℕ) (word : List ℕ) (r : Result ℕ E) → ParsesUnsigned 64 10 word r → r ≡ Ok n → bytes_eq (decimal n) word ≡ true → least ≤ n → n ≤ most → numeral least most word ≡ Some n
numeral_found least most n word r parses parsed text low high =
    let small : n < 2 ^ 64 = parsed_small word r n parses parsed in
    let is : decimal n ≡ word = (bytes_eq-Decides (decimal n) word).0 text in
    in_range least most n word (value_of_text word n small is)
    ∙ ap (λ b. if b && (nat_le least n && nat_le n most) then Some n else None) text
    ∙ ap (λ b. if b && nat_le n most then Some n else None) (le-leb least n low)
    ∙ ap (λ b. if b then Some n else None) (le-leb n most high)

-- where the word isn't the text of what was parsed, or that is out of range
pub numeral_none : {E : Type 0} (least most : ℕ) (word : List ℕ) (r : Result ℕ E) → ParsesUnsigned 64 10 word r → most < 2 ^ 64 → ((n : ℕ) → r ≡ Ok n → bytes_eq (decimal n) word ≡ true → least ≤ n → n ≤ most → ⊥) → numeral least most word ≡ None
numeral_none least most word r parses small other =
    let v = digits_value 10 word in
    elim (bool_cases (bytes_eq (decimal v) word && (nat_le least v && nat_le v most))) [
      | inl t ↦
          let text = and_left (bytes_eq (decimal v) word) (nat_le least v && nat_le v most) t in
          let range = and_right (bytes_eq (decimal v) word) (nat_le least v && nat_le v most) t in
          let low : least ≤ v = leb-true least v (and_left (nat_le least v) (nat_le v most) range) in
          let high : v ≤ most = leb-true v most (and_right (nat_le least v) (nat_le v most) range) in
          let fits : v < 2 ^ 64 = omega arith in
          let is : word ≡ decimal v = sym ((bytes_eq-Decides (decimal v) word).0 text) in
          absurd (other v (parse-decimal 64 v word r fits fits is parses) text low high)
      | inr f ↦ ap (λ b. if b then Some v else None) f
    ]

-- another number than what was parsed
pub same_parsed : {E : Type 0} (r : Result ℕ E) (v n : ℕ) → r ≡ Ok v → r ≡ Ok n → v ≡ n
same_parsed r v n e f = let g : Ok v ≡ Ok n = sym e ∙ f in cc

pub no_parse : {E : Type 0} (r : Result ℕ E) (e : E) (n : ℕ) → r ≡ Err e → r ≡ Ok n → ⊥
no_parse r e n is parsed = let g : Err e ≡ Ok n = sym is ∙ parsed in cc

pub other_text : (n m : ℕ) (word : List ℕ) (b : Bool) → n ≡ m → b ≡ bytes_eq (decimal n) word → bytes_eq (decimal m) word ≡ true → b ≡ false → ⊥
other_text n m word b same is text off = let g : true ≡ false = sym text ∙ ap (λ k. bytes_eq (decimal k) word) (sym same) ∙ sym is ∙ off in cc
