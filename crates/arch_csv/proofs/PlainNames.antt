-- The bytes of names: none of them is set apart by `csv`, and all are ASCII.
use Rattle.std.proofs.Common.{◌≡◌, ◌+◌, ◌%◌, ◌/◌, ◌<◌, ◌≤◌, ◌^◌, ℕ, zero, suc, true, List, [], ◌∷◌, ◌++◌, length, get_or, sym, ap, subst, ◌∙◌, arith, inl, inr}
use Rattle.std.specs.Fmt.{decimal}
use Rattle.std.specs.Str.{IsAscii, IsUtf8}
use Rattle.std.specs.List.{AllByRecursion, list_all}
use Rattle.std.proofs.lemmas.Fmt.{decimal_digit, decimal_step}
use Rattle.std.proofs.lemmas.Bool.{cases_lt}
use Rattle.std.proofs.lemmas.Bool.Decides.{nat_tests}
use Rattle.std.proofs.lemmas.List.{length-append}
use Rattle.std.proofs.lemmas.Str.{IsUtf8-from_ascii}
use Rattle.arch_model.specs.Name.{is_name_byte}
use Rattle.arch_model.specs.Parts.{LibraryParts}
use Rattle.arch_model.specs.Library.{IsLibrary}
use Rattle.arch_model.specs.declared.library.TypeRow.{TypeRow}
use Rattle.arch_model.specs.declared.template.Role.TheVariants.{Source}
use Rattle.arch_model.proofs.Members.{and_left, and_right}
use Rattle.arch_model.proofs.Ranges.{blank_component}
use Rattle.template.specs.Names.{component_name}
use Rattle.template.proofs.NameLaws.{component_numbers, component_name_at}

-- from the dot to z
abbrev pub IsPlain : ℕ → Type 0
IsPlain b = (46 ≤ b) × (b ≤ 122)

name_byte : (b : ℕ) → is_name_byte b ≡ true → IsPlain b
name_byte b e = (grind (arith, nat_tests), grind (arith, nat_tests))

name_plain : (text : List ℕ) → list_all is_name_byte text ≡ true → AllByRecursion IsPlain text
name_plain [] e = tt
name_plain (b ∷ text) e = (name_byte b (and_left (is_name_byte b) (list_all is_name_byte text) e), name_plain text (and_right (is_name_byte b) (list_all is_name_byte text) e))

-- a number of one digit or two
decimal_one : (n : ℕ) → n < 10 → (48 + n % 10) ∷ [] ≡ decimal n
decimal_one n h = ap (λ k. (48 + k) ∷ []) (let e : n % 10 ≡ n = omega arith in e) ∙ sym (decimal_digit n h)

decimal_two : (n : ℕ) → 10 ≤ n → n < 100 → (48 + n / 10) ∷ (48 + n % 10) ∷ [] ≡ decimal n
decimal_two n low high =
    let tens : n / 10 < 10 = omega arith in
    let small : n < 2 ^ 64 = omega arith in
    sym (decimal_step n low small ∙ ap (λ l. l ++ (48 + n % 10) ∷ []) (decimal_digit (n / 10) tens))

index_plain : (n : ℕ) → n < 100 → AllByRecursion IsPlain (decimal n)
index_plain n short = elim (cases_lt n 10) [
  | inl one ↦ subst (AllByRecursion IsPlain) (decimal_one n one) ((omega arith, omega arith), tt)
  | inr two ↦ subst (AllByRecursion IsPlain) (decimal_two n two short) ((omega arith, omega arith), ((omega arith, omega arith), tt))
]

joined : {X : Type 0} (P : X → Type 0) (xs ys : List X) → AllByRecursion P xs → AllByRecursion P ys → AllByRecursion P (xs ++ ys)
joined P [] ys h k = k
joined P (x ∷ xs) ys h k = (h.0, joined P xs ys h.1 k)

blank_row : TypeRow
blank_row = record { name = []; role = Source; max = 0; cost = 0; supply = 0; demand = 0; fail = 0 }

-- a name has letters, digits, underlines and a dot
pub names_are_plain : (lib : LibraryParts) → IsLibrary lib → (c : ℕ) → c < length lib.components → AllByRecursion IsPlain (component_name lib c)
names_are_plain lib h c short =
    let x = get_or lib.components c blank_component in
    let numbers = component_numbers lib h c blank_component short in
    let type = get_or lib.types x.of blank_row in
    let small : x.index < 100 = omega (arith, numbers.2) in
    let dot : IsPlain 46 = (omega arith, omega arith) in
    subst (AllByRecursion IsPlain) (sym (component_name_at lib c blank_component blank_row short numbers.0))
    (joined IsPlain type.name (46 ∷ decimal x.index) (name_plain type.name (h.types x.of blank_row numbers.0).name.rest) (dot, index_plain x.index small))

plain_ascii : (text : List ℕ) → AllByRecursion IsPlain text → IsAscii text
plain_ascii [] h i = omega arith
plain_ascii (b ∷ text) h zero = omega (arith, h.0)
plain_ascii (b ∷ text) h (suc i) = plain_ascii text h.1 i

-- a name is text
pub names_are_text : (lib : LibraryParts) → IsLibrary lib → (c : ℕ) → c < length lib.components → IsUtf8 (component_name lib c)
names_are_text lib h c short = IsUtf8-from_ascii (component_name lib c) (plain_ascii (component_name lib c) (names_are_plain lib h c short))

index_short : (n : ℕ) → n < 100 → length (decimal n) ≤ 2
index_short n short = elim (cases_lt n 10) [
  | inl one ↦ let e = ap length (decimal_one n one) in omega (arith, e)
  | inr two ↦ let e = ap length (decimal_two n two short) in omega (arith, e)
]

-- a name has at most 27 bytes
pub names_are_short : (lib : LibraryParts) → IsLibrary lib → (c : ℕ) → c < length lib.components → length (component_name lib c) ≤ 27
names_are_short lib h c short =
    let x = get_or lib.components c blank_component in
    let numbers = component_numbers lib h c blank_component short in
    let type = get_or lib.types x.of blank_row in
    let small : x.index < 100 = omega (arith, numbers.2) in
    let typed = (h.types x.of blank_row numbers.0).name.short in
    let parts = ap length (component_name_at lib c blank_component blank_row short numbers.0) in
    omega (arith, parts, length-append type.name (46 ∷ decimal x.index), typed, index_short x.index small)
