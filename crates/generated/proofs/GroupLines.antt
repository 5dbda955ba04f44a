-- The lines of a generated text, group by group.
use Rattle.std.proofs.Common.{◌≡◌, ℕ, ◌<◌, ◌≤◌, true, ◌&&◌, pos, List, [], ◌∷◌, ◌++◌, codes, decimal, refl, sym, ap, ◌∙◌, subst, arith, append_assoc, append-nil, length-append, length, nat_le}
use Rattle.std.proofs.lemmas.Bool.{and_parts}
use Rattle.std.proofs.lemmas.Bool.Decides.{nat_tests}
use Rattle.std.proofs.lemmas.Fmt.{decimal_is_IsNumeral, length-decimal-le}
use Rattle.std.proofs.lemmas.List.Folds.{list_all-append}
use Rattle.std.specs.Fmt.{digits}
use Rattle.std.specs.List.{list_all, flat_map, AllByRecursion}
use Rattle.std.specs.Str.Parse.{AllDigits}
use Rattle.toml_writer.specs.Text.{key_text}
use Rattle.toml.specs.Data.{string, integer}
use Rattle.toml.specs.Tables.{Expression, key_value, array_table}
use Rattle.generate.specs.declared.group.Group.{Group}
use Rattle.generate.specs.Generated.{types_text, link_text, requirement_text, text_of}
use Rattle.generated.specs.GeneratedLibrary.{source_name, sink_name}
use Rattle.generated.proofs.LineTexts.{AreLines, IsPlainText, is_plain_byte, no_lines, header_line, text_line, number_line}

-- a group whose numbers a file can hold
pub record IsGroup (g : Group) : Type 0 where
  pub number : g.number < 16
  pub cost : g.cost ≤ 1000
  pub bound : g.bound ≤ 1000000000000000

-- the name of a group's one sink
abbrev pub required_name : Group → List ℕ
required_name g = sink_name g ++ codes ".1"

-- the expressions of a group, in file order
abbrev pub source_lines : Group → List Expression
source_lines g =
    (([], codes "type"), array_table)
    ∷ (([], codes "name"), key_value (string (source_name g)))
    ∷ (([], codes "role"), key_value (string (codes "source")))
    ∷ (([], codes "max"), key_value (integer (pos 2)))
    ∷ (([], codes "cost"), key_value (integer (pos g.cost)))
    ∷ (([], codes "fail"), key_value (integer (pos 1000)))
    ∷ []

abbrev pub sink_lines : Group → List Expression
sink_lines g =
    (([], codes "type"), array_table)
    ∷ (([], codes "name"), key_value (string (sink_name g)))
    ∷ (([], codes "role"), key_value (string (codes "sink")))
    ∷ []

abbrev pub link_lines : Group → List Expression
link_lines g =
    (([], codes "link"), array_table)
    ∷ (([], codes "from"), key_value (string (source_name g)))
    ∷ (([], codes "to"), key_value (string (sink_name g)))
    ∷ (([], codes "cost"), key_value (integer (pos 1)))
    ∷ []

abbrev pub requirement_lines : Group → List Expression
requirement_lines g =
    (([], codes "require"), array_table)
    ∷ (([], codes "sink"), key_value (string (required_name g)))
    ∷ (([], codes "bound"), key_value (integer (pos g.bound)))
    ∷ []

-- ---- names

digits_pass : (ds : List ℕ) → AllDigits 10 ds → list_all is_plain_byte ds ≡ true
digits_pass [] h = refl
digits_pass (c ∷ cs) h =
    let here : is_plain_byte c ≡ true = grind (arith, nat_tests) in
    rw here (digits_pass cs h.1)

decimal_plain : (n : ℕ) → n < 16 → list_all is_plain_byte (decimal n) ≡ true
decimal_plain n small = digits_pass (decimal n) (decimal_is_IsNumeral n (omega arith)).0.1

decimal_short : (n : ℕ) → n < 16 → length (decimal n) ≤ 2
decimal_short n small = length-decimal-le 2 n (omega arith) (omega arith) (omega arith)

source_plain : (g : Group) → IsGroup g → IsPlainText (source_name g)
source_plain g fits = record { plain = decimal_plain g.number fits.number; short = omega (arith, decimal_short g.number fits.number) }

sink_plain : (g : Group) → IsGroup g → IsPlainText (sink_name g)
sink_plain g fits = record { plain = decimal_plain g.number fits.number; short = omega (arith, decimal_short g.number fits.number) }

required_plain : (g : Group) → IsGroup g → IsPlainText (required_name g)
required_plain g fits = record {
  plain = rw (list_all-append is_plain_byte (decimal g.number) (codes ".1"), decimal_plain g.number fits.number) refl;
  short = omega (arith, decimal_short g.number fits.number, length-append (decimal g.number) (codes ".1"));
}

word_plain : (s : List ℕ) → (list_all is_plain_byte s && nat_le (length s) 40) ≡ true → IsPlainText s
word_plain s h =
    let (plain, short) = and_parts (list_all is_plain_byte s) (nat_le (length s) 40) h in
    record { plain = plain; short = grind (arith, nat_tests) }

-- ---- the text of a group, its pieces grouped to the right

seven : (a b c d e f g rest : List ℕ) → (a ++ b ++ c ++ d ++ e ++ f ++ g) ++ rest ≡ a ++ (b ++ (c ++ (d ++ (e ++ (f ++ (g ++ rest))))))
seven a b c d e f g rest = simp append_assoc refl

five : (a b c d e rest : List ℕ) → (a ++ b ++ c ++ d ++ e) ++ rest ≡ a ++ (b ++ (c ++ (d ++ (e ++ rest))))
five a b c d e rest = simp append_assoc refl

-- the numbers that stand in each text
one : codes "1" ≡ decimal 1
unfolding digits
one = refl

two : codes "2" ≡ decimal 2
unfolding digits
two = refl

thousand : codes "1000" ≡ decimal 1000
unfolding digits
thousand = refl

source_have : (g : Group) (es : List Expression) (rest : List ℕ) → IsGroup g → AreLines es rest
    → AreLines (source_lines g ++ es)
    (codes "[[type]]\nname = \"s" ++ (decimal g.number ++ (codes "\"\nrole = \"source\"\nmax = 2\ncost = " ++ (decimal g.cost ++ (codes "\nfail = 1000\n" ++ rest)))))
unfolding key_text
source_have g es rest fits h =
    let fail = number_line (codes "fail") (codes "1000") 1000 es rest refl thousand (omega arith) h in
    let cost = number_line (codes "cost") (decimal g.cost) g.cost _ _ refl refl (omega (arith, fits.cost)) fail in
    let max = number_line (codes "max") (codes "2") 2 _ _ refl two (omega arith) cost in
    let role = text_line (codes "role") (codes "source") _ _ refl (word_plain (codes "source") refl) max in
    header_line (codes "type") _ _ refl (text_line (codes "name") (source_name g) _ _ refl (source_plain g fits) role)

sink_have : (g : Group) (es : List Expression) (rest : List ℕ) → IsGroup g → AreLines es rest
    → AreLines (sink_lines g ++ es) (codes "[[type]]\nname = \"l" ++ (decimal g.number ++ (codes "\"\nrole = \"sink\"\n" ++ rest)))
unfolding key_text
sink_have g es rest fits h =
    let role = text_line (codes "role") (codes "sink") es rest refl (word_plain (codes "sink") refl) h in
    header_line (codes "type") _ _ refl (text_line (codes "name") (sink_name g) _ _ refl (sink_plain g fits) role)

link_have : (g : Group) (es : List Expression) (rest : List ℕ) → IsGroup g → AreLines es rest → AreLines (link_lines g ++ es) (link_text g ++ rest)
unfolding key_text link_text
link_have g es rest fits h =
    let n = decimal g.number in
    let cost = number_line (codes "cost") (codes "1") 1 es rest refl one (omega arith) h in
    let to = text_line (codes "to") (sink_name g) _ _ refl (sink_plain g fits) cost in
    let from = text_line (codes "from") (source_name g) _ _ refl (source_plain g fits) to in
    subst (AreLines (link_lines g ++ es)) (sym (five (codes "[[link]]\nfrom = \"s") n (codes "\"\nto = \"l") n (codes "\"\ncost = 1\n") rest))
    (header_line (codes "link") _ _ refl from)

requirement_have : (g : Group) (es : List Expression) (rest : List ℕ) → IsGroup g → AreLines es rest → AreLines (requirement_lines g ++ es) (requirement_text g ++ rest)
unfolding key_text requirement_text
requirement_have g es rest fits h =
    let n = decimal g.number in
    let bound = number_line (codes "bound") (decimal g.bound) g.bound es rest refl refl (omega (arith, fits.bound)) h in
    let sink = text_line (codes "sink") (required_name g) _ _ refl (required_plain g fits) bound in
    let more = codes "\"\nbound = " ++ (decimal g.bound ++ (codes "\n" ++ rest)) in
    let same = five (codes "[[require]]\nsink = \"l") n (codes ".1\"\nbound = ") (decimal g.bound) (codes "\n") rest
    ∙ ap (λ t. codes "[[require]]\nsink = \"l" ++ t) (sym (append_assoc n (codes ".1") more)) in
    subst (AreLines (requirement_lines g ++ es)) (sym same) (header_line (codes "require") _ _ refl sink)

types_have : (g : Group) (es : List Expression) (rest : List ℕ) → IsGroup g → AreLines es rest → AreLines (source_lines g ++ (sink_lines g ++ es)) (types_text g ++ rest)
unfolding types_text
types_have g es rest fits h =
    let n = decimal g.number in
    subst (AreLines (source_lines g ++ (sink_lines g ++ es)))
    (sym (seven (codes "[[type]]\nname = \"s") n (codes "\"\nrole = \"source\"\nmax = 2\ncost = ") (decimal g.cost) (codes "\nfail = 1000\n[[type]]\nname = \"l") n (codes "\"\nrole = \"sink\"\n") rest))
    (source_have g _ _ fits (sink_have g es rest fits h))

-- ---- the text of all groups

abbrev pub type_lines : Group → List Expression
type_lines g = source_lines g ++ sink_lines g

abbrev pub all_lines : List Group → List Expression
all_lines gs = flat_map type_lines gs ++ (flat_map link_lines gs ++ flat_map requirement_lines gs)

-- the lines of each group, before others
each_has : (made : Group → List Expression) (text : Group → List ℕ)
    → ((g : Group) (es : List Expression) (rest : List ℕ) → IsGroup g → AreLines es rest → AreLines (made g ++ es) (text g ++ rest))
    → (gs : List Group) (es : List Expression) (rest : List ℕ) → AllByRecursion IsGroup gs → AreLines es rest → AreLines (flat_map made gs ++ es) (flat_map text gs ++ rest)
each_has made text step [] es rest fit h = h
each_has made text step (g ∷ gs) es rest fit h =
    let both = step g _ _ fit.0 (each_has made text step gs es rest fit.1 h) in
    let left : (made g ++ flat_map made gs) ++ es ≡ made g ++ (flat_map made gs ++ es) = append_assoc (made g) (flat_map made gs) es in
    let right : (text g ++ flat_map text gs) ++ rest ≡ text g ++ (flat_map text gs ++ rest) = append_assoc (text g) (flat_map text gs) rest in
    subst (λ es'. AreLines es' ((text g ++ flat_map text gs) ++ rest)) (sym left) (subst (AreLines (made g ++ (flat_map made gs ++ es))) (sym right) both)

pub text_has : (gs : List Group) → AllByRecursion IsGroup gs → AreLines (all_lines gs) (text_of gs)
text_has gs fit =
    let types = flat_map types_text gs in
    let links = flat_map link_text gs in
    let requirements = flat_map requirement_text gs in
    let third = each_has requirement_lines requirement_text requirement_have gs [] [] fit no_lines in
    let second = each_has link_lines link_text link_have gs _ _ fit third in
    let first = each_has type_lines types_text types_have gs _ _ fit second in
    let same_lines : flat_map type_lines gs ++ (flat_map link_lines gs ++ (flat_map requirement_lines gs ++ [])) ≡ all_lines gs =
    ap (λ es. flat_map type_lines gs ++ (flat_map link_lines gs ++ es)) (append-nil (flat_map requirement_lines gs)) in
    let same_text : types ++ (links ++ (requirements ++ [])) ≡ types ++ links ++ requirements =
    ap (λ t. types ++ (links ++ t)) (append-nil requirements) ∙ sym (append_assoc types links requirements) in
    subst (AreLines (all_lines gs)) same_text (subst (λ es. AreLines es (types ++ (links ++ (requirements ++ [])))) same_lines first)
