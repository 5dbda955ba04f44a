-- Texts of lines one after another, with no empty line between them, and what they are read as.
use Rattle.std.proofs.Common.{◌≡◌, ℕ, ◌-◌, ◌<◌, ◌^◌, Bool, true, false, ◌&&◌, ◌||◌, ◌==◌, pos, List, [], ◌∷◌, ◌++◌, length, codes, decimal, Some, refl, sym, ap, ◌∙◌, subst, arith, append_assoc, length-append, ne_eqb, nat_lt, nat_le, ◌≤◌, ◌*◌}
use Rattle.std.proofs.lemmas.Bool.{and_parts, false≢true}
use Rattle.std.proofs.lemmas.Bool.Decides.{nat_tests}
use Rattle.std.proofs.lemmas.Fmt.{IsAscii-decimal, length-decimal-le}
use Rattle.std.proofs.lemmas.Str.{IsAscii-append}
use Rattle.std.proofs.lemmas.Str.Ascii.{IsAscii-nil, IsAscii-cons}
use Rattle.std.specs.List.{list_all, list_any}
use Rattle.std.specs.Str.{IsAscii}
use Rattle.toml_parser.specs.Lexical.{skip_blank, is_bare}
use Rattle.toml_parser.proofs.LexicalLemmas.{skip_from-nil}
use Rattle.toml_writer.specs.Text.{key_text, string_text, encoding_of, escaped, needs_escape, quotes_after, is_control, has}
use Rattle.toml.specs.Data.{Data, string, integer, depth, has_valid_dates}
use Rattle.toml.specs.Tables.{Document, Expression, define, key_value, array_table}
use Rattle.toml.specs.Parse.{line, lines}
use Rattle.toml.specs.Text.{IsLineText, IsValueText}
use Rattle.toml.proofs.Turns.{lines_end, lines_more}
use Rattle.toml.proofs.Blanks.{skip_newline, skip_within}
use Rattle.toml.proofs.ReadLines.{IsPrinted, line_turn}

-- the text has these expressions, each with a line to itself
abbrev pub HasLines : List Expression → List ℕ → Type 0
HasLines [] text = text ≡ []
HasLines (e ∷ es) text =
    (this : List ℕ) × (rest : List ℕ) × (text ≡ this ++ rest) × IsLineText false false e.0 e.1 this × IsPrinted e.0 e.1 × HasLines es rest

-- a document with these expressions, one after another, comes to another
abbrev pub ComesTo : Document → List Expression → Document → Type 0
ComesTo doc [] end = doc ≡ end
ComesTo doc (e ∷ es) end = (next : Document) × (define doc e ≡ Some next) × ComesTo next es end

pub comes_then : (es fs : List Expression) (doc mid end : Document) → ComesTo doc es mid → ComesTo mid fs end → ComesTo doc (es ++ fs) end
comes_then [] fs doc mid end h k = subst (λ d. ComesTo d fs end) (sym h) k
comes_then (e ∷ es) fs doc mid end h k = (h.0, h.1, comes_then es fs h.0 mid end h.2 k)

-- what follows blanks is read as the document that the lines come to
pub read_whole : (es : List Expression) (text x : List ℕ) (doc end : Document) (m : ℕ) → HasLines es text → ComesTo doc es end
    → skip_blank x ≡ skip_blank text → length x < m → lines m doc x ≡ Some end
read_whole [] text x doc end m h k skip room =
    lines_end m doc x (omega arith) (rw (skip, h, skip_from-nil true false) refl) ∙ ap Some k
read_whole (e ∷ es) text x doc end m h k skip room =
    let (this, rest, whole, line_text, printed, more) = h in
    let (s, at_start, read, some, shorter, other_byte) = line_turn false false e.0 e.1 this rest line_text printed in
    let same : skip_blank x ≡ s = skip ∙ ap skip_blank whole ∙ at_start in
    let not_empty : (length (skip_blank x) == 0) ≡ false = rw same (grind (arith, nat_tests)) in
    let front = skip_within x in
    lines_more m doc k.0 x e (10 ∷ rest) (omega arith) not_empty (ap line same ∙ read) k.1
    ∙ read_whole es rest (10 ∷ rest) k.0 end (m - 1) more k.2 (skip_newline rest) (omega (arith, ap length same))

-- ---- texts of known bytes

-- a byte that a text has between its quotes as it is
abbrev pub is_plain_byte : ℕ → Bool
is_plain_byte c = is_bare c || c == 46

-- a text of such bytes, of which a line has room for the length
pub record IsPlainText (s : List ℕ) : Type 0 where
  pub plain : list_all is_plain_byte s ≡ true
  pub short : length s ≤ 40

-- a key that is written as it is
abbrev pub is_plain_key : List ℕ → Bool
is_plain_key k = (nat_lt 0 (length k) && list_all is_bare k) && nat_le (length k) 20

plain_ascii : (s : List ℕ) → list_all is_plain_byte s ≡ true → IsAscii s
plain_ascii [] h = IsAscii-nil
plain_ascii (c ∷ cs) h =
    let (here, more) = and_parts (is_plain_byte c) (list_all is_plain_byte cs) h in
    IsAscii-cons c cs (grind (arith, nat_tests)) (plain_ascii cs more)

bare_ascii : (s : List ℕ) → list_all is_bare s ≡ true → IsAscii s
bare_ascii [] h = IsAscii-nil
bare_ascii (c ∷ cs) h =
    let (here, more) = and_parts (is_bare c) (list_all is_bare cs) h in
    IsAscii-cons c cs (grind (arith, nat_tests)) (bare_ascii cs more)

record IsKey (k : List ℕ) : Type 0 where
  same : key_text k ≡ k
  ascii : IsAscii k
  short : length k ≤ 20

key_facts : (k : List ℕ) → is_plain_key k ≡ true → IsKey k
unfolding key_text
key_facts k h =
    let (bare, short) = and_parts (nat_lt 0 (length k) && list_all is_bare k) (nat_le (length k) 20) h in
    let (some, all) = and_parts (nat_lt 0 (length k)) (list_all is_bare k) bare in
    record { same = rw bare refl; ascii = bare_ascii k all; short = grind (arith, nat_tests) }

no_control : (s : List ℕ) → list_all is_plain_byte s ≡ true → list_any is_control s ≡ false
no_control [] plain = refl
no_control (c ∷ cs) plain =
    let (here, more) = and_parts (is_plain_byte c) (list_all is_plain_byte cs) plain in
    let fine : is_control c ≡ false = grind (arith, nat_tests) in
    rw fine (no_control cs more)

has_none : (b : ℕ) (s : List ℕ) → is_plain_byte b ≡ false → list_all is_plain_byte s ≡ true → has b s ≡ false
has_none b [] other plain = refl
has_none b (c ∷ cs) other plain =
    let (here, more) = and_parts (is_plain_byte c) (list_all is_plain_byte cs) plain in
    let differ : (c == b) ≡ false = ne_eqb c b (λ e. false≢true (sym other ∙ ap is_plain_byte (sym e) ∙ here)) in
    rw differ (has_none b cs other more)

no_escape : (s : List ℕ) → list_all is_plain_byte s ≡ true → escaped false 0 s ≡ s
unfolding escaped needs_escape quotes_after
no_escape [] plain = refl
no_escape (c ∷ cs) plain =
    let (here, more) = and_parts (is_plain_byte c) (list_all is_plain_byte cs) plain in
    let fine : needs_escape false 0 c ≡ false = grind (arith, nat_tests) in
    let no_quote : (c == 34) ≡ false = grind (arith, nat_tests) in
    rw (fine, no_quote) (ap (λ t. c ∷ t) (no_escape cs more))

-- such a text stands between quotes
quoted_plain : (s : List ℕ) → list_all is_plain_byte s ≡ true → string_text s ≡ 34 ∷ (s ++ (34 ∷ []))
unfolding string_text encoding_of
quoted_plain s plain =
    rw (no_control s plain, has_none 92 s refl plain, has_none 34 s refl plain, has_none 10 s refl plain)
    (ap (λ t. 34 ∷ (t ++ (34 ∷ []))) (no_escape s plain))

-- ---- lines of three kinds, each before the text of the others

-- bytes that are written out
literal_ascii : (bs : List ℕ) → list_all (λ b. nat_lt b 128) bs ≡ true → IsAscii bs
literal_ascii [] h = IsAscii-nil
literal_ascii (b ∷ bs) h =
    let (here, more) = and_parts (nat_lt b 128) (list_all (λ c. nat_lt c 128) bs) h in
    IsAscii-cons b bs (grind (arith, nat_tests)) (literal_ascii bs more)

-- a text with these expressions, each with a line to itself: it is ASCII, and no line is long
pub record AreLines (es : List Expression) (text : List ℕ) : Type 0 where
  pub lines : HasLines es text
  pub ascii : IsAscii text
  pub short : length text ≤ 100 * length es

pub no_lines : AreLines [] []
no_lines = record { lines = refl; ascii = IsAscii-nil; short = omega arith }

-- an element of an array of tables begins
pub header_line : (k : List ℕ) (es : List Expression) (rest : List ℕ) → is_plain_key k ≡ true → AreLines es rest
    → AreLines ((([], k), array_table) ∷ es) (codes "[[" ++ (k ++ (codes "]]\n" ++ rest)))
header_line k es rest key h =
    let facts = key_facts k key in
    let whole : codes "[[" ++ (k ++ (codes "]]\n" ++ rest)) ≡ (codes "[[" ++ (key_text k ++ codes "]]\n")) ++ rest =
    rw facts.same (ap (λ t. codes "[[" ++ t) (sym (append_assoc k (codes "]]\n") rest))) in
    let end : IsAscii (codes "]]\n" ++ rest) = IsAscii-append (codes "]]\n") rest (literal_ascii (codes "]]\n") refl) h.ascii in
    record {
      lines = (codes "[[" ++ (key_text k ++ codes "]]\n"), rest, whole, refl, omega arith, h.lines);
      ascii = IsAscii-append (codes "[[") (k ++ (codes "]]\n" ++ rest)) (literal_ascii (codes "[[") refl) (IsAscii-append k (codes "]]\n" ++ rest) facts.ascii end);
      short = omega (arith, facts.short, h.short, length-append k (codes "]]\n" ++ rest));
    }

-- a key with a value
pair_line : (k v : List ℕ) (d : Data) (es : List Expression) (rest : List ℕ) → is_plain_key k ≡ true → IsValueText false d v → depth d ≡ 0 → has_valid_dates d ≡ true
    → IsAscii v → length v ≤ 50 → AreLines es rest → AreLines ((([], k), key_value d) ∷ es) (k ++ (codes " = " ++ (v ++ (10 ∷ rest))))
pair_line k v d es rest key text flat valid ascii short h =
    let facts = key_facts k key in
    let whole : k ++ (codes " = " ++ (v ++ (10 ∷ rest))) ≡ (key_text k ++ (codes " = " ++ (v ++ (10 ∷ [])))) ++ rest = rw facts.same (simp append_assoc refl) in
    let end : IsAscii (v ++ (10 ∷ rest)) = IsAscii-append v (10 ∷ rest) ascii (IsAscii-cons 10 rest (omega arith) h.ascii) in
    record {
      lines = (key_text k ++ (codes " = " ++ (v ++ (10 ∷ []))), rest, whole, (v, refl, text), (refl, omega (arith, flat), valid), h.lines);
      ascii = IsAscii-append k (codes " = " ++ (v ++ (10 ∷ rest))) facts.ascii (IsAscii-append (codes " = ") (v ++ (10 ∷ rest)) (literal_ascii (codes " = ") refl) end);
      short = omega (arith, facts.short, short, h.short, length-append k (codes " = " ++ (v ++ (10 ∷ rest))), length-append v (10 ∷ rest));
    }

-- a key with a text
pub text_line : (k s : List ℕ) (es : List Expression) (rest : List ℕ) → is_plain_key k ≡ true → IsPlainText s → AreLines es rest
    → AreLines ((([], k), key_value (string s)) ∷ es) (k ++ (codes " = \"" ++ (s ++ (codes "\"\n" ++ rest))))
text_line k s es rest key plain h =
    let value = quoted_plain s plain.plain in
    let ascii : IsAscii (34 ∷ (s ++ (34 ∷ []))) = IsAscii-cons 34 _ (omega arith) (IsAscii-append s (34 ∷ []) (plain_ascii s plain.plain) (literal_ascii (34 ∷ []) refl)) in
    let short : length (34 ∷ (s ++ (34 ∷ []))) ≤ 50 = omega (arith, plain.short, length-append s (34 ∷ [])) in
    let same : string_text s ++ (10 ∷ rest) ≡ 34 ∷ (s ++ (34 ∷ (10 ∷ rest))) = rw value (ap (λ t. 34 ∷ t) (append_assoc s (34 ∷ []) (10 ∷ rest))) in
    subst (λ t. AreLines ((([], k), key_value (string s)) ∷ es) (k ++ (codes " = " ++ t))) same
    (pair_line k (string_text s) (string s) es rest key refl refl refl (subst IsAscii (sym value) ascii) (subst (λ t. length t ≤ 50) (sym value) short) h)

-- a key with a number
pub number_line : (k v : List ℕ) (n : ℕ) (es : List Expression) (rest : List ℕ) → is_plain_key k ≡ true → v ≡ decimal n → n < 2 ^ 63 → AreLines es rest
    → AreLines ((([], k), key_value (integer (pos n))) ∷ es) (k ++ (codes " = " ++ (v ++ (codes "\n" ++ rest))))
number_line k v n es rest key text small h =
    let ascii : IsAscii (decimal n) = IsAscii-decimal n (omega (arith, small)) in
    let short : length (decimal n) ≤ 50 = length-decimal-le 50 n (omega arith) (omega (arith, small)) (omega (arith, small)) in
    pair_line k v (integer (pos n)) es rest key (text, record { sfits = small }) refl refl (subst IsAscii (sym text) ascii) (subst (λ t. length t ≤ 50) (sym text) short) h
