-- No row of a generated document repeats an earlier one.
use Rattle.std.proofs.Common.{◌≡◌, ℕ, ◌+◌, ◌-◌, ◌<◌, ◌≤◌, Bool, false, List, [], ◌∷◌, ◌++◌, length, take, Option, Some, codes, decimal, cond, refl, sym, ap, ◌∙◌, subst, arith, append_assoc, length-append, take_at}
use Rattle.std.proofs.lemmas.List.Elements.{filter_map-append}
use Rattle.std.proofs.lemmas.List.Folds.{list_any-append}
use Rattle.std.specs.List.{list_any, filter_map, flat_map, enumerate_from}
use Rattle.std.specs.Str.{bytes_eq}
use Rattle.toml.specs.Data.{Data}
use Rattle.lib_read.specs.declared.fault.LibClass.TheVariants.{Duplicate}
use Rattle.lib_read.specs.declared.fault.LibFault.{LibFault}
use Rattle.lib_read.specs.declared.fault.TableName.{TableName}
use Rattle.lib_read.specs.declared.fault.TableName.TheVariants.{Types, Links}
use Rattle.lib_read.specs.Tree.{text_at, rows_of}
use Rattle.lib_read.specs.Faults.{fault, is_repeat, repeat_faults, link_ends, same_ends, repeated_names, repeated_links}
use Rattle.generate.specs.Generated.{groups_from}
use Rattle.generated.proofs.Documents.{type_tables, link_tables}
use Rattle.generated.proofs.Rows.{document_of, types_rows, links_rows}
use Rattle.generated.proofs.Names.{other_decimal}

-- each row has a value that no earlier one has
abbrev AreNew : {X : Type 0} → (X → X → Bool) → (Data → Option X) → List X → List Data → Type 0
AreNew same value seen [] = Unit {0}
AreNew {X} same value seen (row ∷ rows) = (x : X) × (value row ≡ Some x) × (list_any (same x) seen ≡ false) × AreNew same value (seen ++ x ∷ []) rows

-- the fault of the row at a position of some rows, if it is a repeat
abbrev repeat_at : {X : Type 0} → (X → X → Bool) → (Data → Option X) → TableName → List ℕ → List Data → ℕ × Data → List LibFault
repeat_at same value t key rows p = cond (is_repeat same value (take (p.0 - 1) rows) p.1) (fault Duplicate t p.0 key ∷ []) []

none_repeats : {X : Type 0} (same : X → X → Bool) (value : Data → Option X) (t : TableName) (key : List ℕ) (whole front rows : List Data) (seen : List X)
    → whole ≡ front ++ rows → filter_map value front ≡ seen → AreNew same value seen rows
    → flat_map (repeat_at same value t key whole) (enumerate_from (length front + 1) rows) ≡ []
none_repeats same value t key whole front [] seen split values h = refl
none_repeats same value t key whole front (row ∷ rows) seen split values h =
    let (x, has, fresh, more) = h in
    let before : take (length front + 1 - 1) whole ≡ front = ap (take (length front + 1 - 1)) split ∙ take_at front (row ∷ rows) _ (omega arith) in
    let new : is_repeat same value (take (length front + 1 - 1) whole) row ≡ false = rw (before, has, values) fresh in
    let one : filter_map value (row ∷ []) ≡ x ∷ [] = rw has refl in
    let values_then : filter_map value (front ++ row ∷ []) ≡ seen ++ x ∷ [] = filter_map-append value front (row ∷ []) ∙ rw (values, one) refl in
    let place : length (front ++ row ∷ []) ≡ length front + 1 = length-append front (row ∷ []) in
    let rest = none_repeats same value t key whole (front ++ row ∷ []) rows (seen ++ x ∷ []) (split ∙ sym (append_assoc front (row ∷ []) rows)) values_then more in
    rw new (subst (λ n. flat_map (repeat_at same value t key whole) (enumerate_from (n + 1) rows) ≡ []) place rest)

table_differs : {X : Type 0} (same : X → X → Bool) (value : Data → Option X) (t : TableName) (key : List ℕ) (top : Data) (rows : List Data) → rows_of t top ≡ rows
    → AreNew same value [] rows → repeat_faults same value t key top ≡ []
table_differs same value t key top rows are h =
    ap (λ rs. flat_map (repeat_at same value t key rs) (enumerate_from 1 rs)) are ∙ none_repeats same value t key rows [] rows [] refl refl h

one_more : {X : Type 0} (p : X → Bool) (seen : List X) (x : X) → list_any p seen ≡ false → p x ≡ false → list_any p (seen ++ x ∷ []) ≡ false
one_more p seen x none other = rw (list_any-append p seen (x ∷ []), none, other) refl

-- ---- names

-- no name of a group from number i on is among some names
abbrev AreLater : ℕ → List (List ℕ) → Type 0
AreLater i seen = (j : ℕ) → i ≤ j → j < 16 → (list_any (bytes_eq (codes "s" ++ decimal j)) seen ≡ false) × (list_any (bytes_eq (codes "l" ++ decimal j)) seen ≡ false)

names_new : (words : List ℕ) (i : ℕ) (seen : List (List ℕ)) → i + length words ≤ 16 → AreLater i seen → AreNew bytes_eq (text_at (codes "name")) seen (type_tables (groups_from i words))
names_new [] i seen few later = tt
names_new (word ∷ words) i seen few later =
    let s = codes "s" ++ decimal i in
    let l = codes "l" ++ decimal i in
    let (source, sink) = later i (omega arith) (omega (arith, few)) in
    let next : AreLater (i + 1) ((seen ++ s ∷ []) ++ l ∷ []) = λ j low small.
    let (source_j, sink_j) = later j (omega (arith, low)) small in
    let differ = other_decimal i j (omega (arith, low)) small in
    (one_more _ (seen ++ s ∷ []) l (one_more _ seen s source_j differ) refl, one_more _ (seen ++ s ∷ []) l (one_more _ seen s sink_j refl) differ) in
    (s, refl, source, (l, refl, one_more _ seen s sink refl, names_new words (i + 1) _ (omega (arith, few)) next))

pub names_differ : (words : List ℕ) → length words ≤ 16 → repeated_names (document_of (groups_from 0 words)) ≡ []
names_differ words few =
    table_differs bytes_eq (text_at (codes "name")) Types (codes "name") (document_of (groups_from 0 words)) (type_tables (groups_from 0 words)) (types_rows (groups_from 0 words))
    (names_new words 0 [] (omega (arith, few)) (λ j low small. (refl, refl)))

-- ---- links

abbrev AreLaterEnds : ℕ → List (List ℕ × List ℕ) → Type 0
AreLaterEnds i seen = (j : ℕ) → i ≤ j → j < 16 → list_any (same_ends (codes "s" ++ decimal j, codes "l" ++ decimal j)) seen ≡ false

links_new : (words : List ℕ) (i : ℕ) (seen : List (List ℕ × List ℕ)) → i + length words ≤ 16 → AreLaterEnds i seen → AreNew same_ends link_ends seen (link_tables (groups_from i words))
links_new [] i seen few later = tt
links_new (word ∷ words) i seen few later =
    let pair : List ℕ × List ℕ = (codes "s" ++ decimal i, codes "l" ++ decimal i) in
    let next : AreLaterEnds (i + 1) (seen ++ pair ∷ []) = λ j low small.
    one_more _ seen pair (later j (omega (arith, low)) small) (rw (other_decimal i j (omega (arith, low)) small) refl) in
    (pair, refl, later i (omega arith) (omega (arith, few)), links_new words (i + 1) _ (omega (arith, few)) next)

pub links_differ : (words : List ℕ) → length words ≤ 16 → repeated_links (document_of (groups_from 0 words)) ≡ []
links_differ words few =
    table_differs same_ends link_ends Links (codes "to") (document_of (groups_from 0 words)) (link_tables (groups_from 0 words)) (links_rows (groups_from 0 words))
    (links_new words 0 [] (omega (arith, few)) (λ j low small. refl))
