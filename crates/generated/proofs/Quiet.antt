-- No row of a generated document has a fault of its own.
use Rattle.std.proofs.Common.{◌≡◌, ℕ, suc, ◌+◌, ◌<◌, ◌≤◌, true, nat_le, le-leb, pos, List, [], ◌∷◌, map, length, decimal, refl, ap, ◌∙◌, arith}
use Rattle.std.proofs.lemmas.Bool.Decides.{nat_tests}
use Rattle.std.proofs.lemmas.Fmt.{decimal_is_IsNumeral, length-decimal-le}
use Rattle.std.specs.List.{list_all, flat_map, enumerate_from, AllByRecursion}
use Rattle.std.specs.Str.Parse.{AllDigits}
use Rattle.toml.specs.Data.{Data}
use Rattle.arch_model.specs.Name.{is_lower, is_name_byte}
use Rattle.lib_read.specs.declared.fault.LibClass.{LibClass}
use Rattle.lib_read.specs.declared.fault.LibClass.TheVariants.{UnknownKey, MissingKey, WrongKind, BadName, UnknownName, Range}
use Rattle.lib_read.specs.declared.fault.TableName.{TableName}
use Rattle.lib_read.specs.declared.fault.TableName.TheVariants.{Library, Types, Links, Requires}
use Rattle.lib_read.specs.Tree.{rows_of}
use Rattle.lib_read.specs.Components.{component_names}
use Rattle.lib_read.specs.Schema.{table_keys, is_type_name, is_named, is_sink, is_between}
use Rattle.lib_read.specs.Faults.{faulty_keys, row_faults, table_faults, class_faults, plain_faults}
use Rattle.lib_read.proofs.LeastLemmas.{all_weaker}
use Rattle.lib_read.proofs.ListFacts.{all_flat, all_mapped}
use Rattle.generate.specs.declared.group.Group.{Group}
use Rattle.generated.specs.GeneratedLibrary.{source_name, sink_name}
use Rattle.generated.proofs.GroupLines.{IsGroup, required_name}
use Rattle.generated.proofs.Documents.{data_of, source_nodes, sink_nodes, link_nodes, requirement_nodes, type_nodes, type_tables, link_tables, requirement_tables}
use Rattle.generated.proofs.Rows.{document_of, types_rows, links_rows, requires_rows}

-- a row has no key with a fault of a class
abbrev pub HasNone : Data → List (List ℕ) → LibClass → TableName → Data → Type 0
HasNone top names class t row = faulty_keys top names class (table_keys t row) row ≡ []

rows_quiet : (top : Data) (names : List (List ℕ)) (class : LibClass) (t : TableName) (n : ℕ) (rows : List Data) → AllByRecursion (HasNone top names class t) rows
    → flat_map (λ p. row_faults top names class t p.0 p.1) (enumerate_from n rows) ≡ []
rows_quiet top names class t n [] h = refl
rows_quiet top names class t n (row ∷ rows) h = rw h.0 (rows_quiet top names class t (n + 1) rows h.1)

table_quiet : (top : Data) (names : List (List ℕ)) (class : LibClass) (t : TableName) (rows : List Data) → rows_of t top ≡ rows → AllByRecursion (HasNone top names class t) rows
    → table_faults names class t top ≡ []
table_quiet top names class t rows same h =
    ap (λ rs. flat_map (λ p. row_faults top names class t p.0 p.1) (enumerate_from 1 rs)) same ∙ rows_quiet top names class t 1 rows h

-- the rows of a group have no fault of a class
record GroupQuiet (top : Data) (names : List (List ℕ)) (class : LibClass) (g : Group) : Type 0 where
  source : HasNone top names class Types (data_of (source_nodes g))
  sink : HasNone top names class Types (data_of (sink_nodes g))
  link : HasNone top names class Links (data_of (link_nodes g))
  requirement : HasNone top names class Requires (data_of (requirement_nodes g))

every : (P : Group → Type 0) → ((g : Group) → P g) → (gs : List Group) → AllByRecursion P gs
every P h [] = tt
every P h (g ∷ gs) = (h g, every P h gs)

class_quiet : (gs : List Group) (names : List (List ℕ)) (class : LibClass) → row_faults (document_of gs) names class Library 0 (document_of gs) ≡ []
    → AllByRecursion (GroupQuiet (document_of gs) names class) gs → class_faults names class (document_of gs) ≡ []
class_quiet gs names class own all =
    let top = document_of gs in
    let Q = GroupQuiet top names class in
    let types = table_quiet top names class Types (type_tables gs) (types_rows gs) (all_flat Q (HasNone top names class Types) (λ g. map data_of (type_nodes g)) (λ g h. (h.source, (h.sink, tt))) gs all) in
    let links = table_quiet top names class Links (link_tables gs) (links_rows gs)
    (all_mapped (HasNone top names class Links) (λ g. data_of (link_nodes g)) gs (all_weaker Q (λ g. HasNone top names class Links (data_of (link_nodes g))) (λ g h. h.link) gs all)) in
    let requirements = table_quiet top names class Requires (requirement_tables gs) (requires_rows gs)
    (all_mapped (HasNone top names class Requires) (λ g. data_of (requirement_nodes g)) gs
    (all_weaker Q (λ g. HasNone top names class Requires (data_of (requirement_nodes g))) (λ g h. h.requirement) gs all)) in
    rw (own, types, links, requirements) refl

-- ---- class by class

unknown_keys_quiet : (gs : List Group) → class_faults [] UnknownKey (document_of gs) ≡ []
unknown_keys_quiet gs = class_quiet gs [] UnknownKey refl (every _ (λ g. record { source = refl; sink = refl; link = refl; requirement = refl }) gs)

missing_keys_quiet : (gs : List Group) → class_faults [] MissingKey (document_of gs) ≡ []
missing_keys_quiet gs = class_quiet gs [] MissingKey refl (every _ (λ g. record { source = refl; sink = refl; link = refl; requirement = refl }) gs)

kinds_quiet : (gs : List Group) → class_faults [] WrongKind (document_of gs) ≡ []
kinds_quiet gs = class_quiet gs [] WrongKind refl (every _ (λ g. record { source = refl; sink = refl; link = refl; requirement = refl }) gs)

-- the names are of the form
digits_named : (ds : List ℕ) → AllDigits 10 ds → list_all is_name_byte ds ≡ true
digits_named [] h = refl
digits_named (c ∷ cs) h =
    let here : is_name_byte c ≡ true = grind (arith, nat_tests) in
    rw here (digits_named cs h.1)

letter_then : (c n : ℕ) → n < 16 → is_lower c ≡ true → is_type_name (c ∷ decimal n) ≡ true
letter_then c n small lower =
    let digits = digits_named (decimal n) (decimal_is_IsNumeral n (omega arith)).0.1 in
    let short : nat_le (suc (length (decimal n))) 24 ≡ true = le-leb _ _ (omega (arith, length-decimal-le 2 n (omega arith) (omega arith) (omega arith))) in
    rw (lower, digits, short) refl

names_quiet : (gs : List Group) → AllByRecursion IsGroup gs → class_faults [] BadName (document_of gs) ≡ []
names_quiet gs fit =
    class_quiet gs [] BadName refl (all_weaker IsGroup _ (λ g h. record {
      source = rw (letter_then 115 g.number h.number refl) refl;
      sink = rw (letter_then 108 g.number h.number refl) refl;
      link = refl;
      requirement = refl;
    }) gs fit)

pub plain_quiet : (gs : List Group) → AllByRecursion IsGroup gs → plain_faults (document_of gs) ≡ []
plain_quiet gs fit = rw (unknown_keys_quiet gs, missing_keys_quiet gs, kinds_quiet gs, names_quiet gs fit) refl

-- what a group names is there
pub record IsNamed (top : Data) (names : List (List ℕ)) (g : Group) : Type 0 where
  pub source : is_named names (source_name g) ≡ true
  pub sink : is_named names (sink_name g) ≡ true
  pub component : is_named (component_names top) (required_name g) ≡ true
  pub role : is_sink top (required_name g) ≡ true

pub unknown_names_quiet : (gs : List Group) (names : List (List ℕ)) → AllByRecursion (IsNamed (document_of gs) names) gs → class_faults names UnknownName (document_of gs) ≡ []
unknown_names_quiet gs names named =
    class_quiet gs names UnknownName refl (all_weaker (IsNamed (document_of gs) names) _ (λ g h. record {
      source = refl;
      sink = refl;
      link = rw (h.source, h.sink) refl;
      requirement = rw h.component refl;
    }) gs named)

between : (n high : ℕ) → n ≤ high → is_between 0 high (pos n) ≡ true
between n high h = rw (le-leb 0 n (omega arith), le-leb n high h) refl

pub ranges_quiet : (gs : List Group) (names : List (List ℕ)) → AllByRecursion (λ g. IsGroup g × IsNamed (document_of gs) names g) gs → class_faults names Range (document_of gs) ≡ []
ranges_quiet gs names all =
    class_quiet gs names Range refl (all_weaker (λ g. IsGroup g × IsNamed (document_of gs) names g) _ (λ g h. record {
      source = rw (between g.cost 1000000000000 (omega (arith, h.0.cost))) refl;
      sink = refl;
      link = refl;
      requirement = rw (between g.bound 1000000000000000000 (omega (arith, h.0.bound)), h.1.role) refl;
    }) gs all)
