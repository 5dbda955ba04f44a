-- The rows of a document without a fault make a library.
use Rattle.std.proofs.Common.{◌≡◌, ◌≢◌, codes, ℕ, ◌+◌, ◌-◌, ◌^◌, ◌<◌, ◌≤◌, Bool, true, false, cond, nat_lt, List, [], ◌∷◌, ◌++◌, map, take, length, get_or, Option, Some, None, IfSome, refl, sym, ap, subst, ◌∙◌, arith}
use Rattle.std.specs.Option.{option_map_or, IsSomeAnd}
use Rattle.std.specs.List.{slice_get, All, AllPairs, AllByRecursion, list_any, filter_map, flat_map, enumerate_from, range_with_len, count_by}
use Rattle.std.specs.Str.{bytes_eq}
use Rattle.std.specs.Cmp.Lexicographic.{bytes_decides}
use Rattle.std.proofs.lemmas.List.{get_or-map, get_or-take, length-take-le, length-map, length-append}
use Rattle.std.proofs.lemmas.List.Sums.{sum_by-append, count_by-le-length}
use Rattle.toml.specs.Data.{Data, boolean}
use Rattle.toml.specs.View.{view}
use Rattle.toml.specs.declared.value.Value.{Value}
use Rattle.arch_model.specs.declared.limits.TheConstants.{COMPONENTS, EDGES, FAILING}
use Rattle.arch_model.specs.declared.template.Component.{Component}
use Rattle.arch_model.specs.declared.template.Edge.{Edge}
use Rattle.arch_model.specs.declared.template.Role.TheVariants.{Sink}
use Rattle.arch_model.specs.declared.library.TypeRow.{TypeRow}
use Rattle.arch_model.specs.declared.library.LinkRow.{LinkRow}
use Rattle.arch_model.specs.declared.library.Pattern.{Pattern}
use Rattle.arch_model.specs.declared.library.Requirement.{Requirement}
use Rattle.arch_model.specs.Parts.{TemplateParts, LibraryParts}
use Rattle.arch_model.specs.Library.{IsTypeRow, IsLinkRow, IsPatternRow, IsLibrary, library_parts}
use Rattle.arch_model.specs.Template.{template_of, components_of, edges_of, edges_of_link, instances_of, instances_of_type}
use Rattle.arch_model.specs.Member.{fails_of}
use Rattle.lib_read.specs.declared.fault.LibClass.{LibClass}
use Rattle.lib_read.specs.declared.fault.LibClass.TheVariants.{UnknownKey, MissingKey, WrongKind, BadName, Duplicate, UnknownName, Range}
use Rattle.lib_read.specs.declared.fault.TableName.{TableName}
use Rattle.lib_read.specs.declared.fault.TableName.TheVariants.{Library, Types, Links, Patterns, Requires}
use Rattle.lib_read.specs.Tree.{text_at, rows_of}
use Rattle.lib_read.specs.Schema.{table_keys}
use Rattle.lib_read.specs.Faults.{fault, faulty_keys, row_faults, table_faults, class_faults, is_repeat, repeat_faults, repeated_names, repeated_links, link_ends, same_ends, plain_faults, judged_faults}
use Rattle.lib_read.specs.Components.{instance_names, component_names}
use Rattle.template.specs.Names.{instance_name}
use Rattle.lib_read.specs.Rows.{type_names, type_row, link_row, pattern_row, requirement_row, types_of, links_of, patterns_of, requirements_of, library_of_tree}
use Rattle.lib_read.specs.Inner.Building.{PatternFits}
use Rattle.template.proofs.Numbers.{length-types-le}
use Rattle.template.proofs.NameLaws.{instance_at}
use Rattle.lib_read.proofs.ListFacts.{append_nil, map_nil, one_nil, flat_map_nil, all_index, all_rec, all_mapped, all_some, all_flat, all_of_map, values_all, length-values-le, none_passes}
use Rattle.lib_read.proofs.CleanRows.{CleanType, CleanLink, CleanPattern, CleanRequirement, clean_type, clean_link, clean_pattern, clean_requirement}
use Rattle.lib_read.proofs.SinkLemmas.{sink_fits}

-- the parts of a list of faults without any
pub record Judged (top : Data) : Type 0 where
  pub missing : class_faults [] MissingKey top ≡ []
  pub kind : class_faults [] WrongKind top ≡ []
  pub bad : class_faults [] BadName top ≡ []
  pub names : repeated_names top ≡ []
  pub links : repeated_links top ≡ []
  pub unknown : class_faults (type_names top) UnknownName top ≡ []
  pub range : class_faults (type_names top) Range top ≡ []

pub judged_parts : (top : Data) → judged_faults top ≡ [] → Judged top
judged_parts top e =
    let whole = append_nil (plain_faults top) (repeated_names top ++ (repeated_links top ++ (class_faults (type_names top) UnknownName top ++ class_faults (type_names top) Range top))) e in
    let keys = append_nil (class_faults [] UnknownKey top) (class_faults [] MissingKey top ++ (class_faults [] WrongKind top ++ class_faults [] BadName top)) whole.0 in
    let missing = append_nil (class_faults [] MissingKey top) (class_faults [] WrongKind top ++ class_faults [] BadName top) keys.1 in
    let kind = append_nil (class_faults [] WrongKind top) (class_faults [] BadName top) missing.1 in
    let names = append_nil (repeated_names top) (repeated_links top ++ (class_faults (type_names top) UnknownName top ++ class_faults (type_names top) Range top)) whole.1 in
    let links = append_nil (repeated_links top) (class_faults (type_names top) UnknownName top ++ class_faults (type_names top) Range top) names.1 in
    let last = append_nil (class_faults (type_names top) UnknownName top) (class_faults (type_names top) Range top) links.1 in
    record { missing = missing.0; kind = kind.0; bad = kind.1; names = names.0; links = links.0; unknown = last.0; range = last.1 }

-- each row of a table without a fault of a class
abbrev pub RowsClear : List (List ℕ) → LibClass → TableName → Data → Type 0
RowsClear names class t top = All (λ row. faulty_keys top names class (table_keys t row) row ≡ []) (rows_of t top)

rows_clear : (names : List (List ℕ)) (class : LibClass) (t : TableName) (top : Data) → table_faults names class t top ≡ [] → RowsClear names class t top
rows_clear names class t top e = λ i d here.
    map_nil (fault class t (1 + i)) (faulty_keys top names class (table_keys t (get_or (rows_of t top) i d)) (get_or (rows_of t top) i d))
    (flat_map_nil (λ p. row_faults top names class t p.0 p.1) 1 (rows_of t top) e i d here)

pub record TablesClear (names : List (List ℕ)) (class : LibClass) (top : Data) : Type 0 where
  pub types : RowsClear names class Types top
  pub links : RowsClear names class Links top
  pub patterns : RowsClear names class Patterns top
  pub requirements : RowsClear names class Requires top

tables_clear : (names : List (List ℕ)) (class : LibClass) (top : Data) → class_faults names class top ≡ [] → TablesClear names class top
tables_clear names class top e =
    let after_links = table_faults names class Patterns top ++ table_faults names class Requires top in
    let after_types = table_faults names class Links top ++ after_links in
    let parts = append_nil (row_faults top names class Library 0 top) (table_faults names class Types top ++ after_types) e in
    let types = append_nil (table_faults names class Types top) after_types parts.1 in
    let links = append_nil (table_faults names class Links top) after_links types.1 in
    let patterns = append_nil (table_faults names class Patterns top) (table_faults names class Requires top) links.1 in
    record {
      types = rows_clear names class Types top types.0;
      links = rows_clear names class Links top links.0;
      patterns = rows_clear names class Patterns top patterns.0;
      requirements = rows_clear names class Requires top patterns.1;
    }

pub clean_types : (top : Data) → Judged top → All CleanType (rows_of Types top)
clean_types top j = λ i d here.
    clean_type top (type_names top) (get_or (rows_of Types top) i d) ((tables_clear [] MissingKey top j.missing).types i d here) ((tables_clear [] WrongKind top j.kind).types i d here)
    ((tables_clear [] BadName top j.bad).types i d here) ((tables_clear (type_names top) Range top j.range).types i d here)

pub clean_links : (top : Data) → Judged top → All (CleanLink (type_names top)) (rows_of Links top)
clean_links top j = λ i d here.
    clean_link top (type_names top) (get_or (rows_of Links top) i d) ((tables_clear [] MissingKey top j.missing).links i d here) ((tables_clear [] WrongKind top j.kind).links i d here)
    ((tables_clear (type_names top) UnknownName top j.unknown).links i d here) ((tables_clear (type_names top) Range top j.range).links i d here)

pub clean_patterns : (top : Data) → Judged top → All (CleanPattern top (type_names top)) (rows_of Patterns top)
clean_patterns top j = λ i d here.
    clean_pattern top (type_names top) (get_or (rows_of Patterns top) i d) ((tables_clear [] MissingKey top j.missing).patterns i d here) ((tables_clear [] WrongKind top j.kind).patterns i d here)
    ((tables_clear (type_names top) UnknownName top j.unknown).patterns i d here) ((tables_clear (type_names top) Range top j.range).patterns i d here)

pub clean_requirements : (top : Data) → Judged top → All (CleanRequirement top) (rows_of Requires top)
clean_requirements top j = λ i d here.
    clean_requirement top (type_names top) (get_or (rows_of Requires top) i d) ((tables_clear [] MissingKey top j.missing).requirements i d here) ((tables_clear [] WrongKind top j.kind).requirements i d here)
    ((tables_clear (type_names top) UnknownName top j.unknown).requirements i d here) ((tables_clear (type_names top) Range top j.range).requirements i d here)

-- a fact of each row, as one of what is made of it
pub made : {Y : Type 0} (P : Y → Type 0) (f : Data → Y) (rs : List Data) → All (λ row. P (f row)) rs → All P (map f rs)
made P f rs h = all_index P (map f rs) (all_mapped P f rs (all_rec (λ row. P (f row)) rs h))

pub types_fit : (top : Data) → Judged top → All IsTypeRow (types_of top)
types_fit top j = made IsTypeRow type_row (rows_of Types top) (λ i d here. (clean_types top j i d here).fits)

-- the types' names are those of their rows
abbrev name_of : Data → List ℕ
name_of row = (type_row row).name

pub names_are : (top : Data) → Judged top → type_names top ≡ map name_of (rows_of Types top)
names_are top j = values_all (text_at (codes "name")) name_of (rows_of Types top) (all_rec (λ row. Some (name_of row) ≡ text_at (codes "name") row) (rows_of Types top) (λ i d here. (clean_types top j i d here).named))

pub names_count : (top : Data) → Judged top → length (type_names top) ≡ length (types_of top)
names_count top j = ap length (names_are top j) ∙ length-map (rows_of Types top) name_of ∙ sym (length-map (rows_of Types top) type_row)

pub links_fit : (top : Data) → Judged top → All (IsLinkRow (length (types_of top))) (links_of top)
links_fit top j =
    subst (λ n. All (IsLinkRow n) (links_of top)) (names_count top j)
    (made (IsLinkRow (length (type_names top))) (link_row (type_names top)) (rows_of Links top) (λ i d here. (clean_links top j i d here).fits))

-- as many names of components as components
made_many : (f : ℕ × TypeRow → List Component) (k : ℕ) (rs : List Data) → ((p : ℕ × TypeRow) → length (f p) ≡ length (range_with_len 1 p.1.max)) → length (flat_map instance_names rs) ≡ length (flat_map f (enumerate_from k (map type_row rs)))
made_many f k [] each = refl
made_many f k (row ∷ rs) each =
    let rest = made_many f (k + 1) rs each in
    omega (
      arith,
      length-append (instance_names row) (flat_map instance_names rs),
      length-append (f (k, type_row row)) (flat_map f (enumerate_from (k + 1) (map type_row rs))),
      length-map (range_with_len 1 (type_row row).max) (instance_name (type_row row).name),
      each (k, type_row row),
      rest,
    )

pub as_many : (top : Data) → length (component_names top) ≡ length (components_of (types_of top))
as_many top = made_many (λ p. instances_of_type p.0 p.1) 0 (rows_of Types top) (λ p. length-map (range_with_len 1 p.1.max) (instance_at p.0 p.1))

pub patterns_fit : (top : Data) → Judged top → All (IsPatternRow (length (types_of top)) (length (components_of (types_of top)))) (patterns_of top)
patterns_fit top j =
    subst (λ k. All (IsPatternRow (length (types_of top)) k) (patterns_of top)) (as_many top)
    (subst (λ k. All (IsPatternRow k (length (component_names top))) (patterns_of top)) (names_count top j)
    (all_index (IsPatternRow (length (type_names top)) (length (component_names top))) (patterns_of top)
    (all_some (IsPatternRow (length (type_names top)) (length (component_names top))) (pattern_row (type_names top) (component_names top)) (rows_of Patterns top)
    (all_rec (λ row. IfSome (pattern_row (type_names top) (component_names top) row) (IsPatternRow (length (type_names top)) (length (component_names top)))) (rows_of Patterns top) (λ i d here. (clean_patterns top j i d here).row_fits)))))

pub sinks_fit : (top : Data) → Judged top → All (λ r. IsSomeAnd (slice_get (components_of (types_of top)) r.sink.0) (λ row. row.role ≡ Sink)) (requirements_of top)
sinks_fit top j = made (λ r. IsSomeAnd (slice_get (components_of (types_of top)) r.sink.0) (λ row. row.role ≡ Sink)) (requirement_row (component_names top)) (rows_of Requires top)
    (λ i d here. sink_fits top (get_or (rows_of Requires top) i d) (clean_requirements top j i d here) (as_many top))

pub bounds_fit : (top : Data) → Judged top → All (λ r. r.bound ≤ 10 ^ 18) (requirements_of top)
bounds_fit top j = made (λ r. r.bound ≤ 10 ^ 18) (requirement_row (component_names top)) (rows_of Requires top) (λ i d here. (clean_requirements top j i d here).bound)

pub pattern_rows_fit : (top : Data) → Judged top → All PatternFits (rows_of Patterns top)
pattern_rows_fit top j = λ i d here. (clean_patterns top j i d here).fits

-- no row has the value of an earlier one
not_repeated : {X : Type 0} (same : X → X → Bool) (value : Data → Option X) (t : TableName) (key : List ℕ) (top : Data) → repeat_faults same value t key top ≡ []
    → (i : ℕ) (d : Data) → i < length (rows_of t top) → is_repeat same value (take i (rows_of t top)) (get_or (rows_of t top) i d) ≡ false
not_repeated same value t key top e i d here =
    let n : 1 + i - 1 ≡ i = omega arith in
    one_nil (is_repeat same value (take i (rows_of t top)) (get_or (rows_of t top) i d)) (fault Duplicate t (1 + i) key)
    (ap (λ k. cond (is_repeat same value (take k (rows_of t top)) (get_or (rows_of t top) i d)) (fault Duplicate t (1 + i) key ∷ []) []) (sym n)
    ∙ flat_map_nil (λ p. cond (is_repeat same value (take (p.0 - 1) (rows_of t top)) p.1) (fault Duplicate t p.0 key ∷ []) []) 1 (rows_of t top) e i d here)

absent_before : {X : Type 0} (same : X → X → Bool) (o : Option X) (x : X) (seen : List X) → Some x ≡ o → option_map_or (λ y. list_any (same y) seen) o false ≡ false → list_any (same x) seen ≡ false
absent_before same None x seen is e = absurd (cc)
absent_before same (Some y) x seen is e = let it : x ≡ y = cc in ap (λ z. list_any (same z) seen) it ∙ e

values_front : {X : Type 0} (value : Data → Option X) (f : Data → X) (rs : List Data) (j : ℕ) → All (λ row. Some (f row) ≡ value row) rs → j ≤ length rs → filter_map value (take j rs) ≡ map f (take j rs)
values_front value f rs j h le =
    values_all value f (take j rs) (all_rec (λ row. Some (f row) ≡ value row) (take j rs)
    (λ i d here. let small : i < j = omega (arith, length-take-le j rs le) in subst (λ row. Some (f row) ≡ value row) (sym (get_or-take j rs i d small)) (h i d (omega arith))))

pub all_differ : {X : Type 0} (same : X → X → Bool) (value : Data → Option X) (f : Data → X) (t : TableName) (key : List ℕ) (top : Data) → repeat_faults same value t key top ≡ [] → All (λ row. Some (f row) ≡ value row) (rows_of t top)
    → (i j : ℕ) (d : Data) → i < j → j < length (rows_of t top) → same (f (get_or (rows_of t top) j d)) (f (get_or (rows_of t top) i d)) ≡ false
all_differ same value f t key top clear h i j d below here =
    let rs = rows_of t top in
    let le : j ≤ length rs = omega arith in
    let seen = ap (λ l. list_any (same (f (get_or rs j d))) l) (values_front value f rs j h le) in
    let none = absent_before same (value (get_or rs j d)) (f (get_or rs j d)) (filter_map value (take j rs)) (h j d here) (not_repeated same value t key top clear j d here) in
    let within : i < length (take j rs) = omega (arith, length-take-le j rs le) in
    let mapped : i < length (map f (take j rs)) = omega (arith, length-map (take j rs) f) in
    ap (λ x. same (f (get_or rs j d)) x) (ap f (sym (get_or-take j rs i d below)) ∙ sym (get_or-map f (take j rs) i d (f d) within))
    ∙ none_passes (same (f (get_or rs j d))) (map f (take j rs)) (sym seen ∙ none) i (f d) mapped

-- each two of what is made of the rows
pub made_pairs : {Y : Type 0} (R : Y → Y → Type 0) (f : Data → Y) (rs : List Data) → ((i j : ℕ) (d : Data) → i < j → j < length rs → R (f (get_or rs i d)) (f (get_or rs j d))) → AllPairs R (map f rs)
made_pairs R f rs h i j e below here =
    let d : Data = boolean false in
    let last : j < length rs = omega (arith, length-map rs f) in
    let first : i < length rs = omega arith in
    subst (λ x. R x (get_or (map f rs) j e)) (sym (get_or-map f rs i d e first)) (subst (R (f (get_or rs i d))) (sym (get_or-map f rs j d e last)) (h i j d below last))

apart : (a b : List ℕ) → bytes_eq b a ≡ false → a ≢ b
apart a b e same = let yes : bytes_eq b a ≡ true = (bytes_decides b a).1 (sym same) in absurd (cc)

pub names_differ : (top : Data) → Judged top → AllPairs (λ a b. a.name ≢ b.name) (types_of top)
names_differ top j = made_pairs (λ a b. a.name ≢ b.name) type_row (rows_of Types top)
    (λ i k d below here. apart (name_of (get_or (rows_of Types top) i d)) (name_of (get_or (rows_of Types top) k d))
    (all_differ bytes_eq (text_at (codes "name")) name_of Types (codes "name") top j.names (λ n e lt. (clean_types top j n e lt).named) i k d below here))

-- the names of a link's two types
abbrev ends_of : List (List ℕ) → LinkRow → List ℕ × List ℕ
ends_of names link = (get_or names link.from [], get_or names link.to [])

pairs_apart : (names : List (List ℕ)) (a b : LinkRow) → same_ends (ends_of names b) (ends_of names a) ≡ false → a.from ≡ b.from → a.to ≢ b.to
pairs_apart names a b e from to =
    let f : bytes_eq (get_or names b.from []) (get_or names a.from []) ≡ true = (bytes_decides _ _).1 (ap (λ n. get_or names n []) (sym from)) in
    let g : bytes_eq (get_or names b.to []) (get_or names a.to []) ≡ true = (bytes_decides _ _).1 (ap (λ n. get_or names n []) (sym to)) in
    let both : same_ends (ends_of names b) (ends_of names a) ≡ true = rw (f, g) in
    absurd (cc)

pub links_differ : (top : Data) → Judged top → AllPairs (λ a b. a.from ≡ b.from → a.to ≢ b.to) (links_of top)
links_differ top j = made_pairs (λ a b. a.from ≡ b.from → a.to ≢ b.to) (link_row (type_names top)) (rows_of Links top)
    (λ i k d below here. pairs_apart (type_names top) (link_row (type_names top) (get_or (rows_of Links top) i d)) (link_row (type_names top) (get_or (rows_of Links top) k d))
    (all_differ same_ends link_ends (λ row. ends_of (type_names top) (link_row (type_names top) row)) Links (codes "to") top j.links (λ n e lt. (clean_links top j n e lt).ends) i k d below here))

-- no edge fails, so at most the components do
edges_hold : (components : List Component) (link : LinkRow) → link.fail ≡ 0 → AllByRecursion (λ e. e.fail ≡ 0) (edges_of_link components link)
edges_hold components link none =
    all_flat (λ _. Unit {0}) (λ e. e.fail ≡ 0) _ (λ tail _. all_of_map (λ e. e.fail ≡ 0) _ (λ head. none) _) (instances_of components link.from) (every (instances_of components link.from))
  where
    every : (xs : List ℕ) → AllByRecursion (λ _. Unit {0}) xs
    every [] = tt
    every (x ∷ xs) = (tt, every xs)

no_fails : (es : List Edge) → AllByRecursion (λ e. e.fail ≡ 0) es → count_by (λ p. nat_lt 0 p) (map (λ e. e.fail) es) ≡ 0
no_fails [] h = refl
no_fails (e ∷ es) h = rw h.0 (no_fails es h.1)

pub few_fail : (lib : LibraryParts) → length lib.components ≤ COMPONENTS → AllByRecursion (λ e. e.fail ≡ 0) lib.edges → count_by (λ p. nat_lt 0 p) (fails_of lib) ≤ FAILING
few_fail lib few none =
    let both = sum_by-append (λ p. cond (nat_lt 0 p) 1 0) (map (λ c. c.fail) lib.components) (map (λ e. e.fail) lib.edges) in
    omega (arith, both, no_fails lib.edges none, count_by-le-length (λ p. nat_lt 0 p) (map (λ c. c.fail) lib.components), length-map lib.components (λ c. c.fail))

pub is_library : (top : Data) → Judged top → length (components_of (types_of top)) ≤ COMPONENTS → length (edges_of (components_of (types_of top)) (links_of top)) ≤ EDGES → length (rows_of Patterns top) ≤ 200 → length (rows_of Requires top) ≤ 16 → IsLibrary (library_of_tree top)
is_library top j components edges patterns requirements = record {
  types = types_fit top j;
  names = names_differ top j;
  links = links_fit top j;
  pairs = links_differ top j;
  components = refl;
  edges = refl;
  patterns = patterns_fit top j;
  sinks = sinks_fit top j;
  bounds = bounds_fit top j;
  few_components = components;
  few_edges = edges;
  few_patterns = omega (arith, length-values-le (pattern_row (type_names top) (component_names top)) (rows_of Patterns top));
  few_requirements = omega (arith, length-map (rows_of Requires top) (requirement_row (component_names top)));
  few_failing = few_fail (library_of_tree top) components
      (all_flat (λ link. link.fail ≡ 0) (λ e. e.fail ≡ 0) (edges_of_link (components_of (types_of top))) (edges_hold (components_of (types_of top))) (links_of top) (all_of_map (λ link. link.fail ≡ 0) (link_row (type_names top)) (λ row. refl) (rows_of Links top)));
}

-- a fact of each row, at the value that a loop is at
pub row_of : (P : Data → Type 0) (vs : List Value) (rs : List Data) → map view vs ≡ rs → All P rs → (i : ℕ) (v : Value) → i < length vs → v ≡ get_or vs i v → P (view v)
row_of P vs rs e h i v here is =
    let within : i < length rs = omega (arith, length-map vs view, ap length e) in
    subst (λ x. P (view x)) (sym is) (subst P (get_or-map view vs i v (view v) here) (subst (λ l. P (get_or l i (view v))) (sym e) (h i (view v) within)))

pub row_of_made : {Y : Type 0} (P : Y → Type 0) (f : Data → Y) (vs : List Value) (rs : List Data) → map view vs ≡ rs → All P (map f rs) → (i : ℕ) (v : Value) → i < length vs → v ≡ get_or vs i v → P (f (view v))
row_of_made P f vs rs e h = row_of (λ row. P (f row)) vs rs e
    (λ i d here. let within : i < length (map f rs) = omega (arith, length-map rs f) in subst P (get_or-map f rs i d (f d) here) (h i (f d) within))

pub few_names : (top : Data) → Judged top → length (components_of (types_of top)) ≤ COMPONENTS → length (type_names top) ≤ 64
few_names top j few = omega (arith, names_count top j, length-types-le (types_of top) (types_fit top j))

-- types with a number of 32 bits each
pub few_types : (types : List TypeRow) (top : Data) → Judged top → types ≡ types_of top → length (components_of (types_of top)) ≤ COMPONENTS → length types ≤ 2 ^ 32
few_types types top j same few = omega (arith, ap length same, length-types-le (types_of top) (types_fit top j))

-- the parts of the library, as they were read
pub parts_are : (top : Data) (types : List TypeRow) (links : List LinkRow) (template : TemplateParts) (patterns : List Pattern) (requirements : List Requirement)
    → types ≡ types_of top → links ≡ links_of top → template ≡ template_of types links → patterns ≡ patterns_of top → requirements ≡ requirements_of top → library_parts types links template patterns requirements ≡ library_of_tree top
parts_are top types links template patterns requirements t l m p r =
    let whole : template ≡ template_of (types_of top) (links_of top) = rw (← t, ← l) m in
    rw (whole, t, l, p, r)
