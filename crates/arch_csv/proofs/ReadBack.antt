-- The text of an architecture reads back as the architecture.
use Rattle.std.proofs.Common.{◌≡◌, ◌+◌, ◌*◌, ◌<◌, ◌≤◌, ℕ, zero, suc, Bool, true, false, ◌||◌, nat_eq, List, [], ◌∷◌, ◌++◌, if◌then◌else◌, map, filter, length, get_or, Some, None, Ok, option_map, codes, refl, sym, ap, subst, ◌∙◌, arith, append_assoc, inl, inr}
use Rattle.std.specs.Prelude.{IsTrue}
use Rattle.std.specs.List.{AllByRecursion, filter_map, flat_map, fold, list_any, range_with_len}
use Rattle.std.specs.Option.{option_to_list, ok_or}
use Rattle.std.proofs.lemmas.Bool.{cases_Bool, cases_lt}
use Rattle.std.proofs.lemmas.Bool.Decides.{nat_tests, eqb_tells}
use Rattle.std.proofs.lemmas.List.{append-nil, length-append}
use Rattle.std.proofs.lemmas.List.Elements.{recursion_from_All}
use Rattle.std.proofs.lemmas.Option.{slice_get-get_or}
use Rattle.csv.specs.Machine.{next_record}
use Rattle.csv.specs.Reading.{Reached, default_config, records, strip_bom}
use Rattle.csv.specs.Writing.{default_writer, field_text, fields_text, is_blank, needs_byte, read_back, row_text}
use Rattle.csv.specs.declared.parser.State.TheVariants as st
use Rattle.csv.proofs.RoundTrip.{read-write, rows_text}
use Rattle.arch_model.specs.Set.{Set, has, empty, put, members_below}
use Rattle.arch_model.specs.Parts.{LibraryParts, ArchitectureParts}
use Rattle.arch_model.specs.Library.{IsLibrary}
use Rattle.arch_model.specs.Architecture.{IsArchitecture, present_edges}
use Rattle.arch_model.specs.declared.limits.TheConstants.{COMPONENTS, EDGES}
use Rattle.arch_model.specs.declared.sets.EdgeId.{EdgeId}
use Rattle.arch_model.specs.declared.template.Edge.{Edge as EdgeRow}
use Rattle.arch_model.proofs.Ranges.{blank_edge, edge_heads, edge_tails}
use Rattle.arch_model.proofs.Vectors.{chosen_at}
use Rattle.arch_model.proofs.SetLaws.{has-empty, has-put, same_set}
use Rattle.template.specs.Names.{component_name}
use Rattle.arch_csv.specs.declared.fault.ArchClass.TheVariants.{UnknownName, MissingEnd}
use Rattle.arch_csv.specs.declared.item.Item.{Item}
use Rattle.arch_csv.specs.declared.item.Item.TheVariants.{Component, Edge}
use Rattle.arch_csv.specs.Records.{Record, item_of, item_named, edge_named}
use Rattle.arch_csv.specs.ArchitectureOf.{architecture_of_bytes, architecture_of_records, edge_only, edge_records, fault_after, fault_at, faults_after, has_ends, has_item, members_of, nothing, records_of, with_item}
use Rattle.arch_csv.specs.Text.{architecture_text, component_line, edge_line}
use Rattle.arch_csv.proofs.ReadingFacts.{records_end}
use Rattle.arch_csv.proofs.FaultLemmas.{clear_more, edges_more, members_more}
use Rattle.arch_csv.proofs.DraftLemmas.{later_fault}
use Rattle.arch_csv.proofs.PlainNames.{IsPlain, names_are_plain, names_are_short}
use Rattle.arch_csv.proofs.Naming.{joined_by, named_here}
use Rattle.arch_csv.proofs.RecordsRead.{within}
use Rattle.arch_csv.proofs.TextLaws.{all_members, edge_line_is}

-- the records of an architecture's file
abbrev header_row : Record
header_row = codes "kind" ∷ codes "from" ∷ codes "to" ∷ []

abbrev component_row : LibraryParts → ℕ → Record
component_row lib c = codes "component" ∷ component_name lib c ∷ [] ∷ []

abbrev edge_row : LibraryParts → ℕ → Record
edge_row lib e = codes "edge" ∷ component_name lib (get_or lib.edges e blank_edge).tail.0 ∷ component_name lib (get_or lib.edges e blank_edge).head.0 ∷ []

abbrev rows_of : LibraryParts → ArchitectureParts → List Record
rows_of lib arch = header_row ∷ (map (component_row lib) (members_below arch.comps COMPONENTS) ++ map (edge_row lib) (members_below arch.edges EDGES))

-- text and records

plain_byte : (b : ℕ) → IsPlain b → needs_byte default_writer b ≡ false
plain_byte b h = grind (arith, nat_tests)

plain_text : (f : List ℕ) → AllByRecursion IsPlain f → list_any (needs_byte default_writer) f ≡ false
plain_text [] h = refl
plain_text (b ∷ f) h = let here = plain_byte b h.0 in rw here (plain_text f h.1)

plain_field : (f : List ℕ) → AllByRecursion IsPlain f → field_text default_writer f ≡ f
plain_field f h = rw (plain_text f h) refl

component_text : (lib : LibraryParts) → IsLibrary lib → (c : ℕ) → c < length lib.components → row_text default_writer (component_row lib c) ≡ component_line lib c
unfolding is_blank fields_text
component_text lib h c short =
    let name = component_name lib c in
    let plain = plain_field name (names_are_plain lib h c short) in
    rw plain (ap (λ t. codes "component," ++ t) (append_assoc name (44 ∷ []) (10 ∷ [])))

row_is : (k a b : List ℕ) → field_text default_writer k ≡ k → field_text default_writer a ≡ a → field_text default_writer b ≡ b
    → row_text default_writer (k ∷ a ∷ b ∷ []) ≡ k ++ (44 ∷ (a ++ (44 ∷ (b ++ (10 ∷ [])))))
unfolding is_blank fields_text
row_is k a b x y z = rw (x, y, z) (append_assoc k (44 ∷ (a ++ (44 ∷ (b ++ [])))) (10 ∷ [])
    ∙ ap (λ t. k ++ (44 ∷ t)) (append_assoc a (44 ∷ (b ++ [])) (10 ∷ []) ∙ ap (λ t. a ++ (44 ∷ t)) (append_assoc b [] (10 ∷ []))))

edge_form : (tail head : List ℕ) → codes "edge," ++ (tail ++ (44 ∷ (head ++ (10 ∷ [])))) ≡ codes "edge," ++ tail ++ codes "," ++ head ++ codes "\n"
edge_form tail head = ap (λ t. codes "edge," ++ t) (sym (append_assoc (tail ++ 44 ∷ []) head (10 ∷ []) ∙ append_assoc tail (44 ∷ []) (head ++ 10 ∷ [])))

edge_text : (lib : LibraryParts) → IsLibrary lib → (e : ℕ) → e < length lib.edges → row_text default_writer (edge_row lib e) ≡ edge_line lib e
edge_text lib h e short =
    let edge = get_or lib.edges e blank_edge in
    let tail = component_name lib edge.tail.0 in
    let head = component_name lib edge.head.0 in
    let first = plain_field tail (names_are_plain lib h edge.tail.0 (edge_tails lib h e blank_edge short)) in
    let second = plain_field head (names_are_plain lib h edge.head.0 (edge_heads lib h e blank_edge short)) in
    row_is (codes "edge") tail head refl first second ∙ edge_form tail head ∙ sym (edge_line_is lib e lib.edges refl short)

-- the text of rows, where each has its line
rows_lines : (row line : ℕ → _) (P : ℕ → Type 0) → ((k : ℕ) → P k → row_text default_writer (row k) ≡ line k) → (ks : List ℕ) → AllByRecursion P ks → (more : List Record)
    → rows_text (map row ks ++ more) ≡ flat_map line ks ++ rows_text more
unfolding rows_text
rows_lines row line P each [] h more = refl
rows_lines row line P each (k ∷ ks) h more =
    ap (λ t. t ++ rows_text (map row ks ++ more)) (each k h.0) ∙ ap (λ t. line k ++ t) (rows_lines row line P each ks h.1 more) ∙ sym (append_assoc (line k) (flat_map line ks) (rows_text more))

-- each row reads back as itself, and the text of rows as the rows
rows_reached : (rows : List Record) → AllByRecursion (λ row. read_back row ≡ row) rows → Reached default_config st.StartRecord (rows_text rows) rows st.StartRecord []
unfolding Reached rows_text
rows_reached [] h = (refl, refl)
rows_reached (row ∷ rows) h = ((read_back row, st.StartRecord, rows_text rows), read-write row (rows_text rows), sym h.0, rows_reached rows h.1)

records_of_rows : (rows : List Record) → AllByRecursion (λ row. read_back row ≡ row) rows → records default_config (rows_text rows) ≡ rows
unfolding next_record
records_of_rows rows h = records_end (rows_text rows) rows st.StartRecord [] (rows_reached rows h) refl

all_rows : (row : ℕ → Record) (ks : List ℕ) (more : List Record) → ((k : ℕ) → read_back (row k) ≡ row k) → AllByRecursion (λ r. read_back r ≡ r) more → AllByRecursion (λ r. read_back r ≡ r) (map row ks ++ more)
all_rows row [] more each h = h
all_rows row (k ∷ ks) more each h = (each k, all_rows row ks more each h)

-- the text is that of the rows
text_is : (lib : LibraryParts) (arch : ArchitectureParts) → IsLibrary lib → IsArchitecture lib arch → architecture_text lib arch ≡ rows_text (rows_of lib arch)
unfolding rows_text is_blank fields_text
text_is lib arch h fits =
    let comps = members_below arch.comps COMPONENTS in
    let edges = members_below arch.edges EDGES in
    let last = rows_lines (edge_row lib) (edge_line lib) (λ e. e < length lib.edges) (edge_text lib h) edges (all_members arch.edges EDGES (λ e. e < length lib.edges) fits.edges) [] in
    let first = rows_lines (component_row lib) (component_line lib) (λ c. c < length lib.components) (component_text lib h) comps (all_members arch.comps COMPONENTS (λ c. c < length lib.components) fits.comps) (map (edge_row lib) edges) in
    let whole : rows_text (map (component_row lib) comps ++ map (edge_row lib) edges) ≡ flat_map (component_line lib) comps ++ flat_map (edge_line lib) edges =
    first ∙ ap (λ t. flat_map (component_line lib) comps ++ t) (ap rows_text (sym (append-nil (map (edge_row lib) edges))) ∙ last ∙ append-nil (flat_map (edge_line lib) edges)) in
    sym (ap (λ t. codes "kind,from,to\n" ++ t) whole)

records_are : (lib : LibraryParts) (arch : ArchitectureParts) → IsLibrary lib → IsArchitecture lib arch → records_of (architecture_text lib arch) ≡ rows_of lib arch
unfolding strip_bom
records_are lib arch h fits =
    let edges : AllByRecursion (λ (r : Record). read_back r ≡ r) (map (edge_row lib) (members_below arch.edges EDGES)) = subst (AllByRecursion (λ (r : Record). read_back r ≡ r)) (append-nil (map (edge_row lib) (members_below arch.edges EDGES))) (all_rows (edge_row lib) (members_below arch.edges EDGES) [] (λ e. refl) tt) in
    let each : AllByRecursion (λ (r : Record). read_back r ≡ r) (rows_of lib arch) = (refl, all_rows (component_row lib) (members_below arch.comps COMPONENTS) (map (edge_row lib) (members_below arch.edges EDGES)) (λ c. refl) edges) in
    ap (records default_config) (text_is lib arch h fits) ∙ records_of_rows (rows_of lib arch) each

-- what the rows name

component_named_so : (lib : LibraryParts) → IsLibrary lib → (c : ℕ) → c < length lib.components → item_of lib (component_row lib c) ≡ Ok (Component (record { 0 = c }))
unfolding item_named
component_named_so lib h c short = ap (λ o. ok_or (option_map (λ k. Component (record { 0 = k })) o) UnknownName) (named_here lib h c short)

edge_named_so : (lib : LibraryParts) → IsLibrary lib → (e : ℕ) → e < length lib.edges → item_of lib (edge_row lib e) ≡ Ok (Edge (record { 0 = e }))
unfolding item_named
edge_named_so lib h e short =
    let edge = get_or lib.edges e blank_edge in
    let first = named_here lib h edge.tail.0 (edge_tails lib h e blank_edge short) in
    let second = named_here lib h edge.head.0 (edge_heads lib h e blank_edge short) in
    let found : edge_named lib (component_name lib edge.tail.0) (component_name lib edge.head.0) ≡ Some e = rw (first, second) (joined_by lib h e short) in
    ap (λ o. ok_or (option_map (λ k. Edge (record { 0 = k })) o) UnknownName) found

-- rows without a fault, what they name, and the edges among it
record Reads (lib : LibraryParts) (edges : Set) (rows : List Record) (arch : ArchitectureParts) : Type 0 where
  some : 0 < length rows
  clear : faults_after lib [] rows ≡ []
  members : members_of lib rows ≡ arch
  chosen : AllByRecursion (λ p. has edges p.1.0 ≡ true) (edge_records lib rows)

also : {X : Type 0} (P : X → Type 0) (xs ys : List X) → AllByRecursion P xs → AllByRecursion P ys → AllByRecursion P (xs ++ ys)
also P [] ys h k = k
also P (x ∷ xs) ys h k = (h.0, also P xs ys h.1 k)

-- a row that names what isn't there yet
reads_more : (lib : LibraryParts) (edges : Set) (rows : List Record) (arch : ArchitectureParts) (row : Record) (item : Item) → Reads lib edges rows arch → item_of lib row ≡ Ok item → has_item arch item ≡ false
    → AllByRecursion (λ p. has edges p.1.0 ≡ true) (option_to_list (edge_only (length rows + 1) (Ok item))) → Reads lib edges (rows ++ row ∷ []) (with_item arch item)
reads_more lib edges rows arch row item h is fresh chosen =
    let fine : fault_after lib rows row ≡ None = later_fault lib rows row h.some ∙ rw (h.members, is, fresh) refl in
    let fits : AllByRecursion (λ (p : ℕ × EdgeId). has edges p.1.0 ≡ true) (edge_records lib rows ++ option_to_list (edge_only (length rows + 1) (item_of lib row))) = also (λ (p : ℕ × EdgeId). has edges p.1.0 ≡ true) (edge_records lib rows) (option_to_list (edge_only (length rows + 1) (item_of lib row))) h.chosen (rw is chosen) in
    record {
      some = omega (arith, length-append rows (row ∷ []));
      clear = clear_more lib rows row h.clear fine;
      members = members_more lib rows row item is ∙ ap (λ a. with_item a item) h.members;
      chosen = subst (AllByRecursion (λ (p : ℕ × EdgeId). has edges p.1.0 ≡ true)) (sym (edges_more lib rows row)) fits;
    }

-- the members of a set from a place on, put in
abbrev filled : Set → Set → ℕ → ℕ → Set
filled s t a n = fold put t (filter (has s) (range_with_len a n))

later_free : (t : Set) (a : ℕ) → ((k : ℕ) → a ≤ k → has t k ≡ false) → (k : ℕ) → a + 1 ≤ k → has (put t a) k ≡ false
later_free t a free k low = has-put t a k ∙ rw (free k (omega arith)) (apart a k (omega arith))
  where
    apart : (a k : ℕ) → a < k → nat_eq a k ≡ false
    apart a k order = elim (eqb_tells a k) [ inl w ↦ absurd (omega (arith, w.1)) | inr w ↦ w.0 ]

components_read : (lib : LibraryParts) → IsLibrary lib → (edges s : Set) → ((k : ℕ) → has s k ≡ true → k < length lib.components) → (n a : ℕ) (rows : List Record) (arch : ArchitectureParts) → Reads lib edges rows arch
    → ((k : ℕ) → a ≤ k → has arch.comps k ≡ false) → Reads lib edges (rows ++ map (component_row lib) (filter (has s) (range_with_len a n))) (record { comps = filled s arch.comps a n; edges = arch.edges })
components_read lib h edges s within zero a rows arch reads free = subst (λ rs. Reads lib edges rs arch) (sym (append-nil rows)) reads
components_read lib h edges s within (suc n) a rows arch reads free = elim (cases_Bool (has s a)) [
  | inl on ↦
      let one = reads_more lib edges rows arch (component_row lib a) (Component (record { 0 = a })) reads (component_named_so lib h a (within a on)) (free a (omega arith)) tt in
      let rest = components_read lib h edges s within n (a + 1) (rows ++ component_row lib a ∷ []) (record { comps = put arch.comps a; edges = arch.edges }) one (later_free arch.comps a free) in
      rw on (subst (λ rs. Reads lib edges rs (record { comps = filled s (put arch.comps a) (a + 1) n; edges = arch.edges })) (append_assoc rows (component_row lib a ∷ []) (map (component_row lib) (filter (has s) (range_with_len (a + 1) n)))) rest)
  | inr off ↦ rw off (components_read lib h edges s within n (a + 1) rows arch reads (λ k low. free k (omega arith)))
]

edges_read : (lib : LibraryParts) → IsLibrary lib → (s : Set) → ((k : ℕ) → has s k ≡ true → k < length lib.edges) → (n a : ℕ) (rows : List Record) (arch : ArchitectureParts) → Reads lib s rows arch
    → ((k : ℕ) → a ≤ k → has arch.edges k ≡ false) → Reads lib s (rows ++ map (edge_row lib) (filter (has s) (range_with_len a n))) (record { comps = arch.comps; edges = filled s arch.edges a n })
edges_read lib h s within zero a rows arch reads free = subst (λ rs. Reads lib s rs arch) (sym (append-nil rows)) reads
edges_read lib h s within (suc n) a rows arch reads free = elim (cases_Bool (has s a)) [
  | inl on ↦
      let one = reads_more lib s rows arch (edge_row lib a) (Edge (record { 0 = a })) reads (edge_named_so lib h a (within a on)) (free a (omega arith)) (on, tt) in
      let rest = edges_read lib h s within n (a + 1) (rows ++ edge_row lib a ∷ []) (record { comps = arch.comps; edges = put arch.edges a }) one (later_free arch.edges a free) in
      rw on (subst (λ rs. Reads lib s rs (record { comps = arch.comps; edges = filled s (put arch.edges a) (a + 1) n })) (append_assoc rows (edge_row lib a ∷ []) (map (edge_row lib) (filter (has s) (range_with_len (a + 1) n)))) rest)
  | inr off ↦ rw off (edges_read lib h s within n (a + 1) rows arch reads (λ k low. free k (omega arith)))
]

-- a set is its members, put in one by one
there_now : (b : Bool) → (b || true) ≡ true
there_now true = refl
there_now false = refl

as_before : (b : Bool) → (b || false) ≡ b
as_before true = refl
as_before false = refl

grown : (s t : Set) (a : ℕ) → ((k : ℕ) → k < a → has t k ≡ has s k) → has s a ≡ true → (k : ℕ) → k < a + 1 → has (put t a) k ≡ has s k
grown s t a same on k low = elim (eqb_tells a k) [
  | inl w ↦ has-put t a k ∙ rw w.0 (there_now (has t k)) ∙ sym on ∙ ap (has s) w.1
  | inr w ↦ let below : k < a = omega (arith, w.1) in has-put t a k ∙ rw w.0 (as_before (has t k)) ∙ same k below
]

kept : (s t : Set) (a : ℕ) → ((k : ℕ) → k < a → has t k ≡ has s k) → ((k : ℕ) → a ≤ k → has t k ≡ false) → has s a ≡ false → (k : ℕ) → k < a + 1 → has t k ≡ has s k
kept s t a same free off k low = elim (eqb_tells a k) [
  | inl w ↦ free k (omega (arith, w.1)) ∙ sym off ∙ ap (has s) w.1
  | inr w ↦ let below : k < a = omega (arith, w.1) in same k below
]

filled_below : (s t : Set) (n a : ℕ) → ((k : ℕ) → k < a → has t k ≡ has s k) → ((k : ℕ) → a ≤ k → has t k ≡ false) → (k : ℕ) → k < a + n → has (filled s t a n) k ≡ has s k
filled_below s t zero a same free k low = same k (omega arith)
filled_below s t (suc n) a same free k low = elim (cases_Bool (has s a)) [
  | inl on ↦ rw on (filled_below s (put t a) n (a + 1) (grown s t a same on) (later_free t a free) k (omega arith))
  | inr off ↦ rw off (filled_below s t n (a + 1) (kept s t a same free off) (λ j low. free j (omega arith)) k (omega arith))
]

filled_after : (s t : Set) (n a : ℕ) → ((k : ℕ) → a ≤ k → has t k ≡ false) → (k : ℕ) → a + n ≤ k → has (filled s t a n) k ≡ false
filled_after s t zero a free k low = free k (omega arith)
filled_after s t (suc n) a free k low = elim (cases_Bool (has s a)) [
  | inl on ↦ rw on (filled_after s (put t a) n (a + 1) (later_free t a free) k (omega arith))
  | inr off ↦ rw off (filled_after s t n (a + 1) (λ j low. free j (omega arith)) k (omega arith))
]

whole_set : (s : Set) (n : ℕ) → ((k : ℕ) → has s k ≡ true → k < n) → filled s empty 0 n ≡ s
whole_set s n within = same_set (filled s empty 0 n) s (λ k. elim (cases_lt k n) [
  | inl low ↦ filled_below s empty n 0 (λ j none. absurd (omega arith)) (λ j low. has-empty j) k (omega arith)
  | inr high ↦ filled_after s empty n 0 (λ j low. has-empty j) k (omega arith) ∙ sym (not_there (has s k) (λ on. let low = within k on in omega arith))
])
  where
    not_there : (b : Bool) → (b ≡ true → ⊥) → b ≡ false
    not_there true none = absurd (none refl)
    not_there false none = refl

-- what holds of the ends of the edges of an architecture

has_both : (lib : LibraryParts) (arch : ArchitectureParts) → IsArchitecture lib arch → (e : EdgeId) → has arch.edges e.0 ≡ true → has_ends lib arch e ≡ true
has_both lib arch fits e on =
    let short = fits.edges e.0 on in
    let same : 0 + e.0 ≡ e.0 = omega arith in
    let there : has arch.edges (0 + e.0) ≡ true = ap (has arch.edges) same ∙ on in
    let tail = chosen_at (λ (x : EdgeRow). IsTrue (has arch.comps x.tail.0)) (has arch.edges) blank_edge 0 lib.edges (recursion_from_All (λ (x : EdgeRow). IsTrue (has arch.comps x.tail.0)) (present_edges lib arch) fits.tails) e.0 short there in
    let head = chosen_at (λ (x : EdgeRow). IsTrue (has arch.comps x.head.0)) (has arch.edges) blank_edge 0 lib.edges (recursion_from_All (λ (x : EdgeRow). IsTrue (has arch.comps x.head.0)) (present_edges lib arch) fits.heads) e.0 short there in
    rw (slice_get-get_or lib.edges e.0 blank_edge short) (rw (tail, head) refl)

no_end_missing : (lib : LibraryParts) (arch : ArchitectureParts) → IsArchitecture lib arch → (es : List (ℕ × EdgeId)) → AllByRecursion (λ p. has arch.edges p.1.0 ≡ true) es
    → filter_map (λ (p : ℕ × EdgeId). if has_ends lib arch p.1 then None else Some (fault_at p.0 MissingEnd)) es ≡ []
no_end_missing lib arch fits [] h = refl
no_end_missing lib arch fits (p ∷ es) h = let both = has_both lib arch fits p.1 h.0 in rw both (no_end_missing lib arch fits es h.1)

-- the header alone
header_reads : (lib : LibraryParts) (edges : Set) → Reads lib edges (header_row ∷ []) nothing
unfolding faults_after members_of edge_records item_named
header_reads lib edges = record { some = omega arith; clear = refl; members = refl; chosen = tt }

-- the rows of an architecture are it
rows_read : (lib : LibraryParts) (arch : ArchitectureParts) → IsLibrary lib → IsArchitecture lib arch → architecture_of_records lib (rows_of lib arch) ≡ Ok arch
unfolding architecture_of_records members_below
rows_read lib arch h fits =
    let first = components_read lib h arch.edges arch.comps fits.comps COMPONENTS 0 (header_row ∷ []) nothing (header_reads lib arch.edges) (λ k low. has-empty k) in
    let rest = edges_read lib h arch.edges fits.edges EDGES 0 (header_row ∷ map (component_row lib) (members_below arch.comps COMPONENTS)) (record { comps = filled arch.comps empty 0 COMPONENTS; edges = empty }) first (λ k low. has-empty k) in
    let comps = whole_set arch.comps COMPONENTS (λ k on. let low = fits.comps k on in omega (arith, low, h.few_components)) in
    let edges = whole_set arch.edges EDGES (λ k on. let low = fits.edges k on in omega (arith, low, h.few_edges)) in
    let members : members_of lib (rows_of lib arch) ≡ arch = rest.members ∙ (λ i. record { comps = comps i; edges = edges i }) in
    rw (rest.clear, members, no_end_missing lib arch fits (edge_records lib (rows_of lib arch)) rest.chosen) refl

-- the text is short

lines_short : (f : ℕ → List ℕ) (m : ℕ) (P : ℕ → Type 0) → ((k : ℕ) → P k → length (f k) ≤ m) → (ks : List ℕ) → AllByRecursion P ks → length (flat_map f ks) ≤ length ks * m
lines_short f m P each [] h = omega arith
lines_short f m P each (k ∷ ks) h =
    let here = each k h.0 in
    let rest = lines_short f m P each ks h.1 in
    omega (arith, length-append (f k) (flat_map f ks))

component_short : (lib : LibraryParts) → IsLibrary lib → (c : ℕ) → c < length lib.components → length (component_line lib c) ≤ 61
component_short lib h c short =
    let name = component_name lib c in
    let whole : length (component_line lib c) ≡ 10 + (length name + 2) = length-append (codes "component,") (name ++ codes ",\n") ∙ ap (λ n. 10 + n) (length-append name (codes ",\n")) in
    omega (arith, whole, names_are_short lib h c short)

edge_length : (tail head : List ℕ) → length (codes "edge," ++ tail ++ codes "," ++ head ++ codes "\n") ≡ 5 + (length tail + suc (length head + 1))
edge_length tail head =
    ap length (sym (edge_form tail head)) ∙ length-append (codes "edge,") (tail ++ (44 ∷ (head ++ (10 ∷ []))))
    ∙ ap (λ n. 5 + n) (length-append tail (44 ∷ (head ++ (10 ∷ []))) ∙ ap (λ n. length tail + suc n) (length-append head (10 ∷ [])))

edge_short : (lib : LibraryParts) → IsLibrary lib → (e : ℕ) → e < length lib.edges → length (edge_line lib e) ≤ 61
edge_short lib h e short =
    let edge = get_or lib.edges e blank_edge in
    let tail = component_name lib edge.tail.0 in
    let head = component_name lib edge.head.0 in
    let whole = ap length (edge_line_is lib e lib.edges refl short) ∙ edge_length tail head in
    omega (arith, whole, names_are_short lib h edge.tail.0 (edge_tails lib h e blank_edge short), names_are_short lib h edge.head.0 (edge_heads lib h e blank_edge short))

few_members : (s : Set) (n a : ℕ) → length (filter (has s) (range_with_len a n)) ≤ n
few_members s zero a = omega arith
few_members s (suc n) a = elim (cases_Bool (has s a)) [
  | inl on ↦ let rest = few_members s n (a + 1) in rw on (omega (arith, rest))
  | inr off ↦ let rest = few_members s n (a + 1) in rw off (omega (arith, rest))
]

text_short : (lib : LibraryParts) (arch : ArchitectureParts) → IsLibrary lib → IsArchitecture lib arch → length (architecture_text lib arch) ≤ 1048576
unfolding members_below
text_short lib arch h fits =
    let a = flat_map (component_line lib) (members_below arch.comps COMPONENTS) in
    let b = flat_map (edge_line lib) (members_below arch.edges EDGES) in
    let whole : length (architecture_text lib arch) ≡ 13 + (length a + length b) = length-append (codes "kind,from,to\n") (a ++ b) ∙ ap (λ n. 13 + n) (length-append a b) in
    let first = lines_short (component_line lib) 61 (λ c. c < length lib.components) (component_short lib h) (members_below arch.comps COMPONENTS) (all_members arch.comps COMPONENTS (λ c. c < length lib.components) fits.comps) in
    let second = lines_short (edge_line lib) 61 (λ e. e < length lib.edges) (edge_short lib h) (members_below arch.edges EDGES) (all_members arch.edges EDGES (λ e. e < length lib.edges) fits.edges) in
    let few : length (members_below arch.comps COMPONENTS) ≤ 64 = few_members arch.comps 64 0 in
    let fewer : length (members_below arch.edges EDGES) ≤ 512 = few_members arch.edges 512 0 in
    omega (arith, whole, first, second, few, fewer)

-- what is written reads back
pub reads_back : (lib : LibraryParts) (arch : ArchitectureParts) → IsLibrary lib → IsArchitecture lib arch → architecture_of_bytes lib (architecture_text lib arch) ≡ Ok arch
reads_back lib arch h fits =
    within lib (architecture_text lib arch) (text_short lib arch h fits) ∙ ap (architecture_of_records lib) (records_are lib arch h fits) ∙ rows_read lib arch h fits
