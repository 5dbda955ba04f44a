-- What is known after one more record.
use Rattle.std.proofs.Common.{◌≡◌, ◌+◌, ◌<◌, ◌≤◌, ℕ, true, false, if◌then◌else◌, List, [], ◌∷◌, ◌++◌, length, get_or, Some, None, Result, Ok, Err, codes, refl, sym, ap, subst, ◌∙◌, arith, inl, inr}
use Rattle.std.proofs.lemmas.Bool.{cases_Bool}
use Rattle.std.proofs.lemmas.List.{append-nil, length-append}
use Rattle.std.proofs.lemmas.Slice.Eq.{bytes_eq-Decides}
use Rattle.std.specs.List.{All, enumerate_from, filter_map, cons_option}
use Rattle.std.specs.Option.{option_to_list}
use Rattle.std.proofs.lemmas.List.Elements.{All-nil, All-cons}
use Rattle.std.specs.Str.{bytes_eq}
use Rattle.arch_model.specs.Set.{empty}
use Rattle.arch_model.specs.Parts.{LibraryParts, ArchitectureParts}
use Rattle.arch_model.specs.declared.limits.TheConstants.{COMPONENTS, EDGES}
use Rattle.arch_model.specs.Library.{IsLibrary}
use Rattle.arch_model.specs.declared.sets.EdgeId.{EdgeId}
use Rattle.arch_csv.specs.declared.fault.ArchClass.{ArchClass}
use Rattle.arch_csv.specs.declared.fault.ArchClass.TheVariants.{Fields, Kind, MissingEnd}
use Rattle.arch_csv.specs.declared.fault.ArchFault.{ArchFault}
use Rattle.arch_csv.specs.declared.item.Item.{Item}
use Rattle.arch_csv.specs.declared.item.Item.TheVariants.{Component, Edge}
use Rattle.arch_csv.specs.declared.draft.Draft.{Draft}
use Rattle.arch_csv.specs.Records.{Record, item_of, item_named, header_fault}
use Rattle.arch_csv.specs.ArchitectureOf.{added, architecture_of_records, class_of, edge_only, edge_records, fault_after, fault_at, faults_after, has_ends, has_item, members_of, no_record, unless_faulty, with_item}
use Rattle.arch_csv.specs.Inner.Draft.{EndsThere, IsDraft, IsItem, draft_members, edges_of_item}
use Rattle.arch_csv.proofs.FaultLemmas.{clear_more, members_more, members_same, edges_more, first_kept, none_kept}
use Rattle.arch_csv.proofs.Naming.{item_within}

-- no record, and nothing in it
pub empty_draft : (lib : LibraryParts) (draft : Draft) → draft.records ≡ 0 → draft.comps ≡ empty → draft.edges ≡ empty → draft.edge_records.items ≡ [] → IsDraft lib [] draft
unfolding members_of edge_records faults_after
empty_draft lib draft none comps edges items = record { records = none; members = λ i. record { comps = comps i; edges = edges i }; edge_records = items; clear = refl }

-- without records there is none before
pub no_rows : (rows : List Record) → length rows ≡ 0 → rows ≡ []
no_rows [] e = refl
no_rows (row ∷ rows) e = absurd (omega arith)

-- a text that is one word isn't another
differs : (text word other : List ℕ) → bytes_eq text word ≡ true → bytes_eq word other ≡ false → bytes_eq text other ≡ false
differs text word other same apart = ap (λ t. bytes_eq t other) ((bytes_eq-Decides text word).0 same) ∙ apart

-- a header names nothing
pub header_names_nothing : (lib : LibraryParts) (row : Record) → header_fault row ≡ None → item_of lib row ≡ Err Kind
unfolding item_named
header_names_nothing lib [] e = absurd (cc)
header_names_nothing lib (a ∷ []) e = absurd (cc)
header_names_nothing lib (a ∷ b ∷ []) e = absurd (cc)
header_names_nothing lib (a ∷ b ∷ c ∷ d ∷ more) e = absurd (cc)
header_names_nothing lib (a ∷ b ∷ c ∷ []) e = elim (cases_Bool (bytes_eq a (codes "kind"))) [
  | inl same ↦
      rw (differs a (codes "kind") (codes "component") same refl, differs a (codes "kind") (codes "edge") same refl) refl
  | inr other ↦ let h = rw other at e in absurd (cc)
]

-- the header was taken
pub header_taken : (lib : LibraryParts) (rows : List Record) (row : Record) (old new : Draft) → IsDraft lib rows old → old.records ≡ 0 → header_fault row ≡ None
    → new.records ≡ 1 → draft_members new ≡ draft_members old → new.edge_records.items ≡ old.edge_records.items → IsDraft lib (rows ++ row ∷ []) new
header_taken lib rows row old new before none fine one members items =
    let nothing = header_names_nothing lib row fine in
    let empty : rows ≡ [] = no_rows rows (sym before.records ∙ none) in
    let first : fault_after lib rows row ≡ None = rw empty fine in
    record {
      records = rw empty one;
      members = members ∙ before.members ∙ sym (members_same lib rows row Kind nothing);
      edge_records = items ∙ before.edge_records ∙ sym (edges_more lib rows row ∙ ap (λ r. edge_records lib rows ++ option_to_list (edge_only (length rows + 1) r)) nothing ∙ append-nil (edge_records lib rows));
      clear = clear_more lib rows row before.clear first;
    }

-- what is added was named, and wasn't there
pub added_so : (earlier : ArchitectureParts) (r : Result Item ArchClass) (item : Item) → added earlier r ≡ Ok item → r ≡ Ok item
added_so earlier (Err class) item e = absurd (cc)
added_so earlier (Ok x) item e = elim (cases_Bool (has_item earlier x)) [
  | inl there ↦ let h = rw there at e in absurd (cc)
  | inr fresh ↦ rw fresh at e
]

pub later_fault : (lib : LibraryParts) (rows : List Record) (row : Record) → 0 < length rows → fault_after lib rows row ≡ class_of (added (members_of lib rows) (item_of lib row))
later_fault lib [] row some = absurd (omega arith)
later_fault lib (x ∷ rows) row some = refl

only_edges : (place : ℕ) (item : Item) → option_to_list (edge_only place (Ok item)) ≡ edges_of_item place item
only_edges place (Component c) = refl
only_edges place (Edge e) = refl

-- a component or an edge was taken
pub item_taken : (lib : LibraryParts) (rows : List Record) (row : Record) (old new : Draft) (item : Item) → IsDraft lib rows old → 0 < old.records
    → Ok item ≡ added (draft_members old) (item_of lib row) → new.records ≡ old.records + 1 → draft_members new ≡ with_item (draft_members old) item
    → new.edge_records.items ≡ old.edge_records.items ++ edges_of_item (old.records + 1) item → IsDraft lib (rows ++ row ∷ []) new
item_taken lib rows row old new item before some is one members items =
    let named = added_so (draft_members old) (item_of lib row) item (sym is) in
    let there : 0 < length rows = omega (arith, before.records) in
    let fine : fault_after lib rows row ≡ None = later_fault lib rows row there ∙ ap (λ arch. class_of (added arch (item_of lib row))) (sym before.members) ∙ ap class_of (sym is) in
    record {
      records = one ∙ ap (λ n. n + 1) before.records ∙ sym (length-append rows (row ∷ []));
      members = members ∙ ap (λ arch. with_item arch item) before.members ∙ sym (members_more lib rows row item named);
      edge_records = items ∙ ap (λ n. old.edge_records.items ++ edges_of_item (n + 1) item) before.records ∙ ap (λ es. es ++ edges_of_item (length rows + 1) item) before.edge_records
          ∙ sym (edges_more lib rows row ∙ ap (λ r. edge_records lib rows ++ option_to_list (edge_only (length rows + 1) r)) named ∙ ap (λ es. edge_records lib rows ++ es) (only_edges (length rows + 1) item));
      clear = clear_more lib rows row before.clear fine;
    }

-- a later record at fault
pub item_refused : (lib : LibraryParts) (rows : List Record) (row : Record) (old : Draft) (class : ArchClass) → IsDraft lib rows old → 0 < old.records
    → Err class ≡ added (draft_members old) (item_of lib row) → fault_after lib rows row ≡ Some class
item_refused lib rows row old class before some is =
    let there : 0 < length rows = omega (arith, before.records) in
    later_fault lib rows row there ∙ ap (λ arch. class_of (added arch (item_of lib row))) (sym before.members) ∙ ap class_of (sym is)

-- what is added has room in the sets
pub added_fits : (lib : LibraryParts) → IsLibrary lib → (earlier : ArchitectureParts) (row : Record) (item : Item) → Ok item ≡ added earlier (item_of lib row) → IsItem COMPONENTS EDGES item
added_fits lib h earlier row item is = fits item (item_within lib row item (added_so earlier (item_of lib row) item (sym is)))
  where
    fits : (item : Item) → IsItem (length lib.components) (length lib.edges) item → IsItem COMPONENTS EDGES item
    fits (Component c) low = omega (arith, h.few_components)
    fits (Edge e) low = omega (arith, h.few_edges)

-- the edges of a draft are the library's
edges_within : (lib : LibraryParts) (n : ℕ) (rows : List Record) → All (λ p. p.1.0 < length lib.edges) (filter_map (λ (p : ℕ × Record). edge_only p.0 (item_of lib p.1)) (enumerate_from n rows))
edges_within lib n [] = All-nil (λ (p : ℕ × EdgeId). p.1.0 < length lib.edges)
edges_within lib n (row ∷ rows) = one (item_of lib row) (item_within lib row) _ (edges_within lib (n + 1) rows)
  where
    one : (r : Result Item ArchClass) → ((item : Item) → r ≡ Ok item → IsItem (length lib.components) (length lib.edges) item) → (rest : List (ℕ × EdgeId)) → All (λ p. p.1.0 < length lib.edges) rest → All (λ p. p.1.0 < length lib.edges) (cons_option (edge_only n r) rest)
    one (Err class) within rest h = h
    one (Ok (Component c)) within rest h = h
    one (Ok (Edge e)) within rest h = All-cons (λ (p : ℕ × EdgeId). p.1.0 < length lib.edges) (n, e) rest (within (Edge e) refl) h

pub draft_edges : (lib : LibraryParts) (rows : List Record) (draft : Draft) → IsDraft lib rows draft → All (λ p. p.1.0 < length lib.edges) draft.edge_records.items
unfolding edge_records
draft_edges lib rows draft h = subst (All (λ (p : ℕ × EdgeId). p.1.0 < length lib.edges)) (sym h.edge_records) (edges_within lib 1 rows)

-- a file of no record
pub file_empty : (lib : LibraryParts) (rows : List Record) (draft : Draft) → IsDraft lib rows draft → draft.records ≡ 0 → architecture_of_records lib rows ≡ Err (fault_at 1 Fields)
unfolding architecture_of_records
file_empty lib rows draft h none = let e = no_rows rows (sym h.records ∙ none) in rw e refl

some_row : (rows : List Record) → 0 < length rows → no_record rows ≡ []
some_row [] some = absurd (omega arith)
some_row (row ∷ rows) some = refl

-- what is left to judge of a file without a fault of one record
judged_ends : (lib : LibraryParts) (rows : List Record) (draft : Draft) (fs : List ArchFault) → IsDraft lib rows draft → 0 < draft.records
    → filter_map (λ (p : ℕ × EdgeId). if has_ends lib (draft_members draft) p.1 then None else Some (fault_at p.0 MissingEnd)) draft.edge_records.items ≡ fs → architecture_of_records lib rows ≡ unless_faulty (draft_members draft) fs
unfolding architecture_of_records
judged_ends lib rows draft fs h some is =
    let there : 0 < length rows = omega (arith, h.records) in
    rw (some_row rows there, h.clear, ← h.edge_records, ← h.members, is) refl

-- the first edge that lacks an end
pub end_missing : (lib : LibraryParts) (rows : List Record) (draft : Draft) (items : List (ℕ × EdgeId)) (i : ℕ) (d : ℕ × EdgeId) → items ≡ draft.edge_records.items → IsDraft lib rows draft → 0 < draft.records → i < length items
    → EndsThere lib (draft_members draft) items i → has_ends lib (draft_members draft) (get_or items i d).1 ≡ false → architecture_of_records lib rows ≡ Err (fault_at (get_or items i d).0 MissingEnd)
end_missing lib rows draft items i d same h some short before here =
    let judge = λ (q : ℕ × EdgeId). if has_ends lib (draft_members draft) q.1 then None else Some (fault_at q.0 MissingEnd) in
    let fault = fault_at (get_or items i d).0 MissingEnd in
    let now : judge (get_or items i d) ≡ Some fault = rw here refl in
    let first = first_kept judge items i d fault short (λ k low. rw (before k d low) refl) now in
    judged_ends lib rows draft (fault ∷ first.0) h some (ap (filter_map judge) (sym same) ∙ first.1)

-- all edges have their ends
pub ends_there : (lib : LibraryParts) (rows : List Record) (draft : Draft) (items : List (ℕ × EdgeId)) (i : ℕ) → items ≡ draft.edge_records.items → IsDraft lib rows draft → 0 < draft.records → length items ≤ i
    → EndsThere lib (draft_members draft) items i → architecture_of_records lib rows ≡ Ok (draft_members draft)
ends_there lib rows draft items i same h some done all =
    let judge = λ (q : ℕ × EdgeId). if has_ends lib (draft_members draft) q.1 then None else Some (fault_at q.0 MissingEnd) in
    let none : filter_map judge items ≡ [] = none_kept judge items (0, record { 0 = 0 }) (λ k low. rw (all k (0, record { 0 = 0 }) (omega arith)) refl) in
    judged_ends lib rows draft [] h some (ap (filter_map judge) (sym same) ∙ none)
