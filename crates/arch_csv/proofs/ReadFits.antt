-- An architecture that was read fits its library.
use Rattle.std.proofs.Common.{◌≡◌, ◌+◌, ◌<◌, ℕ, suc, Bool, true, false, ◌&&◌, ◌||◌, if◌then◌else◌, List, [], ◌∷◌, ◌++◌, map, filter, length, Some, None, Result, Ok, Err, slice_get, refl, sym, ap, subst, ◌∙◌, arith, inl, inr}
use Rattle.std.specs.List.{AllByRecursion, cons_option, enumerate_from, filter_map, fold, list_all}
use Rattle.std.specs.Result.{result_ok}
use Rattle.std.proofs.lemmas.Bool.{cases_Bool}
use Rattle.std.proofs.lemmas.Bool.Decides.{eqb_tells}
use Rattle.arch_model.specs.Set.{Set, has, put}
use Rattle.arch_model.specs.Parts.{LibraryParts, ArchitectureParts}
use Rattle.arch_model.specs.Architecture.{IsArchitecture}
use Rattle.arch_model.specs.declared.sets.EdgeId.{EdgeId}
use Rattle.arch_model.specs.declared.template.Edge.{Edge as EdgeRow}
use Rattle.arch_model.proofs.FitLaws.{fits_exact}
use Rattle.arch_model.proofs.SetLaws.{has-empty, has-put}
use Rattle.arch_csv.specs.declared.fault.ArchClass.{ArchClass}
use Rattle.arch_csv.specs.declared.fault.ArchClass.TheVariants.{MissingEnd}
use Rattle.arch_csv.specs.declared.fault.ArchFault.{ArchFault}
use Rattle.arch_csv.specs.declared.item.Item.{Item}
use Rattle.arch_csv.specs.declared.item.Item.TheVariants.{Component, Edge}
use Rattle.arch_csv.specs.Records.{Record, item_of}
use Rattle.arch_csv.specs.ArchitectureOf.{architecture_of_records, edge_only, edge_records, fault_at, faults_after, faults_of, has_ends, items_of, members_of, missing_ends, no_record, nothing, unless_faulty, with_item}
use Rattle.arch_csv.specs.Inner.Draft.{IsItem}
use Rattle.arch_csv.proofs.Naming.{item_within}

-- a number of a set with one more
put_holds : (P : ℕ → Type 0) (s : Set) (c : ℕ) → P c → ((k : ℕ) → has s k ≡ true → P k) → (k : ℕ) → has (put s c) k ≡ true → P k
put_holds P s c here before k on = elim (eqb_tells c k) [
  | inl w ↦ subst P w.1 here
  | inr w ↦ before k (sym (alone (has s k)) ∙ ap (λ b. has s k || b) (sym w.0) ∙ sym (has-put s c k) ∙ on)
]
  where
    alone : (b : Bool) → (b || false) ≡ b
    alone true = refl
    alone false = refl

-- what holds of all items holds of all members
components_hold : (n m : ℕ) (items : List Item) (arch : ArchitectureParts) → AllByRecursion (IsItem n m) items → ((k : ℕ) → has arch.comps k ≡ true → k < n) → (k : ℕ) → has (fold with_item arch items).comps k ≡ true → k < n
components_hold n m [] arch h before = before
components_hold n m (Component c ∷ items) arch h before = components_hold n m items (with_item arch (Component c)) h.1 (put_holds (λ k. k < n) arch.comps c.0 h.0 before)
components_hold n m (Edge e ∷ items) arch h before = components_hold n m items (with_item arch (Edge e)) h.1 before

edges_hold : (n m : ℕ) (items : List Item) (arch : ArchitectureParts) → AllByRecursion (IsItem n m) items → ((k : ℕ) → has arch.edges k ≡ true → k < m) → (k : ℕ) → has (fold with_item arch items).edges k ≡ true → k < m
edges_hold n m [] arch h before = before
edges_hold n m (Component c ∷ items) arch h before = edges_hold n m items (with_item arch (Component c)) h.1 before
edges_hold n m (Edge e ∷ items) arch h before = edges_hold n m items (with_item arch (Edge e)) h.1 (put_holds (λ k. k < m) arch.edges e.0 h.0 before)

kept_item : (n m : ℕ) (r : Result Item ArchClass) (rest : List Item) → ((item : Item) → r ≡ Ok item → IsItem n m item) → AllByRecursion (IsItem n m) rest → AllByRecursion (IsItem n m) (cons_option (result_ok r) rest)
kept_item n m (Ok item) rest within h = (within item refl, h)
kept_item n m (Err class) rest within h = h

items_within : (lib : LibraryParts) (rows : List Record) → AllByRecursion (IsItem (length lib.components) (length lib.edges)) (items_of lib rows)
items_within lib [] = tt
items_within lib (row ∷ rows) = kept_item (length lib.components) (length lib.edges) (item_of lib row) (items_of lib rows) (item_within lib row) (items_within lib rows)

-- what holds of each edge that a record names holds of each edge of the architecture
abbrev Named : (ℕ → Type 0) → LibraryParts → ℕ → List Record → Type 0
Named Q lib n rows = AllByRecursion (λ (p : ℕ × EdgeId). Q p.1.0) (filter_map (λ (p : ℕ × Record). edge_only p.0 (item_of lib p.1)) (enumerate_from n rows))

edges_named : (Q : ℕ → Type 0) (lib : LibraryParts) (n : ℕ) (rows : List Record) (arch : ArchitectureParts) → Named Q lib n rows → ((k : ℕ) → has arch.edges k ≡ true → Q k) → (k : ℕ) → has (fold with_item arch (items_of lib rows)).edges k ≡ true → Q k
edges_named Q lib n [] arch h before = before
edges_named Q lib n (row ∷ rows) arch h before = one (item_of lib row) h (λ a. edges_named Q lib (n + 1) rows a)
  where
    one : (r : Result Item ArchClass) → AllByRecursion (λ (p : ℕ × EdgeId). Q p.1.0) (cons_option (edge_only n r) (filter_map (λ (p : ℕ × Record). edge_only p.0 (item_of lib p.1)) (enumerate_from (n + 1) rows)))
        → ((a : ArchitectureParts) → Named Q lib (n + 1) rows → ((k : ℕ) → has a.edges k ≡ true → Q k) → (k : ℕ) → has (fold with_item a (items_of lib rows)).edges k ≡ true → Q k)
        → (k : ℕ) → has (fold with_item arch (cons_option (result_ok r) (items_of lib rows))).edges k ≡ true → Q k
    one (Err class) named more = more arch named before
    one (Ok (Component c)) named more = more (with_item arch (Component c)) named before
    one (Ok (Edge e)) named more = more (with_item arch (Edge e)) named.1 (put_holds Q arch.edges e.0 named.0 before)

-- where no edge lacks an end
all_kept : (lib : LibraryParts) (arch : ArchitectureParts) (es : List (ℕ × EdgeId)) → filter_map (λ (p : ℕ × EdgeId). if has_ends lib arch p.1 then None else Some (fault_at p.0 MissingEnd)) es ≡ []
    → AllByRecursion (λ (p : ℕ × EdgeId). has_ends lib arch (record { 0 = p.1.0 }) ≡ true) es
all_kept lib arch [] none = tt
all_kept lib arch (p ∷ es) none = elim (cases_Bool (has_ends lib arch p.1)) [
  | inl there ↦ (there, all_kept lib arch es (rw there at none))
  | inr lacking ↦ let clash = rw lacking at none in absurd (cc)
]

ends_all : (lib : LibraryParts) (arch : ArchitectureParts) (n : ℕ) (xs : List EdgeRow) → ((i : ℕ) → slice_get lib.edges (n + i) ≡ slice_get xs i) → ((e : ℕ) → has arch.edges e ≡ true → has_ends lib arch (record { 0 = e }) ≡ true)
    → list_all (λ e. has arch.comps e.tail.0 && has arch.comps e.head.0) (map (λ (p : ℕ × EdgeRow). p.1) (filter (λ (p : ℕ × EdgeRow). has arch.edges p.0) (enumerate_from n xs))) ≡ true
ends_all lib arch n [] same ends = refl
ends_all lib arch n (x ∷ xs) same ends =
    let zero_more : n + 0 ≡ n = omega arith in
    let here : slice_get lib.edges n ≡ Some x = ap (slice_get lib.edges) (sym zero_more) ∙ same 0 in
    let rest = ends_all lib arch (n + 1) xs (λ i. let e : n + 1 + i ≡ n + suc i = omega arith in ap (slice_get lib.edges) e ∙ same (suc i)) ends in
    elim (cases_Bool (has arch.edges n)) [
      | inl on ↦
          let both : (has arch.comps x.tail.0 && has arch.comps x.head.0) ≡ true = rw here at (ends n on) in
          rw (on, both) rest
      | inr off ↦ rw off rest
    ]

ends_fit : (lib : LibraryParts) (arch : ArchitectureParts) → ((c : ℕ) → has arch.comps c ≡ true → c < length lib.components) → ((e : ℕ) → has arch.edges e ≡ true → e < length lib.edges)
    → ((e : ℕ) → has arch.edges e ≡ true → has_ends lib arch (record { 0 = e }) ≡ true) → IsArchitecture lib arch
ends_fit lib arch comps edges ends =
    let all = ends_all lib arch 0 lib.edges (λ i. let e : 0 + i ≡ i = omega arith in ap (slice_get lib.edges) e) ends in
    (fits_exact lib arch comps edges true (sym all)).0 refl

-- none of some faults
no_faults : (arch : ArchitectureParts) (out : ArchitectureParts) (fs : List ArchFault) → unless_faulty arch fs ≡ Ok out → (fs ≡ []) × (arch ≡ out)
no_faults arch out [] e = (refl, cc)
no_faults arch out (f ∷ fs) e = cc

end_nil : {X : Type 0} (xs ys : List X) → xs ++ ys ≡ [] → ys ≡ []
end_nil [] ys e = e
end_nil (x ∷ xs) ys e = cc

-- what records come to fits
pub records_fit : (lib : LibraryParts) (rows : List Record) (arch : ArchitectureParts) → architecture_of_records lib rows ≡ Ok arch → IsArchitecture lib arch
unfolding architecture_of_records members_of edge_records
records_fit lib rows arch e =
    let found = no_faults (members_of lib rows) arch (faults_of lib rows) e in
    let none = end_nil (faults_after lib [] rows) (missing_ends lib rows) (end_nil (no_record rows) (faults_after lib [] rows ++ missing_ends lib rows) found.0) in
    let members = members_of lib rows in
    let within = items_within lib rows in
    let fits : IsArchitecture lib members = ends_fit lib members
    (components_hold (length lib.components) (length lib.edges) (items_of lib rows) nothing within (λ k on. let clash = sym (has-empty k) ∙ on in absurd (cc)))
    (edges_hold (length lib.components) (length lib.edges) (items_of lib rows) nothing within (λ k on. let clash = sym (has-empty k) ∙ on in absurd (cc)))
    (edges_named (λ e. has_ends lib members (record { 0 = e }) ≡ true) lib 1 rows nothing (all_kept lib members (edge_records lib rows) none) (λ k on. let clash = sym (has-empty k) ∙ on in absurd (cc))) in
    subst (IsArchitecture lib) found.1 fits
