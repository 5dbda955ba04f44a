-- What names of components and edges lead to.
use Rattle.std.proofs.Common.{◌≡◌, ◌≢◌, ◌+◌, ◌<◌, ◌≤◌, ℕ, zero, suc, Bool, true, false, ◌&&◌, nat_eq, IfSome, IfNone, List, [], ◌∷◌, length, get_or, Option, Some, None, Ok, option_map, slice_get, codes, refl, sym, ap, subst, ◌∙◌, arith, inl, inr}
use Rattle.std.proofs.lemmas.Bool.{cases_Bool}
use Rattle.std.proofs.lemmas.Slice.Eq.{bytes_eq-Decides}
use Rattle.std.proofs.lemmas.Bool.Decides.{eqb_tells}
use Rattle.std.proofs.lemmas.Option.{slice_get-get_or, slice_get_cases}
use Rattle.std.specs.List.{find, range_with_len, All}
use Rattle.std.specs.Option.{IsSomeAnd, option_and_then, ok_or}
use Rattle.std.specs.Str.{bytes_eq}
use Rattle.arch_model.specs.Parts.{LibraryParts}
use Rattle.arch_model.specs.Library.{IsLibrary}
use Rattle.arch_model.specs.declared.sets.CompId.{CompId}
use Rattle.arch_model.specs.declared.sets.EdgeId.{EdgeId}
use Rattle.arch_model.proofs.Ranges.{blank_edge}
use Rattle.template.specs.Names.{component_name}
use Rattle.template.proofs.Distinct.{names_differ}
use Rattle.arch_csv.specs.declared.fault.ArchClass.TheVariants.{UnknownName}
use Rattle.arch_csv.specs.declared.item.Item.{Item}
use Rattle.arch_csv.specs.declared.item.Item.TheVariants.{Component, Edge}
use Rattle.arch_csv.specs.Records.{Record, component_alone, component_named, edge_between, edge_named, item_of, item_named, edge_leads}
use Rattle.arch_csv.specs.Inner.Draft.{IsItem}
use Rattle.template.proofs.EdgesDiffer.{edges_differ}

-- the only number of a range that passes a test
only_one : (p : ℕ → Bool) (a n c : ℕ) → a ≤ c → c < a + n → p c ≡ true → ((d : ℕ) → a ≤ d → d < a + n → p d ≡ true → d ≡ c) → find p (range_with_len a n) ≡ Some c
only_one p a zero c low high here only = absurd (omega arith)
only_one p a (suc n) c low high here only = elim (cases_Bool (p a)) [
  | inl is ↦ let e = only a (omega arith) (omega arith) is in rw is (ap Some e)
  | inr isnt ↦
      let other : a ≢ c = λ e. let clash : false ≡ true = sym isnt ∙ ap p e ∙ here in absurd (cc) in
      rw isnt (only_one p (a + 1) n c (omega arith) (omega arith) here (λ d from to. only d (omega arith) (omega arith)))
]

no_one : (p : ℕ → Bool) (a n : ℕ) → ((d : ℕ) → a ≤ d → d < a + n → p d ≡ false) → find p (range_with_len a n) ≡ None
no_one p a zero none = refl
no_one p a (suc n) none = let here = none a (omega arith) (omega arith) in rw here (no_one p (a + 1) n (λ d from to. none d (omega arith) (omega arith)))

not_true : (b : Bool) → (b ≡ true → ⊥) → b ≡ false
not_true true n = absurd (n refl)
not_true false n = refl

-- a component's name leads to it
pub named_here : (lib : LibraryParts) → IsLibrary lib → (c : ℕ) → c < length lib.components → component_named lib (component_name lib c) ≡ Some c
unfolding component_named
named_here lib h c short =
    let name = component_name lib c in
    only_one (λ d. bytes_eq (component_name lib d) name) 0 (length lib.components) c (omega arith) (omega arith) ((bytes_eq-Decides name name).1 refl)
    (λ d from to same. names_differ lib h d c (omega arith) short ((bytes_eq-Decides (component_name lib d) name).0 same))

pub named_nowhere : (lib : LibraryParts) (name : List ℕ) → ((c : ℕ) → c < length lib.components → component_name lib c ≢ name) → component_named lib name ≡ None
unfolding component_named
named_nowhere lib name none =
    no_one (λ d. bytes_eq (component_name lib d) name) 0 (length lib.components) (λ d from to. not_true _ (λ same. none d (omega arith) ((bytes_eq-Decides (component_name lib d) name).0 same)))

-- what a look-up of a name answers
pub component_found : (lib : LibraryParts) (name : List ℕ) (r : Option CompId) → IsLibrary lib → IfSome r (λ c. (c.0 < length lib.components) × (component_name lib c.0 ≡ name))
    → IfNone r ((c : ℕ) → c < length lib.components → component_name lib c ≢ name) → option_map (λ c. c.0) r ≡ component_named lib name
component_found lib name None h some none = sym (named_nowhere lib name none)
component_found lib name (Some c) h some none = sym (named_here lib h c.0 some.0) ∙ ap (component_named lib) some.1

joined_here : (lib : LibraryParts) (e t h : ℕ) → e < length lib.edges → (get_or lib.edges e blank_edge).tail.0 ≡ t → (get_or lib.edges e blank_edge).head.0 ≡ h → edge_leads lib t h e ≡ true
joined_here lib e t h short tail head =
    rw (slice_get-get_or lib.edges e blank_edge short) (rw (tail, head) (both (nat_eq t t) (nat_eq h h) (same t) (same h)))
  where
    both : (a b : Bool) → a ≡ true → b ≡ true → (a && b) ≡ true
    both a b p q = rw (p, q) refl

    same : (n : ℕ) → nat_eq n n ≡ true
    same n = elim (eqb_tells n n) [ inl w ↦ w.0 | inr w ↦ absurd (w.1 refl) ]

joined_so : (lib : LibraryParts) (e t h : ℕ) → e < length lib.edges → edge_leads lib t h e ≡ true → ((get_or lib.edges e blank_edge).tail.0 ≡ t) × ((get_or lib.edges e blank_edge).head.0 ≡ h)
joined_so lib e t h short is =
    let edge = get_or lib.edges e blank_edge in
    let test : (nat_eq edge.tail.0 t && nat_eq edge.head.0 h) ≡ true = rw (slice_get-get_or lib.edges e blank_edge short) at is in
    elim (eqb_tells edge.tail.0 t) [
      | inl w ↦ elim (eqb_tells edge.head.0 h) [
        | inl v ↦ (w.1, v.1)
        | inr v ↦ let clash = rw (w.0, v.0) at test in absurd (cc)
      ]
      | inr w ↦ let clash = rw w.0 at test in absurd (cc)
    ]

-- the ends of an edge lead to it
pub joined_by : (lib : LibraryParts) → IsLibrary lib → (e : ℕ) → e < length lib.edges → edge_between lib (get_or lib.edges e blank_edge).tail.0 (get_or lib.edges e blank_edge).head.0 ≡ Some e
unfolding edge_between
joined_by lib h e short =
    let edge = get_or lib.edges e blank_edge in
    only_one (edge_leads lib edge.tail.0 edge.head.0) 0 (length lib.edges) e (omega arith) (omega arith) (joined_here lib e edge.tail.0 edge.head.0 short refl refl)
    (λ d from to same.
    let low : d < length lib.edges = omega arith in
    let ends = joined_so lib d edge.tail.0 edge.head.0 low same in edges_differ lib h d e low short ends.0 ends.1)

pub edge_found : (lib : LibraryParts) (tail head : CompId) (r : Option EdgeId) → IsLibrary lib → IfSome r (λ e. IsSomeAnd (slice_get lib.edges e.0) (λ edge. (edge.tail ≡ tail) × (edge.head ≡ head)))
    → IfNone r (All (λ edge. edge.tail ≡ tail → edge.head ≢ head) lib.edges) → option_map (λ e. e.0) r ≡ edge_between lib tail.0 head.0
unfolding edge_between
edge_found lib tail head None h some none =
    sym (no_one (edge_leads lib tail.0 head.0) 0 (length lib.edges) (λ d from to. not_true _ (λ same.
    let low : d < length lib.edges = omega arith in
    let ends = joined_so lib d tail.0 head.0 low same in none d blank_edge low (λ i. record { 0 = ends.0 i }) (λ i. record { 0 = ends.1 i }))))
edge_found lib tail head (Some e) h some none = elim (slice_get_cases lib.edges e.0).1 [
  | inl w ↦
      let edge = get_or lib.edges e.0 blank_edge in
      let read = slice_get-get_or lib.edges e.0 blank_edge w.1 in
      let P : Option _ → Type 0 = λ o. IsSomeAnd o (λ row. (row.tail ≡ tail) × (row.head ≡ head)) in
      let ends = subst P read some in
      sym (joined_by lib h e.0 w.1) ∙ ap (λ (t : CompId). edge_between lib t.0 edge.head.0) ends.0 ∙ ap (λ (t : CompId). edge_between lib tail.0 t.0) ends.1
  | inr w ↦ absurd (rw w.1 at some)
]

pub edge_named_is : (lib : LibraryParts) (tail head : List ℕ) (t h : ℕ) → Some t ≡ component_named lib tail → Some h ≡ component_named lib head → edge_between lib t h ≡ edge_named lib tail head
edge_named_is lib tail head t h e k = rw (← e, ← k) refl

-- what is found in a range is in it
found_within : (p : ℕ → Bool) (a n c : ℕ) → find p (range_with_len a n) ≡ Some c → c < a + n
found_within p a zero c e = cc
found_within p a (suc n) c e = elim (cases_Bool (p a)) [
  | inl is ↦ let same : a ≡ c = let h = rw is at e in cc in omega arith
  | inr isnt ↦ let rest = found_within p (a + 1) n c (rw isnt at e) in omega (arith, rest)
]

component_within : (lib : LibraryParts) (name : List ℕ) (c : ℕ) → component_named lib name ≡ Some c → c < length lib.components
unfolding component_named
component_within lib name c e = let h = found_within (λ d. bytes_eq (component_name lib d) name) 0 (length lib.components) c e in omega (arith, h)

edge_within : (lib : LibraryParts) (tail head e : ℕ) → edge_between lib tail head ≡ Some e → e < length lib.edges
unfolding edge_between
edge_within lib tail head e h = let k = found_within (edge_leads lib tail head) 0 (length lib.edges) e h in omega (arith, k)

alone_within : (lib : LibraryParts) (name rest : List ℕ) (c : ℕ) → component_alone lib name rest ≡ Some c → c < length lib.components
alone_within lib name [] c e = component_within lib name c e
alone_within lib name (b ∷ bs) c e = cc

both_within : (lib : LibraryParts) (tail head : Option ℕ) (e : ℕ) → option_and_then (λ t. option_and_then (edge_between lib t) head) tail ≡ Some e → e < length lib.edges
both_within lib None head e h = cc
both_within lib (Some t) None e h = cc
both_within lib (Some t) (Some k) e h = edge_within lib t k e h

component_item : (n m : ℕ) (o : Option ℕ) (item : Item) → ((c : ℕ) → o ≡ Some c → c < n) → ok_or (option_map (λ c. Component (record { 0 = c })) o) UnknownName ≡ Ok item → IsItem n m item
component_item n m None item within e = cc
component_item n m (Some c) item within e =
    let same : Component (record { 0 = c }) ≡ item = cc in
    subst (IsItem n m) same (within c refl)

edge_item : (n m : ℕ) (o : Option ℕ) (item : Item) → ((e : ℕ) → o ≡ Some e → e < m) → ok_or (option_map (λ e. Edge (record { 0 = e })) o) UnknownName ≡ Ok item → IsItem n m item
edge_item n m None item within e = cc
edge_item n m (Some k) item within e =
    let same : Edge (record { 0 = k }) ≡ item = cc in
    subst (IsItem n m) same (within k refl)

-- what a record names is in the library
pub item_within : (lib : LibraryParts) (row : Record) (item : Item) → item_of lib row ≡ Ok item → IsItem (length lib.components) (length lib.edges) item
unfolding item_named
item_within lib [] item e = cc
item_within lib (a ∷ []) item e = cc
item_within lib (a ∷ b ∷ []) item e = cc
item_within lib (a ∷ b ∷ c ∷ d ∷ more) item e = cc
item_within lib (a ∷ b ∷ c ∷ []) item e = elim (cases_Bool (bytes_eq a (codes "component"))) [
  | inl is ↦ component_item (length lib.components) (length lib.edges) (component_alone lib b c) item (alone_within lib b c) (rw is at e)
  | inr isnt ↦ elim (cases_Bool (bytes_eq a (codes "edge"))) [
    | inl is ↦ edge_item (length lib.components) (length lib.edges) (edge_named lib b c) item (both_within lib (component_named lib b) (component_named lib c)) (rw (isnt, is) at e)
    | inr neither ↦ let h = rw (isnt, neither) at e in cc
  ]
]
