-- Edges by their numbers: those that join components, and those that a cut's row counts.
use Rattle.std.proofs.Common.{◌≡◌, ℕ, zero, suc, ◌+◌, ◌-◌, ◌≤◌, Bool, true, false, cond, not, ◌&&◌, nat_eq, List, [], ◌∷◌, map, filter, length, Option, Some, None, refl, sym, ap, subst, ◌∙◌, arith, inl, inr, if◌then◌else◌}
use Rattle.std.specs.List.{All, AllByRecursion, list_any, enumerate_from}
use Rattle.std.proofs.lemmas.Option.{slice_get_within, get_or_from_slice_get}
use Rattle.std.proofs.lemmas.List.Elements.{All-from_recursion, recursion_from_All}
use Rattle.std.specs.Option.{option_map_or}
use Rattle.std.specs.Prelude.{slice_get, IsTrue}
use Rattle.std.proofs.lemmas.Bool.{eqb-true, eq-eqb, lt-ltb, le-ltb, cases_lt}
use Rattle.arch_model.specs.declared.template.Edge.{Edge}
use Rattle.arch_model.specs.Set.{Set, has}
use Rattle.arch_model.specs.Parts.{LibraryParts, ArchitectureParts}
use Rattle.arch_model.specs.Architecture.{present_edges}
use Rattle.arch_model.specs.Path.{live_edges, joins}
use Rattle.arch_model.proofs.Members.{and_left, and_right, and_both, or_left, or_right, or_cases}
use Rattle.arch_model.proofs.Present.{chosen_from, any_chosen}
use Rattle.redundancy_cut.specs.CutRow.{is_edge_where}

-- an edge that is chosen and passes a test
pub record EdgeAt (q : Edge → Bool) (s : ℕ → Bool) (b : ℕ) (xs : List Edge) : Type 0 where
  pub number : ℕ
  pub edge : Edge
  pub at : slice_get xs number ≡ Some edge
  pub on : s (b + number) ≡ true
  pub passes : q edge ≡ true

pub edge_found : (q : Edge → Bool) (s : ℕ → Bool) (b : ℕ) (xs : List Edge) → list_any q (chosen_from s b xs) ≡ true → EdgeAt q s b xs
edge_found q s b [] h = absurd (let e : false ≡ true = h in cc)
edge_found q s b (x ∷ xs) h = elim (or_cases (s b && q x) (list_any q (chosen_from s (b + 1) xs)) (sym (any_chosen q s b x xs) ∙ h)) [
  | inl here ↦ record {
    number = 0;
    edge = x;
    at = refl;
    on = (let e : b + 0 ≡ b = omega arith in ap s e ∙ and_left (s b) (q x) here);
    passes = and_right (s b) (q x) here;
  }
  | inr later ↦
      let r = edge_found q s (b + 1) xs later in
      record {
        number = suc r.number;
        edge = r.edge;
        at = r.at;
        on = (let e : b + suc r.number ≡ (b + 1) + r.number = omega arith in ap s e ∙ r.on);
        passes = r.passes;
      }
]

pub edge_there : (q : Edge → Bool) (s : ℕ → Bool) (b : ℕ) (xs : List Edge) (k : ℕ) (edge : Edge) → slice_get xs k ≡ Some edge → s (b + k) ≡ true → q edge ≡ true → list_any q (chosen_from s b xs) ≡ true
edge_there q s b [] k edge at on h = absurd (let e : None ≡ Some edge = at in cc)
edge_there q s b (x ∷ xs) zero edge at on h =
    let same : x ≡ edge = cc in
    let e : b ≡ b + 0 = omega arith in
    any_chosen q s b x xs ∙ or_left (s b && q x) (list_any q (chosen_from s (b + 1) xs)) (and_both (s b) (q x) (ap s e ∙ on) (ap q same ∙ h))
edge_there q s b (x ∷ xs) (suc k) edge at on h =
    let e : (b + 1) + k ≡ b + suc k = omega arith in
    any_chosen q s b x xs ∙ or_right (s b && q x) (list_any q (chosen_from s (b + 1) xs)) (edge_there q s (b + 1) xs k edge at (ap s e ∙ on) h)

module _ (lib : LibraryParts) (arch : ArchitectureParts) (failed : ℕ → Bool) where
  -- an edge that is present and not failed, from a to b
  pub record Joint (a b : ℕ) : Type 0 where
    pub number : ℕ
    pub edge : Edge
    pub at : slice_get lib.edges number ≡ Some edge
    pub here : has arch.edges number ≡ true
    pub live : not (failed (length lib.components + number)) ≡ true
    pub tail : edge.tail.0 ≡ a
    pub head : edge.head.0 ≡ b

  pub joint_of : (a b : ℕ) → joins (live_edges lib arch failed) a b ≡ true → Joint a b
  joint_of a b h =
      let e = edge_found (λ e. nat_eq e.tail.0 a && nat_eq e.head.0 b) (λ k. has arch.edges k && not (failed (length lib.components + k))) 0 lib.edges h in
      let same : 0 + e.number ≡ e.number = omega arith in
      let on = sym (ap (λ k. has arch.edges k && not (failed (length lib.components + k))) same) ∙ e.on in
      record {
        number = e.number;
        edge = e.edge;
        at = e.at;
        here = and_left (has arch.edges e.number) (not (failed (length lib.components + e.number))) on;
        live = and_right (has arch.edges e.number) (not (failed (length lib.components + e.number))) on;
        tail = eqb-true e.edge.tail.0 a (and_left (nat_eq e.edge.tail.0 a) (nat_eq e.edge.head.0 b) e.passes);
        head = eqb-true e.edge.head.0 b (and_right (nat_eq e.edge.tail.0 a) (nat_eq e.edge.head.0 b) e.passes);
      }

  pub joined_by : (a b : ℕ) → Joint a b → joins (live_edges lib arch failed) a b ≡ true
  joined_by a b e =
      let same : 0 + e.number ≡ e.number = omega arith in
      edge_there (λ d. nat_eq d.tail.0 a && nat_eq d.head.0 b) (λ k. has arch.edges k && not (failed (length lib.components + k))) 0 lib.edges e.number e.edge e.at
      (ap (λ k. has arch.edges k && not (failed (length lib.components + k))) same ∙ and_both (has arch.edges e.number) (not (failed (length lib.components + e.number))) e.here e.live)
      (and_both (nat_eq e.edge.tail.0 a) (nat_eq e.edge.head.0 b) (eq-eqb e.edge.tail.0 a e.tail) (eq-eqb e.edge.head.0 b e.head))

-- the test of an edge, at its member
pub edge_where : (lib : LibraryParts) (test : Edge → Bool) (k : ℕ) (edge : Edge) → slice_get lib.edges k ≡ Some edge → is_edge_where lib test (length lib.components + k) ≡ test edge
edge_where lib test k edge at =
    let far : length lib.components ≤ length lib.components + k = omega arith in
    let back : (length lib.components + k) - length lib.components ≡ k = omega arith in
    ap (λ b. option_map_or test (if b then None else slice_get lib.edges ((length lib.components + k) - length lib.components)) false) (le-ltb (length lib.components + k) (length lib.components) far)
    ∙ ap (λ j. option_map_or test (slice_get lib.edges j) false) back
    ∙ ap (λ o. option_map_or test o false) at

-- what is said of all present edges holds of each
all_chosen : (P : Edge → Type 0) (s : ℕ → Bool) (b : ℕ) (xs : List Edge) → AllByRecursion P (chosen_from s b xs) → (k : ℕ) (edge : Edge) → slice_get xs k ≡ Some edge → s (b + k) ≡ true → P edge
all_chosen P s b [] all k edge at on = absurd (let e : None ≡ Some edge = at in cc)
all_chosen P s b (x ∷ xs) all zero edge at on =
    let same : x ≡ edge = cc in
    let e : b ≡ b + 0 = omega arith in
    subst P same (head (s b) (ap s e ∙ on) all) where
      head : (v : Bool) → v ≡ true → AllByRecursion P (map (λ (p : ℕ × Edge). p.1) (cond v ((b, x) ∷ filter (λ (p : ℕ × Edge). s p.0) (enumerate_from (b + 1) xs)) (filter (λ (p : ℕ × Edge). s p.0) (enumerate_from (b + 1) xs)))) → P x
      head true h all = all.0
      head false h all = absurd (let e : false ≡ true = h in cc)
all_chosen P s b (x ∷ xs) all (suc k) edge at on =
    let e : (b + 1) + k ≡ b + suc k = omega arith in
    all_chosen P s (b + 1) xs (tail (s b) all) k edge at (ap s e ∙ on) where
      tail : (v : Bool) → AllByRecursion P (map (λ (p : ℕ × Edge). p.1) (cond v ((b, x) ∷ filter (λ (p : ℕ × Edge). s p.0) (enumerate_from (b + 1) xs)) (filter (λ (p : ℕ × Edge). s p.0) (enumerate_from (b + 1) xs)))) → AllByRecursion P (chosen_from s (b + 1) xs)
      tail true all = all.1
      tail false all = all

pub closed_at : (lib : LibraryParts) (arch : ArchitectureParts) (cone : Set) → All (λ e. IsTrue (has cone e.head.0) → IsTrue (has cone e.tail.0)) (present_edges lib arch)
    → (k : ℕ) (edge : Edge) → slice_get lib.edges k ≡ Some edge → has arch.edges k ≡ true → has cone edge.head.0 ≡ true → has cone edge.tail.0 ≡ true
closed_at lib arch cone all k edge at here =
    let same : 0 + k ≡ k = omega arith in
    all_chosen (λ e. IsTrue (has cone e.head.0) → IsTrue (has cone e.tail.0)) (has arch.edges) 0 lib.edges
    (recursion_from_All (λ e. IsTrue (has cone e.head.0) → IsTrue (has cone e.tail.0)) (present_edges lib arch) all) k edge at (ap (has arch.edges) same ∙ here)

-- a fact of all edges at one of them
pub edge_at : (P : Edge → Type 0) (xs : List Edge) → All P xs → (k : ℕ) (edge : Edge) → slice_get xs k ≡ Some edge → P edge
edge_at P xs all k edge at = subst P (get_or_from_slice_get xs k edge edge at) (all k edge (slice_get_within xs k edge at))

-- a fact of each present edge is one of all
each_chosen : (P : Edge → Type 0) (s : ℕ → Bool) (b : ℕ) (xs : List Edge) → ((k : ℕ) (edge : Edge) → slice_get xs k ≡ Some edge → s (b + k) ≡ true → P edge) → AllByRecursion P (chosen_from s b xs)
each_chosen P s b [] each = tt
each_chosen P s b (x ∷ xs) each =
    let rest = each_chosen P s (b + 1) xs (λ k edge at on. let e : b + suc k ≡ (b + 1) + k = omega arith in each (suc k) edge at (ap s e ∙ on)) in
    one (s b) (λ on. let e : b + 0 ≡ b = omega arith in each 0 x refl (ap s e ∙ on)) rest where
      one : (v : Bool) → (v ≡ true → P x) → AllByRecursion P (chosen_from s (b + 1) xs)
          → AllByRecursion P (map (λ (p : ℕ × Edge). p.1) (cond v ((b, x) ∷ filter (λ (p : ℕ × Edge). s p.0) (enumerate_from (b + 1) xs)) (filter (λ (p : ℕ × Edge). s p.0) (enumerate_from (b + 1) xs))))
      one true here rest = (here refl, rest)
      one false here rest = rest

pub closed_from : (lib : LibraryParts) (arch : ArchitectureParts) (cone : Set) → ((k : ℕ) (edge : Edge) → slice_get lib.edges k ≡ Some edge → has arch.edges k ≡ true → has cone edge.head.0 ≡ true → has cone edge.tail.0 ≡ true)
    → All (λ e. IsTrue (has cone e.head.0) → IsTrue (has cone e.tail.0)) (present_edges lib arch)
closed_from lib arch cone each =
    All-from_recursion (λ e. IsTrue (has cone e.head.0) → IsTrue (has cone e.tail.0)) (present_edges lib arch)
    (each_chosen (λ e. IsTrue (has cone e.head.0) → IsTrue (has cone e.tail.0)) (has arch.edges) 0 lib.edges (λ k edge at on. let same : 0 + k ≡ k = omega arith in each k edge at (sym (ap (has arch.edges) same) ∙ on)))

-- a member that is such an edge
pub record EdgeMember (lib : LibraryParts) (test : Edge → Bool) (v : ℕ) : Type 0 where
  pub number : ℕ
  pub edge : Edge
  pub at : slice_get lib.edges number ≡ Some edge
  pub is : length lib.components + number ≡ v
  pub passes : test edge ≡ true

some_passes : (test : Edge → Bool) (o : Option Edge) → option_map_or test o false ≡ true → (edge : Edge) × (o ≡ Some edge) × (test edge ≡ true)
some_passes test None h = absurd (let e : false ≡ true = h in cc)
some_passes test (Some edge) h = (edge, refl, h)

pub edge_member : (lib : LibraryParts) (test : Edge → Bool) (v : ℕ) → is_edge_where lib test v ≡ true → EdgeMember lib test v
edge_member lib test v h = elim (cases_lt v (length lib.components)) [
  | inl near ↦
      let e : false ≡ true = sym (ap (λ b. option_map_or test (if b then None else slice_get lib.edges (v - length lib.components)) false) (lt-ltb v (length lib.components) near)) ∙ h in absurd cc
  | inr far ↦
      let e = some_passes test (slice_get lib.edges (v - length lib.components))
      (sym (ap (λ b. option_map_or test (if b then None else slice_get lib.edges (v - length lib.components)) false) (le-ltb v (length lib.components) far)) ∙ h) in
      record { number = v - length lib.components; edge = e.0; at = e.1; is = omega (arith, far); passes = e.2 }
]
