-- The members of an architecture keep each edge's ends, and each choice that does is that of an architecture.
use Rattle.std.proofs.Common.{◌≡◌, ℕ, zero, suc, ◌+◌, ◌-◌, ◌<◌, ◌≤◌, Bool, true, false, cond, ◌&&◌, ◌||◌, nat_eq, List, [], ◌∷◌, map, filter, length, get_or, refl, sym, ap, subst, ◌∙◌, arith, inl, inr, ltb}
use Rattle.std.specs.Prelude.{IsTrue}
use Rattle.std.specs.List.{AllByRecursion, enumerate_from}
use Rattle.std.proofs.lemmas.Bool.{eqb-true, lt-ltb, le-ltb, ltb-true, cases_lt}
use Rattle.std.proofs.lemmas.Bool.Decides.{eqb_tells}
use Rattle.std.proofs.lemmas.Option.{slice_get_within, get_or_from_slice_get, slice_get-get_or}
use Rattle.std.proofs.lemmas.List.Elements.{All-from_recursion, recursion_from_All}
use Rattle.arch_model.specs.declared.template.Edge.{Edge}
use Rattle.arch_model.specs.Set.{Set, has, empty, put}
use Rattle.arch_model.specs.Parts.{LibraryParts, ArchitectureParts}
use Rattle.arch_model.specs.Library.{IsLibrary}
use Rattle.arch_model.specs.Architecture.{present_edges, IsArchitecture}
use Rattle.arch_model.specs.Member.{is_present, member_count, KeepsEnds}
use Rattle.arch_model.proofs.Members.{and_left, or_left, or_right, or_cases, same_test, bool_cases}
use Rattle.arch_model.proofs.SetLaws.{has-empty, has-put}
use Rattle.arch_model.proofs.Ranges.{blank_edge, edge_tails, edge_heads}
use Rattle.arch_model.proofs.Reaching.{present_component}

-- what holds of each item that is chosen, from place to place
chosen_all : {X : Type 0} (P : X → Type 0) (s : ℕ → Bool) (d : X) (b : ℕ) (xs : List X) → ((i : ℕ) → i < length xs → s (b + i) ≡ true → P (get_or xs i d))
    → AllByRecursion P (map (λ (p : ℕ × X). p.1) (filter (λ (p : ℕ × X). s p.0) (enumerate_from b xs)))
chosen_all P s d b [] each = tt
chosen_all {X = X} P s d b (x ∷ xs) each =
    let rest = chosen_all P s d (b + 1) xs (λ i h on. let same : (b + 1) + i ≡ b + suc i = omega arith in each (suc i) (omega arith) (ap s (sym same) ∙ on)) in
    let same : b + 0 ≡ b = omega arith in
    elim (bool_cases (s b)) [
      | inl on ↦ subst (λ v. AllByRecursion P (map (λ (p : ℕ × X). p.1) (cond v ((b, x) ∷ filter (λ (p : ℕ × X). s p.0) (enumerate_from (b + 1) xs)) (filter (λ (p : ℕ × X). s p.0) (enumerate_from (b + 1) xs))))) (sym on) (each 0 (omega arith) (ap s same ∙ on), rest)
      | inr off ↦ subst (λ v. AllByRecursion P (map (λ (p : ℕ × X). p.1) (cond v ((b, x) ∷ filter (λ (p : ℕ × X). s p.0) (enumerate_from (b + 1) xs)) (filter (λ (p : ℕ × X). s p.0) (enumerate_from (b + 1) xs))))) (sym off) rest
    ]

pub chosen_at : {X : Type 0} (P : X → Type 0) (s : ℕ → Bool) (d : X) (b : ℕ) (xs : List X) → AllByRecursion P (map (λ (p : ℕ × X). p.1) (filter (λ (p : ℕ × X). s p.0) (enumerate_from b xs)))
    → (i : ℕ) → i < length xs → s (b + i) ≡ true → P (get_or xs i d)
chosen_at P s d b [] all i short on = absurd (omega arith)
chosen_at {X = X} P s d b (x ∷ xs) all zero short on =
    let same : b + 0 ≡ b = omega arith in
    let here = subst (λ v. AllByRecursion P (map (λ (p : ℕ × X). p.1) (cond v ((b, x) ∷ filter (λ (p : ℕ × X). s p.0) (enumerate_from (b + 1) xs)) (filter (λ (p : ℕ × X). s p.0) (enumerate_from (b + 1) xs))))) (ap s (sym same) ∙ on) all in
    here.0
chosen_at {X = X} P s d b (x ∷ xs) all (suc i) short on =
    let same : b + suc i ≡ (b + 1) + i = omega arith in
    chosen_at P s d (b + 1) xs (tail (s b) all) i (omega arith) (ap s (sym same) ∙ on) where
      tail : (v : Bool) → AllByRecursion P (map (λ (p : ℕ × X). p.1) (cond v ((b, x) ∷ filter (λ (p : ℕ × X). s p.0) (enumerate_from (b + 1) xs)) (filter (λ (p : ℕ × X). s p.0) (enumerate_from (b + 1) xs))))
          → AllByRecursion P (map (λ (p : ℕ × X). p.1) (filter (λ (p : ℕ × X). s p.0) (enumerate_from (b + 1) xs)))
      tail true all = all.1
      tail false all = all

-- an edge that is a chosen member is in the set of edges
chosen_edge : (lib : LibraryParts) (arch : ArchitectureParts) (e : ℕ) → is_present lib arch (length lib.components + e) ≡ true → has arch.edges e ≡ true
chosen_edge lib arch e h =
    let far : length lib.components ≤ length lib.components + e = omega arith in
    let back : (length lib.components + e) - length lib.components ≡ e = omega arith in
    ap (has arch.edges) (sym back)
    ∙ sym (ap (λ b. cond b (has arch.comps (length lib.components + e)) (has arch.edges ((length lib.components + e) - length lib.components))) (le-ltb (length lib.components + e) (length lib.components) far))
    ∙ h

pub keeps_ends : (lib : LibraryParts) (arch : ArchitectureParts) → IsArchitecture lib arch → KeepsEnds lib (is_present lib arch)
keeps_ends lib arch fits = record {
  tails = λ e edge is on.
      let short = slice_get_within lib.edges e edge is in
      let end = chosen_at (λ (x : Edge). IsTrue (has arch.comps x.tail.0)) (has arch.edges) edge 0 lib.edges (recursion_from_All (λ (x : Edge). IsTrue (has arch.comps x.tail.0)) (present_edges lib arch) fits.tails) e short (ap (has arch.edges) (zero_more e) ∙ chosen_edge lib arch e on) in
      present_component lib arch fits edge.tail.0 (ap (λ (x : Edge). has arch.comps x.tail.0) (sym (get_or_from_slice_get lib.edges e edge edge is)) ∙ end);
  heads = λ e edge is on.
      let short = slice_get_within lib.edges e edge is in
      let end = chosen_at (λ (x : Edge). IsTrue (has arch.comps x.head.0)) (has arch.edges) edge 0 lib.edges (recursion_from_All (λ (x : Edge). IsTrue (has arch.comps x.head.0)) (present_edges lib arch) fits.heads) e short (ap (has arch.edges) (zero_more e) ∙ chosen_edge lib arch e on) in
      present_component lib arch fits edge.head.0 (ap (λ (x : Edge). has arch.comps x.head.0) (sym (get_or_from_slice_get lib.edges e edge edge is)) ∙ end);
} where
  zero_more : (e : ℕ) → 0 + e ≡ e
  zero_more e = omega arith

-- the set of the numbers below n that pass a test
abbrev tested : (ℕ → Bool) → ℕ → Set
tested p zero = empty
tested p (suc n) = cond (p n) (put (tested p n) n) (tested p n)

below_suc : (i n : ℕ) → ltb i (suc n) ≡ (ltb i n || nat_eq n i)
below_suc i n = same_test (ltb i (suc n)) (ltb i n || nat_eq n i)
    (λ h. let lt : i < suc n = ltb-true i (suc n) h in elim (eqb_tells n i) [
      | inl w ↦ or_right (ltb i n) (nat_eq n i) w.0
      | inr w ↦ let ne : n ≡ i → ⊥ = w.1 in or_left (ltb i n) (nat_eq n i) (lt-ltb i n (omega arith))
    ])
    (λ h. elim (or_cases (ltb i n) (nat_eq n i) h) [
      | inl below ↦ let lt : i < n = ltb-true i n below in lt-ltb i (suc n) (omega arith)
      | inr here ↦ let e : n ≡ i = eqb-true n i here in lt-ltb i (suc n) (omega arith)
    ])

or_none : (b : Bool) → (b || false) ≡ b
or_none true = refl
or_none false = refl

and_order : (a b : Bool) → (a && b) ≡ (b && a)
and_order true true = refl
and_order true false = refl
and_order false true = refl
and_order false false = refl

choose : (l s x n : Bool) → (n ≡ true → x ≡ s) → ((l && s) || (x && n)) ≡ ((l || n) && s)
choose true true x n h = refl
choose true false true true h = h refl
choose true false true false h = refl
choose true false false n h = refl
choose false s x true h = ap (λ y. y && true) (h refl) ∙ and_order s true
choose false s x false h = and_order x false

has-put_if : (v : Bool) (s : Set) (n i : ℕ) → has (cond v (put s n) s) i ≡ (has s i || (v && nat_eq n i))
has-put_if true s n i = has-put s n i
has-put_if false s n i = sym (or_none (has s i))

has-tested : (p : ℕ → Bool) (n i : ℕ) → has (tested p n) i ≡ (ltb i n && p i)
has-tested p zero i = has-empty i ∙ ap (λ b. b && p i) (sym (le-ltb i 0 (omega arith)))
has-tested p (suc n) i =
    has-put_if (p n) (tested p n) n i
    ∙ ap (λ b. b || (p n && nat_eq n i)) (has-tested p n i)
    ∙ choose (ltb i n) (p i) (p n) (nat_eq n i) (λ e. ap p (eqb-true n i e))
    ∙ ap (λ b. b && p i) (sym (below_suc i n))

module _ (lib : LibraryParts) (chosen : ℕ → Bool) where
  abbrev edge_chosen : ℕ → Bool
  edge_chosen e = chosen (length lib.components + e)

  -- the architecture of a choice
  abbrev built : ArchitectureParts
  built = record { comps = tested chosen (length lib.components); edges = tested edge_chosen (length lib.edges) }

  component_in : (c : ℕ) → c < length lib.components → has built.comps c ≡ chosen c
  component_in c short = has-tested chosen (length lib.components) c ∙ ap (λ b. b && chosen c) (lt-ltb c (length lib.components) short)

  edge_in : (e : ℕ) → e < length lib.edges → has built.edges e ≡ edge_chosen e
  edge_in e short = has-tested edge_chosen (length lib.edges) e ∙ ap (λ b. b && edge_chosen e) (lt-ltb e (length lib.edges) short)

  same_members : (v : ℕ) → v < member_count lib → is_present lib built v ≡ chosen v
  same_members v short = elim (cases_lt v (length lib.components)) [
    | inl near ↦ ap (λ b. cond b (has built.comps v) (has built.edges (v - length lib.components))) (lt-ltb v (length lib.components) near) ∙ component_in v near
    | inr far ↦
        let back : length lib.components + (v - length lib.components) ≡ v = omega arith in
        ap (λ b. cond b (has built.comps v) (has built.edges (v - length lib.components))) (le-ltb v (length lib.components) far)
        ∙ edge_in (v - length lib.components) (omega arith) ∙ ap chosen back
  ]

  module _ (right : IsLibrary lib) (ends : KeepsEnds lib chosen) where
    is_architecture : IsArchitecture lib built
    is_architecture = record {
      comps = λ c h. ltb-true c (length lib.components) (and_left (ltb c (length lib.components)) (chosen c) (sym (has-tested chosen (length lib.components) c) ∙ h));
      edges = λ e h. ltb-true e (length lib.edges) (and_left (ltb e (length lib.edges)) (edge_chosen e) (sym (has-tested edge_chosen (length lib.edges) e) ∙ h));
      tails = All-from_recursion (λ (x : Edge). IsTrue (has built.comps x.tail.0)) (present_edges lib built) (chosen_all (λ (x : Edge). IsTrue (has built.comps x.tail.0)) (has built.edges) blank_edge 0 lib.edges (λ i short on.
          component_in (get_or lib.edges i blank_edge).tail.0 (edge_tails lib right i blank_edge short) ∙ ends.tails i (get_or lib.edges i blank_edge) (slice_get-get_or lib.edges i blank_edge short) (is_on i short on)));
      heads = All-from_recursion (λ (x : Edge). IsTrue (has built.comps x.head.0)) (present_edges lib built) (chosen_all (λ (x : Edge). IsTrue (has built.comps x.head.0)) (has built.edges) blank_edge 0 lib.edges (λ i short on.
          component_in (get_or lib.edges i blank_edge).head.0 (edge_heads lib right i blank_edge short) ∙ ends.heads i (get_or lib.edges i blank_edge) (slice_get-get_or lib.edges i blank_edge short) (is_on i short on)));
    } where
      is_on : (i : ℕ) → i < length lib.edges → has built.edges (0 + i) ≡ true → edge_chosen i ≡ true
      is_on i short on = let same : 0 + i ≡ i = omega arith in sym (edge_in i short) ∙ ap (has built.edges) (sym same) ∙ on

pub from_ends : (lib : LibraryParts) → IsLibrary lib → (chosen : ℕ → Bool) → KeepsEnds lib chosen
    → (arch : ArchitectureParts) × IsArchitecture lib arch × ((v : ℕ) → v < member_count lib → is_present lib arch v ≡ chosen v)
from_ends lib right chosen ends = (built lib chosen, is_architecture lib chosen right ends, same_members lib chosen)
