-- The components and edges of a generated library: two sources and a sink for each group, and an edge from each source.
use Rattle.std.proofs.Common.{◌≡◌, ℕ, ◌+◌, ◌*◌, ◌<◌, ◌≤◌, nat_eq, List, [], ◌∷◌, map, filter, length, refl, ap, inl, inr, arith, eq-eqb, ne_eqb, length-append}
use Rattle.std.proofs.lemmas.Bool.{cases_eq}
use Rattle.std.specs.List.{flat_map, enumerate_from}
use Rattle.arch_model.specs.declared.template.Component.{Component}
use Rattle.arch_model.specs.declared.library.LinkRow.{LinkRow}
use Rattle.arch_model.specs.Template.{instances_of_type, components_of, instances_of, edges_of_link, edges_of}
use Rattle.generate.specs.declared.group.Group.{Group}
use Rattle.generate.specs.Generated.{group_of, groups_from}
use Rattle.generated.specs.GeneratedLibrary.{types_of_group, link_of_group}

-- the components of some groups' types, which are numbered from n on
abbrev pub components_from : ℕ → List Group → List Component
components_from n gs = flat_map (λ p. instances_of_type p.0 p.1) (enumerate_from n (flat_map types_of_group gs))

pub length-components : (n : ℕ) (gs : List Group) → length (components_from n gs) ≡ 3 * length gs
length-components n [] = omega arith
length-components n (g ∷ gs) = omega (arith, length-components (n + 1 + 1) gs)

-- the numbers of the instances of a type, where components are numbered from c on
abbrev instances_from : ℕ → ℕ → List Component → List ℕ
instances_from t c components = map (λ p. p.0) (filter (λ p. nat_eq p.1.of t) (enumerate_from c components))

-- the components of later groups are of later types
none_later : (words : List ℕ) (i n t c : ℕ) → t < n → instances_from t c (components_from n (groups_from i words)) ≡ []
none_later [] i n t c before = refl
none_later (word ∷ words) i n t c before =
    rw (ne_eqb n t (λ e. omega (arith, e, before)), ne_eqb (n + 1) t (λ e. omega (arith, e, before))) (none_later words (i + 1) (n + 1 + 1) t (c + 1 + 1 + 1) (omega (arith, before)))

-- the two sources of group j, and its sink
sources_at : (words : List ℕ) (i j n c : ℕ) → i ≤ j → j < i + length words → n ≡ 2 * i → c ≡ 3 * i
    → instances_from (2 * j) c (components_from n (groups_from i words)) ≡ (3 * j) ∷ ((3 * j + 1) ∷ [])
sources_at [] i j n c low high types components = absurd (omega (arith, low, high))
sources_at (word ∷ words) i j n c low high types components =
    elim (cases_eq j i) [
      | inl same ↦
          let this : n ≡ 2 * j = omega (arith, same, types) in
          let first : c ≡ 3 * j = omega (arith, same, components) in
          rw (eq-eqb n (2 * j) this, ne_eqb (n + 1) (2 * j) (λ e. omega (arith, this, e)), none_later words (i + 1) (n + 1 + 1) (2 * j) (c + 1 + 1 + 1) (omega (arith, this)))
          (ap (λ k. k ∷ ((k + 1) ∷ [])) first)
      | inr other ↦
          let rest = sources_at words (i + 1) j (n + 1 + 1) (c + 1 + 1 + 1) (omega (arith, low, other)) (omega (arith, high)) (omega (arith, types)) (omega (arith, components)) in
          rw (ne_eqb n (2 * j) (λ e. omega (arith, types, e, low, other)), ne_eqb (n + 1) (2 * j) (λ e. omega (arith, types, e, low, other))) rest
    ]

sink_at : (words : List ℕ) (i j n c : ℕ) → i ≤ j → j < i + length words → n ≡ 2 * i → c ≡ 3 * i
    → instances_from (2 * j + 1) c (components_from n (groups_from i words)) ≡ (3 * j + 2) ∷ []
sink_at [] i j n c low high types components = absurd (omega (arith, low, high))
sink_at (word ∷ words) i j n c low high types components =
    elim (cases_eq j i) [
      | inl same ↦
          let this : n + 1 ≡ 2 * j + 1 = omega (arith, same, types) in
          let first : c + 1 + 1 ≡ 3 * j + 2 = omega (arith, same, components) in
          rw (ne_eqb n (2 * j + 1) (λ e. omega (arith, this, e)), eq-eqb (n + 1) (2 * j + 1) this, none_later words (i + 1) (n + 1 + 1) (2 * j + 1) (c + 1 + 1 + 1) (omega (arith, this)))
          (ap (λ k. k ∷ []) first)
      | inr other ↦
          let rest = sink_at words (i + 1) j (n + 1 + 1) (c + 1 + 1 + 1) (omega (arith, low, other)) (omega (arith, high)) (omega (arith, types)) (omega (arith, components)) in
          rw (ne_eqb n (2 * j + 1) (λ e. omega (arith, types, e, low, other)), ne_eqb (n + 1) (2 * j + 1) (λ e. omega (arith, types, e, low, other))) rest
    ]

-- a link has an edge from each of its two sources
two_edges : (link : LinkRow) (components : List Component) (j : ℕ) → instances_of components link.from ≡ (3 * j) ∷ ((3 * j + 1) ∷ []) → instances_of components link.to ≡ (3 * j + 2) ∷ []
    → length (edges_of_link components link) ≡ 2
two_edges link components j tails heads =
    rw (tails, heads, ne_eqb (3 * j + 2) (3 * j) (λ e. omega (arith, e)), ne_eqb (3 * j + 2) (3 * j + 1) (λ e. omega (arith, e))) refl

edges_count : (words all : List ℕ) (i : ℕ) → i + length words ≤ length all → length (edges_of (components_from 0 (groups_from 0 all)) (map link_of_group (groups_from i words))) ≡ 2 * length words
edges_count [] all i few = omega arith
edges_count (word ∷ words) all i few =
    let components = components_from 0 (groups_from 0 all) in
    let link = link_of_group (group_of i word) in
    let here = two_edges link components i (sources_at all 0 i 0 0 (omega arith) (omega (arith, few)) (omega arith) (omega arith)) (sink_at all 0 i 0 0 (omega arith) (omega (arith, few)) (omega arith) (omega arith)) in
    let more = edges_count words all (i + 1) (omega (arith, few)) in
    omega (arith, here, more, length-append (edges_of_link components link) (edges_of components (map link_of_group (groups_from (i + 1) words))))

pub length-edges : (words : List ℕ) → length (edges_of (components_of (flat_map types_of_group (groups_from 0 words))) (map link_of_group (groups_from 0 words))) ≡ 2 * length words
length-edges words = edges_count words words 0 (omega arith)
