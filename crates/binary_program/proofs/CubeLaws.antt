-- Full cubes and architectures: each leads to the other.
use Rattle.std.proofs.Common.{◌≡◌, ℕ, ◌+◌, ◌-◌, ◌<◌, ◌≤◌, Bool, true, false, cond, ◌&&◌, ◌||◌, nat_eq, nat_lt, List, length, Some, refl, sym, ap, subst, ◌∙◌, arith, inl, inr, if◌then◌else◌}
use Rattle.std.specs.List.{All, slice_get}
use Rattle.std.proofs.lemmas.Bool.{lt-ltb, le-ltb, ltb-true, cases_lt}
use Rattle.std.proofs.lemmas.Bool.Decides.{eqb_tells}
use Rattle.std.proofs.lemmas.Option.{slice_get_within, get_or_from_slice_get}
use Rattle.arch_model.specs.declared.template.Component.{Component}
use Rattle.arch_model.specs.declared.template.Edge.{Edge}
use Rattle.arch_model.specs.Set.{Set, has, empty, put}
use Rattle.arch_model.specs.Parts.{LibraryParts, ArchitectureParts}
use Rattle.arch_model.specs.Library.{IsLibrary}
use Rattle.arch_model.specs.Architecture.{IsArchitecture}
use Rattle.arch_model.specs.Member.{is_present, member_count, KeepsEnds}
use Rattle.arch_model.proofs.Members.{or_right, false_if, same_test}
use Rattle.arch_model.proofs.Ranges.{edge_tails, edge_heads}
use Rattle.arch_model.proofs.SetLaws.{has-empty, has-put, same_set}
use Rattle.arch_model.proofs.Vectors.{keeps_ends, from_ends}
use Rattle.rows.specs.Parts.{CubeParts}
use Rattle.rows.specs.Cube.{IsCube, whole, fixed_at}
use Rattle.binary_program.specs.CubeOf.{FixesAll, IsCubeOf}

-- one more number is below the next
below_here : (k n : ℕ) → n ≡ k → nat_lt k (n + 1) ≡ true
below_here k n e = lt-ltb k (n + 1) (omega arith)

below_other : (k n : ℕ) → (n ≡ k → ⊥) → nat_lt k (n + 1) ≡ nat_lt k n
below_other k n ne = same_test (nat_lt k (n + 1)) (nat_lt k n)
    (λ h. let lt : k < n + 1 = ltb-true k (n + 1) h in lt-ltb k n (omega arith))
    (λ h. let lt : k < n = ltb-true k n h in lt-ltb k (n + 1) (omega arith))

or_none : (b : Bool) → (b || false) ≡ b
or_none true = refl
or_none false = refl

and_none : (b : Bool) → (b && false) ≡ false
and_none true = refl
and_none false = refl

-- a set of the numbers below n that pass a test, and one more of them
abbrev pub Passing : (ℕ → Bool) → ℕ → Set → Type 0
Passing p n s = (k : ℕ) → has s k ≡ (nat_lt k n && p k)

pub none_passing : (p : ℕ → Bool) (s : Set) → s ≡ empty → Passing p 0 s
none_passing p s none k = ap (λ t. has t k) none ∙ has-empty k ∙ ap (λ b. b && p k) (sym (le-ltb k 0 (omega arith)))

pub passing_yes : (p : ℕ → Bool) (n : ℕ) (s t : Set) → Passing p n s → p n ≡ true → t ≡ put s n → Passing p (n + 1) t
passing_yes p n s t so_far on step k = ap (λ u. has u k) step ∙ has-put s n k ∙ elim (eqb_tells n k) [
  | inl w ↦ or_right (has s k) (nat_eq n k) w.0 ∙ sym (ap (λ b. b && p k) (below_here k n w.1) ∙ ap p (sym w.1) ∙ on)
  | inr w ↦ ap (λ b. has s k || b) w.0 ∙ or_none (has s k) ∙ so_far k ∙ ap (λ b. b && p k) (sym (below_other k n w.1))
]

pub passing_no : (p : ℕ → Bool) (n : ℕ) (s t : Set) → Passing p n s → p n ≡ false → t ≡ s → Passing p (n + 1) t
passing_no p n s t so_far off step k = ap (λ u. has u k) step ∙ so_far k ∙ elim (eqb_tells n k) [
  | inl w ↦
      let out : p k ≡ false = ap p (sym w.1) ∙ off in
      ap (λ b. nat_lt k n && b) out ∙ and_none (nat_lt k n) ∙ sym (ap (λ b. nat_lt k (n + 1) && b) out ∙ and_none (nat_lt k (n + 1)))
  | inr w ↦ ap (λ b. b && p k) (sym (below_other k n w.1))
]

passing_if : (p : ℕ → Bool) (n : ℕ) (b : Bool) (s : Set) → Passing p n s → b ≡ p n → Passing p (n + 1) (if b then put s n else s)
passing_if p n true s so_far is = passing_yes p n s (put s n) so_far (sym is) refl
passing_if p n false s so_far is = passing_no p n s s so_far (sym is) refl

-- a cube that fixes the members below n, those of an architecture to 1, and one more member
pub record IsCubeUpTo (lib : LibraryParts) (arch : ArchitectureParts) (n : ℕ) (cube : CubeParts) : Type 0 where
  pub fixed : (k : ℕ) → has cube.fixed k ≡ nat_lt k n
  pub ones : Passing (is_present lib arch) n cube.ones

-- whether a set of members has an edge, after this many components
abbrev pub edge_in : ℕ → Set → ℕ → Bool
edge_in components members e = has members (components + e)

pub cube_begins : (lib : LibraryParts) (arch : ArchitectureParts) (cube : CubeParts) → cube ≡ whole → IsCubeUpTo lib arch 0 cube
cube_begins lib arch cube is = record {
  fixed = λ k. ap (λ c. has c.fixed k) is ∙ has-empty k ∙ sym (le-ltb k 0 (omega arith));
  ones = none_passing (is_present lib arch) cube.ones (ap (λ c. c.ones) is);
}

fixed_more : (n : ℕ) (s : Set) → ((k : ℕ) → has s k ≡ nat_lt k n) → (k : ℕ) → has (put s n) k ≡ nat_lt k (n + 1)
fixed_more n s so_far k = has-put s n k ∙ elim (eqb_tells n k) [
  | inl w ↦ or_right (has s k) (nat_eq n k) w.0 ∙ sym (below_here k n w.1)
  | inr w ↦ ap (λ b. has s k || b) w.0 ∙ or_none (has s k) ∙ so_far k ∙ sym (below_other k n w.1)
]

pub cube_more : (lib : LibraryParts) (arch : ArchitectureParts) (n : ℕ) (b : Bool) (cube after : CubeParts) → IsCubeUpTo lib arch n cube → b ≡ is_present lib arch n → after ≡ fixed_at cube n b → IsCubeUpTo lib arch (n + 1) after
cube_more lib arch n b cube after so_far is step = record {
  fixed = λ k. ap (λ c. has c.fixed k) step ∙ fixed_more n cube.fixed so_far.fixed k;
  ones = λ k. ap (λ c. has c.ones k) step ∙ passing_if (is_present lib arch) n b cube.ones so_far.ones is k;
}

-- a member is a component below the number of components, and an edge from there on
present_component : (lib : LibraryParts) (arch : ArchitectureParts) (c : ℕ) → c < length lib.components → is_present lib arch c ≡ has arch.comps c
present_component lib arch c h = ap (λ b. cond b (has arch.comps c) (has arch.edges (c - length lib.components))) (lt-ltb c (length lib.components) h)

present_edge : (lib : LibraryParts) (arch : ArchitectureParts) (e : ℕ) → is_present lib arch (length lib.components + e) ≡ has arch.edges e
present_edge lib arch e =
    let far : length lib.components ≤ length lib.components + e = omega arith in
    let back : (length lib.components + e) - length lib.components ≡ e = omega arith in
    ap (λ b. cond b (has arch.comps (length lib.components + e)) (has arch.edges ((length lib.components + e) - length lib.components))) (le-ltb (length lib.components + e) (length lib.components) far)
    ∙ ap (has arch.edges) back

-- an architecture has no component and no edge past the template's
none_past : (s : Set) (n : ℕ) → ((k : ℕ) → has s k ≡ true → k < n) → (k : ℕ) → n ≤ k → has s k ≡ false
none_past s n within k past = false_if (has s k) (λ on. let below = within k on in absurd (omega arith))

-- two architectures with the same members are one
same_below : (s t : Set) (n : ℕ) → ((k : ℕ) → k < n → has s k ≡ has t k) → ((k : ℕ) → n ≤ k → has s k ≡ false) → ((k : ℕ) → n ≤ k → has t k ≡ false) → s ≡ t
same_below s t n alike s_past t_past = same_set s t (λ k. elim (cases_lt k n) [
  | inl below ↦ alike k below
  | inr past ↦ s_past k past ∙ sym (t_past k past)
])

pub same_architecture : (lib : LibraryParts) (a b : ArchitectureParts) → IsArchitecture lib a → IsArchitecture lib b → ((v : ℕ) → v < member_count lib → is_present lib a v ≡ is_present lib b v) → a ≡ b
same_architecture lib a b isa isb alike =
    let comps = same_below a.comps b.comps (length lib.components)
    (λ c here. let inside : c < member_count lib = omega arith in sym (present_component lib a c here) ∙ alike c inside ∙ present_component lib b c here)
    (none_past a.comps (length lib.components) isa.comps) (none_past b.comps (length lib.components) isb.comps) in
    let edges = same_below a.edges b.edges (length lib.edges)
    (λ e here. let inside : length lib.components + e < member_count lib = omega arith in sym (present_edge lib a e) ∙ alike (length lib.components + e) inside ∙ present_edge lib b e)
    (none_past a.edges (length lib.edges) isa.edges) (none_past b.edges (length lib.edges) isb.edges) in
    λ i. record { comps = comps i; edges = edges i }

-- no two architectures have the same cube
pub only_one : (lib : LibraryParts) (arch other : ArchitectureParts) (cube : CubeParts) → IsArchitecture lib arch → IsCubeOf lib arch cube → IsArchitecture lib other → IsCubeOf lib other cube → other ≡ arch
only_one lib arch other cube is cubed also too = same_architecture lib other arch also is (λ v short. sym (too.ones v short) ∙ cubed.ones v short)

-- the cube of an architecture keeps the ends of each edge
pub keeps_ends_of : (lib : LibraryParts) (arch : ArchitectureParts) (cube : CubeParts) → IsLibrary lib → IsArchitecture lib arch → IsCubeOf lib arch cube → KeepsEnds lib (has cube.ones)
keeps_ends_of lib arch cube right is cubed =
    let keeps = keeps_ends lib arch is in record {
      tails = λ e edge at on.
          let short = slice_get_within lib.edges e edge at in
          let here : length lib.components + e < member_count lib = omega arith in
          let end : edge.tail.0 < length lib.components = edge_end (λ (x : Edge). x.tail.0) lib e edge (edge_tails lib right) at in
          let inside : edge.tail.0 < member_count lib = omega arith in
          cubed.ones edge.tail.0 inside ∙ keeps.tails e edge at (sym (cubed.ones (length lib.components + e) here) ∙ on);
      heads = λ e edge at on.
          let short = slice_get_within lib.edges e edge at in
          let here : length lib.components + e < member_count lib = omega arith in
          let end : edge.head.0 < length lib.components = edge_end (λ (x : Edge). x.head.0) lib e edge (edge_heads lib right) at in
          let inside : edge.head.0 < member_count lib = omega arith in
          cubed.ones edge.head.0 inside ∙ keeps.heads e edge at (sym (cubed.ones (length lib.components + e) here) ∙ on);
    } where
      edge_end : (f : Edge → ℕ) (lib : LibraryParts) (e : ℕ) (edge : Edge) → All (λ x. f x < length lib.components) lib.edges → slice_get lib.edges e ≡ Some edge → f edge < length lib.components
      edge_end f lib e edge all at =
          let short = slice_get_within lib.edges e edge at in
          subst (λ x. f x < length lib.components) (get_or_from_slice_get lib.edges e edge edge at) (all e edge short)

-- what is read off a choice that keeps the ends is an architecture
pub read_off : (lib : LibraryParts) (chosen : ℕ → Bool) (arch : ArchitectureParts) → IsLibrary lib → KeepsEnds lib chosen
    → ((c : ℕ) → has arch.comps c ≡ (nat_lt c (length lib.components) && chosen c)) → ((e : ℕ) → has arch.edges e ≡ (nat_lt e (length lib.edges) && chosen (length lib.components + e)))
    → IsArchitecture lib arch
read_off lib chosen arch right ends comps edges =
    let built = from_ends lib right chosen ends in
    let same_comps = same_below arch.comps built.0.comps (length lib.components)
    (λ c here. let inside : c < member_count lib = omega arith in comps c ∙ ap (λ b. b && chosen c) (lt-ltb c (length lib.components) here) ∙ sym (built.2 c inside) ∙ present_component lib built.0 c here)
    (λ c past. comps c ∙ ap (λ b. b && chosen c) (le-ltb c (length lib.components) past)) (none_past built.0.comps (length lib.components) built.1.comps) in
    let same_edges = same_below arch.edges built.0.edges (length lib.edges)
    (λ e here. let inside : length lib.components + e < member_count lib = omega arith in
    edges e ∙ ap (λ b. b && chosen (length lib.components + e)) (lt-ltb e (length lib.edges) here) ∙ sym (built.2 (length lib.components + e) inside) ∙ present_edge lib built.0 e)
    (λ e past. edges e ∙ ap (λ b. b && chosen (length lib.components + e)) (le-ltb e (length lib.edges) past)) (none_past built.0.edges (length lib.edges) built.1.edges) in
    let same : built.0 ≡ arch = λ i. record { comps = sym same_comps i; edges = sym same_edges i } in
    subst (IsArchitecture lib) same built.1

-- the same as the code has it
pub read_off_sets : (lib : LibraryParts) (ones members comps edges : Set) (components : List Component) (rows : List Edge) (arch : ArchitectureParts) → IsLibrary lib → KeepsEnds lib (has ones)
    → members ≡ ones → components ≡ lib.components → rows ≡ lib.edges → arch ≡ record { comps = comps; edges = edges }
    → ((c : ℕ) → has comps c ≡ (nat_lt c (length components) && has members c)) → ((e : ℕ) → has edges e ≡ (nat_lt e (length rows) && has members (length components + e)))
    → IsArchitecture lib arch
read_off_sets lib ones members comps edges components rows arch right ends same_members same_components same_rows made comps_are edges_are =
    read_off lib (has ones) arch right ends
    (λ c. ap (λ a. has a.comps c) made ∙ comps_are c ∙ ap (λ n. nat_lt c n && has members c) (ap length same_components) ∙ ap (λ s. nat_lt c (length lib.components) && has s c) same_members)
    (λ e. ap (λ a. has a.edges e) made ∙ edges_are e ∙ ap (λ n. nat_lt e n && has members (length components + e)) (ap length same_rows)
    ∙ ap (λ n. nat_lt e (length lib.edges) && has members (n + e)) (ap length same_components) ∙ ap (λ s. nat_lt e (length lib.edges) && has s (length lib.components + e)) same_members)

-- and an architecture has no other cube
same_cube : (lib : LibraryParts) (arch : ArchitectureParts) (a b : CubeParts) → IsCube a → IsCube b → IsCubeOf lib arch a → IsCubeOf lib arch b → b ≡ a
same_cube lib arch a b ok also of too =
    let fixed = same_set b.fixed a.fixed (λ v. too.full v ∙ sym (of.full v)) in
    let ones = same_below b.ones a.ones (member_count lib) (λ v short. too.ones v short ∙ sym (of.ones v short))
    (none_past b.ones (member_count lib) (λ v on. ltb-true v (member_count lib) (sym (too.full v) ∙ also.within v on)))
    (none_past a.ones (member_count lib) (λ v on. ltb-true v (member_count lib) (sym (of.full v) ∙ ok.within v on))) in
    λ i. record { fixed = fixed i; ones = ones i }

pub only_cube : (lib : LibraryParts) (arch : ArchitectureParts) (cube : CubeParts) → IsCube cube → IsCubeOf lib arch cube → (other : CubeParts) → IsCube other → IsCubeOf lib arch other → other ≡ cube
only_cube lib arch cube ok of other also too = same_cube lib arch cube other ok also of too

-- what is read off a cube in which nothing is free has that cube
first_only : (b c : Bool) → b ≡ true → (b && c) ≡ c
first_only true c e = refl
first_only false c e = let f : false ≡ true = e in cc

cubed_off : (lib : LibraryParts) (cube : CubeParts) (arch : ArchitectureParts) → FixesAll lib cube
    → ((c : ℕ) → has arch.comps c ≡ (nat_lt c (length lib.components) && has cube.ones c)) → ((e : ℕ) → has arch.edges e ≡ (nat_lt e (length lib.edges) && has cube.ones (length lib.components + e)))
    → IsCubeOf lib arch cube
cubed_off lib cube arch full comps edges = record {
  full = full;
  ones = λ v short. elim (cases_lt v (length lib.components)) [
    | inl here ↦ sym (present_component lib arch v here ∙ comps v ∙ first_only (nat_lt v (length lib.components)) (has cube.ones v) (lt-ltb v (length lib.components) here))
    | inr past ↦
        let e : ℕ = v - length lib.components in
        let back : length lib.components + e ≡ v = omega arith in
        let inside : e < length lib.edges = omega arith in
        sym (sym (ap (is_present lib arch) back) ∙ present_edge lib arch e ∙ edges e ∙ first_only (nat_lt e (length lib.edges)) (has cube.ones (length lib.components + e)) (lt-ltb e (length lib.edges) inside) ∙ ap (has cube.ones) back)
  ];
}

-- the same as the code has it
pub cubed_off_sets : (lib : LibraryParts) (cube : CubeParts) (members comps edges : Set) (components : List Component) (rows : List Edge) (arch : ArchitectureParts) → FixesAll lib cube
    → members ≡ cube.ones → components ≡ lib.components → rows ≡ lib.edges → arch ≡ record { comps = comps; edges = edges }
    → ((c : ℕ) → has comps c ≡ (nat_lt c (length components) && has members c)) → ((e : ℕ) → has edges e ≡ (nat_lt e (length rows) && has members (length components + e)))
    → IsCubeOf lib arch cube
cubed_off_sets lib cube members comps edges components rows arch full same_members same_components same_rows made comps_are edges_are =
    cubed_off lib cube arch full
    (λ c. ap (λ a. has a.comps c) made ∙ comps_are c ∙ ap (λ n. nat_lt c n && has members c) (ap length same_components) ∙ ap (λ s. nat_lt c (length lib.components) && has s c) same_members)
    (λ e. ap (λ a. has a.edges e) made ∙ edges_are e ∙ ap (λ n. nat_lt e n && has members (length components + e)) (ap length same_rows)
    ∙ ap (λ n. nat_lt e (length lib.edges) && has members (n + e)) (ap length same_components) ∙ ap (λ s. nat_lt e (length lib.edges) && has s (length lib.components + e)) same_members)
