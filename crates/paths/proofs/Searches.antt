-- What a search over rows finds: the paths, and what leads to a sink.
use Rattle.std.proofs.Common.{◌≡◌, ℕ, ◌<◌, ◌≤◌, Bool, true, not, ◌&&◌, ◌||◌, nat_eq, List, [], ◌∷◌, length, sym, ap, ◌∙◌, subst, arith, inl, inr}
use Rattle.std.specs.List.{All, list_any}
use Rattle.std.specs.Prelude.{IsTrue, ◌↔◌}
use Rattle.std.proofs.lemmas.Bool.{eqb-true, eq-eqb}
use Rattle.arch_model.specs.declared.limits.TheConstants.{COMPONENTS}
use Rattle.arch_model.specs.declared.template.Edge.{Edge}
use Rattle.arch_model.specs.Set.{Set, has, put, empty, union, members_below}
use Rattle.arch_model.specs.Parts.{LibraryParts, ArchitectureParts}
use Rattle.arch_model.specs.Library.{IsLibrary}
use Rattle.arch_model.specs.Architecture.{IsArchitecture}
use Rattle.arch_model.specs.Path.{is_source, is_up, live_edges, joins, LeadsTo, IsPath}
use Rattle.arch_model.specs.Inner.Walks.{IsWalk}
use Rattle.arch_model.proofs.Members.{and_right, and_both, or_left, or_right, or_cases, some_of, any_of, is_in-members, has-from_members}
use Rattle.arch_model.proofs.SetLaws.{has-put, has-empty, has-union}
use Rattle.arch_model.proofs.Ranges.{edge_tails, edge_heads}
use Rattle.arch_model.proofs.Reaching.{walk_or_path, joins_tail, joins_head}
use Rattle.arch_model.proofs.Walks.{walk_map}
use Rattle.paths.specs.declared.adjacency.Way.{Way}
use Rattle.paths.specs.declared.adjacency.Way.TheVariants.{Down, Up}
use Rattle.paths.specs.Inner.Spread.{from_of, to_of, leads, live}
use Rattle.paths.specs.Links.{is_next}

-- both ends of a library's edges are below the limit
pub froms : (lib : LibraryParts) → IsLibrary lib → (es : List Edge) → es ≡ lib.edges → (way : Way) → All (λ e. from_of way e < COMPONENTS) es
froms lib h es is Down = subst (All (λ e. e.tail.0 < COMPONENTS)) (sym is) (λ k d short. omega (arith, edge_tails lib h k d short, h.few_components))
froms lib h es is Up = subst (All (λ e. e.head.0 < COMPONENTS)) (sym is) (λ k d short. omega (arith, edge_heads lib h k d short, h.few_components))

pub tos : (lib : LibraryParts) → IsLibrary lib → (es : List Edge) → es ≡ lib.edges → (way : Way) → All (λ e. to_of way e < COMPONENTS) es
tos lib h es is Down = subst (All (λ e. e.head.0 < COMPONENTS)) (sym is) (λ k d short. omega (arith, edge_heads lib h k d short, h.few_components))
tos lib h es is Up = subst (All (λ e. e.tail.0 < COMPONENTS)) (sym is) (λ k d short. omega (arith, edge_tails lib h k d short, h.few_components))

module _ (lib : LibraryParts) (arch : ArchitectureParts) (failed : Set) where
  -- rows are of the library's and the architecture's edges
  pub rows_are : (way : Way) (rows : List Set) (chosen : Set) (n : ℕ) (es : List Edge) → chosen ≡ arch.edges → n ≡ length lib.components → es ≡ lib.edges
      → ((a c : ℕ) → is_next rows a c ≡ leads way (live chosen failed n es) a c) → (a c : ℕ) → is_next rows a c ≡ leads way (live_edges lib arch (has failed)) a c
  rows_are way rows chosen n es e k f nexts a c =
      nexts a c ∙ ap (λ s. leads way (live s failed n es) a c) e ∙ ap (λ m. leads way (live arch.edges failed m es) a c) k ∙ ap (λ l. leads way (live arch.edges failed (length lib.components) l) a c) f

  -- down from the sources
  pub reach_exact : (up first : Set) (rows : List Set) → ((c : ℕ) → has up c ≡ is_up arch (has failed) c) → ((c : ℕ) → has first c ≡ is_source lib c)
      → ((a c : ℕ) → is_next rows a c ≡ joins (live_edges lib arch (has failed)) a c)
      → (c : ℕ) → ((rest : List ℕ) × IsWalk (has first) (has up) (is_next rows) c rest) ↔ ((path : List ℕ) × IsPath lib arch c (has failed) path)
  reach_exact up first rows ups firsts nexts c =
      let exact = walk_or_path lib arch (has failed) c in (
        (λ w. exact.0 (
          w.0,
          walk_map (has first) (has up) (is_next rows) (is_source lib) (is_up arch (has failed)) (joins (live_edges lib arch (has failed)))
              (λ d u. sym (ups d) ∙ u) (λ d u s. sym (firsts d) ∙ s) (λ b d u j. sym (nexts b d) ∙ j) c w.0 w.1,
        )),
        (λ p. let w = exact.1 p in (
          w.0,
          walk_map (is_source lib) (is_up arch (has failed)) (joins (live_edges lib arch (has failed))) (has first) (has up) (is_next rows)
              (λ d u. ups d ∙ u) (λ d u s. firsts d ∙ s) (λ b d u j. nexts b d ∙ j) c w.0 w.1,
        )),
      )

  -- up from a sink
  module _ (fits : IsArchitecture lib arch) (sink : ℕ) (up first : Set) (rows : List Set) (one : first ≡ put empty sink)
      (ups : (c : ℕ) → has up c ≡ (has (union arch.comps first) c && not (has failed c)))
      (nexts : (a c : ℕ) → is_next rows a c ≡ joins (live_edges lib arch (has failed)) c a) where
    only_sink : (c : ℕ) → has first c ≡ nat_eq sink c
    only_sink c = ap (λ s. has s c) one ∙ has-put empty sink c ∙ ap (λ b. b || nat_eq sink c) (has-empty c)

    up_live : (c : ℕ) → has up c ≡ true → not (has failed c) ≡ true
    up_live c u = and_right (has (union arch.comps first) c) (not (has failed c)) (sym (ups c) ∙ u)

    is_up_here : (c : ℕ) → (has arch.comps c || has first c) ≡ true → not (has failed c) ≡ true → has up c ≡ true
    is_up_here c h live = ups c ∙ and_both (has (union arch.comps first) c) (not (has failed c)) (has-union arch.comps first c ∙ h) live

    leads_of : (c : ℕ) (rest : List ℕ) → IsWalk (has first) (has up) (is_next rows) c rest → LeadsTo lib arch sink (has failed) (c ∷ rest)
    leads_of c [] w = (up_live c w.0, sym (eqb-true sink c (sym (only_sink c) ∙ w.1)))
    leads_of c (b ∷ rest) w = (up_live c w.0, sym (nexts b c) ∙ w.1, leads_of b rest w.2)

    walk_back : (c : ℕ) (rest : List ℕ) → LeadsTo lib arch sink (has failed) (c ∷ rest) → IsWalk (has first) (has up) (is_next rows) c rest
    walk_back c [] h = let begin = only_sink c ∙ eq-eqb sink c (sym h.1) in (is_up_here c (or_right (has arch.comps c) (has first c) begin) h.0, begin)
    walk_back c (b ∷ rest) h =
        (is_up_here c (or_left (has arch.comps c) (has first c) (joins_tail lib arch (has failed) fits c b h.1)) h.0, nexts b c ∙ h.1, walk_back b rest h.2)

    pub ancestors_exact : (c : ℕ) → ((rest : List ℕ) × IsWalk (has first) (has up) (is_next rows) c rest) ↔ ((rest : List ℕ) × LeadsTo lib arch sink (has failed) (c ∷ rest))
    ancestors_exact c = ((λ w. (w.0, leads_of c w.0 w.1)), (λ l. (l.0, walk_back c l.0 l.1)))

  -- one step down, and one up
  module _ (fits : IsArchitecture lib arch) (few : length lib.components ≤ COMPONENTS) (from found up : Set) (next : ℕ → ℕ → Bool) (all : up ≡ arch.comps) (c : ℕ)
      (steps : has found c ≡ (has up c && list_any (λ a. next a c) (members_below from COMPONENTS))) where
    found_one : has found c ≡ true → (b : ℕ) × (has from b ≡ true) × (next b c ≡ true)
    found_one h =
        let b = some_of (λ a. next a c) (members_below from COMPONENTS) (and_right (has up c) _ (sym steps ∙ h)) in
        (b.0, has-from_members from COMPONENTS b.0 b.1, b.2)

    one_found : (b : ℕ) → has from b ≡ true → has arch.comps b ≡ true → has arch.comps c ≡ true → next b c ≡ true → has found c ≡ true
    one_found b h here there step =
        let short = fits.comps b here in
        steps ∙ and_both (has up c) _ (ap (λ s. has s c) all ∙ there) (any_of (λ a. next a c) (members_below from COMPONENTS) b (is_in-members from COMPONENTS b h (omega (arith, short, few))) step)

    pub down_exact : ((a d : ℕ) → next a d ≡ joins (live_edges lib arch (has failed)) a d)
        → IsTrue (has found c) ↔ ((b : ℕ) × IsTrue (has from b) × IsTrue (joins (live_edges lib arch (has failed)) b c))
    down_exact nexts = (
      (λ h. let b = found_one h in (b.0, b.1, sym (nexts b.0 c) ∙ b.2)),
      (λ b. one_found b.0 b.1 (joins_tail lib arch (has failed) fits b.0 c b.2) (joins_head lib arch (has failed) fits b.0 c b.2) (nexts b.0 c ∙ b.2)),
    )

    pub up_exact : ((a d : ℕ) → next a d ≡ joins (live_edges lib arch (has failed)) d a)
        → IsTrue (has found c) ↔ ((d : ℕ) × IsTrue (has from d) × IsTrue (joins (live_edges lib arch (has failed)) c d))
    up_exact nexts = (
      (λ h. let d = found_one h in (d.0, d.1, sym (nexts d.0 c) ∙ d.2)),
      (λ d. one_found d.0 d.1 (joins_head lib arch (has failed) fits c d.0 d.2) (joins_tail lib arch (has failed) fits c d.0 d.2) (nexts d.0 c ∙ d.2)),
    )

  -- the sink and the present components are in range
  pub with_sink : IsArchitecture lib arch → (sink : ℕ) (first both : Set) → sink < length lib.components → first ≡ put empty sink → both ≡ union arch.comps first → (c : ℕ) → IsTrue (has both c) → c < length lib.components
  with_sink fits sink first both low one is c h =
      elim (or_cases (has arch.comps c) (has first c) (sym (has-union arch.comps first c) ∙ sym (ap (λ s. has s c) is) ∙ h)) [
        | inl here ↦ fits.comps c here
        | inr at ↦ let e : sink ≡ c = eqb-true sink c (sym (ap (λ s. has s c) one ∙ has-put empty sink c ∙ ap (λ b. b || nat_eq sink c) (has-empty c)) ∙ at) in omega arith
      ]

-- `↔` in a row
pub through : {A B C : Type 0} → (A ↔ B) → (B ↔ C) → (A ↔ C)
through f g = ((λ a. g.0 (f.0 a)), (λ d. f.1 (g.1 d)))
