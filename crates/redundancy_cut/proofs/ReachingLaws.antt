-- The test of what a sink is reached from is exact.
use Rattle.std.proofs.Common.{◌≡◌, ℕ, ◌<◌, Bool, true, not, ◌&&◌, nat_eq, List, [], ◌∷◌, length, sym, subst, arith}
use Rattle.std.specs.Prelude.{◌↔◌, IsTrue, nat_lt}
use Rattle.std.specs.List.{range_with_len}
use Rattle.std.proofs.lemmas.Bool.{eqb-true, eq-eqb, lt-ltb, ltb-true}
use Rattle.std.proofs.lemmas.List.FromFn.{length-range_with_len}
use Rattle.arch_model.specs.Parts.{LibraryParts, ArchitectureParts}
use Rattle.arch_model.specs.Library.{IsLibrary}
use Rattle.arch_model.specs.Member.{is_in}
use Rattle.arch_model.specs.Path.{live_edges, joins, LeadsTo}
use Rattle.arch_model.specs.Inner.Walks.{IsWalk}
use Rattle.arch_model.proofs.Members.{and_left, and_right, and_both, is_in-range}
use Rattle.arch_model.proofs.Ranges.{edge_tails}
use Rattle.arch_model.proofs.Walks.{reached_exact, closed_at_last, level_inside}
use Rattle.redundancy_cut.specs.Reaching.{reaches}
use Rattle.redundancy_cut.proofs.NumberSets.{in_range}
use Rattle.redundancy_cut.proofs.EdgeLaws.{joint_of, edge_at}

module _ (lib : LibraryParts) (right : IsLibrary lib) (arch : ArchitectureParts) (sink : ℕ) (low : sink < length lib.components) (failed : ℕ → Bool) where
  abbrev edges : ℕ → ℕ → Bool
  edges b a = joins (live_edges lib arch failed) a b

  abbrev up : ℕ → Bool
  up d = nat_lt d (length lib.components) && not (failed d)

  -- what leads to the sink is a walk from it
  leads_of : (c : ℕ) (rest : List ℕ) → IsWalk (nat_eq sink) up edges c rest → LeadsTo lib arch sink failed (c ∷ rest)
  leads_of c [] w = (and_right (nat_lt c (length lib.components)) (not (failed c)) w.0, sym (eqb-true sink c w.1))
  leads_of c (b ∷ rest) w = (and_right (nat_lt c (length lib.components)) (not (failed c)) w.0, w.1, leads_of b rest w.2)

  up_at : (c : ℕ) → c < length lib.components → not (failed c) ≡ true → up c ≡ true
  up_at c short live = and_both (nat_lt c (length lib.components)) (not (failed c)) (lt-ltb c (length lib.components) short) live

  walk_of : (c : ℕ) (rest : List ℕ) → LeadsTo lib arch sink failed (c ∷ rest) → IsWalk (nat_eq sink) up edges c rest
  walk_of c [] h = (up_at c (subst (λ (d : ℕ). d < length lib.components) (sym h.1) low) h.0, eq-eqb sink c (sym h.1))
  walk_of c (b ∷ rest) h =
      let e = joint_of lib arch failed c b h.1 in
      let short = edge_at (λ d. d.tail.0 < length lib.components) lib.edges (edge_tails lib right) e.number e.edge e.at in
      (up_at c (subst (λ (d : ℕ). d < length lib.components) e.tail short) h.0, h.1, walk_of b rest h.2)

  up_inside : (c : ℕ) → up c ≡ true → is_in (range_with_len 0 (length lib.components)) c ≡ true
  up_inside c u = is_in-range 0 (length lib.components) c (omega arith) (let short = ltb-true c (length lib.components) (and_left (nat_lt c (length lib.components)) (not (failed c)) u) in omega arith)

  pub reaches_exact : (c : ℕ) → IsTrue (reaches lib arch sink failed c) ↔ ((rest : List ℕ) × LeadsTo lib arch sink failed (c ∷ rest))
  unfolding reaches
  reaches_exact c =
      let numbers = range_with_len 0 (length lib.components) in
      let exact = reached_exact (nat_eq sink) up edges numbers up_inside (length lib.components)
      (closed_at_last (nat_eq sink) up edges numbers (length lib.components) (omega (arith, length-range_with_len 0 (length lib.components)))) c in (
        (λ h. let w = exact.0 h in (w.0, leads_of c w.0 w.1)),
        (λ l. exact.1 (l.0, walk_of c l.0 l.1)),
      )

  -- what reaches the sink is a component
  pub reaches_low : (c : ℕ) → reaches lib arch sink failed c ≡ true → c < length lib.components
  unfolding reaches
  reaches_low c h =
      let low = in_range 0 (length lib.components) c (level_inside (nat_eq sink) up edges (range_with_len 0 (length lib.components)) (length lib.components) c h) in
      omega (arith, low)

  -- a sink that has not failed reaches itself
  pub sink_reaches : not (failed sink) ≡ true → (c : ℕ) → nat_eq sink c ≡ true → reaches lib arch sink failed c ≡ true
  sink_reaches live c same =
      let e : sink ≡ c = eqb-true sink c same in
      (reaches_exact c).1 ([], (subst (λ (d : ℕ). not (failed d) ≡ true) e live, sym e))
