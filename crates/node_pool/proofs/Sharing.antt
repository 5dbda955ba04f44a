-- By lists of cuts that begin alike the same is known.
use Rattle.std.proofs.Common.{◌≡◌, ℕ, Bool, false, List, [], ◌∷◌, ◌++◌, map, Option, refl, sym, ap, subst, ◌∙◌, ◌↔◌}
use Rattle.std.specs.Prelude.{fold, slice_get, option_map, option_and_then, is_some, unwrap_or, pos, ◌*ℤ◌, IsTrue}
use Rattle.std.specs.List.{All, flat_map, enumerate_from}
use Rattle.std.specs.Option.{option_map_or, option_to_list}
use Rattle.arch_model.specs.Member.{member_count}
use Rattle.rows.specs.Cube.{fixed_at}
use Rattle.rows.specs.declared.known.RowRef.{RowRef}
use Rattle.rows.specs.declared.known.RowRef.TheVariants.{Base, Cut, Cost}
use Rattle.rows.specs.declared.known.Pair.{Pair}
use Rattle.rows.specs.Parts.{CubeParts, CutParts, KnownParts, ProblemParts}
use Rattle.rows.specs.Row.{row_of, row_of_cut, int_sum_by}
use Rattle.rows.specs.Activity.{IsQuietAt, is_refuted, least_forced}
use Rattle.rows.specs.BaseRows.{cost_row_of}
use Rattle.rows.specs.Known.{known_from, row_at, known_cuts, IsQuiet}
use Rattle.rows.specs.Outcome.{MayBranch, MayPrune, MayOffer}
use Rattle.rows.specs.Trace.{cube_after, cube_after_step}
use Rattle.rows.specs.Reason.{AllThere, is_together, row_of_pair, terms_times, combination_of, empty_row}
use Rattle.rows.specs.Ascent.{is_ascent_refuted, looked_at, ascent_start, whole_ascent}
use Rattle.node_pool.specs.Tickets.{BeginAlike}
use Rattle.node_pool.specs.Alike.{KnowAlike}

module _ (problem : ProblemParts) (upto : ℕ) (bound : Option ℕ) (some others : List CutParts) (same : BeginAlike upto some others) where
  abbrev a : KnownParts
  a = known_from problem upto bound some

  abbrev b : KnownParts
  b = known_from problem upto bound others

  alike : known_cuts a ≡ known_cuts b
  alike = same.alike

  same_row : (r : RowRef) → row_at a r ≡ row_at b r
  same_row (Base i) = refl
  same_row (Cut j) = ap (λ cuts. option_map row_of_cut (slice_get cuts j)) alike
  same_row Cost = refl

  same_step : (cube : CubeParts) (r : RowRef) → cube_after_step a cube r ≡ cube_after_step b cube r
  same_step cube r = ap (λ row. option_and_then (λ row. option_map (λ p. fixed_at cube p.0 p.1) (least_forced row cube)) row) (same_row r)

  same_trace : (trace : List RowRef) (cube : CubeParts) → cube_after a cube trace ≡ cube_after b cube trace
  same_trace [] cube = refl
  same_trace (r ∷ trace) cube = λ i. option_and_then (λ next. same_trace trace next i) (same_step cube r i)

  same_pair : (p : Pair) → row_of_pair a p ≡ row_of_pair b p
  same_pair p = ap (λ row. unwrap_or row empty_row) (same_row p.row)

  same_combination : (pairs : List Pair) → combination_of a pairs ≡ combination_of b pairs
  same_combination pairs =
      λ i. row_of (member_count problem.library) (flat_map (λ (p : Pair). terms_times p.times (same_pair p i)) pairs) (int_sum_by (λ (p : Pair). pos p.times *ℤ (same_pair p i).least) pairs)

  same_reason : (pairs : List Pair) (cube : CubeParts) → is_together a pairs cube ≡ is_together b pairs cube
  same_reason pairs cube = ap (λ row. is_refuted row cube) (same_combination pairs)

  same_ascent : (cube : CubeParts) → whole_ascent a cube ≡ whole_ascent b cube
  same_ascent cube =
      ap
      (λ cuts. fold (looked_at cube) (ascent_start a) (map (λ p. (Base p.0, p.1)) (enumerate_from 0 problem.base) ++ map (λ p. (Cut p.0, row_of_cut p.1)) (enumerate_from 0 cuts)))
      alike

  same_refuted : (cube : CubeParts) → is_ascent_refuted a cube ≡ is_ascent_refuted b cube
  same_refuted cube = λ i. option_map_or (λ pairs. same_reason pairs cube i) (option_map (λ u. (same_ascent cube i).pairs) bound) false

  same_quiet : (cube : CubeParts) → IsQuiet a cube ↔ IsQuiet b cube
  same_quiet cube =
      let P : List CutParts → Type 0 = λ cuts. All (IsQuietAt cube) (problem.base ++ (map row_of_cut cuts ++ option_to_list (option_map (cost_row_of problem.library) bound))) in
      (subst P alike, subst P (sym alike))

  same_there : (pairs : List Pair) → AllThere a pairs ↔ AllThere b pairs
  same_there pairs =
      let P : (RowRef → Bool) → Type 0 = λ has. All (λ p. IsTrue (has p.row)) pairs in
      (subst P (λ i r. is_some (same_row r i)), subst P (λ i r. is_some (sym (same_row r) i)))

  pub know_alike : KnowAlike a b
  know_alike = record { traces = λ cube trace. same_trace trace cube; quiet = same_quiet; ascents = same_refuted; there = same_there; reasons = same_reason }

  -- what may be done with a cube by the one, may be done by the other
  pub may_branch : (cube : CubeParts) (trace : List RowRef) (v : ℕ) → MayBranch a cube trace v → MayBranch b cube trace v
  may_branch cube trace v may = record {
    after = may.after;
    leads = sym (same_trace trace cube) ∙ may.leads;
    quiet = (same_quiet may.after).0 may.quiet;
    ascent = sym (same_refuted may.after) ∙ may.ascent;
    variable = may.variable;
    free = may.free;
  }

  pub may_prune : (cube : CubeParts) (trace : List RowRef) (pairs : List Pair) → MayPrune a cube trace pairs → MayPrune b cube trace pairs
  may_prune cube trace pairs may = record {
    after = may.after;
    leads = sym (same_trace trace cube) ∙ may.leads;
    there = (same_there pairs).0 may.there;
    refuted = sym (same_reason pairs may.after) ∙ may.refuted;
  }

  pub may_offer : (cube : CubeParts) (trace : List RowRef) → MayOffer a cube trace → MayOffer b cube trace
  may_offer cube trace may = record { after = may.after; leads = sym (same_trace trace cube) ∙ may.leads; full = may.full; stands = may.stands }
