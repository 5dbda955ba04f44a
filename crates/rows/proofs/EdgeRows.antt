-- The edges' rows ask for each present edge's ends.
use Rattle.std.proofs.Common.{◌≡◌, ℕ, ◌+◌, ◌<◌, ℤ, pos, negsuc, ◌+ℤ◌, ◌≤ℤ◌, Bool, true, false, List, [], ◌∷◌, length, Some, refl, sym, subst, arith, if◌then◌else◌}
use Rattle.std.specs.List.{AllByRecursion, enumerate_from, slice_get}
use Rattle.std.proofs.lemmas.Int.{ints}
use Rattle.std.proofs.lemmas.Option.{slice_get_within, get_or_from_slice_get}
use Rattle.arch_model.specs.declared.template.Edge.{Edge}
use Rattle.arch_model.specs.Parts.{LibraryParts}
use Rattle.arch_model.specs.Library.{IsLibrary}
use Rattle.arch_model.specs.Member.{member_count, KeepsEnds}
use Rattle.arch_model.proofs.Ranges.{blank_edge, edge_tails, edge_heads}
use Rattle.rows.specs.declared.row.Term.{Term}
use Rattle.rows.specs.Parts.{RowParts}
use Rattle.rows.specs.Row.{value_of, RowHolds, row_of}
use Rattle.rows.specs.BaseRows.{plus, minus, member_row, edge_rows}
use Rattle.rows.proofs.Collected.{value_of-collected}
use Rattle.rows.proofs.AllParts.{all_parts, all_flat, all_numbered, numbered_all}

-- a row of terms over members says what the terms say
pub holds_from : (n : ℕ) (terms : List Term) (least : ℤ) (x : ℕ → Bool) → AllByRecursion (λ t. t.var.0 < n) terms → least ≤ℤ value_of terms x → RowHolds (row_of n terms least) x
holds_from n terms least x below h = subst (λ (z : ℤ). least ≤ℤ z) (sym (value_of-collected n terms x below)) h

pub holds_to : (n : ℕ) (terms : List Term) (least : ℤ) (x : ℕ → Bool) → AllByRecursion (λ t. t.var.0 < n) terms → RowHolds (row_of n terms least) x → least ≤ℤ value_of terms x
holds_to n terms least x below h = subst (λ (z : ℤ). least ≤ℤ z) (value_of-collected n terms x below) h

-- `x_a - x_e >= 0`: where e is at 1, so is a
two_from : (a e : Bool) → (e ≡ true → a ≡ true) → pos 0 ≤ℤ ((if a then pos 1 else pos 0) +ℤ ((if e then negsuc 0 else pos 0) +ℤ pos 0))
two_from true true h = omega (arith, ints)
two_from true false h = omega (arith, ints)
two_from false true h = absurd (let f : false ≡ true = h refl in cc)
two_from false false h = omega (arith, ints)

two_to : (a e : Bool) → pos 0 ≤ℤ ((if a then pos 1 else pos 0) +ℤ ((if e then negsuc 0 else pos 0) +ℤ pos 0)) → e ≡ true → a ≡ true
two_to true e h on = refl
two_to false true h on = absurd (omega (arith, ints))
two_to false false h on = on

-- the two rows of edge e, as they stand
abbrev pub rows_of_edge : LibraryParts → ℕ × Edge → List RowParts
rows_of_edge lib p = member_row lib (plus p.1.tail.0 ∷ minus p.0 ∷ []) (pos 0) ∷ member_row lib (plus p.1.head.0 ∷ minus p.0 ∷ []) (pos 0) ∷ []

module _ (lib : LibraryParts) (right : IsLibrary lib) (x : ℕ → Bool) where
  pub tail_below : (e : ℕ) (edge : Edge) → slice_get lib.edges e ≡ Some edge → edge.tail.0 < length lib.components
  tail_below e edge is = subst (λ (z : Edge). z.tail.0 < length lib.components) (get_or_from_slice_get lib.edges e edge blank_edge is) (edge_tails lib right e blank_edge (slice_get_within lib.edges e edge is))

  pub head_below : (e : ℕ) (edge : Edge) → slice_get lib.edges e ≡ Some edge → edge.head.0 < length lib.components
  head_below e edge is = subst (λ (z : Edge). z.head.0 < length lib.components) (get_or_from_slice_get lib.edges e edge blank_edge is) (edge_heads lib right e blank_edge (slice_get_within lib.edges e edge is))

  -- both terms of an edge's row are over members
  terms_below : (a e : ℕ) (edge : Edge) → slice_get lib.edges e ≡ Some edge → a < length lib.components → AllByRecursion (λ t. t.var.0 < member_count lib) (plus a ∷ minus (length lib.components + e) ∷ [])
  terms_below a e edge is low =
      let short = slice_get_within lib.edges e edge is in
      let one : a < member_count lib = omega arith in
      let other : length lib.components + e < member_count lib = omega arith in
      (one, (other, tt))

  pub ends_from_rows : AllByRecursion (λ row. RowHolds row x) (edge_rows lib) → KeepsEnds lib x
  ends_from_rows all =
      let each = all_numbered (λ p. AllByRecursion (λ row. RowHolds row x) (rows_of_edge lib p)) (length lib.components) lib.edges (all_parts (λ row. RowHolds row x) (rows_of_edge lib) (enumerate_from (length lib.components) lib.edges) all) in
      record {
        tails = λ e edge is on. two_to (x edge.tail.0) (x (length lib.components + e)) (holds_to (member_count lib) (plus edge.tail.0 ∷ minus (length lib.components + e) ∷ []) (pos 0) x (terms_below edge.tail.0 e edge is (tail_below e edge is)) (each e edge is).0) on;
        heads = λ e edge is on. two_to (x edge.head.0) (x (length lib.components + e)) (holds_to (member_count lib) (plus edge.head.0 ∷ minus (length lib.components + e) ∷ []) (pos 0) x (terms_below edge.head.0 e edge is (head_below e edge is)) (each e edge is).1.0) on;
      }

  pub rows_from_ends : KeepsEnds lib x → AllByRecursion (λ row. RowHolds row x) (edge_rows lib)
  rows_from_ends ends =
      all_flat (λ row. RowHolds row x) (rows_of_edge lib) (enumerate_from (length lib.components) lib.edges)
      (numbered_all (λ p. AllByRecursion (λ row. RowHolds row x) (rows_of_edge lib p)) (length lib.components) lib.edges (λ e edge is. (
        holds_from (member_count lib) (plus edge.tail.0 ∷ minus (length lib.components + e) ∷ []) (pos 0) x (terms_below edge.tail.0 e edge is (tail_below e edge is)) (two_from (x edge.tail.0) (x (length lib.components + e)) (ends.tails e edge is)),
        (holds_from (member_count lib) (plus edge.head.0 ∷ minus (length lib.components + e) ∷ []) (pos 0) x (terms_below edge.head.0 e edge is (head_below e edge is)) (two_from (x edge.head.0) (x (length lib.components + e)) (ends.heads e edge is)), tt),
      )))
