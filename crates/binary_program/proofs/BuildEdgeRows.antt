-- The rows of edges and of requirements, as they are built.
use Rattle.std.proofs.Common.{◌≡◌, ℕ, ◌+◌, ◌<◌, pos, List, [], ◌∷◌, ◌++◌, length, get_or, take, sym, ap, subst, ◌∙◌, refl}
use Rattle.std.specs.List.{All, flat_map, enumerate_from}
use Rattle.std.proofs.lemmas.List.{append_assoc}
use Rattle.std.proofs.lemmas.List.Concat.{flat_map-append}
use Rattle.arch_model.specs.declared.template.Edge.{Edge}
use Rattle.arch_model.specs.declared.library.Requirement.{Requirement}
use Rattle.arch_model.specs.Parts.{LibraryParts}
use Rattle.arch_model.specs.Library.{IsLibrary}
use Rattle.arch_model.proofs.Ranges.{blank_edge, edge_tails, edge_heads}
use Rattle.rows.specs.Parts.{RowParts}
use Rattle.rows.specs.BaseRows.{plus, minus, member_row}
use Rattle.binary_program.proofs.BuildLists.{enumerate_more}

-- the row that asks for an end, and the two rows of an edge
abbrev pub end_row : LibraryParts → ℕ → ℕ → RowParts
end_row lib end e = member_row lib (plus end ∷ minus e ∷ []) (pos 0)

abbrev pub rows_of_edge : LibraryParts → ℕ × Edge → List RowParts
rows_of_edge lib p = end_row lib p.1.tail.0 p.0 ∷ end_row lib p.1.head.0 p.0 ∷ []

-- the row of a requirement
abbrev pub row_of_sink : LibraryParts → Requirement → RowParts
row_of_sink lib r = member_row lib (plus r.sink.0 ∷ []) (pos 1)

joined : (lib : LibraryParts) (k : ℕ) (edges : List Edge) (i : ℕ) → i < length edges
    → flat_map (rows_of_edge lib) (enumerate_from k (take (i + 1) edges)) ≡ flat_map (rows_of_edge lib) (enumerate_from k (take i edges)) ++ rows_of_edge lib (k + i, get_or edges i blank_edge)
joined lib k edges i here =
    ap (flat_map (rows_of_edge lib)) (enumerate_more k edges i (k + i) blank_edge here refl)
    ∙ flat_map-append (rows_of_edge lib) (enumerate_from k (take i edges)) ((k + i, get_or edges i blank_edge) ∷ [])

pub edge_rows_more : (lib : LibraryParts) (edges : List Edge) (i v : ℕ) (start before mid after : List RowParts) → i < length edges → v ≡ length lib.components + i
    → before ≡ start ++ flat_map (rows_of_edge lib) (enumerate_from (length lib.components) (take i edges))
    → mid ≡ before ++ end_row lib (get_or edges i blank_edge).tail.0 v ∷ [] → after ≡ mid ++ end_row lib (get_or edges i blank_edge).head.0 v ∷ []
    → after ≡ start ++ flat_map (rows_of_edge lib) (enumerate_from (length lib.components) (take (i + 1) edges))
edge_rows_more lib edges i v start before mid after here var so_far tail head =
    let made = flat_map (rows_of_edge lib) (enumerate_from (length lib.components) (take i edges)) in
    head ∙ ap (λ l. l ++ end_row lib (get_or edges i blank_edge).head.0 v ∷ []) tail
    ∙ append_assoc before (end_row lib (get_or edges i blank_edge).tail.0 v ∷ []) (end_row lib (get_or edges i blank_edge).head.0 v ∷ [])
    ∙ ap (λ n. before ++ rows_of_edge lib (n, get_or edges i blank_edge)) var
    ∙ ap (λ l. l ++ rows_of_edge lib (length lib.components + i, get_or edges i blank_edge)) so_far
    ∙ append_assoc start made (rows_of_edge lib (length lib.components + i, get_or edges i blank_edge))
    ∙ ap (λ l. start ++ l) (sym (joined lib (length lib.components) edges i here))

-- the ends of an edge of the slice that a library lends are components
pub tail_in : (lib : LibraryParts) (edges : List Edge) (i : ℕ) → IsLibrary lib → edges ≡ lib.edges → i < length edges → (get_or edges i blank_edge).tail.0 < length lib.components
tail_in lib edges i right same here = subst (All (λ (e : Edge). e.tail.0 < length lib.components)) (sym same) (edge_tails lib right) i blank_edge here

pub head_in : (lib : LibraryParts) (edges : List Edge) (i : ℕ) → IsLibrary lib → edges ≡ lib.edges → i < length edges → (get_or edges i blank_edge).head.0 < length lib.components
head_in lib edges i right same here = subst (All (λ (e : Edge). e.head.0 < length lib.components)) (sym same) (edge_heads lib right) i blank_edge here
