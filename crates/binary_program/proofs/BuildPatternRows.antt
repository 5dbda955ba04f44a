-- The rows of patterns, instance by instance and edge by edge.
use Rattle.std.proofs.Common.{◌≡◌, ◌≤◌, ℕ, pos, neg_ℤ, Option, List, [], ◌∷◌, ◌++◌, map, length, take, ap, ◌∙◌}
use Rattle.std.proofs.lemmas.List.{append_assoc, take_all}
use Rattle.std.specs.List.{flat_map}
use Rattle.arch_model.specs.declared.sets.CompId.{CompId}
use Rattle.arch_model.specs.declared.library.Pattern.{Pattern}
use Rattle.arch_model.specs.Template.{instances_of}
use Rattle.arch_model.specs.Parts.{LibraryParts}
use Rattle.rows.specs.Parts.{RowParts}
use Rattle.rows.specs.Row.{term}
use Rattle.rows.specs.BaseRows.{plus, minus, member_row, at_least, at_most, count_rows, edge_variables, in_variables, out_variables, degree_rows, in_needs_out_rows, implies_rows, edge_rows, requirement_rows, pattern_rows, base_rows_of}
use Rattle.binary_program.specs.declared.asked.Side.{Side}
use Rattle.binary_program.specs.declared.asked.Side.TheVariants.{In, Out}
use Rattle.binary_program.specs.declared.terms.EdgeKind.{EdgeKind}
use Rattle.binary_program.specs.Inner.Asked.{edges_on, variables_on}
use Rattle.binary_program.specs.Inner.Terms.{is_of_kind}

-- the row that some of vs is at 1 where v is, and the row that none is
abbrev pub some_where : LibraryParts → List ℕ → ℕ → RowParts
some_where lib vs v = member_row lib (map plus vs ++ minus v ∷ []) (pos 0)

abbrev pub none_where : LibraryParts → List ℕ → ℕ → RowParts
none_where lib vs v = member_row lib (term v (neg_ℤ (pos (length vs))) ∷ map minus vs) (neg_ℤ (pos (length vs)))

-- the row that an edge is absent
abbrev pub absent : LibraryParts → ℕ → RowParts
absent lib e = member_row lib (minus e ∷ []) (pos 0)

-- the edges on a side, by their kind
pub edges_on_side : (lib : LibraryParts) (side : Side) (i : CompId) (t : ℕ) (kind : EdgeKind) → kind ≡ edges_on side i t → edge_variables lib (is_of_kind lib kind) ≡ variables_on side lib t i.0
edges_on_side lib In i t kind is = ap (λ k. edge_variables lib (is_of_kind lib k)) is
edges_on_side lib Out i t kind is = ap (λ k. edge_variables lib (is_of_kind lib k)) is

pub degree_is : (lib : LibraryParts) (i min : ℕ) (max : Option ℕ) (vs on : List ℕ) (before after : List RowParts) → vs ≡ on → after ≡ before ++ degree_rows lib i vs min max → after ≡ before ++ degree_rows lib i on min max
degree_is lib i min max vs on before after same step = step ∙ ap (λ us. before ++ degree_rows lib i us min max) same

-- the rows of a pattern from those that two calls append
pub needs_out_is : (lib : LibraryParts) (from to i : ℕ) (outgoing incoming : List ℕ) (before after : List RowParts) → outgoing ≡ out_variables lib to i → incoming ≡ in_variables lib from i
    → after ≡ before ++ map (some_where lib outgoing) incoming → after ≡ before ++ in_needs_out_rows lib i from to
needs_out_is lib from to i outgoing incoming before after out into step =
    step ∙ ap (λ vs. before ++ map (some_where lib vs) incoming) out ∙ ap (λ es. before ++ map (some_where lib (out_variables lib to i)) es) into

pub count_is : (lib : LibraryParts) (t min : ℕ) (max : Option ℕ) (least most : List ℕ) (before mid after : List RowParts)
    → mid ≡ before ++ at_least min (member_row lib (map plus least) (pos min)) → least ≡ instances_of lib.components t → most ≡ instances_of lib.components t
    → after ≡ mid ++ at_most lib max most → after ≡ before ++ count_rows lib t min max
count_is lib t min max least most before mid after low e f high =
    high ∙ ap (λ vs. mid ++ at_most lib max vs) f ∙ ap (λ l. l ++ at_most lib max (instances_of lib.components t)) (low ∙ ap (λ vs. before ++ at_least min (member_row lib (map plus vs) (pos min))) e)
    ∙ append_assoc before (at_least min (member_row lib (map plus (instances_of lib.components t)) (pos min))) (at_most lib max (instances_of lib.components t))

pub implies_is : (lib : LibraryParts) (a b : ℕ) (needed needing : List ℕ) (before after : List RowParts) → needed ≡ instances_of lib.components b → needing ≡ instances_of lib.components a
    → after ≡ before ++ map (some_where lib needed) needing → after ≡ before ++ implies_rows lib a b
implies_is lib a b needed needing before after e f step =
    step ∙ ap (λ vs. before ++ map (some_where lib vs) needing) e ∙ ap (λ is. before ++ map (some_where lib (instances_of lib.components b)) is) f

-- all base rows, after those of the edges and of the requirements
pub base_rows_are : (lib : LibraryParts) (patterns : List Pattern) (i : ℕ) (start edges requirements items : List RowParts) → start ≡ [] → edges ≡ start ++ edge_rows lib → requirements ≡ edges ++ requirement_rows lib
    → patterns ≡ lib.patterns → length patterns ≤ i → items ≡ requirements ++ flat_map (pattern_rows lib) (take i patterns) → items ≡ base_rows_of lib
unfolding base_rows_of
base_rows_are lib patterns i start edges requirements items none first second same past made =
    made ∙ ap (λ ps. requirements ++ flat_map (pattern_rows lib) ps) (take_all i patterns past ∙ same)
    ∙ ap (λ l. l ++ flat_map (pattern_rows lib) lib.patterns) (second ∙ ap (λ l. l ++ requirement_rows lib) (first ∙ ap (λ l. l ++ edge_rows lib) none))
    ∙ append_assoc (edge_rows lib) (requirement_rows lib) (flat_map (pattern_rows lib) lib.patterns)
