-- The rows that cuts say.
use Rattle.std.specs.Prelude.{ℕ, ◌-◌, pos, ◌-ℤ◌, Bool, false, ◌&&◌, ◌||◌, not, nat_lt, List, filter, fold, length, slice_get, Option, None, if◌then◌else◌}
use Rattle.std.specs.Option.{option_map_or}
use Rattle.arch_model.specs.declared.template.Edge.{Edge}
use Rattle.arch_model.specs.Set.{Set, has, empty, put}
use Rattle.arch_model.specs.Parts.{LibraryParts, ArchitectureParts}
use Rattle.arch_model.specs.Member.{is_present, member_numbers}
use Rattle.arch_model.specs.Path.{is_source}
use Rattle.rows.specs.Parts.{CutParts}
use Rattle.redundancy_cut.specs.declared.cut.Cut.{Cut}
use Rattle.redundancy_cut.specs.declared.cut.Cut.TheVariants.{Redundancy, NoGood}

-- the set of some numbers
unfoldable pub set_of_numbers : List ℕ → Set
set_of_numbers numbers = fold put empty numbers

-- the members that pass a test, ascending
abbrev pub members_where : LibraryParts → (ℕ → Bool) → List ℕ
members_where lib test = filter test (member_numbers lib)

-- the edge that is member v; none where v is no edge
abbrev pub edge_of : LibraryParts → ℕ → Option Edge
edge_of lib v = if nat_lt v (length lib.components) then None else slice_get lib.edges (v - length lib.components)

-- whether member v is an edge that passes a test
abbrev pub is_edge_where : LibraryParts → (Edge → Bool) → ℕ → Bool
is_edge_where lib test v = option_map_or test (edge_of lib v) false

-- whether member v, outside a set of members, leads out of some far components past it: a source that isn't far, or an edge from a far component to one that is neither far nor in the set
abbrev pub leads_out : LibraryParts → Set → Set → ℕ → Bool
leads_out lib set far v =
    not (has set v)
    && ((is_source lib v && not (has far v))
    || is_edge_where lib (λ e. has far e.tail.0 && not (has far e.head.0 || has set e.head.0)) v)

-- whether member v feeds a cone of components: a source in it, or an edge with its head in it
abbrev pub feeds : LibraryParts → Set → ℕ → Bool
feeds lib cone v = (is_source lib v && has cone v) || is_edge_where lib (λ e. has cone e.head.0) v

-- some members sum to at least 1
abbrev pub one_of : List ℕ → CutParts
one_of members = record { plus = set_of_numbers members; minus = empty; least = pos 1 }

-- the number of members that pass a test and differ from an architecture, present in one and not in the other, is at least 1
abbrev pub one_differs : LibraryParts → ArchitectureParts → (ℕ → Bool) → CutParts
one_differs lib arch test =
    let absent = members_where lib (λ v. test v && not (is_present lib arch v)) in
    let kept = members_where lib (λ v. test v && is_present lib arch v) in
    record { plus = set_of_numbers absent; minus = set_of_numbers kept; least = pos 1 -ℤ pos (length kept) }

-- the row of a cut beside its candidate
abbrev pub cut_row_of : LibraryParts → Cut → ArchitectureParts → CutParts
cut_row_of lib (Redundancy q set far) arch = one_of (members_where lib (leads_out lib set far))
cut_row_of lib (NoGood q cone) arch = one_differs lib arch (feeds lib cone)
