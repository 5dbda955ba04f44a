-- The cut that must be published for a candidate.
use Rattle.std.specs.Prelude.{ℕ, Bool, false, ◌&&◌, ◌||◌, not, nat_eq, nat_lt, List, ◌++◌, filter, find, filter_map, length, slice_get, Option, Some, None, option_and_then, if◌then◌else◌}
use Rattle.std.specs.List.{list_all, enumerate_from, range_with_len}
use Rattle.std.specs.Ordering.{is_gt, nat_cmp}
use Rattle.std.specs.Cmp.Lexicographic.{slice_cmp}
use Rattle.arch_model.specs.declared.library.Requirement.{Requirement}
use Rattle.arch_model.specs.Set.{Set, has}
use Rattle.arch_model.specs.Parts.{LibraryParts, ArchitectureParts}
use Rattle.arch_model.specs.CutSet.{minimal_cut_sets}
use Rattle.arch_model.specs.Weight.{product_of, weight_of}
use Rattle.redundancy_cut.specs.declared.cut.Cut.{Cut}
use Rattle.redundancy_cut.specs.declared.cut.Cut.TheVariants.{Redundancy, NoGood}
use Rattle.redundancy_cut.specs.CutRow.{set_of_numbers}
use Rattle.redundancy_cut.specs.Reaching.{reaches}

-- whether a set goes before another: its product is greater, or it is as great and the list of its members, as slices are compared, is not greater
abbrev pub goes_before : LibraryParts → List ℕ → List ℕ → Bool
goes_before lib a b =
    nat_lt (product_of lib b) (product_of lib a)
    || (nat_eq (product_of lib b) (product_of lib a) && not (is_gt (slice_cmp nat_cmp a b)))

-- the heaviest minimal cut set of a sink: the one that goes before all
abbrev pub heaviest_of : LibraryParts → ArchitectureParts → ℕ → Option (List ℕ)
heaviest_of lib arch sink =
    let sets = minimal_cut_sets lib arch sink in
    find (λ a. list_all (goes_before lib a) sets) sets

-- the components outside a set of members from which the sink is not reached past it
abbrev pub far_of : LibraryParts → ArchitectureParts → ℕ → Set → Set
far_of lib arch sink set =
    set_of_numbers (filter (λ c. not (has set c) && not (reaches lib arch sink (has set) c)) (range_with_len 0 (length lib.components)))

-- the sink and all components from which it is reached
abbrev pub cone_of : LibraryParts → ArchitectureParts → ℕ → Set
cone_of lib arch sink = set_of_numbers (filter (λ c. nat_eq sink c || reaches lib arch sink (λ _. false) c) (range_with_len 0 (length lib.components)))

-- the redundancy cut of the heaviest minimal cut set of a requirement's sink, where its product alone is above the bound
abbrev pub redundancy_of : LibraryParts → ArchitectureParts → ℕ × Requirement → Option Cut
redundancy_of lib arch p =
    option_and_then
    (λ members. if nat_lt p.1.bound (product_of lib members)
    then (let set = set_of_numbers members in Some (Redundancy p.0 set (far_of lib arch p.1.sink.0 set)))
    else None)
    (heaviest_of lib arch p.1.sink.0)

-- the no-good of a requirement, where the weight of its sink is above the bound
abbrev pub no_good_of : LibraryParts → ArchitectureParts → ℕ × Requirement → Option Cut
no_good_of lib arch p = if nat_lt p.1.bound (weight_of lib arch p.1.sink.0) then Some (NoGood p.0 (cone_of lib arch p.1.sink.0)) else None

-- the cut that must be published: the first of the requirements' redundancy cuts, in order, and after them of their no-goods; none where no weight is above its bound
unfoldable pub chosen_cut_of : LibraryParts → ArchitectureParts → Option Cut
chosen_cut_of lib arch =
    let requirements = enumerate_from 0 lib.requirements in
    slice_get (filter_map (redundancy_of lib arch) requirements ++ filter_map (no_good_of lib arch) requirements) 0
