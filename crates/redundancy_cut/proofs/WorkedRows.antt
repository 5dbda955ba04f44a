-- Worked rows: what the definitions compute on small libraries.
use Rattle.std.proofs.Common.{◌≡◌, ℕ, pos, negsuc, List, [], ◌∷◌, Some, None, refl}
use Rattle.arch_model.specs.declared.library.TypeRow.{TypeRow}
use Rattle.arch_model.specs.declared.library.LinkRow.{LinkRow}
use Rattle.arch_model.specs.declared.library.Requirement.{Requirement}
use Rattle.arch_model.specs.declared.template.Role.TheVariants.{Source, Middle, Sink}
use Rattle.arch_model.specs.Set.{Set, has, empty, put, members_below}
use Rattle.arch_model.specs.Parts.{LibraryParts, ArchitectureParts}
use Rattle.arch_model.specs.Library.{library_parts}
use Rattle.arch_model.specs.Template.{template_of}
use Rattle.arch_model.specs.Path.{parts, reached_within}
use Rattle.arch_model.specs.CutSet.{minimal_cut_sets}
use Rattle.arch_model.specs.Weight.{weight_of}
use Rattle.redundancy_cut.specs.declared.cut.Cut.TheVariants.{Redundancy, NoGood}
use Rattle.redundancy_cut.specs.CutRow.{set_of_numbers, cut_row_of}
use Rattle.redundancy_cut.specs.Reaching.{reaches}
use Rattle.redundancy_cut.specs.ChosenCut.{chosen_cut_of}

-- the set and the architecture of masks
abbrev members : ℕ → Set
members m = record { mask = m }

abbrev architecture : ℕ → ℕ → ArchitectureParts
architecture comps edges = record { comps = members comps; edges = members edges }

abbrev requires_of : ℕ → ℕ → List Requirement
requires_of sink bound = record { sink = record { 0 = sink }; bound = bound } ∷ []

-- U: a source that may feed a load; variable 2 is the edge
abbrev types_u : List TypeRow
types_u =
    record { name = 1 ∷ []; role = Source; max = 1; cost = 1; supply = 0; demand = 0; fail = 1000 }
    ∷ (record { name = 2 ∷ []; role = Sink; max = 1; cost = 0; supply = 0; demand = 0; fail = 0 } ∷ [])

abbrev links_u : List LinkRow
links_u = record { from = 0; to = 1; cost = 0; fail = 0 } ∷ []

abbrev lib_u : ℕ → LibraryParts
lib_u bound = library_parts types_u links_u (template_of types_u links_u) [] (requires_of 1 bound)

-- the load alone: no path past no member, and what leads out of the source is the edge
u_alone-cut : chosen_cut_of (lib_u 0) (architecture 2 0) ≡ Some (Redundancy 0 (members 0) (members 1))
unfolding has empty put members_below weight_of parts reached_within set_of_numbers reaches minimal_cut_sets chosen_cut_of
u_alone-cut = refl

u_alone-row : cut_row_of (lib_u 0) (Redundancy 0 (members 0) (members 1)) (architecture 2 0) ≡ record { plus = members 4; minus = members 0; least = pos 1 }
unfolding has empty put set_of_numbers
u_alone-row = refl

-- all three: nothing leads past the source
u_whole-cut : chosen_cut_of (lib_u 0) (architecture 3 1) ≡ Some (Redundancy 0 (members 1) (members 0))
unfolding has empty put members_below weight_of parts reached_within set_of_numbers reaches minimal_cut_sets chosen_cut_of
u_whole-cut = refl

u_whole-row : cut_row_of (lib_u 0) (Redundancy 0 (members 1) (members 0)) (architecture 3 1) ≡ record { plus = members 0; minus = members 0; least = pos 1 }
unfolding has empty put set_of_numbers
u_whole-row = refl

-- a bound that is met with equality
u_whole-meets : chosen_cut_of (lib_u 1000000000000000) (architecture 3 1) ≡ None
unfolding has empty put members_below weight_of parts reached_within set_of_numbers reaches minimal_cut_sets chosen_cut_of
u_whole-meets = refl

-- B: two generators, two buses and a load; each generator may feed each bus, and each bus the load
abbrev types_b : List TypeRow
types_b =
    record { name = 1 ∷ []; role = Source; max = 2; cost = 100; supply = 0; demand = 0; fail = 1000 }
    ∷ (record { name = 2 ∷ []; role = Middle; max = 2; cost = 20; supply = 0; demand = 0; fail = 100 }
    ∷ (record { name = 3 ∷ []; role = Sink; max = 1; cost = 0; supply = 0; demand = 0; fail = 0 } ∷ []))

abbrev links_b : List LinkRow
links_b = record { from = 0; to = 1; cost = 5; fail = 0 } ∷ (record { from = 1; to = 2; cost = 5; fail = 0 } ∷ [])

abbrev lib_b : ℕ → LibraryParts
lib_b bound = library_parts types_b links_b (template_of types_b links_b) [] (requires_of 4 bound)

-- one chain: its generator and its bus are above the bound together
b_chain-cut : chosen_cut_of (lib_b 1099999999999999) (architecture 21 17) ≡ Some (NoGood 0 (members 21))
unfolding has empty put members_below weight_of parts reached_within set_of_numbers reaches minimal_cut_sets chosen_cut_of
b_chain-cut = refl

-- -x_0 - x_5 + x_7 - x_9 + x_10 >= -2
b_chain-row : cut_row_of (lib_b 1099999999999999) (NoGood 0 (members 21)) (architecture 21 17) ≡ record { plus = members 1152; minus = members 545; least = negsuc 1 }
unfolding has empty put set_of_numbers
b_chain-row = refl

-- Y: a load that a source feeds, and another by way of two buses that fail often
abbrev types_y : List TypeRow
types_y =
    record { name = 1 ∷ []; role = Source; max = 1; cost = 10; supply = 0; demand = 0; fail = 200000 }
    ∷ (record { name = 2 ∷ []; role = Source; max = 1; cost = 1; supply = 0; demand = 0; fail = 0 }
    ∷ (record { name = 3 ∷ []; role = Middle; max = 1; cost = 1; supply = 0; demand = 0; fail = 600000 }
    ∷ (record { name = 4 ∷ []; role = Middle; max = 1; cost = 1; supply = 0; demand = 0; fail = 600000 }
    ∷ (record { name = 5 ∷ []; role = Sink; max = 1; cost = 0; supply = 0; demand = 0; fail = 0 } ∷ []))))

abbrev links_y : List LinkRow
links_y =
    record { from = 0; to = 4; cost = 0; fail = 0 }
    ∷ (record { from = 1; to = 2; cost = 0; fail = 0 }
    ∷ (record { from = 2; to = 3; cost = 0; fail = 0 } ∷ (record { from = 3; to = 4; cost = 0; fail = 0 } ∷ [])))

abbrev lib_y : ℕ → LibraryParts
lib_y bound = library_parts types_y links_y (template_of types_y links_y) [] (requires_of 4 bound)

-- all of it: two minimal cut sets are above the bound together
y_whole-cut : chosen_cut_of (lib_y 220000000000000000) (architecture 31 15) ≡ Some (NoGood 0 (members 31))
unfolding has empty put members_below weight_of parts reached_within set_of_numbers reaches minimal_cut_sets chosen_cut_of
y_whole-cut = refl

-- -x_0 - x_1 - x_5 - x_6 - x_7 - x_8 >= -5
y_whole-row : cut_row_of (lib_y 220000000000000000) (NoGood 0 (members 31)) (architecture 31 15) ≡ record { plus = members 0; minus = members 483; least = negsuc 4 }
unfolding has empty put set_of_numbers
y_whole-row = refl
