-- Worked rows: what conditioning on every member in turn computes on small parts of the networks that the tests ask about.
use Rattle.std.proofs.Common.{◌≡◌, ℕ, List, [], ◌∷◌, refl}
use Rattle.arch_model.specs.declared.library.TypeRow.{TypeRow}
use Rattle.arch_model.specs.declared.library.LinkRow.{LinkRow}
use Rattle.arch_model.specs.declared.template.Role.{Role}
use Rattle.arch_model.specs.declared.template.Role.TheVariants.{Source, Middle, Sink}
use Rattle.arch_model.specs.Parts.{LibraryParts, ArchitectureParts}
use Rattle.arch_model.specs.Set.{has, members_below}
use Rattle.arch_model.specs.Library.{library_parts}
use Rattle.arch_model.specs.Template.{template_of}
use Rattle.arch_model.specs.Path.{parts, reached_within}
use Rattle.arch_model.specs.Mass.{enclosure_of}

-- a type of one instance that fails this often, in ppm
abbrev type_of : Role → ℕ → TypeRow
type_of role fail = record { name = 1 ∷ []; role = role; max = 1; cost = 0; supply = 0; demand = 0; fail = fail }

abbrev link_of : ℕ → ℕ → LinkRow
link_of from to = record { from = from; to = to; cost = 0; fail = 0 }

abbrev library_of : List TypeRow → List LinkRow → LibraryParts
library_of types links = library_parts types links (template_of types links) [] []

-- all five components and four edges
abbrev all : ArchitectureParts
all = record { comps = record { mask = 31 }; edges = record { mask = 15 } }

-- the aircraft's left side and its cabin: a generator of 100 ppm, a bus of 10, a converter of 50 and a bus of 10
abbrev cabin : LibraryParts
cabin = library_of (type_of Source 100 ∷ type_of Middle 10 ∷ type_of Middle 50 ∷ type_of Middle 10 ∷ type_of Sink 0 ∷ []) (link_of 0 1 ∷ link_of 1 2 ∷ link_of 2 3 ∷ link_of 3 4 ∷ [])

cabin-enclosure : enclosure_of cabin all 4 ≡ (169991900114999, 169991900115000)
unfolding has members_below parts reached_within
cabin-enclosure = refl

-- two chains to a sink, each member with a rate of its own
abbrev chains : LibraryParts
chains = library_of (type_of Source 7 ∷ type_of Source 100 ∷ type_of Middle 100 ∷ type_of Middle 11 ∷ type_of Sink 3 ∷ []) (link_of 0 2 ∷ link_of 1 3 ∷ link_of 2 4 ∷ link_of 3 4 ∷ [])

chains-enclosure : enclosure_of chains all 4 ≡ (3011876768970, 3011876768972)
unfolding has members_below parts reached_within
chains-enclosure = refl
