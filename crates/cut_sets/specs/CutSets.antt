-- The minimal cut sets of a sink that can fail at all, as a list.
use Rattle.std.specs.Prelude.{ℕ, nat_lt, List, filter}
use Rattle.arch_model.specs.Parts.{LibraryParts, ArchitectureParts}
use Rattle.arch_model.specs.CutSet.{minimal_cut_sets}
use Rattle.arch_model.specs.Weight.{product_of}

-- the minimal cut sets of a sink whose products are above 0, each once, as ascending lists in ascending order
unfoldable pub cut_sets_of : LibraryParts → ArchitectureParts → ℕ → List (List ℕ)
cut_sets_of lib arch sink = filter (λ members. nat_lt 0 (product_of lib members)) (minimal_cut_sets lib arch sink)
