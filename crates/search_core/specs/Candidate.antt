-- The architecture of a cube in which nothing is free.
use Rattle.std.specs.Prelude.{ℕ, ◌+◌, Bool, filter, length}
use Rattle.std.specs.List.{range_with_len}
use Rattle.arch_model.specs.Set.{Set, has}
use Rattle.arch_model.specs.Parts.{LibraryParts, ArchitectureParts}
use Rattle.rows.specs.Parts.{CubeParts}
use Rattle.redundancy_cut.specs.CutRow.{set_of_numbers}

-- the set of the numbers below n that pass a test
abbrev pub set_where : ℕ → (ℕ → Bool) → Set
set_where n test = set_of_numbers (filter test (range_with_len 0 n))

-- the candidate of a cube, where a template has this many components and edges: those whose variables are at 1
abbrev pub candidate_in : ℕ → ℕ → CubeParts → ArchitectureParts
candidate_in components edges cube = record { comps = set_where components (has cube.ones); edges = set_where edges (λ e. has cube.ones (components + e)) }

-- the candidate of a cube in a library's template
unfoldable pub candidate_of : LibraryParts → CubeParts → ArchitectureParts
candidate_of lib cube = candidate_in (length lib.components) (length lib.edges) cube
