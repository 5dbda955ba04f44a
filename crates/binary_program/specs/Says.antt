-- When a vector's rows say what a pattern says.
use Rattle.std.specs.Prelude.{◌↔◌, ℕ, Bool}
use Rattle.std.specs.List.{All}
use Rattle.arch_model.specs.declared.library.Pattern.{Pattern}
use Rattle.arch_model.specs.Parts.{LibraryParts, ArchitectureParts}
use Rattle.arch_model.specs.Pattern.{MeetsPattern}
use Rattle.rows.specs.Row.{RowHolds}
use Rattle.rows.specs.BaseRows.{pattern_rows}

-- the vector of an architecture meets all rows of a pattern exactly where the architecture meets the pattern
abbrev pub Says : LibraryParts → ArchitectureParts → (ℕ → Bool) → Pattern → Type 0
Says lib arch x pattern = All (λ row. RowHolds row x) (pattern_rows lib pattern) ↔ MeetsPattern lib arch pattern
