-- What is looked for: an admissible architecture of least cost.
use Rattle.std.specs.Prelude.{◌≤◌}
use Rattle.arch_model.specs.Parts.{LibraryParts, ArchitectureParts}
use Rattle.arch_model.specs.Admissible.{IsAdmissible}
use Rattle.arch_model.specs.Architecture.{cost_of}

-- an admissible architecture, than which no other costs less
pub record IsCheapest (lib : LibraryParts) (arch : ArchitectureParts) : Type 0 where
  pub admissible : IsAdmissible lib arch
  pub least : (other : ArchitectureParts) → IsAdmissible lib other → cost_of lib arch ≤ cost_of lib other
