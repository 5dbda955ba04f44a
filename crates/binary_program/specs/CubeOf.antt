-- The cube of an architecture.
use Rattle.std.specs.Prelude.{◌≡◌, ℕ, ◌<◌}
use Rattle.arch_model.specs.Set.{has}
use Rattle.arch_model.specs.Parts.{LibraryParts, ArchitectureParts}
use Rattle.arch_model.specs.Member.{is_present, member_count}
use Rattle.rows.specs.Parts.{CubeParts}
use Rattle.rows.specs.Cube.{FixesBelow}

-- a cube in which nothing is free: exactly the variables of the library's members are fixed
abbrev pub FixesAll : LibraryParts → CubeParts → Type 0
FixesAll lib cube = FixesBelow (member_count lib) cube

-- the cube of an architecture: nothing is free, and the present members are at 1
pub record IsCubeOf (lib : LibraryParts) (arch : ArchitectureParts) (cube : CubeParts) : Type 0 where
  pub full : FixesAll lib cube
  pub ones : (v : ℕ) → v < member_count lib → has cube.ones v ≡ is_present lib arch v
