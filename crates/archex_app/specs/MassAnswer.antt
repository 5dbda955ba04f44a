-- What a text of `probability` shows of the bytes of a library and of an architecture.
use Rattle.std.specs.Prelude.{◌≡◌, ℕ, ◌*◌, ◌^◌, ◌≤◌, List, Ok}
use Rattle.arch_model.specs.Parts.{LibraryParts, ArchitectureParts}
use Rattle.arch_model.specs.Member.{member_count}
use Rattle.arch_model.specs.Mass.{mass_of, enclosure_of}
use Rattle.lib_read.specs.LibraryOf.{library_of}
use Rattle.arch_csv.specs.ArchitectureOf.{architecture_of_bytes}
use Rattle.archex_app.specs.Mass.{IsSinkNamed}
use Rattle.report.specs.Mass.{mass_text}

-- the failure mass, in units of 10^(-6n) for n members, lies between two bounds in units of 10^-18
pub record MassWithin (lib : LibraryParts) (arch : ArchitectureParts) (sink : ℕ) (bounds : ℕ × ℕ) : Type 0 where
  pub low : bounds.0 * 10 ^ (6 * member_count lib) ≤ mass_of lib arch sink * 10 ^ 18
  pub high : mass_of lib arch sink * 10 ^ 18 ≤ bounds.1 * 10 ^ (6 * member_count lib)

-- the bytes are a library, an architecture of it, and the text has two bounds of the failure mass of the sink of that name: those of conditioning on each member
pub record ShowsMass (name lib_bytes arch_bytes text : List ℕ) : Type 0 where
  pub lib : LibraryParts
  pub lib_read : library_of lib_bytes ≡ Ok lib
  pub arch : ArchitectureParts
  pub arch_read : architecture_of_bytes lib arch_bytes ≡ Ok arch
  pub sink : ℕ
  pub named : IsSinkNamed lib name sink
  pub within : MassWithin lib arch sink (enclosure_of lib arch sink)
  pub report : text ≡ mass_text (enclosure_of lib arch sink)
