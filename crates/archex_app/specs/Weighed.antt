-- What a text of `weigh` shows of the bytes of a library and of an architecture.
use Rattle.std.specs.Prelude.{◌≡◌, ℕ, ◌↔◌, Option, List, Ok, IsTrue}
use Rattle.arch_model.specs.Parts.{LibraryParts, ArchitectureParts}
use Rattle.arch_model.specs.Admissible.{IsAdmissible}
use Rattle.lib_read.specs.LibraryOf.{library_of}
use Rattle.arch_csv.specs.ArchitectureOf.{architecture_of_bytes}
use Rattle.search_core.specs.Rules.{weights_of}
use Rattle.report.specs.Weighing.{IsFirstBroken, says_admissible, weigh_text}

-- the bytes are a library and an architecture of it, and the text has what this comes to: its cost, the first pattern that it breaks, the weights of its required sinks; and it says that the architecture is admissible exactly where it is
pub record ShowsWeighing (lib_bytes arch_bytes text : List ℕ) : Type 0 where
  pub lib : LibraryParts
  pub lib_read : library_of lib_bytes ≡ Ok lib
  pub arch : ArchitectureParts
  pub arch_read : architecture_of_bytes lib arch_bytes ≡ Ok arch
  pub broken : Option ℕ
  pub first : IsFirstBroken lib arch broken
  pub right : IsTrue (says_admissible lib arch (weights_of lib arch) broken) ↔ IsAdmissible lib arch
  pub report : text ≡ weigh_text lib arch (weights_of lib arch) broken
