-- What the texts of `template` and `rows` show of the bytes of a library.
use Rattle.std.specs.Prelude.{◌≡◌, ℕ, List, Ok}
use Rattle.arch_model.specs.Parts.{LibraryParts}
use Rattle.lib_read.specs.LibraryOf.{library_of}
use Rattle.report.specs.Template.{template_text}
use Rattle.report.specs.Rows.{rows_text}
use Rattle.archex_app.specs.Search.{base_problem}

-- the bytes are a library, and the text lists its components and edges
pub record ShowsTemplate (bytes text : List ℕ) : Type 0 where
  pub lib : LibraryParts
  pub read : library_of bytes ≡ Ok lib
  pub report : text ≡ template_text lib

-- the bytes are a library, and the text lists its base rows
pub record ShowsRows (bytes text : List ℕ) : Type 0 where
  pub lib : LibraryParts
  pub read : library_of bytes ≡ Ok lib
  pub report : text ≡ rows_text (base_problem lib)
