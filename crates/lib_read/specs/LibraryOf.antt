-- The library of bytes, or its first fault.
use Rattle.std.specs.Prelude.{codes, ℕ, ◌≡◌, nat_lt, List, length, Option, Some, None, Result, Ok, Err, if◌then◌else◌}
use Rattle.toml.specs.Data.{Data}
use Rattle.arch_model.specs.Parts.{LibraryParts}
use Rattle.lib_read.specs.declared.fault.LibClass.TheVariants.{TooLarge, NotToml}
use Rattle.lib_read.specs.declared.fault.TableName.TheVariants.{Library}
use Rattle.lib_read.specs.declared.fault.LibFault.{LibFault}
use Rattle.lib_read.specs.declared.fault.LibError.{LibError}
use Rattle.lib_read.specs.declared.fault.LibError.TheVariants as error
use Rattle.lib_read.specs.Fault.{least}
use Rattle.lib_read.specs.Tree.{tree_of}
use Rattle.lib_read.specs.Faults.{fault, faults_of}
use Rattle.lib_read.specs.Rows.{library_of_tree}

-- the least fault of a document, or its library where it has none
abbrev pub judged : Data → Option LibFault → Result LibraryParts LibFault
judged top None = Ok (library_of_tree top)
judged top (Some f) = Err f

-- the library of a document, or its least fault; no document is a fault as well
abbrev pub of_tree : Option Data → Result LibraryParts LibFault
of_tree None = Err (fault NotToml Library 0 (codes "-"))
of_tree (Some top) = judged top (least (faults_of top))

-- more than 1048576 bytes, bytes that are no TOML document, or what the document is
unfoldable pub library_of : List ℕ → Result LibraryParts LibFault
library_of bytes =
    if nat_lt 1048576 (length bytes) then Err (fault TooLarge Library 0 (codes "-")) else of_tree (tree_of bytes)

-- an error says nothing of the bytes, or it is their fault
abbrev pub FaultOf : List ℕ → LibError → Type 0
FaultOf bytes error.Memory = Unit {0}
FaultOf bytes (error.Fault f) = library_of bytes ≡ Err f
