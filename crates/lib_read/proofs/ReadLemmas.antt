-- The library of bytes, case by case.
use Rattle.std.proofs.Common.{◌≡◌, ℕ, codes, ◌<◌, ◌≤◌, List, [], length, Some, None, Ok, Err, sym, ap, ◌∙◌, inl, inr, lt-ltb}
use Rattle.std.specs.Str.{IsUtf8, is_utf8}
use Rattle.std.proofs.lemmas.Bool.{cases_Bool, le-ltb}
use Rattle.std.proofs.lemmas.Str.{IsUtf8-from_is_utf8, is_utf8-from_IsUtf8}
use Rattle.toml.specs.Data.{Data, Members, table}
use Rattle.toml.specs.Parse.{parse_document}
use Rattle.arch_model.specs.Parts.{LibraryParts}
use Rattle.lib_read.specs.declared.fault.LibFault.{LibFault}
use Rattle.lib_read.specs.Fault.{least}
use Rattle.lib_read.specs.Tree.{tree_of}
use Rattle.lib_read.specs.declared.fault.LibClass.TheVariants.{TooLarge, NotToml}
use Rattle.lib_read.specs.declared.fault.TableName.TheVariants.{Library}
use Rattle.lib_read.specs.declared.fault.LibError.{LibError}
use Rattle.lib_read.specs.declared.fault.LibError.TheVariants as error
use Rattle.lib_read.specs.Inner.Keys.{Tells}
use Rattle.lib_read.specs.Faults.{fault, faults_of}
use Rattle.lib_read.specs.LibraryOf.{judged, library_of, FaultOf}

pub tree_is : (bytes : List ℕ) (ms : Members) → IsUtf8 bytes → parse_document bytes ≡ Some ms → tree_of bytes ≡ Some (table ms)
unfolding tree_of
tree_is bytes ms text parsed = rw (is_utf8-from_IsUtf8 bytes text, parsed)

pub no_tree : (bytes : List ℕ) → (IsUtf8 bytes → parse_document bytes ≡ None) → tree_of bytes ≡ None
unfolding tree_of
no_tree bytes refused =
    elim (cases_Bool (is_utf8 bytes)) [
      | inl text ↦ rw (text, refused (IsUtf8-from_is_utf8 bytes text))
      | inr other ↦ rw other
    ]

pub library_is : (bytes : List ℕ) (top : Data) (lib : LibraryParts) → length bytes ≤ 1048576 → tree_of bytes ≡ Some top → judged top (least (faults_of top)) ≡ Ok lib → library_of bytes ≡ Ok lib
unfolding library_of
library_is bytes top lib few tree whole = rw (le-ltb 1048576 (length bytes) few, tree) whole

pub no_document : (bytes : List ℕ) → length bytes ≤ 1048576 → tree_of bytes ≡ None → library_of bytes ≡ Err (fault NotToml Library 0 (codes "-"))
unfolding library_of
no_document bytes few tree = rw (le-ltb 1048576 (length bytes) few, tree)

pub too_many : (bytes : List ℕ) → 1048576 < length bytes → library_of bytes ≡ Err (fault TooLarge Library 0 (codes "-"))
unfolding library_of
too_many bytes h = rw (lt-ltb 1048576 (length bytes) h)

pub fault_found : (bytes : List ℕ) (top : Data) (f : LibFault) → length bytes ≤ 1048576 → tree_of bytes ≡ Some top → Some f ≡ least (faults_of top) → library_of bytes ≡ Err f
unfolding library_of
fault_found bytes top f few tree found = rw (le-ltb 1048576 (length bytes) few, tree, ← found)

-- an answer that tells the bytes' fault
pub told_so : (bytes : List ℕ) (f : LibFault) (e : LibError) → library_of bytes ≡ Err f → Tells f e → FaultOf bytes e
told_so bytes f error.Memory is told = tt
told_so bytes f (error.Fault g) is told = is ∙ ap Err (sym told)

pub none_found : (top : Data) → faults_of top ≡ [] → least (faults_of top) ≡ None
none_found top e = ap least e
