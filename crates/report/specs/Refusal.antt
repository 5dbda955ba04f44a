-- The lines that refuse what was asked for: words, or a library or an architecture file for its first fault.
use Rattle.std.specs.Prelude.{ℕ, ◌&&◌, not, nat_le, nat_lt, Bool, List, ◌++◌, map, filter, take, codes, if◌then◌else◌}
use Rattle.std.specs.Fmt.{decimal}
use Rattle.lib_read.specs.declared.fault.LibClass.{LibClass}
use Rattle.lib_read.specs.declared.fault.LibClass.TheVariants.{TooLarge, NotToml, UnknownKey, MissingKey, WrongKind, BadName, Duplicate, UnknownName, Range, TooMany}
use Rattle.lib_read.specs.declared.fault.TableName.{TableName}
use Rattle.lib_read.specs.declared.fault.TableName.TheVariants.{Library, Types, Links, Patterns, Requires}
use Rattle.lib_read.specs.declared.fault.LibFault.{LibFault}
use Rattle.arch_csv.specs.declared.fault.ArchClass.{ArchClass}
use Rattle.arch_csv.specs.declared.fault.ArchClass.TheVariants as arch
use Rattle.arch_csv.specs.declared.fault.ArchFault.{ArchFault}

-- a class's number and word
abbrev pub class_text : LibClass → List ℕ
class_text TooLarge = codes "L1 TooLarge"
class_text NotToml = codes "L2 NotToml"
class_text UnknownKey = codes "L3 UnknownKey"
class_text MissingKey = codes "L4 MissingKey"
class_text WrongKind = codes "L5 WrongKind"
class_text BadName = codes "L6 BadName"
class_text Duplicate = codes "L7 Duplicate"
class_text UnknownName = codes "L8 UnknownName"
class_text Range = codes "L9 Range"
class_text TooMany = codes "L10 TooMany"

-- a table's word
abbrev pub table_text : TableName → List ℕ
table_text Library = codes "library"
table_text Types = codes "type"
table_text Links = codes "link"
table_text Patterns = codes "pattern"
table_text Requires = codes "require"

-- whether a byte of a UTF-8 text is the first of its character
abbrev pub starts_character : ℕ → Bool
starts_character byte = not (nat_le 128 byte && nat_lt byte 192)

-- how a character is printed, by its first byte: as it is from `!` to `~`, else as `?`
abbrev pub shown : ℕ → ℕ
shown byte = if nat_le 33 byte && nat_le byte 126 then byte else 63

-- the first 40 characters of a key
abbrev pub key_text : List ℕ → List ℕ
key_text key = map shown (take 40 (filter starts_character key))

-- one line: the class, the table, the position there, counted from 1 (0 for the library), and the key
abbrev pub refused_library_text : LibFault → List ℕ
refused_library_text fault =
    codes "refused library " ++ class_text fault.class ++ codes " " ++ table_text fault.table ++ codes " " ++ decimal fault.position ++ codes " " ++ key_text fault.key ++ codes "\n"

-- the word of a class of faults of an architecture file
abbrev pub arch_class_text : ArchClass → List ℕ
arch_class_text arch.TooLarge = codes "TooLarge"
arch_class_text arch.Fields = codes "Fields"
arch_class_text arch.Header = codes "Header"
arch_class_text arch.Kind = codes "Kind"
arch_class_text arch.UnknownName = codes "UnknownName"
arch_class_text arch.Duplicate = codes "Duplicate"
arch_class_text arch.MissingEnd = codes "MissingEnd"

-- one line: the record, counted from 1 (0 for the file), and the class
abbrev pub refused_architecture_text : ArchFault → List ℕ
refused_architecture_text fault =
    codes "refused architecture " ++ decimal fault.place ++ codes " " ++ arch_class_text fault.class ++ codes "\n"

-- one line: the place of the word, counted from 1
abbrev pub refused_words_text : ℕ → List ℕ
refused_words_text place = codes "refused words " ++ decimal place ++ codes "\n"
