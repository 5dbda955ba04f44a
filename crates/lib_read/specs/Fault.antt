-- Faults of a library file, and their order.
use Rattle.std.specs.Prelude.{ℕ, List, [], ◌∷◌, Option, Some, None}
use Rattle.std.specs.Ordering.{nat_cmp, is_lt, match_ordering}
use Rattle.std.specs.List.{best_of}
use Rattle.std.specs.Cmp.Lexicographic.{slice_cmp}
use Rattle.std.specs.declared.cmp.Ordering.{Ordering}
use Rattle.std.specs.declared.cmp.Ordering.TheVariants.{Less, Greater}
use Rattle.lib_read.specs.declared.fault.LibClass.{LibClass}
use Rattle.lib_read.specs.declared.fault.LibClass.TheVariants.{TooLarge, NotToml, UnknownKey, MissingKey, WrongKind, BadName, Duplicate, UnknownName, Range, TooMany}
use Rattle.lib_read.specs.declared.fault.TableName.{TableName}
use Rattle.lib_read.specs.declared.fault.TableName.TheVariants.{Library, Types, Links, Patterns, Requires}
use Rattle.lib_read.specs.declared.fault.LibFault.{LibFault}

-- the place of a class in the order of faults
abbrev pub class_rank : LibClass → ℕ
class_rank TooLarge = 1
class_rank NotToml = 2
class_rank UnknownKey = 3
class_rank MissingKey = 4
class_rank WrongKind = 5
class_rank BadName = 6
class_rank Duplicate = 7
class_rank UnknownName = 8
class_rank Range = 9
class_rank TooMany = 10

-- the place of a table in the order of faults
abbrev pub table_rank : TableName → ℕ
table_rank Library = 0
table_rank Types = 1
table_rank Links = 2
table_rank Patterns = 3
table_rank Requires = 4

-- one order, and where it ties another
abbrev pub then_by : Ordering → Ordering → Ordering
then_by first second = match_ordering first Less second Greater

-- texts in byte order
abbrev pub text_cmp : List ℕ → List ℕ → Ordering
text_cmp = slice_cmp nat_cmp

-- faults by class, then by table, then by position, then by key in byte order
abbrev pub fault_cmp : LibFault → LibFault → Ordering
fault_cmp a b =
    then_by (nat_cmp (class_rank a.class) (class_rank b.class))
    (then_by (nat_cmp (table_rank a.table) (table_rank b.table))
    (then_by (nat_cmp a.position b.position) (text_cmp a.key b.key)))

-- the least of some faults
abbrev pub least : List LibFault → Option LibFault
least [] = None
least (f ∷ fs) = Some (best_of (λ a b. is_lt (fault_cmp a b)) f fs)
