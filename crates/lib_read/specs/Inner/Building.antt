-- For the code's own contracts: what the rows of a document without a fault keep while they are built.
use Rattle.std.specs.Prelude.{ℕ, List, map, IfSome}
use Rattle.std.specs.List.{range_with_len}
use Rattle.toml.specs.Data.{Data}
use Rattle.arch_model.specs.declared.library.TypeRow.{TypeRow}
use Rattle.arch_model.specs.Library.{AreBounds}
use Rattle.template.specs.Names.{instance_name}
use Rattle.lib_read.specs.declared.schema.Kind.{Kind}
use Rattle.lib_read.specs.declared.schema.Kind.TheVariants.{Count, InDegree, OutDegree}
use Rattle.lib_read.specs.Rows.{least_of, most_of}
use Rattle.lib_read.specs.Schema.{row_kind}

-- the names of the instances of a type that was read
abbrev pub names_of_type : TypeRow → List (List ℕ)
names_of_type row = map (instance_name row.name) (range_with_len 1 row.max)

-- the least and greatest number of a pattern's row, where its kind has them, are in their ranges
abbrev pub KindFits : Data → Kind → Type 0
KindFits row Count = AreBounds (least_of row) (most_of row)
KindFits row InDegree = AreBounds (least_of row) (most_of row)
KindFits row OutDegree = AreBounds (least_of row) (most_of row)
KindFits row _ = Unit {0}

-- so are those of a row of any kind
abbrev pub PatternFits : Data → Type 0
PatternFits row = IfSome (row_kind row) (KindFits row)
