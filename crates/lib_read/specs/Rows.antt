-- The library that a document without a fault is.
use Rattle.std.specs.Prelude.{codes, ℕ, List, [], map, Option, option_map, unwrap_or, position}
use Rattle.std.specs.Option.{option_and_then}
use Rattle.std.specs.List.{filter_map}
use Rattle.std.specs.Str.{bytes_eq}
use Rattle.toml.specs.Data.{Data}
use Rattle.arch_model.specs.declared.template.Role.TheVariants.{Middle}
use Rattle.arch_model.specs.declared.sets.CompId.{CompId}
use Rattle.arch_model.specs.declared.library.TypeRow.{TypeRow}
use Rattle.arch_model.specs.declared.library.LinkRow.{LinkRow}
use Rattle.arch_model.specs.declared.library.Pattern.{Pattern}
use Rattle.arch_model.specs.declared.library.Pattern.TheVariants as pattern
use Rattle.arch_model.specs.declared.library.Requirement.{Requirement}
use Rattle.arch_model.specs.Parts.{LibraryParts}
use Rattle.arch_model.specs.Library.{library_parts}
use Rattle.arch_model.specs.Template.{template_of}
use Rattle.lib_read.specs.declared.fault.TableName.TheVariants.{Types, Links, Patterns, Requires}
use Rattle.lib_read.specs.declared.schema.Kind.{Kind}
use Rattle.lib_read.specs.declared.schema.Kind.TheVariants.{Count, InDegree, OutDegree, InNeedsOut, Exclusive, Implies, Forbid, TotalSupply, LocalSupply, CostCap}
use Rattle.lib_read.specs.Tree.{text_at, rows_of}
use Rattle.lib_read.specs.Components.{number_at, number_or, component_names}
use Rattle.lib_read.specs.Schema.{role_of, row_kind}

-- the names of the types, in file order
abbrev pub type_names : Data → List (List ℕ)
type_names top = filter_map (text_at (codes "name")) (rows_of Types top)

-- the number of the type that the text at a key names
abbrev pub type_at : List (List ℕ) → List ℕ → Data → ℕ
type_at names key row = unwrap_or (option_and_then (λ text. position (bytes_eq text) names) (text_at key row)) 0

-- the row of a type, with the defaults of absent keys
abbrev pub type_row : Data → TypeRow
type_row row = record {
  name = unwrap_or (text_at (codes "name") row) [];
  role = unwrap_or (option_and_then role_of (text_at (codes "role") row)) Middle;
  max = number_or 1 (codes "max") row;
  cost = number_or 0 (codes "cost") row;
  supply = number_or 0 (codes "supply") row;
  demand = number_or 0 (codes "demand") row;
  fail = number_or 0 (codes "fail") row;
}

-- the row of a link, whose types are numbered by their names
abbrev pub link_row : List (List ℕ) → Data → LinkRow
link_row names row = record {
  from = type_at names (codes "from") row;
  to = type_at names (codes "to") row;
  cost = number_or 0 (codes "cost") row;
  fail = 0;
}

-- the least number of a pattern's row
abbrev pub least_of : Data → ℕ
least_of row = number_or 0 (codes "min") row

-- the greatest number of a pattern's row, where one is given
abbrev pub most_of : Data → Option ℕ
most_of row = number_at (codes "max") row

-- the component that the text at a key names
abbrev pub component_at : List (List ℕ) → List ℕ → Data → CompId
component_at components key row = record { 0 = type_at components key row }

-- the pattern of a kind that a row is, where types and components have these names
abbrev pub kind_row : List (List ℕ) → List (List ℕ) → Data → Kind → Pattern
kind_row names components row Count = pattern.Count (type_at names (codes "type") row) (least_of row) (most_of row)
kind_row names components row InDegree = pattern.InDegree (type_at names (codes "type") row) (type_at names (codes "from") row) (least_of row) (most_of row)
kind_row names components row OutDegree = pattern.OutDegree (type_at names (codes "type") row) (type_at names (codes "to") row) (least_of row) (most_of row)
kind_row names components row InNeedsOut = pattern.InNeedsOut (type_at names (codes "type") row) (type_at names (codes "from") row) (type_at names (codes "to") row)
kind_row names components row Exclusive = pattern.Exclusive (type_at names (codes "type") row) (type_at names (codes "a") row) (type_at names (codes "b") row)
kind_row names components row Implies = pattern.Implies (type_at names (codes "a") row) (type_at names (codes "b") row)
kind_row names components row Forbid = pattern.Forbid (component_at components (codes "from") row) (component_at components (codes "to") row)
kind_row names components row TotalSupply = pattern.TotalSupply
kind_row names components row LocalSupply = pattern.LocalSupply (type_at names (codes "type") row)
kind_row names components row CostCap = pattern.CostCap (number_or 0 (codes "max") row)

-- the pattern of a row, where its kind is one of the ten words
abbrev pub pattern_row : List (List ℕ) → List (List ℕ) → Data → Option Pattern
pattern_row names components row = option_map (kind_row names components row) (row_kind row)

-- the requirement of a row, where components have these names
abbrev pub requirement_row : List (List ℕ) → Data → Requirement
requirement_row components row = record { sink = component_at components (codes "sink") row; bound = number_or 0 (codes "bound") row }

-- the types of a document
abbrev pub types_of : Data → List TypeRow
types_of top = map type_row (rows_of Types top)

-- the links, by the names of the types
abbrev pub links_by : List (List ℕ) → Data → List LinkRow
links_by names top = map (link_row names) (rows_of Links top)

-- the patterns, by the names of the types and of the components
abbrev pub patterns_by : List (List ℕ) → List (List ℕ) → Data → List Pattern
patterns_by names components top = filter_map (pattern_row names components) (rows_of Patterns top)

-- the requirements, by the names of the components
abbrev pub requirements_by : List (List ℕ) → Data → List Requirement
requirements_by components top = map (requirement_row components) (rows_of Requires top)

-- the links of a document
abbrev pub links_of : Data → List LinkRow
links_of top = links_by (type_names top) top

-- the patterns of a document
abbrev pub patterns_of : Data → List Pattern
patterns_of top = patterns_by (type_names top) (component_names top) top

-- the requirements of a document
abbrev pub requirements_of : Data → List Requirement
requirements_of top = requirements_by (component_names top) top

-- the library of a document, with the template of its types and links
abbrev pub library_of_tree : Data → LibraryParts
library_of_tree top =
    library_parts (types_of top) (links_of top) (template_of (types_of top) (links_of top)) (patterns_of top) (requirements_of top)
