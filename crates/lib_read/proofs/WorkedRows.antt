-- Worked rows: what the definition gives for some texts.
use Rattle.std.proofs.Common.{◌≡◌, ℕ, List, length, codes, [], ◌∷◌, None, Ok, Err, refl, arith, lt-ltb}
use Rattle.std.proofs.lemmas.Bool.{le-ltb}
use Rattle.std.specs.Fmt.{digits}
use Rattle.std.specs.Str.{chars, is_utf8}
use Rattle.toml.proofs.OnLiterals.{toml_on_literals}
use Rattle.arch_model.specs.declared.template.Role.TheVariants.{Source, Middle, Sink}
use Rattle.arch_model.specs.declared.library.TypeRow.{TypeRow}
use Rattle.arch_model.specs.declared.sets.CompId.{CompId}
use Rattle.arch_model.specs.declared.library.LinkRow.{LinkRow}
use Rattle.arch_model.specs.declared.library.Requirement.{Requirement}
use Rattle.arch_model.specs.declared.library.Pattern.TheVariants.{Count}
use Rattle.arch_model.specs.Library.{library_parts}
use Rattle.arch_model.specs.Template.{template_of}
use Rattle.lib_read.specs.declared.fault.LibClass.TheVariants.{TooLarge, NotToml, UnknownKey, MissingKey, WrongKind, BadName, Duplicate, UnknownName, Range}
use Rattle.lib_read.specs.declared.fault.TableName.TheVariants.{Library, Types, Links, Patterns, Requires}
use Rattle.lib_read.specs.Tree.{tree_of}
use Rattle.lib_read.specs.Faults.{fault}
use Rattle.lib_read.specs.LibraryOf.{library_of, of_tree}
use Rattle.lib_read.specs.declared.reader.TheConstants.{LARGEST}

-- how many bytes a file may have
largest : LARGEST ≡ 1048576
largest = refl

file_at-limit : (bytes : List ℕ) → length bytes ≡ 1048576 → library_of bytes ≡ of_tree (tree_of bytes)
unfolding library_of
file_at-limit bytes long = rw (le-ltb 1048576 (length bytes) (omega (arith, long))) refl

file_past-limit : (bytes : List ℕ) → length bytes ≡ 1048577 → library_of bytes ≡ Err (fault TooLarge Library 0 (codes "-"))
unfolding library_of
file_past-limit bytes long = rw (lt-ltb 1048576 (length bytes) (omega (arith, long))) refl

no_array : library_of (codes "type = 1") ≡ Err (fault WrongKind Library 0 (codes "type"))
unfolding toml_on_literals library_of tree_of is_utf8 chars
no_array = refl

abbrev row_x : TypeRow
row_x = record { name = codes "x"; role = Middle; max = 1; cost = 7; supply = 0; demand = 0; fail = 0 }

one_type : library_of (codes "type = [{name = \"x\", role = \"middle\", cost = 7}]\npattern = [{kind = \"count\", type = \"x\", min = 1}]") ≡ Ok (library_parts (row_x ∷ []) [] (template_of (row_x ∷ []) []) (Count 0 1 None ∷ []) [])
unfolding toml_on_literals library_of tree_of is_utf8 chars
one_type = refl

-- a key that isn't known comes before a type's bad name, which comes before its range
unknown_first : library_of (codes "zz = 1\ntype = [{name = \"A\", role = \"x\"}]") ≡ Err (fault UnknownKey Library 0 (codes "zz"))
unfolding toml_on_literals library_of tree_of is_utf8 chars
unknown_first = refl

name_next : library_of (codes "type = [{name = \"A\", role = \"x\"}]") ≡ Err (fault BadName Types 1 (codes "name"))
unfolding toml_on_literals library_of tree_of is_utf8 chars
name_next = refl

repeated_pair : library_of (codes "link = [{from = \"b\", to = \"a\"}, {to = \"a\", from = \"b\"}]") ≡ Err (fault Duplicate Links 2 (codes "to"))
unfolding toml_on_literals library_of tree_of is_utf8 chars
repeated_pair = refl

other_kind : library_of (codes "pattern = [{kind = \"some\", type = \"a\"}]") ≡ Err (fault Range Patterns 1 (codes "kind"))
unfolding toml_on_literals library_of tree_of is_utf8 chars
other_kind = refl

no_table : library_of (codes "type = [1]") ≡ Err (fault WrongKind Types 1 (codes "-"))
unfolding toml_on_literals library_of tree_of is_utf8 chars
no_table = refl

no_keys : library_of (codes "type = [{}]") ≡ Err (fault MissingKey Types 1 (codes "name"))
unfolding toml_on_literals library_of tree_of is_utf8 chars
no_keys = refl

no_types : library_of (codes "link = [{from = \"a\", to = \"b\"}]") ≡ Err (fault UnknownName Links 1 (codes "from"))
unfolding toml_on_literals library_of tree_of is_utf8 chars
no_types = refl

no_document : library_of (codes "type = [") ≡ Err (fault NotToml Library 0 (codes "-"))
unfolding toml_on_literals library_of tree_of is_utf8 chars
no_document = refl

-- a source, a sink and the link between them
abbrev row_s : TypeRow
row_s = record { name = codes "s"; role = Source; max = 1; cost = 1; supply = 0; demand = 0; fail = 1000 }

abbrev row_t : TypeRow
row_t = record { name = codes "t"; role = Sink; max = 1; cost = 0; supply = 0; demand = 0; fail = 0 }

abbrev link_st : LinkRow
link_st = record { from = 0; to = 1; cost = 0; fail = 0 }

one_link : library_of (codes "type = [\n  {name = \"s\", role = \"source\", cost = 1, fail = 1000},\n  {name = \"t\", role = \"sink\"},\n]\nlink = [{from = \"s\", to = \"t\"}]\n")
    ≡ Ok (library_parts (row_s ∷ (row_t ∷ [])) (link_st ∷ []) (template_of (row_s ∷ (row_t ∷ [])) (link_st ∷ [])) [] [])
unfolding toml_on_literals library_of tree_of is_utf8 chars
one_link = refl

-- two bounds on the weight of the sink, which is component 1
abbrev bound_t : ℕ → Requirement
bound_t bound = record { sink = record { 0 = 1 }; bound = bound }

two_bounds : library_of (codes "type = [\n  {name = \"s\", role = \"source\", cost = 1, fail = 1000},\n  {name = \"t\", role = \"sink\"},\n]\nrequire = [{sink = \"t.1\", bound = 0}, {sink = \"t.1\", bound = 1000000000000000000}]\n")
    ≡ Ok (library_parts (row_s ∷ (row_t ∷ [])) [] (template_of (row_s ∷ (row_t ∷ [])) []) [] (bound_t 0 ∷ (bound_t 1000000000000000000 ∷ [])))
unfolding toml_on_literals library_of tree_of is_utf8 chars digits
two_bounds = refl

-- a component that there isn't is an unknown name, and one that is no sink is out of range
no_component : library_of (codes "type = [{name = \"s\", role = \"sink\"}]\nrequire = [{sink = \"s.2\", bound = 0}]") ≡ Err (fault UnknownName Requires 1 (codes "sink"))
unfolding toml_on_literals library_of tree_of is_utf8 chars digits
no_component = refl

no_sink : library_of (codes "type = [{name = \"s\", role = \"source\"}]\nrequire = [{sink = \"s.1\", bound = 0}]") ≡ Err (fault Range Requires 1 (codes "sink"))
unfolding toml_on_literals library_of tree_of is_utf8 chars digits
no_sink = refl

large_bound : library_of (codes "type = [{name = \"s\", role = \"sink\"}]\nrequire = [{sink = \"s.1\", bound = 1000000000000000001}]") ≡ Err (fault Range Requires 1 (codes "bound"))
unfolding toml_on_literals library_of tree_of is_utf8 chars digits
large_bound = refl
