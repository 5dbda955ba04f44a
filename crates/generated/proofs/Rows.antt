-- The tables of a generated document, row by row.
use Rattle.std.proofs.Common.{◌≡◌, List, [], ◌∷◌, ◌++◌, refl, sym, ap, ◌∙◌, append_assoc, append-nil}
use Rattle.toml.specs.Data.{Data, Items, no_items, item, push_item, table}
use Rattle.lib_read.specs.declared.fault.TableName.TheVariants.{Types, Links, Patterns, Requires}
use Rattle.lib_read.specs.Tree.{items_list, rows_of}
use Rattle.generate.specs.declared.group.Group.{Group}
use Rattle.generated.proofs.Documents.{add_items, members_of, type_tables, link_tables, requirement_tables}

list-push : (done : Items) (d : Data) → items_list (push_item done d) ≡ items_list done ++ d ∷ []
list-push no_items d = refl
list-push (item e ds) d = ap (λ es. e ∷ es) (list-push ds d)

list-add : (done : Items) (ds : List Data) → items_list (add_items done ds) ≡ items_list done ++ ds
list-add done [] = sym (append-nil (items_list done))
list-add done (d ∷ ds) =
    list-add (push_item done d) ds ∙ ap (λ es. es ++ ds) (list-push done d) ∙ append_assoc (items_list done) (d ∷ []) ds

-- the document, as a table
abbrev pub document_of : List Group → Data
document_of gs = table (members_of gs)

pub types_rows : (gs : List Group) → rows_of Types (document_of gs) ≡ type_tables gs
types_rows gs = list-add no_items (type_tables gs)

pub links_rows : (gs : List Group) → rows_of Links (document_of gs) ≡ link_tables gs
links_rows gs = list-add no_items (link_tables gs)

pub patterns_rows : (gs : List Group) → rows_of Patterns (document_of gs) ≡ []
patterns_rows gs = refl

pub requires_rows : (gs : List Group) → rows_of Requires (document_of gs) ≡ requirement_tables gs
requires_rows gs = list-add no_items (requirement_tables gs)
