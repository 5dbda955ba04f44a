use Rattle.std.proofs.Common.{map, sym, ap, ◌∙◌}
use Rattle.toml.specs.View.{view, items_view}
use Rattle.lib_read.proofs.TreeLemmas.{items_list-view, elements-array, elements-other}
use Rattle.lib_read.proofs.values.elements.Goals as goal

pub returns-in-Some : goal.returns-in-Some
returns-in-Some c =
    ap (map view) c.as_slice.ensures.value ∙ sym (items_list-view c.in-Some.rows.now.items) ∙ sym (elements-array (view c.args.value.now) (items_view c.in-Some.rows.now.items) c.in-Some.ensures)

pub returns-in-None : goal.returns-in-None
returns-in-None c = sym (elements-other (view c.args.value.now) c.in-None.ensures)
