use Rattle.toml.specs.View.{table_view}
use Rattle.toml.proofs.Views.{view-Table}
use Rattle.std.proofs.Common.{Some, sym, ◌∙◌, ap}
use Rattle.lib_read.proofs.ReadLemmas.{tree_is, no_tree}
use Rattle.lib_read.proofs.reader.tree.Goals as goal

pub returns-in-Ok : goal.returns-in-Ok
returns-in-Ok c =
    tree_is c.args.bytes.now (table_view c.in-Ok.table) c.in-Ok.ensures.ok.0 c.in-Ok.ensures.ok.1 ∙ ap Some (sym (view-Table c.in-Ok.table))

pub returns-else-is_memory : goal.returns-else-is_memory
returns-else-is_memory c = no_tree c.args.bytes.now (λ text. c.in-Err.ensures.refused (λ memory. let yes = c.is_memory.ensures.1 memory in cc (yes, c.if-is_memory.false)) text)
