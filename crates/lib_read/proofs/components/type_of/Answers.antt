use Rattle.std.proofs.Common.{Some, ap, ◌∙◌}
use Rattle.toml.specs.View.{view}
use Rattle.lib_read.specs.Schema.{type_of_component}
use Rattle.lib_read.proofs.ComponentLemmas.{owns, found_here}
use Rattle.lib_read.proofs.components.type_of.Goals as goal

pub returns-then-is_instance : goal.returns-then-is_instance
returns-then-is_instance c =
    ap (λ v. Some (view v)) c.row-item.is
    ∙ found_here c.args.text.now c.rows_of-rows.result.now c.loop-row.row-index c.row-item.result (type_of_component (view c.args.top.now) c.args.text.now) c.loop-row-test.true
    (c.if-is_instance.ensures ∙ ap (λ v. owns c.args.text.now (view v)) c.row-item.is) c.loop-row.invariant
