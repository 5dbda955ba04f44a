use Rattle.std.proofs.Common.{is_some, ap, ◌∙◌}
use Rattle.toml.specs.View.{view}
use Rattle.lib_read.specs.declared.fault.TableName.TheVariants.{Types}
use Rattle.lib_read.specs.Tree.{rows_of}
use Rattle.lib_read.proofs.ComponentLemmas.{owned_or_not, still_some}
use Rattle.lib_read.proofs.components.is_component.Goals as goal

pub returns : goal.returns
returns c =
    c.is_some.ensures
    ∙ still_some (λ row. view row.now) c.type_of.result
    ∙ ap is_some c.type_of.ensures
    ∙ owned_or_not c.args.text.now (rows_of Types (view c.args.top.now))
