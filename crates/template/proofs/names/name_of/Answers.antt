use Rattle.std.proofs.Common.{◌∙◌}
use Rattle.std.proofs.lemmas.Result.{IfOk-weaker}
use Rattle.arch_model.proofs.Ranges.{blank_component}
use Rattle.template.proofs.NameLaws.{component_numbers, written_name}
use Rattle.template.proofs.names.name_of.Goals as goal

pub bounds-types-component : goal.bounds-types-component
bounds-types-component c = rw (c.components.ensures.rows, c.types.ensures.rows) (component_numbers c.args.lib.now c.components.ensures.library c.args.c.0 blank_component c.requires).0

pub returns : goal.returns
returns c =
    let name = written_name c.args.lib.now c.components.result.now c.types.result.now c.args.c.0 c.index-types-component.result c.text.result.now c.components.ensures.library c.requires c.components.ensures.rows c.types.ensures.rows c.index-types-component.is c.text.ensures.text in
    IfOk-weaker c.instance_name.result _ _ (λ s e. e ∙ name) c.instance_name.ensures
