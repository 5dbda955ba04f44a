use Rattle.std.proofs.Common.{rules, codes, [], unwrap_or, map, ap, ◌∙◌}
use Rattle.std.specs.List.{range_with_len}
use Rattle.toml.specs.View.{view}
use Rattle.lib_read.specs.Tree.{text_at}
use Rattle.template.specs.Names.{instance_name}
use Rattle.lib_read.specs.Schema.{is_named}
use Rattle.lib_read.proofs.ComponentLemmas.{named_where}
use Rattle.lib_read.proofs.components.is_instance.Goals as goal

pub returns : goal.returns
returns c =
    named_where c.name_in-name.result.now c.args.text.now c.index_in.result c.number_or-max.result c.is_some_and.result c.number_or-max.type_inv c.index_in.ensures.is c.index_in.ensures.none _ c.is_some_and.ensures (λ i h. search rules)
    ∙ ap (λ n. is_named (map (instance_name n) (range_with_len 1 c.number_or-max.result)) c.args.text.now) c.name_in-name.ensures
    ∙ ap (λ m. is_named (map (instance_name (unwrap_or (text_at (codes "name") (view c.args.row.now)) [])) (range_with_len 1 m)) c.args.text.now) c.number_or-max.ensures
