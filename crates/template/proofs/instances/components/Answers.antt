use Rattle.std.proofs.Common.{◌++◌, take, ◌∙◌, ap, sym}
use Rattle.arch_model.specs.Template.{components_of, instances_of_type}
use Rattle.template.proofs.Steps.{components_more}
use Rattle.template.proofs.instances.components.Goals as goal

pub loop-t-preserved : goal.loop-t-preserved
loop-t-preserved c =
    c.in_ok-push_instances.ensures
    ∙ ap (λ l. l ++ instances_of_type c.loop-t.t c.index-types-t.result) c.loop-t.invariant
    ∙ ap (λ r. components_of (take c.loop-t.t c.args.types.now) ++ instances_of_type c.loop-t.t r) c.index-types-t.is
    ∙ sym (components_more c.args.types.now c.loop-t.t c.index-types-t.result c.loop-t-test.true)
