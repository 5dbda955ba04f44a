use Rattle.std.proofs.Common.{◌++◌, ◌∙◌, ap, sym}
use Rattle.template.proofs.Steps.{heads_more_yes, heads_more_other, heads_more_self, one_more_piece}
use Rattle.arch_model.proofs.Ranges.{blank_component}
use Rattle.template.proofs.edges.push_edges_from.Goals as goal
use Rattle.template.proofs.edges.push_edges_from.Goals.{then-component-link+then-head-tail+in_ok-push, else-component-link, else-component-link-via-then-component-link+else-head-tail, else-component-link-via-else-component-link}

pub loop-head-preserved : goal.loop-head-preserved
loop-head-preserved c = elim c.if-component-link.branch [
  | then-component-link+then-head-tail+in_ok-push w ↦
      one_more_piece c.args.edges.now.items _ _ _ _ c.if-component-link.edges.items c.loop-head.invariant (ap (λ e. e.items) w.edges-is ∙ w.in_ok-push.ensures.items)
      (heads_more_yes c.args.link.now c.args.tail c.args.components.now c.loop-head.head _ c.loop-head-test.true w.if-component-link.true w.if-head-tail.true)
  | else-component-link w ↦ elim w.else-component-link.branch [
    | else-component-link-via-then-component-link+else-head-tail w' ↦
        ap (λ e. e.items) w.edges-is ∙ c.loop-head.invariant
        ∙ ap (λ l. c.args.edges.now.items ++ l) (sym (heads_more_self c.args.link.now c.args.tail c.args.components.now c.loop-head.head blank_component c.loop-head-test.true w'.if-head-tail.false))
    | else-component-link-via-else-component-link w' ↦
        ap (λ e. e.items) w.edges-is ∙ c.loop-head.invariant
        ∙ ap (λ l. c.args.edges.now.items ++ l) (sym (heads_more_other c.args.link.now c.args.tail c.args.components.now c.loop-head.head _ c.loop-head-test.true w'.if-component-link.false))
  ]
]
