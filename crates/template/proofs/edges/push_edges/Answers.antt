use Rattle.std.proofs.Common.{◌++◌, ◌∙◌, ap, sym}
use Rattle.template.proofs.Steps.{tails_more_yes, tails_more_no, one_more_piece}
use Rattle.template.proofs.edges.push_edges.Goals as goal
use Rattle.template.proofs.edges.push_edges.Goals.{then-component-link+in_ok-push_edges_from, else-component-link}

pub loop-tail-preserved : goal.loop-tail-preserved
loop-tail-preserved c = elim c.if-component-link.branch [
  | then-component-link+in_ok-push_edges_from w ↦
      one_more_piece c.args.edges.now.items _ _ _ _ c.if-component-link.edges.items c.loop-tail.invariant (ap (λ e. e.items) w.edges-is ∙ w.in_ok-push_edges_from.ensures)
      (tails_more_yes c.args.components.now c.args.link.now c.loop-tail.tail _ c.loop-tail-test.true w.if-component-link.true)
  | else-component-link w ↦
      ap (λ e. e.items) w.edges-is ∙ c.loop-tail.invariant
      ∙ ap (λ l. c.args.edges.now.items ++ l) (sym (tails_more_no c.args.components.now c.args.link.now c.loop-tail.tail _ c.loop-tail-test.true w.if-component-link.false))
]
