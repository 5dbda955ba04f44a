use Rattle.std.proofs.Common.{◌+◌, length, get_or, arith, ap, sym, ◌∙◌}
use Rattle.arch_model.specs.Set.{has}
use Rattle.arch_model.proofs.Present.{total_more_yes, total_more_no}
use Rattle.arch_model.proofs.Ranges.{blank_edge}
use Rattle.patterns.proofs.Sums.{flow, flow_small, whole_sum, flow_is}
use Rattle.patterns.proofs.supplies.flow_at.Goals as goal
use Rattle.patterns.proofs.supplies.flow_at.Goals.{then-has, else-has}

pub overflow_add-total : goal.overflow_add-total
overflow_add-total c =
    let small = flow_small c.args.lib.now c.edges-edges.ensures.library c.args.side c.args.i.0 (get_or c.edges-edges.result.now c.loop-e.e blank_edge) in
    let few = c.edges-edges.ensures.library.few_edges in
    omega (arith, small, c.flow-total.ensures, few, ap length c.edges-edges.ensures.rows)

pub loop-e-preserved : goal.loop-e-preserved
loop-e-preserved c = elim c.if-has.branch [
  | then-has w ↦
      let small = flow_small c.args.lib.now c.edges-edges.ensures.library c.args.side c.args.i.0 (get_or c.edges-edges.result.now c.loop-e.e blank_edge) in
      record {
        sum = total_more_yes (flow c.args.lib.now c.args.side c.args.i.0) (has c.edges-chosen.result) c.edges-edges.result.now c.loop-e.e blank_edge _ _ c.loop-e-test.true (sym c.has.ensures.member ∙ w.if-has.true) c.loop-e.invariant.sum (w.total-is ∙ ap (λ n. c.loop-e.total + n) w.flow-total.ensures);
        small = omega (arith, small, w.flow-total.ensures);
      }
  | else-has w ↦ record {
    sum = total_more_no (flow c.args.lib.now c.args.side c.args.i.0) (has c.edges-chosen.result) c.edges-edges.result.now c.loop-e.e _ _ c.loop-e-test.true (sym c.has.ensures.member ∙ w.if-has.false) c.loop-e.invariant.sum w.total-is;
    small = omega arith;
  }
]

pub returns : goal.returns
returns c =
    whole_sum (flow c.args.lib.now c.args.side c.args.i.0) c.edges-chosen.result c.args.arch.now.edges c.edges-edges.result.now c.args.lib.now.edges c.loop-e.e c.loop-e.total c.loop-e-test.false c.edges-edges.ensures.rows c.edges-chosen.ensures c.loop-e.invariant.sum
    ∙ flow_is c.args.lib.now c.args.arch.now c.args.side c.args.i.0
