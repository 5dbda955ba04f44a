use Rattle.std.proofs.Common.{arith, ap, sym, ◌∙◌, ◌+◌}
use Rattle.arch_model.specs.Set.{has}
use Rattle.arch_model.proofs.Present.{total_more_yes, total_more_no}
use Rattle.arch_model.proofs.Ranges.{blank_edge}
use Rattle.patterns.proofs.Sums.{counted, counted_small, one_byte, leading, whole_sum, degree_is}
use Rattle.patterns.proofs.degrees.degree.Goals as goal
use Rattle.patterns.proofs.degrees.degree.Goals.{then-has, else-has}

pub loop-e-preserved : goal.loop-e-preserved
loop-e-preserved c = elim c.if-has.branch [
  | then-has w ↦
      let one = w.from-total.ensures ∙ one_byte w.joins.result ∙ ap counted w.joins.ensures in
      let few = counted_small w.joins.result in
      let byte = one_byte w.joins.result in
      record {
        sum = total_more_yes (leading c.args.lib.now c.args.side c.args.t c.args.i.0) (has c.edges-chosen.result) c.edges-edges.result.now c.loop-e.e blank_edge _ _ c.loop-e-test.true (sym c.has.ensures.member ∙ w.if-has.true) c.loop-e.invariant.sum (w.total-is ∙ ap (λ n. c.loop-e.total + n) one);
        small = omega arith;
      }
  | else-has w ↦ record {
    sum = total_more_no (leading c.args.lib.now c.args.side c.args.t c.args.i.0) (has c.edges-chosen.result) c.edges-edges.result.now c.loop-e.e _ _ c.loop-e-test.true (sym c.has.ensures.member ∙ w.if-has.false) c.loop-e.invariant.sum w.total-is;
    small = omega arith;
  }
]

pub returns : goal.returns
returns c =
    whole_sum (leading c.args.lib.now c.args.side c.args.t c.args.i.0) c.edges-chosen.result c.args.arch.now.edges c.edges-edges.result.now c.args.lib.now.edges c.loop-e.e c.loop-e.total c.loop-e-test.false c.edges-edges.ensures.rows c.edges-chosen.ensures c.loop-e.invariant.sum
    ∙ degree_is c.args.lib.now c.args.arch.now c.args.side c.args.t c.args.i.0
