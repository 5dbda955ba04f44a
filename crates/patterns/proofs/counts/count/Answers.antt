use Rattle.std.proofs.Common.{◌+◌, nat_eq, get_or, arith, ap, sym, ◌∙◌}
use Rattle.arch_model.specs.Set.{has}
use Rattle.arch_model.proofs.Present.{total_more_yes, total_more_no}
use Rattle.arch_model.proofs.Ranges.{blank_component}
use Rattle.patterns.proofs.Sums.{of_type, counted_small, one_byte, whole_sum}
use Rattle.patterns.proofs.counts.count.Goals as goal
use Rattle.patterns.proofs.counts.count.Goals.{then-has, else-has}

pub loop-i-preserved : goal.loop-i-preserved
loop-i-preserved c = elim c.if-has.branch [
  | then-has w ↦
      let one = w.from-total.ensures ∙ one_byte (nat_eq (get_or c.components-components.result.now c.loop-i.i blank_component).of c.args.t) in
      let few = counted_small (nat_eq (get_or c.components-components.result.now c.loop-i.i blank_component).of c.args.t) in
      record {
        sum = total_more_yes (of_type c.args.t) (has c.comps-chosen.result) c.components-components.result.now c.loop-i.i blank_component _ _ c.loop-i-test.true (sym c.has.ensures.member ∙ w.if-has.true) c.loop-i.invariant.sum (w.total-is ∙ ap (λ n. c.loop-i.total + n) one);
        small = omega arith;
      }
  | else-has w ↦ record {
    sum = total_more_no (of_type c.args.t) (has c.comps-chosen.result) c.components-components.result.now c.loop-i.i _ _ c.loop-i-test.true (sym c.has.ensures.member ∙ w.if-has.false) c.loop-i.invariant.sum w.total-is;
    small = omega arith;
  }
]

pub returns : goal.returns
returns c = whole_sum (of_type c.args.t) c.comps-chosen.result c.args.arch.now.comps c.components-components.result.now c.args.lib.now.components c.loop-i.i c.loop-i.total c.loop-i-test.false c.components-components.ensures.rows c.comps-chosen.ensures c.loop-i.invariant.sum
