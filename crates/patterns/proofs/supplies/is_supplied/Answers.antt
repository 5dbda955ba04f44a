use Rattle.std.proofs.Common.{length, arith, ap, sym, ◌∙◌, rules, tests}
use Rattle.arch_model.specs.Set.{has}
use Rattle.arch_model.proofs.Present.{total_more_yes, total_more_no}
use Rattle.arch_model.proofs.Ranges.{blank_component}
use Rattle.patterns.proofs.Sums.{supplies_at, demands_at, whole_sum}
use Rattle.patterns.proofs.supplies.is_supplied.Goals as goal
use Rattle.patterns.proofs.supplies.is_supplied.Goals.{then-has, else-has}

pub overflow_add-supply : goal.overflow_add-supply
overflow_add-supply c = omega (arith, c.components-components.ensures.library.few_components, ap length c.components-components.ensures.rows, supplies_at c.args.lib.now c.components-components.result.now c.components-components.ensures.library c.components-components.ensures.rows c.loop-i.i c.loop-i-test.true)

pub overflow_add-demand : goal.overflow_add-demand
overflow_add-demand c = omega (arith, c.components-components.ensures.library.few_components, ap length c.components-components.ensures.rows, demands_at c.args.lib.now c.components-components.result.now c.components-components.ensures.library c.components-components.ensures.rows c.loop-i.i c.loop-i-test.true)

pub loop-i-preserved : goal.loop-i-preserved
loop-i-preserved c = elim c.if-has.branch [
  | then-has w ↦
      let supply = supplies_at c.args.lib.now c.components-components.result.now c.components-components.ensures.library c.components-components.ensures.rows c.loop-i.i c.loop-i-test.true in
      let demand = demands_at c.args.lib.now c.components-components.result.now c.components-components.ensures.library c.components-components.ensures.rows c.loop-i.i c.loop-i-test.true in
      record {
        supplied = total_more_yes (λ c. c.supply) (has c.comps-chosen.result) c.components-components.result.now c.loop-i.i blank_component _ _ c.loop-i-test.true (sym c.has.ensures.member ∙ w.if-has.true) c.loop-i.invariant.supplied w.supply-is;
        demanded = total_more_yes (λ c. c.demand) (has c.comps-chosen.result) c.components-components.result.now c.loop-i.i blank_component _ _ c.loop-i-test.true (sym c.has.ensures.member ∙ w.if-has.true) c.loop-i.invariant.demanded w.demand-is;
        supply_small = omega arith;
        demand_small = omega arith;
      }
  | else-has w ↦ record {
    supplied = total_more_no (λ c. c.supply) (has c.comps-chosen.result) c.components-components.result.now c.loop-i.i _ _ c.loop-i-test.true (sym c.has.ensures.member ∙ w.if-has.false) c.loop-i.invariant.supplied w.supply-is;
    demanded = total_more_no (λ c. c.demand) (has c.comps-chosen.result) c.components-components.result.now c.loop-i.i _ _ c.loop-i-test.true (sym c.has.ensures.member ∙ w.if-has.false) c.loop-i.invariant.demanded w.demand-is;
    supply_small = omega arith;
    demand_small = omega arith;
  }
]

pub returns : goal.returns
returns c =
    let supply = whole_sum (λ c. c.supply) c.comps-chosen.result c.args.arch.now.comps c.components-components.result.now c.args.lib.now.components c.loop-i.i c.loop-i.supply c.loop-i-test.false c.components-components.ensures.rows c.comps-chosen.ensures c.loop-i.invariant.supplied in
    let demand = whole_sum (λ c. c.demand) c.comps-chosen.result c.args.arch.now.comps c.components-components.result.now c.args.lib.now.components c.loop-i.i c.loop-i.demand c.loop-i-test.false c.components-components.ensures.rows c.comps-chosen.ensures c.loop-i.invariant.demanded in
    rw (← supply, ← demand) (search (tests, rules))
