use Rattle.std.proofs.Common.{refl, arith}
use Rattle.binary_program.proofs.BuildTerms.{costs_more, costs_all}
use Rattle.binary_program.proofs.BuildRanges.{cost_push, terms_along}
use Rattle.binary_program.proofs.terms.cost_terms.Goals as goal

pub loop-v-preserved : goal.loop-v-preserved
loop-v-preserved c = record {
  made = costs_more c.args.lib.now c.loop-v.v c.variable_count-v-end.result c.member_cost.result c.minus_times.result c.loop-v.terms.items c.push.new.self.items c.variable_count-v-end.ensures.count c.loop-v-test.true c.member_cost.ensures.value c.minus_times.ensures.value c.loop-v.invariant.made
      c.in_ok-push.ensures.items;
  are = cost_push _ c.loop-v.v c.loop-v.v c.member_cost.result c.loop-v.terms.items c.push.new.self.items c.minus_times.result c.loop-v.invariant.are c.minus_times.ensures.value c.member_cost.ensures.small (omega arith) c.in_ok-push.ensures.items;
}

pub returns-clause-value : goal.returns-clause-value
returns-clause-value c = costs_all c.args.lib.now c.loop-v.v c.variable_count-v-end.result c.loop-v.terms.items c.variable_count-v-end.ensures.count c.loop-v-test.false c.loop-v.invariant.made

pub returns-clause-terms : goal.returns-clause-terms
returns-clause-terms c = terms_along _ c.loop-v.v _ c.loop-v.terms.items c.loop-v.terms.items refl (omega arith) c.loop-v.invariant.are
