use Rattle.std.proofs.Common.{◌<◌, ◌≤◌, length, arith, rules}
use Rattle.arch_model.specs.Member.{member_count}
use Rattle.rows.specs.BaseRows.{cost_row_of}
use Rattle.rows.proofs.ForcedTurns.{cost_coef_at}
use Rattle.rows.proofs.AddedUp.{below_more, below_all, stays_small, minus_cost, minus_cost_small, minus_cost_is, cost_row_small}
use Rattle.rows.proofs.together_of.add_cost.Goals as goal

pub loop-i-preserved : goal.loop-i-preserved
loop-i-preserved c =
    let inside : c.loop-i.i < length c.loop-i.sums = search rules in
    let below : c.loop-i.i < member_count c.args.lib.now = omega arith in
    below_more (member_count c.args.lib.now) c.loop-i.i c.args.times (minus_cost c.args.lib.now) c.args.sums.now c.loop-i.sums c.scaled.result _ c.requires.times c.requires.room c.loop-i.invariant below inside c.scaled.ensures.value
    (minus_cost_is c.args.lib.now c.loop-i.i c.member_cost.result c.member_cost.ensures.small c.member_cost.ensures.value) (minus_cost_small c.args.lib.now c.variable_count-i-end.ensures.library c.loop-i.i below)

pub returns-clause-value : goal.returns-clause-value
returns-clause-value c u =
    let far : member_count c.args.lib.now ≤ c.loop-i.i = omega arith in
    below_all (member_count c.args.lib.now) c.loop-i.i c.args.times (minus_cost c.args.lib.now) c.args.sums.now c.loop-i.sums (cost_row_of c.args.lib.now u).terms c.loop-i.invariant far
    (λ v short. cost_coef_at c.args.lib.now u v short)

pub returns-clause-small : goal.returns-clause-small
returns-clause-small c =
    let far : member_count c.args.lib.now ≤ c.loop-i.i = omega arith in
    stays_small (member_count c.args.lib.now) c.args.times (cost_row_of c.args.lib.now 0).terms c.args.sums.now c.loop-i.sums c.requires.times
    (below_all (member_count c.args.lib.now) c.loop-i.i c.args.times (minus_cost c.args.lib.now) c.args.sums.now c.loop-i.sums (cost_row_of c.args.lib.now 0).terms c.loop-i.invariant far (λ v short. cost_coef_at c.args.lib.now 0 v short))
    (λ v short. cost_row_small c.args.lib.now c.variable_count-i-end.ensures.library v short)
