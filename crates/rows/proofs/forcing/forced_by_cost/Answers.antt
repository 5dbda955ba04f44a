use Rattle.std.proofs.Common.{◌∙◌, ap, arith}
use Rattle.arch_model.specs.Set.{has}
use Rattle.rows.proofs.ForcedTurns.{cost_hit, cost_end}
use Rattle.rows.proofs.forcing.forced_by_cost.Goals as goal

pub returns-in-Some : goal.returns-in-Some
returns-in-Some c =
    cost_hit c.args.lib.now c.args.bound c.args.cube.now c.loop-i.i c.member_cost.result c.args.room c.has.result c.forced_to.result c.in-Some.value c.fixed-fixed.ensures.cube c.ranges.room c.requires.room
    c.requires.stands (omega arith) c.member_cost.ensures.small c.member_cost.ensures.value (c.has.ensures.member ∙ ap (λ s. has s c.loop-i.i) c.fixed-fixed.ensures.fixed) c.forced_to.ensures c.loop-i.invariant c.in-Some.is

pub returns : goal.returns
returns c = cost_end c.args.lib.now c.args.bound c.args.cube.now c.loop-i.i c.args.room c.fixed-fixed.ensures.cube c.ranges.room c.requires.room c.requires.stands (omega arith) c.loop-i.invariant
