use Rattle.std.proofs.Common.{◌∙◌, arith, ltb, ap, sym, length}
use Rattle.arch_model.specs.Member.{is_present, fail_of}
use Rattle.arch_model.proofs.Members.{and_left, and_right}
use Rattle.arch_model.proofs.Reaching.{present_small}
use Rattle.paths.proofs.SpreadLaws.{collect_none, collect_more, collect_all, put_when, same_when}
use Rattle.fail_mass.specs.Inner.Cases.{may_fail}
use Rattle.fail_mass.proofs.undecided.undecided.Goals as goal
use Rattle.fail_mass.proofs.undecided.undecided.Goals.{then-may_fail, else-may_fail}

pub loop-v-init : goal.loop-v-init
loop-v-init c = collect_none (may_fail c.args.lib.now c.args.arch.now) c.new-open.result c.new-open.ensures

pub loop-v-preserved : goal.loop-v-preserved
loop-v-preserved c = collect_more (may_fail c.args.lib.now c.args.arch.now) c.loop-v.open c.if-may_fail.open c.loop-v.v c.may_fail.result c.may_fail.ensures c.loop-v.invariant
    (λ d. elim c.if-may_fail.branch [
      | then-may_fail w ↦ put_when c.loop-v.open c.if-may_fail.open _ d _ w.if-may_fail.true (w.open-is ∙ w.put.ensures)
      | else-may_fail w ↦ same_when c.loop-v.open c.if-may_fail.open _ d _ w.if-may_fail.false w.open-is
    ])

pub returns-clause-members : goal.returns-clause-members
returns-clause-members c = collect_all (may_fail c.args.lib.now c.args.arch.now) c.loop-v.open c.loop-v.v _ c.loop-v-test.false
    (λ d h. let short = present_small c.args.lib.now c.args.arch.now c.requires d (and_left (is_present c.args.lib.now c.args.arch.now d) (ltb 0 (fail_of c.args.lib.now d)) h) in
    omega (arith, short, ap length c.components.ensures.rows, ap length c.edges.ensures.rows)) c.loop-v.invariant

pub returns-clause-in_range : goal.returns-clause-in_range
returns-clause-in_range c d h =
    present_small c.args.lib.now c.args.arch.now c.requires d (and_left (is_present c.args.lib.now c.args.arch.now d) (ltb 0 (fail_of c.args.lib.now d))
    (and_right (ltb d c.loop-v.v) (may_fail c.args.lib.now c.args.arch.now d) (sym (c.loop-v.invariant d) ∙ h)))
