use Rattle.std.proofs.Common.{◌≡◌, ◌∙◌, ◌<◌, ap, length, arith, rules}
use Rattle.arch_model.specs.Set.{union, members_below}
use Rattle.arch_model.specs.declared.limits.TheConstants.{MEMBERS}
use Rattle.rows.specs.Row.{row_of_cut, cut_coef}
use Rattle.rows.proofs.ForcedTurns.{cut_coef_at, cut_coef_none}
use Rattle.rows.proofs.AddedUp.{members_start, member_fits, members_more, members_all, cut_small, one_sized}
use Rattle.rows.proofs.together_of.add_cut.Goals as goal

pub loop-v-init : goal.loop-v-init
loop-v-init c =
    members_start c.args.n c.args.times (union c.args.cut.now.plus c.args.cut.now.minus) (cut_coef c.args.cut.now) c.into_iter-v-iterator.result c.args.sums.now c.requires.members (cut_coef_none c.args.cut.now)
    (c.into_iter-v-iterator.ensures.into_iter_gives ∙ c.members-v-items.ensures ∙ ap (λ s. members_below s MEMBERS) (let same : c.union.result ≡ union c.args.cut.now.plus c.args.cut.now.minus = cc in same))

pub overflow_add-sums : goal.overflow_add-sums
overflow_add-sums c =
    member_fits c.args.n c.args.times (cut_coef c.args.cut.now) c.in-Some.v.0 c.loop-v.v-iterator c.next.new.self c.args.sums.now c.loop-v.sums c.loop-v.invariant c.in-Some.ensures.steps c.scaled.result _ c.requires.times c.requires.room c.if-v-n.true
    c.scaled.ensures.value (one_sized c.args.cut.now c.in-Some.v.0 c.coef.result c.coef.ensures) (cut_small c.args.cut.now c.in-Some.v.0)

pub loop-v-preserved-then-v-n : goal.loop-v-preserved-then-v-n
loop-v-preserved-then-v-n c =
    let inside : c.in-Some.v.0 < length c.loop-v.sums = search rules in
    members_more c.args.n c.args.times (cut_coef c.args.cut.now) c.in-Some.v.0 c.loop-v.v-iterator c.next.new.self c.args.sums.now c.loop-v.sums c.loop-v.invariant c.in-Some.ensures.steps c.scaled.result _ c.requires.times c.requires.room c.if-v-n.true
    c.scaled.ensures.value (one_sized c.args.cut.now c.in-Some.v.0 c.coef.result c.coef.ensures) (cut_small c.args.cut.now c.in-Some.v.0) inside

pub returns-clause-value : goal.returns-clause-value
returns-clause-value c =
    members_all c.args.n c.args.times (cut_coef c.args.cut.now) c.loop-v.v-iterator c.args.sums.now c.loop-v.sums (row_of_cut c.args.cut.now).terms c.loop-v.invariant c.in-None.ensures.steps.0
    (λ v short. cut_coef_at c.args.cut.now v (omega (arith, short, c.requires.members)))
