use Rattle.std.proofs.Common.{◌≡◌, ◌∙◌, length, rules}
use Rattle.arch_model.specs.declared.limits.TheConstants.{MEMBERS}
use Rattle.row_bounds.proofs.SpendLaws.{less_by, shift_start, shift_more, shift_end}
use Rattle.row_bounds.proofs.spending.lower.Goals as goal

pub loop-v-init : goal.loop-v-init
loop-v-init c = shift_start c.args.members.now (less_by c.args.by) c.into_iter-v-iterator.result c.args.residue.now (c.into_iter-v-iterator.ensures.into_iter_gives ∙ c.members-v-items.ensures)

pub loop-v-preserved : goal.loop-v-preserved
loop-v-preserved c =
    let wide : length c.args.residue.now ≡ MEMBERS = search rules in
    shift_more c.args.members.now (less_by c.args.by) c.in-Some.v.0 c.loop-v.v-iterator c.next.new.self c.args.residue.now c.loop-v.residue c.loop-v.invariant c.in-Some.ensures.steps c.saturating_sub.result wide c.saturating_sub.ensures

pub returns : goal.returns
returns c v near = shift_end c.args.members.now (less_by c.args.by) c.loop-v.v-iterator c.args.residue.now c.loop-v.residue c.loop-v.invariant c.in-None.ensures.steps.0 v near
