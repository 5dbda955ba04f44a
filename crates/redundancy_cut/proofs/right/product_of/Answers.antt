use Rattle.std.proofs.Common.{◌<◌, ◌∙◌, refl, ap, sym, subst, take, length, arith}
use Rattle.std.specs.List.Sorted.{IsStrictlyIncreasing}
use Rattle.arch_model.specs.declared.limits.TheConstants.{MEMBERS}
use Rattle.arch_model.specs.Set.{members_below}
use Rattle.arch_model.specs.Member.{member_count}
use Rattle.redundancy_cut.proofs.MemberLists.{members_ascend, members_few, each_listed, all_listed}
use Rattle.redundancy_cut.proofs.right.product_of.Goals as goal

pub loop-v-init : goal.loop-v-init
loop-v-init c =
    let items = c.into_iter-v-iterator.ensures.into_iter_gives ∙ c.members-v-items.ensures in
    let few = members_few c.args.set.now MEMBERS in
    let long = ap length items in
    record { so_far = items; whole = refl; room = omega (arith, few, long) }

pub product-requires-clause-ascending : goal.product-requires-clause-ascending
product-requires-clause-ascending c =
    let whole = all_listed (take c.loop-v.count c.loop-v.members) c.loop-v.v-iterator (members_below c.args.set.now MEMBERS) c.in-None.ensures.steps.0 c.loop-v.invariant.so_far in
    subst IsStrictlyIncreasing (sym whole) (members_ascend c.args.set.now MEMBERS)

pub product-requires-clause-in_range : goal.product-requires-clause-in_range
product-requires-clause-in_range c =
    let whole = all_listed (take c.loop-v.count c.loop-v.members) c.loop-v.v-iterator (members_below c.args.set.now MEMBERS) c.in-None.ensures.steps.0 c.loop-v.invariant.so_far in
    each_listed (λ v. v < member_count c.args.lib.now) (take c.loop-v.count c.loop-v.members) c.args.set.now MEMBERS whole c.requires
