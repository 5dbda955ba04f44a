use Rattle.std.proofs.Common.{◌≡◌, ◌∙◌, false, IsTrue}
use Rattle.arch_model.specs.declared.limits.TheConstants.{COMPONENTS}
use Rattle.arch_model.specs.Set.{has}
use Rattle.redundancy_cut.proofs.MemberLists.{of_members, to_members}
use Rattle.redundancy_cut.proofs.right.are_apart.Goals as goal

pub loop-c-init : goal.loop-c-init
loop-c-init c =
    let items = c.into_iter-c-iterator.ensures.into_iter_gives ∙ c.members-c-items.ensures in
    record {
      among = of_members (λ d. IsTrue (has c.args.far.now d)) c.args.far.now COMPONENTS c.into_iter-c-iterator.result items (λ v h. h);
      rest = to_members (λ d. has c.args.set.now d ≡ false) c.args.far.now COMPONENTS c.into_iter-c-iterator.result items c.requires;
    }
