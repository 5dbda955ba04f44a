use Rattle.std.proofs.Common.{◌++◌, ◌∙◌, ap, sym}
use Rattle.std.specs.Fmt.{decimal}
use Rattle.proof_log.proofs.Written.{numbers_done}
use Rattle.proof_log.proofs.parts.push_members.Goals as goal

pub returns-clause-ok : goal.returns-clause-ok
returns-clause-ok c =
    numbers_done decimal _ c.in-Some.first.0 _ _ _ _ _ _ (sym c.members-members.ensures ∙ c.in-Some.ensures.steps) (c.in_ok-push_number.ensures.ok ∙ ap (λ n. c.args.out.now.items ++ decimal n) c.from.ensures) c.into_iter-member-iterator.ensures.into_iter_gives c.in-None.ensures.steps.0 c.loop-member.invariant.text
