use Rattle.std.proofs.Common.{◌≡◌, true, subst, ap, ◌∙◌}
use Rattle.arch_model.specs.Set.{Set, has, minus, put}
use Rattle.fail_mass.proofs.PartingLemmas.{rest_smaller}
use Rattle.fail_mass.proofs.conditioning.but.Goals as goal

pub returns-clause-rest : goal.returns-clause-rest
returns-clause-rest c = c.minus.ensures ∙ ap (minus c.args.members.now) (c.with.ensures ∙ ap (λ s. put s c.args.v.0) c.new.ensures)

pub returns-clause-inside : goal.returns-clause-inside
returns-clause-inside c k h = rest_smaller c.args.members.now c.args.v.0 k
    (subst (λ (s : Set). has s k ≡ true) (c.minus.ensures ∙ ap (minus c.args.members.now) (c.with.ensures ∙ ap (λ s. put s c.args.v.0) c.new.ensures)) h)
