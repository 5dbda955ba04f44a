use Rattle.std.proofs.Common.{◌∙◌, ap, ◌-◌, ◌+◌, get_or, if◌then◌else◌}
use Rattle.arch_model.specs.Set.{has}
use Rattle.row_bounds.proofs.SpendLaws.{cut_left, cut_low}
use Rattle.row_bounds.proofs.spending.spend_cut.Goals as goal

pub returns-clause-left : goal.returns-clause-left
returns-clause-left c =
    cut_left c.args.cut.now c.args.times c.args.residue.now c.lower.new.residue c.raise.new.residue c.plus.ensures.cut
    (λ v near. c.lower.ensures v near ∙ ap (λ s. if has s v then get_or c.args.residue.now v 0 - c.args.times else get_or c.args.residue.now v 0) c.plus.ensures.plus)
    (λ v near. c.raise.ensures v near ∙ ap (λ s. if has s v then get_or c.lower.new.residue v 0 + c.args.times else get_or c.lower.new.residue v 0) c.minus.ensures.minus)

pub returns-clause-low : goal.returns-clause-low
returns-clause-low c = cut_low c.args.cut.now c.args.times c.args.residue.now c.raise.new.residue c.requires.few (returns-clause-left c)
