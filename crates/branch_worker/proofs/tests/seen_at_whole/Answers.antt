use Rattle.std.proofs.Common.{◌≡◌, true, false, sym, ap, ◌∙◌}
use Rattle.arch_model.specs.Set.{has}
use Rattle.arch_model.proofs.SetLaws.{has-empty}
use Rattle.rows.specs.Parts.{CubeParts}
use Rattle.branch_worker.proofs.tests.seen_at_whole.Goals as goal

pub job-requires-clause-below : goal.job-requires-clause-below
job-requires-clause-below g c v on = absurd (let f : false ≡ true = sym (has-empty v) ∙ ap (λ (k : CubeParts). has k.fixed v) (sym c.whole.ensures) ∙ on in cc)
