use Rattle.std.proofs.Common.{◌∙◌, ap}
use Rattle.rows.proofs.EmptyProblem.{empty_decides}
use Rattle.proof_log.proofs.tests.empty_problem.Goals as goal

pub new-requires-8 : goal.new-requires-8
new-requires-8 c =
    empty_decides c.new-library.result c.new-7.result.items
    (ap (λ l. l.components) c.new-library.ensures ∙ c.new-template.ensures.components ∙ c.new.ensures.items)
    (ap (λ l. l.edges) c.new-library.ensures ∙ c.new-template.ensures.edges ∙ c.new-2.ensures.items)
    (ap (λ l. l.patterns) c.new-library.ensures ∙ c.new-5.ensures.items)
    (ap (λ l. l.requirements) c.new-library.ensures ∙ c.new-6.ensures.items) c.new-7.ensures.items
