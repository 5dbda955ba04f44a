use Rattle.std.proofs.Common.{◌∙◌, ap}
use Rattle.arch_model.specs.Parts.{LibraryParts}
use Rattle.rows.proofs.FreeMembers.{free_decides}
use Rattle.branch_worker.proofs.tests.sources.Goals as goal

pub new-requires-4 : goal.new-requires-4
new-requires-4 g c =
    free_decides c.new-library.result c.new-3.result.items c.variable_count.ensures.library
    (ap (λ (l : LibraryParts). l.edges) c.new-library.ensures ∙ c.new-template.ensures.edges ∙ c.new-2.ensures.items)
    (ap (λ (l : LibraryParts). l.patterns) c.new-library.ensures ∙ c.new-patterns.ensures.items)
    (ap (λ (l : LibraryParts). l.requirements) c.new-library.ensures ∙ c.new-requirements.ensures.items) c.new-3.ensures.items
