use Rattle.std.proofs.Common.{[], sym, ◌∙◌}
use Rattle.std.proofs.lemmas.List.{append-nil}
use Rattle.arch_model.specs.Template.{components_of}
use Rattle.arch_model.proofs.judging.expected.are_components.Goals as goal

pub returns-in-None : goal.returns-in-None
returns-in-None c = (λ never. absurd cc, λ same. c.in-None.ensures.none [] (same ∙ sym (append-nil (components_of c.args.types.now))))
