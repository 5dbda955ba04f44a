use Rattle.std.proofs.Common.{[], sym, ◌∙◌}
use Rattle.std.proofs.lemmas.List.{append-nil}
use Rattle.arch_model.specs.Template.{edges_of}
use Rattle.arch_model.proofs.judging.expected.are_edges.Goals as goal

pub returns-in-None : goal.returns-in-None
returns-in-None c = (λ never. absurd cc, λ same. c.in-None.ensures.none [] (same ∙ sym (append-nil (edges_of c.args.components.now c.args.links.now))))
