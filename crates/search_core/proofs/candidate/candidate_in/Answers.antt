use Rattle.std.proofs.Common.{◌+◌, ap, ◌∙◌}
use Rattle.arch_model.specs.Set.{Set, has}
use Rattle.search_core.specs.Candidate.{set_where}
use Rattle.search_core.proofs.candidate.candidate_in.Goals as goal

pub returns : goal.returns
returns c =
    let comps = c.components_among.ensures ∙ ap (λ (s : Set). set_where c.args.components (has s)) c.ones-ones.ensures.ones in
    let edges = c.edges_among.ensures ∙ ap (λ (s : Set). set_where c.args.edges (λ e. has s (c.args.components + e))) c.ones-ones.ensures.ones in
    c.new.ensures ∙ (λ i. record { comps = comps i; edges = edges i })
