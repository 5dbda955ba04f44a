use Rattle.std.proofs.Common.{◌++◌, length, take, get_or, ap, sym, ◌∙◌, arith}
use Rattle.std.proofs.lemmas.List.{take_all}
use Rattle.arch_model.specs.Template.{edges_of, edges_of_link}
use Rattle.arch_model.proofs.Fronts.{blank_link, links_grow, begins_next}
use Rattle.arch_model.proofs.judging.expected.after_links.Goals as goal

pub returns-in_err-rest-clause-none : goal.returns-in_err-rest-clause-none
returns-in_err-rest-clause-none c rest all =
    let components = c.args.components.now in let links = c.args.links.now in
    let next = begins_next (λ i. edges_of components (take i links)) (λ i. edges_of_link components (get_or links i blank_link))
    (length links) c.loop-link.link-index (links_grow components links blank_link) c.loop-link-test.true c.args.list.now rest c.loop-link.rest.now c.loop-link.invariant
    (all ∙ ap (λ l. edges_of components l ++ rest) (sym (take_all (length links) links (omega arith)))) in
    let no = c.in_err-rest.ensures.none next.0 next.1 in absurd cc
