use Rattle.std.proofs.Common.{length, sum_by, arith, rules, ap}
use Rattle.std.proofs.lemmas.List.{take_all}
use Rattle.std.proofs.lemmas.List.Concat.{length-flat_map}
use Rattle.std.proofs.lemmas.List.Sums.{sum_by_more_le}
use Rattle.arch_model.specs.declared.library.LinkRow.{LinkRow}
use Rattle.arch_model.specs.Template.{components_of, edges_of_link}
use Rattle.template.proofs.edges.has_few_edges.Goals as goal

pub returns-then-count-total : goal.returns-then-count-total
returns-then-count-total c =
    let count = λ (k : LinkRow). length (edges_of_link (components_of c.args.types.now) k) in
    let whole = length-flat_map (edges_of_link (components_of c.args.types.now)) c.args.links.now in
    let more = sum_by_more_le count c.args.links.now c.loop-link.link-index (record { from = 0; to = 0; cost = 0; fail = 0 }) c.loop-link-test.true in
    let here = c.edge_count-count.ensures in
    (λ never. absurd (cc), λ few. absurd (omega arith))

pub returns : goal.returns
returns c =
    let count = λ (k : LinkRow). length (edges_of_link (components_of c.args.types.now) k) in
    let whole = length-flat_map (edges_of_link (components_of c.args.types.now)) c.args.links.now in
    let all = ap (sum_by count) (take_all c.loop-link.link-index c.args.links.now c.loop-link-test.false) in
    (λ _. omega arith, λ _. search rules)
