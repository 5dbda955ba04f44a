use Rattle.std.proofs.Common.{sum_by, arith, rules, ap}
use Rattle.std.proofs.lemmas.List.{take_all}
use Rattle.std.proofs.lemmas.List.Sums.{sum_by_more_le}
use Rattle.template.proofs.Numbers.{length-components_of}
use Rattle.template.proofs.instances.has_few_components.Goals as goal

pub returns-then-row-total : goal.returns-then-row-total
returns-then-row-total c =
    let whole = length-components_of c.args.types.now in
    let more = sum_by_more_le (λ r. r.max) c.args.types.now c.loop-row.row-index c.row-item.result c.loop-row-test.true in
    let here = ap (λ r. r.max) c.row-item.is in
    (λ never. absurd (cc), λ few. absurd (omega arith))

pub returns : goal.returns
returns c =
    let whole = length-components_of c.args.types.now in
    let all = ap (sum_by (λ r. r.max)) (take_all c.loop-row.row-index c.args.types.now c.loop-row-test.false) in
    (λ _. omega arith, λ _. search rules)
