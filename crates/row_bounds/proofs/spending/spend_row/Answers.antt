use Rattle.std.proofs.Common.{◌≡◌, ◌≤◌, ◌<◌, ◌^◌, ◌∙◌, ap, sym, subst, length, get_or, refl, rules}
use Rattle.arch_model.specs.declared.limits.TheConstants.{MEMBERS}
use Rattle.std.specs.List.{All}
use Rattle.rows.specs.Row.{IsSized}
use Rattle.rows.specs.Ascent.{left_of}
use Rattle.rows.proofs.Activities.{blank, plain}
use Rattle.row_bounds.proofs.SpendLaws.{spent_here, spent_more, spent_all, row_low}
use Rattle.row_bounds.proofs.spending.spend_row.Goals as goal

pub left-requires-clause-low : goal.left-requires-clause-low
left-requires-clause-low c =
    let xs = c.terms-term-items.result.now in
    let low : (get_or xs c.loop-term.term-index blank).var.0 < MEMBERS = search rules in
    subst (λ n. n ≤ 2 ^ 120)
    (sym (spent_here c.args.times c.args.row.now xs c.loop-term.term-index c.args.residue.now c.loop-term.residue c.terms-term-items.ensures.terms c.terms-term-items.ensures.row c.loop-term-test.true c.loop-term.invariant (get_or xs c.loop-term.term-index blank).var.0 refl low))
    (c.requires.low (get_or xs c.loop-term.term-index blank).var.0 low)

pub loop-term-preserved : goal.loop-term-preserved
loop-term-preserved c =
    let xs = c.terms-term-items.result.now in
    let wide : length c.args.residue.now ≡ MEMBERS = search rules in
    let low : (get_or xs c.loop-term.term-index blank).var.0 < MEMBERS = search rules in
    let sized : All (λ t. IsSized t.coef) xs = rw c.terms-term-items.ensures.terms c.terms-term-items.ensures.row.sized in
    spent_more c.args.times c.args.row.now xs c.loop-term.term-index c.args.residue.now c.loop-term.residue c.terms-term-items.ensures.terms c.terms-term-items.ensures.row c.loop-term-test.true c.loop-term.invariant c.left.result wide low
    (c.left.ensures.value ∙ ap (λ a. left_of c.args.times a (get_or c.loop-term.residue (get_or xs c.loop-term.term-index blank).var.0 0)) (plain (get_or xs c.loop-term.term-index blank).coef (sized c.loop-term.term-index blank c.loop-term-test.true)))

pub returns-clause-low : goal.returns-clause-low
returns-clause-low c v near =
    row_low c.args.times c.args.row.now c.terms-term-items.ensures.row c.requires.few v (get_or c.args.residue.now v 0) (get_or c.loop-term.residue v 0)
    (spent_all c.args.times c.args.row.now c.terms-term-items.result.now c.loop-term.term-index c.args.residue.now c.loop-term.residue c.terms-term-items.ensures.terms c.loop-term-test.false c.loop-term.invariant v near)
