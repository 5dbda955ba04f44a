use Rattle.std.proofs.Common.{◌+◌, ◌<◌, length, get_or, List, ℤ, sym, subst, rules, take}
use Rattle.rows.proofs.Activities.{blank}
use Rattle.rows.proofs.AddedUp.{AddedTerms, terms_past, terms_fit, terms_more, terms_all, stays_small, row_small}
use Rattle.rows.proofs.together_of.add_row.Goals as goal
use Rattle.rows.proofs.together_of.add_row.Goals.{then-term-n, else-term-n}

pub overflow_add-sums : goal.overflow_add-sums
overflow_add-sums c =
    terms_fit c.args.n c.loop-term.term-index c.args.times c.args.row.now c.terms-term-items.result.now c.args.sums.now c.loop-term.sums c.terms-term-items.ensures.terms c.terms-term-items.ensures.row c.requires.times c.requires.room c.loop-term-test.true c.loop-term.invariant
    c.scaled.result c.if-term-n.true c.scaled.ensures.value

pub loop-term-preserved : goal.loop-term-preserved
loop-term-preserved c =
    let family : List ℤ → Type 0 = λ sums. AddedTerms c.args.n c.args.times (take (c.loop-term.term-index + 1) c.terms-term-items.result.now) c.args.sums.now sums in
    elim c.if-term-n.branch [
      | then-term-n w ↦
          let inside : (get_or c.terms-term-items.result.now c.loop-term.term-index blank).var.0 < length c.loop-term.sums = search rules in
          subst family (sym w.sums-is)
          (terms_more c.args.n c.loop-term.term-index c.args.times c.args.row.now c.terms-term-items.result.now c.args.sums.now c.loop-term.sums c.terms-term-items.ensures.terms c.terms-term-items.ensures.row c.requires.times c.requires.room c.loop-term-test.true c.loop-term.invariant
          w.scaled.result w.if-term-n.true w.scaled.ensures.value inside)
      | else-term-n w ↦
          subst family (sym w.sums-is)
          (terms_past c.args.n c.loop-term.term-index c.args.times c.args.row.now c.terms-term-items.result.now c.args.sums.now c.loop-term.sums c.terms-term-items.ensures.terms c.terms-term-items.ensures.row c.requires.times c.requires.room c.loop-term-test.true c.loop-term.invariant w.if-term-n.false)
    ]

pub returns-clause-small : goal.returns-clause-small
returns-clause-small c =
    stays_small c.args.n c.args.times c.args.row.now.terms c.args.sums.now c.loop-term.sums c.requires.times
    (terms_all c.args.n c.loop-term.term-index c.args.times c.terms-term-items.result.now c.args.row.now.terms c.args.sums.now c.loop-term.sums c.terms-term-items.ensures.terms c.loop-term-test.false c.loop-term.invariant)
    (λ v short. row_small c.args.row.now c.terms-term-items.ensures.row v)
