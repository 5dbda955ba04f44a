use Rattle.std.proofs.Common.{map, ap, ◌∙◌, arith}
use Rattle.std.specs.List.{enumerate_from}
use Rattle.std.proofs.lemmas.List.{take_all}
use Rattle.binary_program.proofs.BuildTerms.{balance, balances_more}
use Rattle.binary_program.proofs.BuildRanges.{terms_along, are_balances}
use Rattle.binary_program.proofs.terms.balance_terms.Goals as goal

pub loop-c-preserved : goal.loop-c-preserved
loop-c-preserved c =
    balances_more c.args.lib.now c.components-component-items.result.now c.loop-c.c c.loop-c.terms.items c.push.new.self.items c.components-component-items.ensures.library c.components-component-items.ensures.rows c.loop-c-test.true c.loop-c.invariant c.in_ok-push.ensures.items

pub returns-clause-terms : goal.returns-clause-terms
returns-clause-terms c =
    terms_along _ _ _ c.loop-c.terms.items _
    (c.loop-c.invariant ∙ ap (λ l. map balance (enumerate_from 0 l)) (take_all c.loop-c.c c.components-component-items.result.now c.loop-c-test.false ∙ c.components-component-items.ensures.rows)) (omega arith)
    (are_balances c.args.lib.now c.components-component-items.ensures.library)
