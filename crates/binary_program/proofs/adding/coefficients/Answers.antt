use Rattle.binary_program.proofs.BuildSums.{sums_more}
use Rattle.binary_program.proofs.adding.coefficients.Goals as goal

pub loop-term-preserved : goal.loop-term-preserved
loop-term-preserved c = sums_more c.args.n c.loop-term.term-index c.args.terms.now c.loop-term.sums.items c.index_mut.result.now c.requires.few c.requires.small c.requires.variables c.loop-term-test.true c.loop-term.invariant c.index_mut.ensures.value
