use Rattle.std.proofs.Common.{arith}
use Rattle.archex_app.proofs.WordLaws.{word_passes, word_fails, words_pass}
use Rattle.archex_app.proofs.words.check_words.Goals as goal

pub returns-then-is_empty-clause-fault : goal.returns-then-is_empty-clause-fault
returns-then-is_empty-clause-fault c = word_fails c.args.args.now c.loop-k.k c.index-args-k.result _ _ (omega arith) c.index-args-k.is c.as_str.ensures.value c.is_empty.ensures c.if-is_empty.true c.loop-k.invariant

pub loop-k-preserved : goal.loop-k-preserved
loop-k-preserved c = word_passes c.args.args.now c.loop-k.k c.index-args-k.result _ _ (omega arith) c.index-args-k.is c.as_str.ensures.value c.is_empty.ensures c.if-is_empty.false c.loop-k.invariant

pub returns-clause-fine : goal.returns-clause-fine
returns-clause-fine c = words_pass c.args.args.now c.loop-k.k (omega arith) c.loop-k.invariant
