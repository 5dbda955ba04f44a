use Rattle.std.proofs.Common.{arith}
use Rattle.proof_log.proofs.FirstWords.{space_later, front_here, rest_here, front_whole, rest_none}
use Rattle.proof_log.proofs.word.word_len.Goals as goal

pub returns-then-byte-eq32-clause-front : goal.returns-then-byte-eq32-clause-front
returns-then-byte-eq32-clause-front c = front_here c.args.line.now c.loop-len.len c.loop-len-test.true (grind (arith, c.if-byte-eq32.true)) c.loop-len.invariant

pub returns-then-byte-eq32-clause-rest : goal.returns-then-byte-eq32-clause-rest
returns-then-byte-eq32-clause-rest c = rest_here c.args.line.now c.loop-len.len c.loop-len-test.true (grind (arith, c.if-byte-eq32.true)) c.loop-len.invariant

pub loop-len-preserved : goal.loop-len-preserved
loop-len-preserved c = space_later c.args.line.now c.loop-len.len c.loop-len-test.true (grind (arith, c.if-byte-eq32.false)) c.loop-len.invariant

pub returns-clause-front : goal.returns-clause-front
returns-clause-front c = front_whole c.args.line.now c.loop-len.len c.loop-len-test.false c.loop-len.invariant

pub returns-clause-rest : goal.returns-clause-rest
returns-clause-rest c = rest_none c.args.line.now c.loop-len.len c.loop-len-test.false c.loop-len.invariant
