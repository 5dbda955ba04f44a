use Rattle.proof_log.proofs.FirstWords.{NoSpaceBefore}
use Rattle.proof_log.proofs.word.word_len.Given as goal

-- no space stands among the bytes so far
abbrev pub invariant-loop-len : goal.invariant-loop-len
invariant-loop-len l = NoSpaceBefore l.line l.len
