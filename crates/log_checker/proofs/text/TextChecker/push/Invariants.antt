use Rattle.std.proofs.Common.{length}
use Rattle.log_checker.proofs.ReaderSteps.{HasPushed}
use Rattle.log_checker.proofs.text.TextChecker.push.Given as goal

-- what was read of the piece, and what is left of it
abbrev pub invariant-loop-at : goal.invariant-loop-at
invariant-loop-at l = HasPushed l.fn.self l.self l.fn.piece l.rest

abbrev pub decreases-loop-at : goal.decreases-loop-at
decreases-loop-at l = length l.rest
