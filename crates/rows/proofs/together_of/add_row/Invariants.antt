use Rattle.std.proofs.Common.{take}
use Rattle.rows.proofs.AddedUp.{AddedTerms}
use Rattle.rows.proofs.together_of.add_row.Given as goal

abbrev pub invariant-loop-term : goal.invariant-loop-term
invariant-loop-term l = AddedTerms l.n l.times (take l.term-index l.term-items) l.initial.sums l.sums
