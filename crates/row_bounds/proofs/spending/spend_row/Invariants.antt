use Rattle.std.proofs.Common.{take}
use Rattle.row_bounds.proofs.SpendLaws.{SpentTerms}
use Rattle.row_bounds.proofs.spending.spend_row.Given as goal

abbrev pub invariant-loop-term : goal.invariant-loop-term
invariant-loop-term l = SpentTerms l.times (take l.term-index l.term-items) l.initial.residue l.residue
