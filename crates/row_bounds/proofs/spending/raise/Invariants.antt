use Rattle.row_bounds.proofs.SpendLaws.{Shifted, more_by}
use Rattle.row_bounds.proofs.spending.raise.Given as goal

abbrev pub invariant-loop-v : goal.invariant-loop-v
invariant-loop-v l = Shifted l.members (more_by l.by) l.v-iterator l.initial.residue l.residue
