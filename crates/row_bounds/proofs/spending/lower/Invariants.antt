use Rattle.row_bounds.proofs.SpendLaws.{Shifted, less_by}
use Rattle.row_bounds.proofs.spending.lower.Given as goal

abbrev pub invariant-loop-v : goal.invariant-loop-v
invariant-loop-v l = Shifted l.members (less_by l.by) l.v-iterator l.initial.residue l.residue
