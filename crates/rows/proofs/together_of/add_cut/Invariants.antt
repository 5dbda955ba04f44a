use Rattle.rows.specs.Row.{cut_coef}
use Rattle.rows.proofs.AddedUp.{AddedMembers}
use Rattle.rows.proofs.together_of.add_cut.Given as goal

abbrev pub invariant-loop-v : goal.invariant-loop-v
invariant-loop-v l = AddedMembers l.n l.times (cut_coef l.cut) l.v-iterator l.initial.sums l.sums
