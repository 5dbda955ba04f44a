use Rattle.arch_model.specs.Member.{member_count}
use Rattle.rows.proofs.AddedUp.{AddedBelow, minus_cost}
use Rattle.rows.proofs.together_of.add_cost.Given as goal

abbrev pub invariant-loop-i : goal.invariant-loop-i
invariant-loop-i l = AddedBelow (member_count l.lib) l.i l.times (minus_cost l.lib) l.initial.sums l.sums
