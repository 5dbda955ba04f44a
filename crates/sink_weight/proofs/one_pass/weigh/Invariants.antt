use Rattle.std.proofs.Common.{◌≡◌, ◌+◌, sum_by}
use Rattle.arch_model.specs.Architecture.{IsArchitecture}
use Rattle.arch_model.specs.Weight.{product_of, weight_of}
use Rattle.sink_weight.proofs.Sums.{AreSets}
use Rattle.sink_weight.proofs.Greatest.{IsUnderWay}
use Rattle.sink_weight.proofs.one_pass.weigh.Given as goal

-- the products so far and those of the sets still to come are the weight
abbrev pub invariant-loop-members : goal.invariant-loop-members
invariant-loop-members l = record {
  can : (goal.iterator-loop-members).can_next l.members-iterator;
  finite : (goal.iterator-loop-members).is_finite l.members-iterator;
  sum : l.total + sum_by (product_of l.lib) l.members-iterator ≡ weight_of l.lib l.arch l.fn.sink.0;
  best : (fits : IsArchitecture l.lib l.arch) → IsUnderWay l.lib l.arch fits l.fn.sink.0 l.best l.most l.members-iterator;
  sets : AreSets l.lib l.members-iterator;
}
