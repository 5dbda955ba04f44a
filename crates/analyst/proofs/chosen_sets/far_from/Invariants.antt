use Rattle.std.proofs.Common.{◌≡◌, ◌&&◌, not}
use Rattle.arch_model.specs.Set.{has}
use Rattle.redundancy_cut.specs.Reaching.{reaches}
use Rattle.redundancy_cut.proofs.RowSteps.{passed}
use Rattle.analyst.proofs.chosen_sets.far_from.Given as goal

abbrev pub invariant-loop-c : goal.invariant-loop-c
invariant-loop-c l = l.far ≡ passed (λ c. not (has l.set c) && not (reaches l.lib l.arch l.fn.sink.0 (has l.set) c)) l.c
