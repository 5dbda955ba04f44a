use Rattle.std.proofs.Common.{◌≡◌, map, take}
use Rattle.redundancy_cut.specs.CutRow.{set_of_numbers}
use Rattle.analyst.proofs.chosen_sets.set_of.Given as goal

abbrev pub invariant-loop-v : goal.invariant-loop-v
invariant-loop-v l = l.set ≡ set_of_numbers (map (λ v. v.0) (take l.v-index l.members))
