use Rattle.std.proofs.Common.{◌≡◌, take, map}
use Rattle.search_core.proofs.StudyWeights.{weight_at}
use Rattle.archex_app.proofs.weights.weights.Given as goal

abbrev pub invariant-loop-r : goal.invariant-loop-r
invariant-loop-r l = l.weights.items ≡ map (weight_at l.lib l.arch) (take l.r-index l.requirements)
