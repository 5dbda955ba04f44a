use Rattle.std.proofs.Common.{take}
use Rattle.std.specs.List.{All}
use Rattle.arch_model.specs.Pattern.{MeetsPattern}
use Rattle.patterns.proofs.pattern.first_broken.Given as goal

abbrev pub invariant-loop-k : goal.invariant-loop-k
invariant-loop-k l = All (MeetsPattern l.lib l.arch) (take l.k l.patterns)
