use Rattle.std.proofs.Common.{◌≡◌, take}
use Rattle.std.specs.List.{list_all}
use Rattle.arch_model.specs.Set.{has}
use Rattle.arch_model.specs.Architecture.{present}
use Rattle.patterns.proofs.Judged.{elsewhere}
use Rattle.patterns.proofs.degrees.none_goes.Given as goal

abbrev pub invariant-loop-e : goal.invariant-loop-e
invariant-loop-e l = l.none ≡ list_all (elsewhere l.tail.0 l.head.0) (present (has l.chosen) (take l.e l.edges))
