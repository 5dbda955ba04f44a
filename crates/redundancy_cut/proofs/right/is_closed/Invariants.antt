use Rattle.std.proofs.Common.{IsTrue}
use Rattle.std.specs.List.{All, AllByRecursion}
use Rattle.arch_model.specs.Set.{has}
use Rattle.arch_model.specs.Architecture.{present_edges}
use Rattle.redundancy_cut.proofs.ClosedLaws.{IsClosedAt}
use Rattle.redundancy_cut.proofs.right.is_closed.Given as goal

-- where no edge of the rest leads in from outside, none does
abbrev pub invariant-loop-e : goal.invariant-loop-e
invariant-loop-e l = record {
  among : AllByRecursion (λ e. IsTrue (has l.of.edges e)) l.e-iterator;
  rest : AllByRecursion (IsClosedAt l.edges l.cone) l.e-iterator → All (λ e. IsTrue (has l.cone e.head.0) → IsTrue (has l.cone e.tail.0)) (present_edges l.lib l.of);
}
