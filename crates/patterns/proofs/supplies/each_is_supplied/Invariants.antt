use Rattle.std.proofs.Common.{ℕ, ◌<◌, ◌≤◌, IsTrue}
use Rattle.arch_model.specs.Set.{has}
use Rattle.arch_model.specs.Pattern.{is_instance}
use Rattle.patterns.specs.declared.sides.Side.TheVariants.{In, Out}
use Rattle.patterns.specs.Inner.Sides.{flow_of}
use Rattle.patterns.proofs.supplies.each_is_supplied.Given as goal

abbrev pub invariant-loop-i : goal.invariant-loop-i
invariant-loop-i l = (k : ℕ) → k < l.i → IsTrue (is_instance l.lib l.of k) → IsTrue (has l.arch.comps k) → flow_of Out l.lib l.arch k ≤ flow_of In l.lib l.arch k
