use Rattle.std.proofs.Common.{ℕ, ◌<◌, IsTrue}
use Rattle.arch_model.specs.Set.{has}
use Rattle.arch_model.specs.Pattern.{is_instance, IsBetween}
use Rattle.patterns.specs.Inner.Sides.{degree_of}
use Rattle.patterns.proofs.degrees.degrees_fit.Given as goal

abbrev pub invariant-loop-i : goal.invariant-loop-i
invariant-loop-i l = (k : ℕ) → k < l.i → IsTrue (is_instance l.lib l.of k) → IsTrue (has l.arch.comps k) → IsBetween l.min l.max (degree_of l.side l.lib l.arch l.other k)
