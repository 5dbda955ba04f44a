use Rattle.std.proofs.Common.{ℕ, ◌<◌, IsTrue}
use Rattle.arch_model.specs.Pattern.{is_instance, in_degree, out_degree}
use Rattle.patterns.proofs.degrees.inputs_have_outputs.Given as goal

abbrev pub invariant-loop-i : goal.invariant-loop-i
invariant-loop-i l = (k : ℕ) → k < l.i → IsTrue (is_instance l.lib l.of k) → 0 < in_degree l.lib l.arch l.from k → 0 < out_degree l.lib l.arch l.to k
