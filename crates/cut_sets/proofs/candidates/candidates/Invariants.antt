use Rattle.std.proofs.Common.{◌≡◌, ℕ, ◌&&◌, ltb, nat_lt}
use Rattle.arch_model.specs.Set.{has}
use Rattle.arch_model.specs.Member.{is_present, fail_of}
use Rattle.cut_sets.proofs.candidates.candidates.Given as goal

abbrev pub invariant-loop-v : goal.invariant-loop-v
invariant-loop-v l = (c : ℕ) → has l.found c ≡ (ltb c l.v && (is_present l.lib l.arch c && nat_lt 0 (fail_of l.lib c)))
