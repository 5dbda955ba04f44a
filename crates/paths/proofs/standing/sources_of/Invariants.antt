use Rattle.std.proofs.Common.{◌≡◌, ℕ, ◌&&◌, ltb}
use Rattle.arch_model.specs.Set.{has}
use Rattle.arch_model.specs.Path.{is_source}
use Rattle.paths.proofs.standing.sources_of.Given as goal

abbrev pub invariant-loop-i : goal.invariant-loop-i
invariant-loop-i l = (c : ℕ) → has l.found c ≡ (ltb c l.i && is_source l.lib c)
