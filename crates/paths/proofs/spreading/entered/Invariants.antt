use Rattle.std.proofs.Common.{◌≡◌, ℕ, map}
use Rattle.std.specs.List.{list_any}
use Rattle.arch_model.specs.Set.{has}
use Rattle.paths.specs.Links.{is_next}
use Rattle.paths.proofs.spreading.entered.Given as goal

abbrev pub invariant-loop-a : goal.invariant-loop-a
invariant-loop-a l = (c : ℕ) → has l.found c ≡ list_any (λ a. is_next l.rows a c) (map (λ x. x.0) l.yielded)
