-- The best of what was offered.
use Rattle.std.specs.Prelude.{ℕ, ◌<◌, nat_lt, Bool, true, Option, Some, None, option_map, if◌then◌else◌}
use Rattle.arch_model.specs.Parts.{ArchitectureParts}
use Rattle.incumbent.specs.declared.best.Best.{Best}

-- a cost is below that of the best, in cost units; there is nothing to be below where there is no best
abbrev pub IsCheaper : ℕ → Option Best → Type 0
IsCheaper cost None = Unit {0}
IsCheaper cost (Some best) = cost < best.cost

-- its test
abbrev pub is_cheaper : ℕ → Option Best → Bool
is_cheaper cost None = true
is_cheaper cost (Some best) = nat_lt cost best.cost

-- the best after an offer: what was offered where it is cheaper, else the best as it was
abbrev pub best_after : Option Best → ℕ → ArchitectureParts → Option Best
best_after best cost architecture = if is_cheaper cost best then Some (record { cost = cost; architecture = architecture }) else best

-- the cost of the best, in cost units, or none where there is none
abbrev pub best_cost : Option Best → Option ℕ
best_cost best = option_map (λ b. b.cost) best
