-- For the code's own contracts: how a set is stored, and what a walk over it gives.
use Rattle.std.specs.Prelude.{◌-◌, ℕ, List, filter, refl}
use Rattle.std.specs.List.{range_with_len}
use Rattle.std.specs.Coded.{Coded, code_by, coded_ℕ}
use Rattle.arch_model.specs.Set.{Set, has}

-- a set is stored as its mask
abbrev pub set_code : Coded Set
set_code = code_by ℕ coded_ℕ (λ s. s.mask) (λ n. record { mask = n }) (λ _. refl)

-- the members from i on that are below n, ascending
unfoldable pub members_from : Set → ℕ → ℕ → List ℕ
members_from s i n = filter (has s) (range_with_len i (n - i))
