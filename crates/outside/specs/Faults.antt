-- Counts of faults.
use Rattle.std.specs.Prelude.{◌≡◌, ℕ, ◌+◌, ◌-◌, ◌^◌, ◌≤◌, ◌⊎◌, min, List, Contains}

-- a count rose: it is greater than before, or stands at 2^64 - 1, where it stops
abbrev pub Rose : ℕ → ℕ → Type 0
Rose before now = min (before + 1) (2 ^ 64 - 1) ≤ now

-- no name's count fell
abbrev pub NeverFall : (List ℕ → ℕ) → (List ℕ → ℕ) → Type 0
NeverFall before now = (other : List ℕ) → before other ≤ now other

-- no name's count changed
abbrev pub Stay : (List ℕ → ℕ) → (List ℕ → ℕ) → Type 0
Stay before now = (other : List ℕ) → now other ≡ before other

-- at most the counts of these names changed, and any count that is one with such a count, as the shared one of names without counts of their own: every other stayed
abbrev pub ChangesOnly : List (List ℕ) → (List ℕ → ℕ) → (List ℕ → ℕ) → Type 0
ChangesOnly names before now =
    (other : List ℕ) → (now other ≡ before other) ⊎ ((name : List ℕ) × Contains names name × (before other ≡ before name) × (now other ≡ now name))
