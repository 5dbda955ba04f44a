-- For the code's own contracts: walks over numbers, from which paths are made.
use Rattle.std.specs.Prelude.{ℕ, Bool, List, [], ◌∷◌, IsTrue}

-- a walk to c over numbers that are up, the last one first: it begins there, or one that it comes from is joined to c
abbrev pub IsWalk : (ℕ → Bool) → (ℕ → Bool) → (ℕ → ℕ → Bool) → ℕ → List ℕ → Type 0
IsWalk begins up joined c [] = IsTrue (up c) × IsTrue (begins c)
IsWalk begins up joined c (b ∷ rest) = IsTrue (up c) × IsTrue (joined b c) × IsWalk begins up joined b rest
