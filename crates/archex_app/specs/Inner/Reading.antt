-- For the code's own contracts: what was read of a file so far.
use Rattle.std.specs.Prelude.{◌≡◌, ℕ, ◌≤◌, Option, List, take, length, IfSome}

-- the front of a file, where its bytes are told
abbrev pub IsFront : Option (List ℕ) → List ℕ → Type 0
IsFront told read = IfSome told (λ all. read ≡ take (length read) all)

-- all of it
abbrev pub IsWhole : Option (List ℕ) → List ℕ → Type 0
IsWhole told read = IfSome told (λ all. length all ≤ length read)
