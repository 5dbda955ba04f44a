-- Files that are written one after another.
use Rattle.std.specs.Prelude.{◌≡◌, ℕ, Option, List, [], ◌∷◌, ◌++◌, ◌⊎◌, IfSome, All, map}

-- the names of files, of which each is a name and the bytes that are due under it
abbrev pub names_of : List (List ℕ × List ℕ) → List (List ℕ)
names_of files = map (λ (file : List ℕ × List ℕ). file.0) files

-- a file holds all of a text, where it is told
abbrev pub IsWhole : Option (List ℕ) → List ℕ → Type 0
IsWhole now text = IfSome now (λ bytes. bytes ≡ text)

-- a file holds what it held, or where it is told, a front of a text
abbrev pub IsFrontOf : Option (List ℕ) → Option (List ℕ) → List ℕ → Type 0
IsFrontOf before now text = (now ≡ before) ⊎ IfSome now (λ bytes. (rest : List ℕ) × (text ≡ bytes ++ rest))

-- files were written one after another up to that of this name: those before it hold all that is due, it holds what it held or a front of that, and those behind it hold what they held
abbrev pub IsCutAt : List ℕ → List (List ℕ × List ℕ) → (List ℕ → Option (List ℕ)) → (List ℕ → Option (List ℕ)) → Type 0
IsCutAt name [] before now = ⊥
IsCutAt name (file ∷ files) before now =
    ((name ≡ file.0) × IsFrontOf (before file.0) (now file.0) file.1 × All (λ (other : List ℕ × List ℕ). now other.0 ≡ before other.0) files)
    ⊎ (IsWhole (now file.0) file.1 × IsCutAt name files before now)
