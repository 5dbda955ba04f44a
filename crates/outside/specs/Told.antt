-- What is told of a file or a sink: its bytes, or nothing where a real file or terminal is behind it.
use Rattle.std.specs.Prelude.{◌≡◌, ◌≢◌, ℕ, ◌-◌, ◌<◌, ◌≤◌, Option, None, Some, List, [], ◌++◌, ◌⊎◌, length, take, drop, IfSome}

-- what a read of n bytes from place on left in a buffer, where the file's bytes are told: the n bytes that stand there, and, where the buffer has room, 0 only at the end
abbrev pub Finds : Option (List ℕ) → ℕ → List ℕ → ℕ → Type 0
Finds told place into n = IfSome told (λ bytes. (n ≤ length bytes - place) × (take n into ≡ take n (drop place bytes)) × (n ≡ 0 → 0 < length into → length bytes ≤ place))

-- bytes were added at the end: where they are told now, they were told before, and a piece was added to them
abbrev pub Appends : Option (List ℕ) → Option (List ℕ) → List ℕ → Type 0
Appends before now piece = IfSome now (λ bytes. (front : List ℕ) × (before ≡ Some front) × (bytes ≡ front ++ piece))

-- the bytes are those that were told before, or where they are told now, there are none
abbrev pub KeptOrEmpty : Option (List ℕ) → Option (List ℕ) → Type 0
KeptOrEmpty before now = (now ≡ before) ⊎ IfSome now (λ bytes. bytes ≡ [])

-- nothing is told of a sink, or of any name's file
abbrev pub untold : Option (List ℕ)
untold = None

-- what is told of every name but one is as it was
abbrev pub OthersStay : List ℕ → (List ℕ → Option (List ℕ)) → (List ℕ → Option (List ℕ)) → Type 0
OthersStay name before now = (other : List ℕ) → other ≢ name → now other ≡ before other
