-- The fields of a log's line, and how they are written.
use Rattle.std.specs.Prelude.{ℕ, ◌+◌, ◌^◌, ◌≤◌, List, [], ◌∷◌, ◌++◌, length, codes, Option, Some, None}
use Rattle.std.specs.List.{flat_map, AllByRecursion}
use Rattle.std.specs.List.Sorted.{IsStrictlyIncreasing}

-- the name of a row, with N for a number: a base row's, a cut's, or the cost row
pub data RowName (N : Type 0) : Type 0 where
  base_row : N → RowName N
  cut_row : N → RowName N
  cost_row : RowName N

-- a field, with N for a number, which is the number itself or the digits that stand for it; a number in front of it is what it has to stay below
pub data Field (N : Type 0) : Type 0 where
  word : List ℕ → Field N
  number : ℕ → N → Field N
  optional : Option N → Field N
  trace : List (RowName N) → Field N
  reason : List (RowName N × N) → Field N
  members : ℕ → List N → Field N

-- a cost, or none, stays below 2^63
abbrev pub AMOUNTS : ℕ
AMOUNTS = 2 ^ 63

-- a multiplier is at least 1 and stays below 10^12 + 1
abbrev pub TIMES : ℕ
TIMES = 10 ^ 12 + 1

-- a row's name is b and a base row's number, c and a cut's number, or u for the cost row
abbrev pub row_text : {N : Type 0} → (N → List ℕ) → RowName N → List ℕ
row_text digits (base_row n) = codes "b" ++ digits n
row_text digits (cut_row n) = codes "c" ++ digits n
row_text digits cost_row = codes "u"

-- a pair of a reason is a row's name, an asterisk and its multiplier
abbrev pub pair_text : {N : Type 0} → (N → List ℕ) → RowName N × N → List ℕ
pair_text digits pair = row_text digits pair.0 ++ (codes "*" ++ digits pair.1)

-- items are parted by commas; where there are none, a hyphen stands for them
abbrev pub list_text : {A : Type 0} → (A → List ℕ) → List A → List ℕ
list_text text [] = codes "-"
list_text text (x ∷ xs) = text x ++ flat_map (λ y. codes "," ++ text y) xs

-- a number, or none
abbrev pub optional_text : {N : Type 0} → (N → List ℕ) → Option N → List ℕ
optional_text digits None = codes "none"
optional_text digits (Some n) = digits n

-- what is written for a field
abbrev pub field_text : {N : Type 0} → (N → List ℕ) → Field N → List ℕ
field_text digits (word w) = w
field_text digits (number limit n) = digits n
field_text digits (optional o) = optional_text digits o
field_text digits (trace rows) = list_text (row_text digits) rows
field_text digits (reason pairs) = list_text (pair_text digits) pairs
field_text digits (members limit ns) = list_text digits ns

-- fields are parted by one space
abbrev pub fields_text : {N : Type 0} → (N → List ℕ) → List (Field N) → List ℕ
fields_text digits [] = []
fields_text digits (f ∷ fs) = field_text digits f ++ flat_map (λ g. codes " " ++ field_text digits g) fs

-- P holds of a row's number, with what it is at least and what it stays below
abbrev pub RowNumber : {N : Type 0} → (ℕ → ℕ → N → Type 0) → RowName N → Type 0
RowNumber P (base_row n) = P 0 (2 ^ 32) n
RowNumber P (cut_row n) = P 0 (2 ^ 32) n
RowNumber P cost_row = Unit {0}

-- P holds of an optional number
abbrev pub OptionalNumber : {N : Type 0} → (ℕ → ℕ → N → Type 0) → Option N → Type 0
OptionalNumber P None = Unit {0}
OptionalNumber P (Some n) = P 0 AMOUNTS n

-- P holds of each number of a field, with what it is at least and what it stays below
abbrev pub EachNumber : {N : Type 0} → (ℕ → ℕ → N → Type 0) → Field N → Type 0
EachNumber P (word w) = Unit {0}
EachNumber P (number limit n) = P 0 limit n
EachNumber P (optional o) = OptionalNumber P o
EachNumber P (trace rows) = AllByRecursion (RowNumber P) rows
EachNumber P (reason pairs) = AllByRecursion (λ p. RowNumber P p.0 × P 1 TIMES p.1) pairs
EachNumber P (members limit ns) = AllByRecursion (P 0 limit) ns

-- a reason has 1 to 64 pairs
abbrev pub HasPairs : {N : Type 0} → Field N → Type 0
HasPairs (word w) = Unit {0}
HasPairs (number limit n) = Unit {0}
HasPairs (optional o) = Unit {0}
HasPairs (trace rows) = Unit {0}
HasPairs (reason pairs) = (1 ≤ length pairs) × (length pairs ≤ 64)
HasPairs (members limit ns) = Unit {0}

-- the members of a list ascend
abbrev pub Ascends : Field ℕ → Type 0
Ascends (word w) = Unit {0}
Ascends (number limit n) = Unit {0}
Ascends (optional o) = Unit {0}
Ascends (trace rows) = Unit {0}
Ascends (reason pairs) = Unit {0}
Ascends (members limit ns) = IsStrictlyIncreasing ns
