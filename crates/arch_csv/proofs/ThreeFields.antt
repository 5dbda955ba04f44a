-- A record of three fields, field by field.
use Rattle.std.proofs.Common.{◌≡◌, ◌<◌, ℕ, zero, suc, List, [], ◌∷◌, length, Some, None, arith}
use Rattle.csv.specs.Records.{field_at}

-- a field within the record is there
pub field_there : (fields : List (List ℕ)) (i : ℕ) → i < length fields → None ≡ field_at fields i → ⊥
unfolding field_at
field_there [] i short e = absurd (omega arith)
field_there (f ∷ fields) zero short e = cc
field_there (f ∷ fields) (suc i) short e = field_there fields i (omega arith) e

pub three_fields : (fields : List (List ℕ)) (a b c : List ℕ) → length fields ≡ 3 → Some a ≡ field_at fields 0 → Some b ≡ field_at fields 1 → Some c ≡ field_at fields 2 → fields ≡ a ∷ b ∷ c ∷ []
unfolding field_at
three_fields [] a b c three x y z = absurd (omega arith)
three_fields (f ∷ []) a b c three x y z = absurd (omega arith)
three_fields (f ∷ g ∷ []) a b c three x y z = absurd (omega arith)
three_fields (f ∷ g ∷ h ∷ []) a b c three x y z = cc
three_fields (f ∷ g ∷ h ∷ i ∷ fields) a b c three x y z = absurd (omega arith)
