-- What stays of sets when a variable is put into them.
use Rattle.std.proofs.Common.{◌≡◌, ◌<◌, arith, ℕ, pos, negsuc, Bool, true, false, nat_eq, sym, ap, ◌∙◌, refl, inl, inr, cond, eqb-true}
use Rattle.arch_model.specs.Set.{Set, has, empty, put}
use Rattle.arch_model.proofs.SetLaws.{has-put, has-empty}
use Rattle.arch_model.proofs.Members.{or_left, or_right, or_cases}
use Rattle.rows.specs.Parts.{CutParts}
use Rattle.rows.specs.Row.{cut_coef}

-- a member stays one
pub has-put_keeps : (s : Set) (c v : ℕ) → has s v ≡ true → has (put s c) v ≡ true
has-put_keeps s c v h = has-put s c v ∙ or_left (has s v) (nat_eq c v) h

-- a subset stays one when both take the same number
pub put_within : (s t : Set) (c : ℕ) → ((v : ℕ) → has s v ≡ true → has t v ≡ true) → (v : ℕ) → has (put s c) v ≡ true → has (put t c) v ≡ true
put_within s t c within v h = has-put t c v ∙ elim (or_cases (has s v) (nat_eq c v) (sym (has-put s c v) ∙ h)) [
  | inl old ↦ or_left (has t v) (nat_eq c v) (within v old)
  | inr new ↦ or_right (has t v) (nat_eq c v) new
]

-- a variable without a coefficient is in neither set
absent_by : (p m : Bool) → cond p (pos 1) (cond m (negsuc 0) (pos 0)) ≡ pos 0 → (p ≡ false) × (m ≡ false)
absent_by true m e = absurd (let f : pos 1 ≡ pos 0 = e in cc)
absent_by false true e = absurd (let f : negsuc 0 ≡ pos 0 = e in cc)
absent_by false false e = (refl, refl)

pub absent : (cut : CutParts) (v : ℕ) → cut_coef cut v ≡ pos 0 → (has cut.plus v ≡ false) × (has cut.minus v ≡ false)
absent cut v e = absent_by (has cut.plus v) (has cut.minus v) e

-- two sets without a common member stay so where one takes a number that the other lacks
pub apart_left : (s t : Set) (c : ℕ) → has t c ≡ false → ((v : ℕ) → has s v ≡ true → has t v ≡ false) → (v : ℕ) → has (put s c) v ≡ true → has t v ≡ false
apart_left s t c lacks apart v h = elim (or_cases (has s v) (nat_eq c v) (sym (has-put s c v) ∙ h)) [
  | inl old ↦ apart v old
  | inr new ↦ let same : c ≡ v = eqb-true c v new in ap (has t) (sym same) ∙ lacks
]

pub none_of : (b : Bool) → (b ≡ true → false ≡ true) → b ≡ false
none_of true f = sym (f refl)
none_of false f = refl

pub apart_right : (s t : Set) (c : ℕ) → has s c ≡ false → ((v : ℕ) → has s v ≡ true → has t v ≡ false) → (v : ℕ) → has s v ≡ true → has (put t c) v ≡ false
apart_right s t c lacks apart v h = none_of (has (put t c) v) (λ there. elim (or_cases (has t v) (nat_eq c v) (sym (has-put t c v) ∙ there)) [
  | inl old ↦ sym (apart v h) ∙ old
  | inr new ↦ let same : c ≡ v = eqb-true c v new in sym (ap (has s) (sym same) ∙ lacks) ∙ h
])

-- members stay below n when one below n is put in
pub put_below : (s : Set) (c n : ℕ) → c < n → ((v : ℕ) → has s v ≡ true → v < n) → (v : ℕ) → has (put s c) v ≡ true → v < n
put_below s c n small below v h = elim (or_cases (has s v) (nat_eq c v) (sym (has-put s c v) ∙ h)) [
  | inl old ↦ below v old
  | inr new ↦ let same : c ≡ v = eqb-true c v new in omega arith
]

-- the empty set has no member
pub no_member : (v : ℕ) → has empty v ≡ true → ⊥
no_member v h = let e : false ≡ true = sym (has-empty v) ∙ h in cc
