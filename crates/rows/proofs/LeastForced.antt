-- The least variable that a row forces is what its relation says.
use Rattle.std.proofs.Common.{◌≡◌, ℕ, ◌<◌, ◌≤◌, ℤ, pos, neg_ℤ, ◌≤ℤ◌, int_lt, Bool, true, false, cond, not, ◌&&◌, List, [], ◌∷◌, map, find, Option, Some, None, IfSome, IfNone, option_map, refl, sym, ap, subst, ◌∙◌, arith, inl, inr, if◌then◌else◌}
use Rattle.std.specs.Prelude.{◌↔◌}
use Rattle.std.specs.List.Sorted.{IsStrictlyIncreasing}
use Rattle.std.proofs.lemmas.Int.{ints}
use Rattle.arch_model.specs.declared.sets.VarId.{VarId}
use Rattle.arch_model.proofs.Members.{and_left, and_right, and_both, bool_cases}
use Rattle.rows.specs.declared.row.Term.{Term}
use Rattle.rows.specs.Parts.{RowParts, CubeParts}
use Rattle.rows.specs.Row.{coef_at}
use Rattle.rows.specs.Cube.{IsCube, is_free, fixed_at}
use Rattle.rows.specs.Activity.{is_refuted, Forces, forces, ForcesNothing, least_forced, number_of, IsLeastForced}
use Rattle.rows.specs.Inner.Room.{room_of}
use Rattle.rows.proofs.WhatIsForced.{Rising, rising_from, Apart, apart_after, apart_is_idle, forces_one, forces_zero, forces_any, room_is_some}

-- what a search among the terms' variables passes over isn't forced
abbrev found : (ℕ → Bool) → List Term → Option ℕ
found p terms = find p (map (λ t. t.var.0) terms)

found_step : (p : ℕ → Bool) (t : Term) (terms : List Term) (b : Bool) → p t.var.0 ≡ b → found p (t ∷ terms) ≡ cond b (Some t.var.0) (found p terms)
found_step p t terms b e = ap (λ c. cond c (Some t.var.0) (found p terms)) e

same_some : (a b : ℕ) → Some a ≡ Some b → a ≡ b
same_some a b e = cc

found_passes : (p : ℕ → Bool) (terms : List Term) (v : ℕ) → found p terms ≡ Some v → p v ≡ true
found_passes p [] v e = absurd (let f : None ≡ Some v = e in cc)
found_passes p (t ∷ terms) v e = elim (bool_cases (p t.var.0)) [
  | inl on ↦ sym (ap p (same_some t.var.0 v (sym (found_step p t terms true on) ∙ e))) ∙ on
  | inr off ↦ found_passes p terms v (sym (found_step p t terms false off) ∙ e)
]

none_found : (p : ℕ → Bool) (terms : List Term) (w : ℕ) → found p terms ≡ None → p w ≡ true → Apart w terms
none_found p [] w e on = tt
none_found p (t ∷ terms) w e on = elim (bool_cases (p t.var.0)) [
  | inl here ↦ absurd (let f : Some t.var.0 ≡ None = sym (found_step p t terms true here) ∙ e in cc)
  | inr off ↦
      let rest : found p terms ≡ None = sym (found_step p t terms false off) ∙ e in
      ((λ same. let f : false ≡ true = sym off ∙ ap p (sym same) ∙ on in cc), none_found p terms w rest on)
]

-- and where they ascend, what it finds is the least
none_before : (p : ℕ → Bool) (terms : List Term) (v w : ℕ) → Rising terms → found p terms ≡ Some v → p w ≡ true → w < v → Apart w terms
none_before p [] v w rising e on less = tt
none_before p (t ∷ terms) v w rising e on less = elim (bool_cases (p t.var.0)) [
  | inl here ↦
      let same : t.var.0 ≡ v = same_some t.var.0 v (sym (found_step p t terms true here) ∙ e) in
      let le : w ≤ t.var.0 = omega (arith, same, less) in
      ((λ f. absurd (omega (arith, same, less, f))), apart_after w t.var.0 terms le rising.0)
  | inr off ↦
      let rest : found p terms ≡ Some v = sym (found_step p t terms false off) ∙ e in
      ((λ same. let f : false ≡ true = sym off ∙ ap p (sym same) ∙ on in cc), none_before p terms v w rising.1 rest on less)
]

-- the test of forcing is its relation
not_false : (b : Bool) → not b ≡ true → b ≡ false
not_false true h = let e : false ≡ true = h in cc
not_false false h = refl

not_of_false : (b : Bool) → b ≡ false → not b ≡ true
not_of_false b e = ap not e

pub forces_from_test : (row : RowParts) (cube : CubeParts) (v : ℕ) (b : Bool) → forces row cube v b ≡ true → Forces row cube v b
forces_from_test row cube v b h =
    let rest = and_right (not (is_refuted row cube)) (is_free cube v && is_refuted row (fixed_at cube v (not b))) h in
    record {
      open_yet = not_false (is_refuted row cube) (and_left (not (is_refuted row cube)) (is_free cube v && is_refuted row (fixed_at cube v (not b))) h);
      is_free = and_left (is_free cube v) (is_refuted row (fixed_at cube v (not b))) rest;
      other = and_right (is_free cube v) (is_refuted row (fixed_at cube v (not b))) rest;
    }

pub test_from_forces : (row : RowParts) (cube : CubeParts) (v : ℕ) (b : Bool) → Forces row cube v b → forces row cube v b ≡ true
test_from_forces row cube v b h =
    and_both (not (is_refuted row cube)) (is_free cube v && is_refuted row (fixed_at cube v (not b))) (not_of_false (is_refuted row cube) h.open_yet)
    (and_both (is_free cube v) (is_refuted row (fixed_at cube v (not b))) h.is_free h.other)

either_true : (a b : Bool) → a ≡ true → (if a then true else b) ≡ true
either_true a b e = ap (λ c. if c then true else b) e

or_second : (a b : Bool) → b ≡ true → (if a then true else b) ≡ true
or_second true b e = refl
or_second false b e = e

any_from : (row : RowParts) (cube : CubeParts) (v : ℕ) (b : Bool) → forces row cube v b ≡ true → forces_any row cube v ≡ true
any_from row cube v true h = either_true (forces row cube v true) (forces row cube v false) h
any_from row cube v false h = or_second (forces row cube v true) (forces row cube v false) h

second_of : (a b : Bool) → (if a then true else b) ≡ true → a ≡ false → b ≡ true
second_of true b h e = absurd (let f : true ≡ false = e in cc)
second_of false b h e = h

value_from : (row : RowParts) (cube : CubeParts) (v : ℕ) (b : Bool) → forces_any row cube v ≡ true → forces row cube v true ≡ b → forces row cube v b ≡ true
value_from row cube v true any is = is
value_from row cube v false any is = second_of (forces row cube v true) (forces row cube v false) any is

-- a row that stands doesn't force one variable both ways
one_way_by : (free : Bool) (room a : ℤ) → pos 0 ≤ℤ room → (free && int_lt room (neg_ℤ a)) ≡ true → (free && int_lt room a) ≡ false
one_way_by free room a up h =
    let low : int_lt room (neg_ℤ a) ≡ true = and_right free (int_lt room (neg_ℤ a)) h in
    let off : int_lt room a ≡ false = below_neither room a up low in
    ap (λ b. free && b) off ∙ and_false free where
      below_neither : (room a : ℤ) → pos 0 ≤ℤ room → int_lt room (neg_ℤ a) ≡ true → int_lt room a ≡ false
      below_neither room a up h = grind (arith, ints)

      and_false : (b : Bool) → (b && false) ≡ false
      and_false true = refl
      and_false false = refl

module _ (row : RowParts) (cube : CubeParts) where
  -- where the search finds none, the row forces nothing
  unmapped : (o : Option ℕ) → option_map {U = ℕ × Bool} (λ w. (w, forces row cube w true)) o ≡ None → o ≡ None
  unmapped None e = refl
  unmapped (Some w) e = absurd (some_pair (w, forces row cube w true) e) where
    some_pair : (p : ℕ × Bool) → Some p ≡ None → ⊥
    some_pair p e = cc

  any_of : (v : ℕ) (b : Bool) → Forces row cube v b → forces_any row cube v ≡ true
  any_of v b forced = any_from row cube v b (test_from_forces row cube v b forced)

  pub nothing_to : least_forced row cube ≡ None → ForcesNothing row cube
  nothing_to none v b forced =
      apart_is_idle row cube v b (none_found (forces_any row cube) row.terms v (unmapped (found (forces_any row cube) row.terms) none) (any_of v b forced)) forced

  -- what it finds is forced
  split : (o : Option ℕ) (f : ℕ → Bool) (v : ℕ) (b : Bool) → option_map {U = ℕ × Bool} (λ w. (w, f w)) o ≡ Some (v, b) → (o ≡ Some v) × (f v ≡ b)
  split None f v b e = absurd (let g : None ≡ Some (v, b) = e in cc)
  split (Some w) f v b e =
      let pair : (w, f w) ≡ (v, b) = same_pair (w, f w) (v, b) e in
      let first : w ≡ v = ap (λ (p : ℕ × Bool). p.0) pair in
      (ap (λ n. Some n) first, sym (ap f first) ∙ ap (λ (p : ℕ × Bool). p.1) pair) where
        same_pair : (p q : ℕ × Bool) → Some p ≡ Some q → p ≡ q
        same_pair p q e = cc

  found_first : (v : ℕ) (b : Bool) → least_forced row cube ≡ Some (v, b) → (found (forces_any row cube) row.terms ≡ Some v) × (forces row cube v true ≡ b)
  found_first v b e = split (found (forces_any row cube) row.terms) (λ w. forces row cube w true) v b e

  pub found_is_forced : (v : ℕ) (b : Bool) → least_forced row cube ≡ Some (v, b) → Forces row cube v b
  found_is_forced v b e =
      let at = found_first v b e in
      forces_from_test row cube v b (value_from row cube v b (found_passes (forces_any row cube) row.terms v at.0) at.1)

  pub nothing_from : ForcesNothing row cube → least_forced row cube ≡ None
  nothing_from nothing = none_of (least_forced row cube) refl where
    none_of : (o : Option (ℕ × Bool)) → least_forced row cube ≡ o → least_forced row cube ≡ None
    none_of None e = e
    none_of (Some p) e = absurd (nothing p.0 p.1 (found_is_forced p.0 p.1 e))

  pub nothing_is_forced : (least_forced row cube ≡ None) ↔ ForcesNothing row cube
  nothing_is_forced = (nothing_to, nothing_from)

  -- and it is the least that is forced, where terms ascend
  module _ (ascending : IsStrictlyIncreasing (map (λ (t : Term). t.var.0) row.terms)) where
    none_less : (v w : ℕ) (c : Bool) → found (forces_any row cube) row.terms ≡ Some v → Forces row cube w c → v ≤ w
    none_less v w c e forced =
        let not_before : w < v → ⊥ = λ less. apart_is_idle row cube w c (none_before (forces_any row cube) row.terms v w (rising_from row.terms ascending) e (any_of w c forced) less) forced in
        omega (arith, not_before)

    pub least_forced_to : (v : ℕ) (b : Bool) → least_forced row cube ≡ Some (v, b) → IsLeastForced row cube v b
    least_forced_to v b e = record {
      forced = found_is_forced v b e;
      least = λ w c forced. none_less v w c (found_first v b e).0 forced;
    }

    -- the other way round, where only fixed variables are fixed to 1
    module _ (k : IsCube cube) where
      value_is : (v : ℕ) (b : Bool) → is_refuted row cube ≡ false → forces row cube v b ≡ true → forces row cube v true ≡ b
      value_is v true stands h = h
      value_is v false stands h =
          forces_one row cube v (rising_from row.terms ascending) k stands
          ∙ one_way_by (is_free cube v) (room_of row cube) (coef_at row.terms v) (room_is_some row cube stands) (sym (forces_zero row cube v (rising_from row.terms ascending) k stands) ∙ h)

      least_forced_from : (v : ℕ) (b : Bool) → IsLeastForced row cube v b → least_forced row cube ≡ Some (v, b)
      least_forced_from v b least = from_found (least_forced row cube) refl where
        from_found : (o : Option (ℕ × Bool)) → least_forced row cube ≡ o → least_forced row cube ≡ Some (v, b)
        from_found None e = absurd (nothing_to e v b least.forced)
        from_found (Some (u, c)) e =
            let there = least_forced_to u c e in
            let low : u ≤ v = there.least v b least.forced in
            let high : v ≤ u = least.least u c there.forced in
            let same : u ≡ v = omega (arith, low, high) in
            let here : Forces row cube v c = let P : ℕ → Type 0 = λ w. Forces row cube w c in subst P same there.forced in
            let value : c ≡ b = sym (value_is v c here.open_yet (test_from_forces row cube v c here)) ∙ value_is v b here.open_yet (test_from_forces row cube v b least.forced) in
            e ∙ ap (λ w. Some (w, c)) same ∙ ap (λ d. Some (v, d)) value

      pub least_forced_is : (v : ℕ) (b : Bool) → (least_forced row cube ≡ Some (v, b)) ↔ IsLeastForced row cube v b
      least_forced_is v b = (least_forced_to v b, least_forced_from v b)

-- the same of what the code answers
pub told_nothing : (row : RowParts) (cube : CubeParts) (told : Option (VarId × Bool)) → option_map number_of told ≡ least_forced row cube → IfNone told (ForcesNothing row cube)
told_nothing row cube None e = nothing_to row cube (sym e)
told_nothing row cube (Some p) e = tt

pub told_least : (row : RowParts) (cube : CubeParts) (told : Option (VarId × Bool)) → IsStrictlyIncreasing (map (λ (t : Term). t.var.0) row.terms) → option_map number_of told ≡ least_forced row cube → IfSome told (λ p. IsLeastForced row cube p.0.0 p.1)
told_least row cube None ascending e = tt
told_least row cube (Some p) ascending e = least_forced_to row cube ascending p.0.0 p.1 (sym e)
