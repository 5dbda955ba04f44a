-- All legal traces from one cube to quiet ones end in the same cube.
use Rattle.std.proofs.Common.{◌≡◌, ℕ, ℤ, pos, negsuc, ◌+ℤ◌, ◌≤ℤ◌, ◌<ℤ◌, int_lt, Bool, true, false, not, List, [], ◌∷◌, Some, None, refl, sym, ap, subst, ◌∙◌, arith, ◌⊎◌, inl, inr, if◌then◌else◌}
use Rattle.std.proofs.lemmas.Int.{ints}
use Rattle.std.proofs.lemmas.Bool.Decides.{eqb_tells}
use Rattle.arch_model.specs.Set.{has, put}
use Rattle.arch_model.proofs.SetLaws.{same_set}
use Rattle.arch_model.proofs.Members.{bool_cases, same_test}
use Rattle.rows.specs.declared.row.Term.{Term}
use Rattle.rows.specs.declared.known.RowRef.{RowRef}
use Rattle.rows.specs.Parts.{RowParts, CubeParts, KnownParts}
use Rattle.rows.specs.Cube.{IsCube, value_at, is_free, fixed_at}
use Rattle.rows.specs.Activity.{best_of, greatest_activity, is_refuted, IsRefuted, Forces, IsQuietAt}
use Rattle.rows.specs.Known.{row_at, IsQuiet}
use Rattle.rows.specs.Trace.{cube_after}
use Rattle.rows.proofs.LeastForced.{found_is_forced}
use Rattle.rows.proofs.SetFacts.{has-put_keeps}
use Rattle.rows.proofs.WhatIsForced.{has-put_other, has-put_same, ones_other}
use Rattle.rows.proofs.TraceLaws.{known_has, trace_keeps, step_free, Within, within_fixed, within_stays, ones_at}

-- one cube lies in another: what the other fixes, the one fixes to the same value
pub record Inside (outer inner : CubeParts) : Type 0 where
  pub fixed : (v : ℕ) → has outer.fixed v ≡ true → has inner.fixed v ≡ true
  pub ones : (v : ℕ) → has outer.fixed v ≡ true → has inner.ones v ≡ has outer.ones v

-- a row's greatest activity falls as the cube does
most_at : (b : Bool) (a : ℤ) → best_of (Some b) a ≤ℤ best_of None a
most_at true (pos n) = grind (arith, ints)
most_at true (negsuc n) = omega (arith, ints)
most_at false (pos n) = grind (arith, ints)
most_at false (negsuc n) = omega (arith, ints)

le_self : (a : ℤ) → a ≤ℤ a
le_self a = omega (arith, ints)

best_falls : (outer inner one two : Bool) (a : ℤ) → (outer ≡ true → inner ≡ true) → (outer ≡ true → two ≡ one) → best_of (if inner then Some two else None) a ≤ℤ best_of (if outer then Some one else None) a
best_falls true true one two a h k = let same : two ≡ one = k refl in subst (λ b. best_of (Some two) a ≤ℤ best_of (Some b) a) same (le_self (best_of (Some two) a))
best_falls true false one two a h k = absurd (let e : false ≡ true = h refl in cc)
best_falls false true one two a h k = most_at two a
best_falls false false one two a h k = le_self (best_of None a)

add_le : (a b c d : ℤ) → a ≤ℤ b → c ≤ℤ d → (a +ℤ c) ≤ℤ (b +ℤ d)
add_le a b c d h k = omega (arith, ints)

activity_falls : (terms : List Term) (least : ℤ) (outer inner : CubeParts) → Inside outer inner → greatest_activity (record { terms = terms; least = least }) inner ≤ℤ greatest_activity (record { terms = terms; least = least }) outer
activity_falls [] least outer inner h = le_self (pos 0)
activity_falls (t ∷ terms) least outer inner h =
    add_le (best_of (value_at inner t.var.0) t.coef) (best_of (value_at outer t.var.0) t.coef) (greatest_activity (record { terms = terms; least = least }) inner) (greatest_activity (record { terms = terms; least = least }) outer)
    (best_falls (has outer.fixed t.var.0) (has inner.fixed t.var.0) (has outer.ones t.var.0) (has inner.ones t.var.0) t.coef (h.fixed t.var.0) (h.ones t.var.0)) (activity_falls terms least outer inner h)

refuted_by : (a b l : ℤ) → b ≤ℤ a → int_lt a l ≡ true → int_lt b l ≡ true
refuted_by a b l h k = let e : a <ℤ l = grind (arith, ints) in let f : b <ℤ l = omega (arith, ints) in grind (arith, ints)

pub refuted_inside : (row : RowParts) (outer inner : CubeParts) → Inside outer inner → is_refuted row outer ≡ true → is_refuted row inner ≡ true
refuted_inside row outer inner h refuted = refuted_by (greatest_activity row outer) (greatest_activity row inner) row.least (activity_falls row.terms row.least outer inner h) refuted

-- fixing one more variable
inside_fixed : (outer inner : CubeParts) (v : ℕ) (b : Bool) → Inside outer inner → Within outer → has outer.fixed v ≡ false → has inner.fixed v ≡ true → has inner.ones v ≡ b → Inside (fixed_at outer v b) inner
inside_fixed outer inner v b h within free on at = record {
  fixed = λ w there. elim (eqb_tells v w) [
    | inl same ↦ ap (has inner.fixed) (sym same.1) ∙ on
    | inr other ↦ h.fixed w (sym (has-put_other outer.fixed v w other.1) ∙ there)
  ];
  ones = λ w there. elim (eqb_tells v w) [
    | inl same ↦ ap (has inner.ones) (sym same.1) ∙ at ∙ sym (ones_at outer v b within free) ∙ ap (has (if b then put outer.ones v else outer.ones)) same.1
    | inr other ↦ h.ones w (sym (has-put_other outer.fixed v w other.1) ∙ there) ∙ sym (ones_other outer v w b other.1)
  ];
}

inside_both : (outer inner : CubeParts) (v : ℕ) (b : Bool) → Inside outer inner → Within outer → Within inner → has outer.fixed v ≡ false → has inner.fixed v ≡ false → Inside (fixed_at outer v b) (fixed_at inner v b)
inside_both outer inner v b h within within' free free' =
    inside_fixed outer (fixed_at inner v b) v b
    (record {
      fixed = λ w there. has-put_keeps inner.fixed v w (h.fixed w there);
      ones = λ w there.
          let ne : v ≡ w → ⊥ = λ e. let f : false ≡ true = sym free ∙ ap (has outer.fixed) e ∙ there in cc in
          ones_other inner v w b ne ∙ h.ones w there;
    }) within free (has-put_same inner.fixed v) (ones_at inner v b within' free')

free_is : (cube : CubeParts) (v : ℕ) → has cube.fixed v ≡ false → is_free cube v ≡ true
free_is cube v off = ap not off

agree : (a b : Bool) → (a ≡ b) ⊎ (a ≡ not b)
agree true true = inl refl
agree true false = inr refl
agree false true = inr refl
agree false false = inl refl

clash : {X : Type 0} → true ≡ false → X
clash e = absurd (let f : true ≡ false = e in cc)

-- what a row forces is fixed to the same value wherever it is quiet further in
module _ (row : RowParts) (outer inner : CubeParts) (v : ℕ) (b : Bool) (h : Inside outer inner) (within : Within outer) (within' : Within inner) (free : has outer.fixed v ≡ false) (forced : Forces row outer v b) (quiet : IsQuietAt inner row) where
  fixed_there : has inner.fixed v ≡ true
  fixed_there = elim (bool_cases (has inner.fixed v)) [
    | inl on ↦ on
    | inr off ↦ absurd (quiet.still v b (record {
      open_yet = quiet.open_yet;
      is_free = free_is inner v off;
      other = refuted_inside row (fixed_at outer v (not b)) (fixed_at inner v (not b)) (inside_both outer inner v (not b) h within within' free off) forced.other;
    }))
  ]

  value_there : has inner.ones v ≡ b
  value_there = elim (agree (has inner.ones v) b) [
    | inl e ↦ e
    | inr e ↦ clash (sym (refuted_inside row (fixed_at outer v (not b)) inner (inside_fixed outer inner v (not b) h within free fixed_there e) forced.other) ∙ quiet.open_yet)
  ]

  pub stays_inside : Inside (fixed_at outer v b) inner
  stays_inside = inside_fixed outer inner v b h within free fixed_there value_there

-- so every legal trace stays outside of a quiet cube
module _ (known : KnownParts) (cube : CubeParts) (k : IsCube cube) where
  begins_inside : (trace : List RowRef) (next : CubeParts) → cube_after known cube trace ≡ Some next → Inside cube next
  begins_inside trace next e =
      (trace_keeps known (λ c. Within c × Inside cube c) (λ c r n keeps p. (
        subst Within (sym p.is) (within_fixed c p.v p.b keeps.0),
        let I : CubeParts → Type 0 = Inside cube in
            subst I (sym p.is) (record {
              fixed = λ w there. has-put_keeps c.fixed p.v w (keeps.1.fixed w there);
              ones = λ w there.
                  let ne : p.v ≡ w → ⊥ = λ e. let f : false ≡ true = sym (step_free known c r n p) ∙ ap (has c.fixed) e ∙ keeps.1.fixed w there in cc in
                  ones_other c p.v w p.b ne ∙ keeps.1.ones w there;
            }),
      )) trace cube next e (k.within, record { fixed = λ w there. there; ones = λ w there. refl })).1

  module _ (first second : List RowRef) (a b : CubeParts) (to_a : cube_after known cube first ≡ Some a) (to_b : cube_after known cube second ≡ Some b) (quiet : IsQuiet known a) where
    pub ends_inside : Inside b a
    ends_inside =
        (trace_keeps known (λ c. Within c × Inside c a) (λ c r n keeps p. (
          subst Within (sym p.is) (within_fixed c p.v p.b keeps.0),
          let I : CubeParts → Type 0 = λ x. Inside x a in
              subst I (sym p.is)
              (stays_inside p.row c a p.v p.b keeps.1 keeps.0 (within_stays known first cube a to_a k.within) (step_free known c r n p) (found_is_forced p.row c p.v p.b p.first) (known_has (IsQuietAt a) known r p.row quiet p.there)),
        )) second cube b to_b (k.within, begins_inside first a to_a)).1

    pub none_refuted : (r : RowRef) (row : RowParts) → row_at known r ≡ Some row → IsRefuted row b → ⊥
    none_refuted r row there refuted =
        clash (sym (refuted_inside row b a ends_inside (tested (greatest_activity row b) row.least refuted)) ∙ (known_has (IsQuietAt a) known r row quiet there).open_yet) where
          tested : (g l : ℤ) → g <ℤ l → int_lt g l ≡ true
          tested g l h = grind (arith, ints)

-- two cubes that lie in each other are one
same_cube : (a b : CubeParts) → Within a → Within b → Inside a b → Inside b a → a ≡ b
same_cube a b within within' h k =
    let e : a.fixed ≡ b.fixed = same_set a.fixed b.fixed (λ v. same_test (has a.fixed v) (has b.fixed v) (h.fixed v) (k.fixed v)) in
    let f : a.ones ≡ b.ones = same_set a.ones b.ones (λ v. same_test (has a.ones v) (has b.ones v) (λ on. h.ones v (within v on) ∙ on) (λ on. k.ones v (within' v on) ∙ on)) in
    λ i. record { fixed = e i; ones = f i }

pub one_end : (known : KnownParts) (cube a b : CubeParts) (first second : List RowRef) → IsCube cube → cube_after known cube first ≡ Some a → cube_after known cube second ≡ Some b → IsQuiet known a → IsQuiet known b → a ≡ b
one_end known cube a b first second k to_a to_b quiet_a quiet_b =
    same_cube a b (within_stays known first cube a to_a k.within) (within_stays known second cube b to_b k.within) (ends_inside known cube k second first b a to_b to_a quiet_b) (ends_inside known cube k first second a b to_a to_b quiet_a)
