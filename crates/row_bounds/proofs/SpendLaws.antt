-- What rows take of the residues.
use Rattle.std.proofs.Common.{◌≡◌, ◌≢◌, ℕ, zero, suc, ◌+◌, ◌-◌, ◌*◌, ◌/◌, ◌^◌, ◌<◌, ◌≤◌, min, ℤ, pos, negsuc, ◌+ℤ◌, ◌-ℤ◌, to_z, of_z, ◌≤ℤ◌, ◌<ℤ◌, unsigned_abs, Bool, true, false, cond, not, ◌&&◌, ◌||◌, nat_eq, List, [], ◌∷◌, ◌++◌, map, filter, fold, take, set, length, get_or, Option, Some, None, refl, sym, ap, subst, ◌∙◌, arith, inl, inr, if◌then◌else◌}
use Rattle.std.specs.Prelude.{filter_map}
use Rattle.std.specs.Int.{w128}
use Rattle.std.specs.List.{All, AllByRecursion, range_with_len, cons_option}
use Rattle.std.proofs.lemmas.Int.{ints}
use Rattle.std.proofs.lemmas.Bool.Decides.{eqb_tells}
use Rattle.std.proofs.lemmas.List.{take_more, take_all, length-set, get_or-set_same, get_or-set_other}
use Rattle.std.proofs.lemmas.List.Elements.{filter_map-append, recursion_from_All}
use Rattle.std.proofs.Math.IntN.{+ℤ_idl, +ℤ_idr}
use Rattle.arch_model.specs.Set.{Set, has, len, union, intersection, minus, members_below}
use Rattle.arch_model.specs.Member.{is_in}
use Rattle.arch_model.specs.declared.limits.TheConstants.{MEMBERS}
use Rattle.arch_model.proofs.SetLaws.{has-union, has-intersection, has-minus}
use Rattle.arch_model.proofs.Members.{is_in-members, has-from_members, and_left}
use Rattle.arch_model.proofs.Counting.{len-members}
use Rattle.rows.specs.declared.row.Term.{Term}
use Rattle.rows.specs.Parts.{RowParts, CutParts, CubeParts}
use Rattle.rows.specs.Row.{IsRow, IsSized, coef_at, cut_coef, row_of_cut, term, value_of}
use Rattle.rows.specs.Cut.{IsCut}
use Rattle.rows.specs.Ascent.{quotient_at, times_of, left_of}
use Rattle.rows.proofs.Activities.{blank, plain}
use Rattle.rows.proofs.Costs.{unlike}
use Rattle.rows.proofs.IntSums.{int_sum_by-more, int_sum_by-map, int_sum_by-filter, int_sum_by-same}
use Rattle.rows.proofs.CutActivity.{bit, count_bits}
use Rattle.rows.proofs.ForcedTurns.{cut_coef_at}
use Rattle.rows.proofs.WhatIsForced.{Rising, rising_from, coef_head, coef_tail}
use Rattle.rows.proofs.ClosingLoops.{Climbs, climbs_members, low_members}
use Rattle.row_bounds.specs.Inner.Climb.{quotient_by}

-- a quotient of a term
none_positive : {X : Type 0} → None ≡ Some zero → X
none_positive e = absurd (let f : None ≡ Some zero = e in cc)

pub none_fixed : (fixed : Bool) (a : ℤ) (r : ℕ) → fixed ≡ true → None ≡ quotient_by fixed a r
none_fixed fixed (pos zero) r e = refl
none_fixed fixed (pos (suc a)) r e = sym (ap (λ b. if b then None else Some (r / suc a)) e)
none_fixed fixed (negsuc a) r e = refl

pub none_low : (fixed : Bool) (a : ℤ) (r : ℕ) → a ≤ℤ pos 0 → None ≡ quotient_by fixed a r
none_low fixed (pos zero) r h = refl
none_low fixed (pos (suc a)) r h = absurd (omega (arith, ints))
none_low fixed (negsuc a) r h = refl

pub some_high : (fixed : Bool) (a : ℤ) (r : ℕ) → fixed ≡ false → pos 0 <ℤ a → Some (r / unsigned_abs a) ≡ quotient_by fixed a r
some_high fixed (pos zero) r e h = absurd (omega (arith, ints))
some_high fixed (pos (suc a)) r e h = sym (ap (λ b. if b then None else Some (r / suc a)) e)
some_high fixed (negsuc a) r e h = absurd (omega (arith, ints))

swap_not : {X : Type 0} (b : Bool) (x y : X) → (if not b then x else y) ≡ (if b then y else x)
swap_not true x y = refl
swap_not false x y = refl

pub quotient_same : (cube : CubeParts) (residue : ℕ → ℕ) (v : ℕ) (a : ℤ) → quotient_at cube residue (term v a) ≡ quotient_by (has cube.fixed v) a (residue v)
quotient_same cube residue v (pos zero) = refl
quotient_same cube residue v (pos (suc a)) = swap_not (has cube.fixed v) (Some (residue v / suc a)) None
quotient_same cube residue v (negsuc a) = refl

-- the least of some quotients
pub fold_append : {X Y : Type 0} (f : Y → X → Y) (a : Y) (xs ys : List X) → fold f a (xs ++ ys) ≡ fold f (fold f a xs) ys
fold_append f a [] ys = refl
fold_append f a (x ∷ xs) ys = fold_append f (f a x) xs ys

module _ (cube : CubeParts) (residue : ℕ → ℕ) (xs : List Term) (i : ℕ) (short : i < length xs) where
  here : Option ℕ
  here = quotient_at cube residue (get_or xs i blank)

  one_quotient : fold min (10 ^ 12) (filter_map (quotient_at cube residue) (take (i + 1) xs)) ≡ fold min (fold min (10 ^ 12) (filter_map (quotient_at cube residue) (take i xs))) (filter_map (quotient_at cube residue) (get_or xs i blank ∷ []))
  one_quotient =
      ap (λ l. fold min (10 ^ 12) (filter_map (quotient_at cube residue) l)) (take_more xs i blank short)
      ∙ ap (fold min (10 ^ 12)) (filter_map-append (quotient_at cube residue) (take i xs) (get_or xs i blank ∷ []))
      ∙ fold_append min (10 ^ 12) (filter_map (quotient_at cube residue) (take i xs)) (filter_map (quotient_at cube residue) (get_or xs i blank ∷ []))

  pub times_hit : (times after fixed : ℕ) → times ≡ fold min (10 ^ 12) (filter_map (quotient_at cube residue) (take i xs)) → quotient_by (has cube.fixed (get_or xs i blank).var.0) (get_or xs i blank).coef (residue (get_or xs i blank).var.0) ≡ Some fixed → after ≡ min times fixed
      → after ≡ fold min (10 ^ 12) (filter_map (quotient_at cube residue) (take (i + 1) xs))
  times_hit times after q so_far is e =
      e ∙ ap (λ t. min t q) so_far
      ∙ sym (one_quotient ∙ ap (λ o. fold min (fold min (10 ^ 12) (filter_map (quotient_at cube residue) (take i xs))) (cons_option o [])) (quotient_same cube residue (get_or xs i blank).var.0 (get_or xs i blank).coef ∙ is))

  pub times_past : (times after : ℕ) → times ≡ fold min (10 ^ 12) (filter_map (quotient_at cube residue) (take i xs)) → quotient_by (has cube.fixed (get_or xs i blank).var.0) (get_or xs i blank).coef (residue (get_or xs i blank).var.0) ≡ None → after ≡ times
      → after ≡ fold min (10 ^ 12) (filter_map (quotient_at cube residue) (take (i + 1) xs))
  times_past times after so_far is e =
      e ∙ so_far
      ∙ sym (one_quotient ∙ ap (λ o. fold min (fold min (10 ^ 12) (filter_map (quotient_at cube residue) (take i xs))) (cons_option o [])) (quotient_same cube residue (get_or xs i blank).var.0 (get_or xs i blank).coef ∙ is))

pub times_all : (cube : CubeParts) (residue : ℕ → ℕ) (row : RowParts) (xs : List Term) (i : ℕ) (times : ℕ) → xs ≡ row.terms → length xs ≤ i → times ≡ fold min (10 ^ 12) (filter_map (quotient_at cube residue) (take i xs)) → times ≡ times_of cube residue row
times_all cube residue row xs i times same far so_far = so_far ∙ ap (λ l. fold min (10 ^ 12) (filter_map (quotient_at cube residue) l)) (take_all i xs far ∙ same)

-- what the variables at 1 add up to
abbrev pub at_ones : Set → Term → ℤ
at_ones ones t = if has ones t.var.0 then t.coef else pos 0

sized_if : (b : Bool) (a : ℤ) → unsigned_abs a ≤ 10 ^ 16 → unsigned_abs (if b then a else pos 0) ≤ 10 ^ 16
sized_if true a h = h
sized_if false a h = omega arith

module _ (ones : Set) (xs : List Term) (i : ℕ) (r : ℤ) (sized : All (λ t. IsSized t.coef) xs) (here : i < length xs) where
  pub one_is : (one : Bool) → one ≡ has ones (get_or xs i blank).var.0 → r ≡ (if one then to_z w128 (of_z w128 (get_or xs i blank).coef) else pos 0) → r ≡ at_ones ones (get_or xs i blank)
  one_is one is e = e ∙ ap (λ z. if one then z else pos 0) (plain (get_or xs i blank).coef (sized i blank here)) ∙ ap (λ b. if b then (get_or xs i blank).coef else pos 0) is

  pub one_small : r ≡ at_ones ones (get_or xs i blank) → unsigned_abs r ≤ 10 ^ 16
  one_small e = rw e (sized_if (has ones (get_or xs i blank).var.0) (get_or xs i blank).coef (sized i blank here))

-- those of a cut, counted by sets
both_bits : (p m o : Bool) → (p ≡ true → m ≡ false) → (if o then (if p then pos 1 else (if m then negsuc 0 else pos 0)) else pos 0) ≡ bit (p && o) -ℤ bit (m && o)
both_bits true true o apart = absurd (let e : true ≡ false = apart refl in cc)
both_bits true false true apart = refl
both_bits true false false apart = refl
both_bits false true true apart = refl
both_bits false true false apart = refl
both_bits false false true apart = refl
both_bits false false false apart = refl

neither : (p m o : Bool) → (p || m) ≡ false → (if o then (if p then pos 1 else (if m then negsuc 0 else pos 0)) else pos 0) ≡ pos 0
neither true m o h = absurd (let e : true ≡ false = h in cc)
neither false true o h = absurd (let e : true ≡ false = h in cc)
neither false false true h = refl
neither false false false h = refl

pub cut_ones : (cut : CutParts) (ones : Set) → IsCut cut → value_of (row_of_cut cut).terms (has ones) ≡ pos (len (intersection cut.plus ones)) -ℤ pos (len (intersection cut.minus ones))
unfolding members_below
cut_ones cut ones ok =
    let add : ℕ → ℤ = λ v. if has ones v then cut_coef cut v else pos 0 in
    let plus : Set = intersection cut.plus ones in
    let less : Set = intersection cut.minus ones in
    let both : Set = union cut.plus cut.minus in
    let each : (v : ℕ) → add v ≡ bit (has plus v) -ℤ bit (has less v) =
    λ v. both_bits (has cut.plus v) (has cut.minus v) (has ones v) (ok.apart v)
    ∙ ap (λ b. bit b -ℤ bit (has cut.minus v && has ones v)) (sym (has-intersection cut.plus ones v)) ∙ ap (λ b. bit (has plus v) -ℤ bit b) (sym (has-intersection cut.minus ones v)) in
    let none : (v : ℕ) → has both v ≡ false → add v ≡ pos 0 = λ v h. neither (has cut.plus v) (has cut.minus v) (has ones v) (sym (has-union cut.plus cut.minus v) ∙ h) in
    let plus_small : (v : ℕ) → has plus v ≡ true → v < MEMBERS = λ v h. ok.small_plus v (and_left (has cut.plus v) (has ones v) (sym (has-intersection cut.plus ones v) ∙ h)) in
    let less_small : (v : ℕ) → has less v ≡ true → v < MEMBERS = λ v h. ok.small_minus v (and_left (has cut.minus v) (has ones v) (sym (has-intersection cut.minus ones v) ∙ h)) in
    int_sum_by-map (at_ones ones) (λ v. term v (cut_coef cut v)) (members_below both MEMBERS)
    ∙ int_sum_by-filter add (has both) none (range_with_len 0 MEMBERS)
    ∙ int_sum_by-same add (λ v. bit (has plus v) -ℤ bit (has less v)) each (range_with_len 0 MEMBERS)
    ∙ count_bits (has plus) (has less) (range_with_len 0 MEMBERS)
    ∙ ap (λ n. pos n -ℤ pos (length (members_below less MEMBERS))) (sym (len-members plus MEMBERS plus_small))
    ∙ ap (λ n. pos (len plus) -ℤ pos n) (sym (len-members less MEMBERS less_small))

-- the quotients of a cut are the residues of its free variables with coefficient 1
by_kind : (plus minus' fixed : Bool) (r : ℕ) (l : List ℕ) (cut : ℤ) → cut ≡ (if plus then pos 1 else (if minus' then negsuc 0 else pos 0)) → cond (plus || minus') (cons_option (quotient_by fixed cut r) l) l ≡ cond (plus && not fixed) (r ∷ l) l
by_kind true m true r l cut e = ap (λ a. cons_option (quotient_by true a r) l) e
by_kind true m false r l cut e = let whole : r / 1 ≡ r = omega arith in ap (λ a. cons_option (quotient_by false a r) l) e ∙ ap (λ n. n ∷ l) whole
by_kind false true fixed r l cut e = ap (λ a. cons_option (quotient_by fixed a r) l) e
by_kind false false fixed r l cut e = refl

pull : (cube : CubeParts) (residue : ℕ → ℕ) (cut : CutParts) (b : Bool) (v : ℕ) (vs : List ℕ) → filter_map (quotient_at cube residue) (map (λ u. term u (cut_coef cut u)) (cond b (v ∷ vs) vs))
    ≡ cond b (cons_option (quotient_at cube residue (term v (cut_coef cut v))) (filter_map (quotient_at cube residue) (map (λ u. term u (cut_coef cut u)) vs))) (filter_map (quotient_at cube residue) (map (λ u. term u (cut_coef cut u)) vs))
pull cube residue cut true v vs = refl
pull cube residue cut false v vs = refl

push' : (residue : ℕ → ℕ) (b : Bool) (v : ℕ) (vs : List ℕ) → map residue (cond b (v ∷ vs) vs) ≡ cond b (residue v ∷ map residue vs) (map residue vs)
push' residue true v vs = refl
push' residue false v vs = refl

cut_quotients : (cube : CubeParts) (residue : ℕ → ℕ) (cut : CutParts) (vs : List ℕ) → filter_map (quotient_at cube residue) (map (λ v. term v (cut_coef cut v)) (filter (has (union cut.plus cut.minus)) vs)) ≡ map residue (filter (has (minus cut.plus cube.fixed)) vs)
cut_quotients cube residue cut [] = refl
cut_quotients cube residue cut (v ∷ vs) =
    pull cube residue cut (has (union cut.plus cut.minus) v) v (filter (has (union cut.plus cut.minus)) vs)
    ∙ ap (λ o. cond (has (union cut.plus cut.minus) v) (cons_option o (filter_map (quotient_at cube residue) (map (λ u. term u (cut_coef cut u)) (filter (has (union cut.plus cut.minus)) vs)))) (filter_map (quotient_at cube residue) (map (λ u. term u (cut_coef cut u)) (filter (has (union cut.plus cut.minus)) vs)))) (quotient_same cube residue v (cut_coef cut v))
    ∙ ap (λ l. cond (has (union cut.plus cut.minus) v) (cons_option (quotient_by (has cube.fixed v) (cut_coef cut v) (residue v)) l) l) (cut_quotients cube residue cut vs)
    ∙ ap (λ b. cond b (cons_option (quotient_by (has cube.fixed v) (cut_coef cut v) (residue v)) (map residue (filter (has (minus cut.plus cube.fixed)) vs))) (map residue (filter (has (minus cut.plus cube.fixed)) vs))) (has-union cut.plus cut.minus v)
    ∙ by_kind (has cut.plus v) (has cut.minus v) (has cube.fixed v) (residue v) (map residue (filter (has (minus cut.plus cube.fixed)) vs)) (cut_coef cut v) refl
    ∙ ap (λ b. cond b (residue v ∷ map residue (filter (has (minus cut.plus cube.fixed)) vs)) (map residue (filter (has (minus cut.plus cube.fixed)) vs))) (sym (has-minus cut.plus cube.fixed v))
    ∙ sym (push' residue (has (minus cut.plus cube.fixed) v) v (filter (has (minus cut.plus cube.fixed)) vs))

pub cut_times : (cube : CubeParts) (residue : ℕ → ℕ) (cut : CutParts) → fold min (10 ^ 12) (map residue (members_below (minus cut.plus cube.fixed) MEMBERS)) ≡ times_of cube residue (row_of_cut cut)
unfolding members_below
cut_times cube residue cut = ap (fold min (10 ^ 12)) (sym (cut_quotients cube residue cut (range_with_len 0 MEMBERS)))

-- what is left of one residue
pub left_low : (k : ℕ) (a : ℤ) (n : ℕ) → k ≤ 10 ^ 12 → IsSized a → left_of k a n ≤ n + 10 ^ 28
left_low k (pos a) n few sized = omega arith
left_low k (negsuc a) n few sized =
    let size : suc a ≤ 10 ^ 16 = sized in
    let product : k * suc a ≤ 10 ^ 12 * 10 ^ 16 = both_le k (10 ^ 12) (suc a) (10 ^ 16) few size in
    omega (arith, product) where
      both_le : (a b c d : ℕ) → a ≤ b → c ≤ d → a * c ≤ b * d
      both_le a b c d h k = grind arith

-- over a row's terms
pub record SpentTerms (times : ℕ) (terms : List Term) (before after : List ℕ) : Type 0 where
  pub long : length after ≡ length before
  pub left : (v : ℕ) → v < MEMBERS → get_or after v 0 ≡ left_of times (coef_at terms v) (get_or before v 0)

coef_first : (xs : List Term) (i : ℕ) → Rising xs → i < length xs → coef_at (take i xs) (get_or xs i blank).var.0 ≡ pos 0
coef_first [] i h short = absurd (omega arith)
coef_first (t ∷ xs) zero h short = refl
coef_first (t ∷ xs) (suc i) h short =
    let further : i < length xs = omega arith in
    let later : t.var.0 < (get_or xs i blank).var.0 = after_at xs i t.var.0 h.0 further in
    let ne : t.var.0 ≡ (get_or xs i blank).var.0 → ⊥ = λ e. absurd (omega (arith, later, e)) in
    coef_tail t (take i xs) (get_or xs i blank).var.0 ne ∙ coef_first xs i h.1 further where
      after_at : (xs : List Term) (i v : ℕ) → AllByRecursion (λ t. v < t.var.0) xs → i < length xs → v < (get_or xs i blank).var.0
      after_at [] i v all short = absurd (omega arith)
      after_at (t ∷ xs) zero v all short = all.0
      after_at (t ∷ xs) (suc i) v all short = after_at xs i v all.1 (omega arith)

left_none : (k n : ℕ) → left_of k (pos 0) n ≡ n
left_none k n = omega arith

pub spent_none : (times : ℕ) (before : List ℕ) → SpentTerms times [] before before
spent_none times before = record { long = refl; left = λ v short. sym (left_none times (get_or before v 0)) }

module _ (times : ℕ) (row : RowParts) (xs : List Term) (i : ℕ) (before after : List ℕ) (same : xs ≡ row.terms) (ok : IsRow row) (short : i < length xs) (spent : SpentTerms times (take i xs) before after) where
  at : ℕ
  at = (get_or xs i blank).var.0

  one_coef : (v : ℕ) → coef_at (take (i + 1) xs) v ≡ coef_at (take i xs) v +ℤ (if nat_eq (get_or xs i blank).var.0 v then (get_or xs i blank).coef else pos 0)
  one_coef v = int_sum_by-more (λ t. if nat_eq t.var.0 v then t.coef else pos 0) xs i blank short

  rising : Rising xs
  rising = rw same (rising_from row.terms ok.ascending)

  pub spent_here : (v : ℕ) → v ≡ (get_or xs i blank).var.0 → v < MEMBERS → get_or after v 0 ≡ get_or before v 0
  spent_here v e low =
      spent.left v low ∙ ap (λ a. left_of times a (get_or before v 0)) (ap (coef_at (take i xs)) e ∙ coef_first xs i rising short) ∙ left_none times (get_or before v 0)

  pub spent_more : (value : ℕ) → length before ≡ MEMBERS → (get_or xs i blank).var.0 < MEMBERS → value ≡ left_of times (get_or xs i blank).coef (get_or after (get_or xs i blank).var.0 0)
      → SpentTerms times (take (i + 1) xs) before (set after (get_or xs i blank).var.0 value)
  spent_more value wide low is = record {
    long = length-set after (get_or xs i blank).var.0 value ∙ spent.long;
    left = λ v near. elim (eqb_tells (get_or xs i blank).var.0 v) [
      | inl hit ↦
          let inside : (get_or xs i blank).var.0 < length after = omega (arith, spent.long, wide, low) in
          ap (λ u. get_or (set after (get_or xs i blank).var.0 value) u 0) (sym hit.1) ∙ get_or-set_same after (get_or xs i blank).var.0 value 0 inside ∙ is
          ∙ ap (left_of times (get_or xs i blank).coef) (spent_here (get_or xs i blank).var.0 refl low)
          ∙ ap (λ u. left_of times (get_or xs i blank).coef (get_or before u 0)) hit.1
          ∙ ap (λ a. left_of times a (get_or before v 0))
          (sym (one_coef v ∙ ap (λ b. coef_at (take i xs) v +ℤ (if b then (get_or xs i blank).coef else pos 0)) hit.0 ∙ ap (λ z. z +ℤ (get_or xs i blank).coef) (ap (coef_at (take i xs)) (sym hit.1) ∙ coef_first xs i rising short) ∙ +ℤ_idl (get_or xs i blank).coef))
      | inr miss ↦
          let ne : v ≢ (get_or xs i blank).var.0 = λ e. miss.1 (sym e) in
          get_or-set_other after (get_or xs i blank).var.0 v value 0 ne ∙ spent.left v near
          ∙ ap (λ a. left_of times a (get_or before v 0)) (sym (one_coef v ∙ ap (λ b. coef_at (take i xs) v +ℤ (if b then (get_or xs i blank).coef else pos 0)) miss.0 ∙ +ℤ_idr (coef_at (take i xs) v)))
    ];
  }

pub spent_all : (times : ℕ) (row : RowParts) (xs : List Term) (i : ℕ) (before after : List ℕ) → xs ≡ row.terms → length xs ≤ i → SpentTerms times (take i xs) before after → (v : ℕ) → v < MEMBERS → get_or after v 0 ≡ left_of times (coef_at row.terms v) (get_or before v 0)
spent_all times row xs i before after same far spent v low = spent.left v low ∙ ap (λ l. left_of times (coef_at l v) (get_or before v 0)) (take_all i xs far ∙ same)

-- a residue that is lowered or raised
abbrev pub less_by : ℕ → ℕ → ℕ
less_by k n = n - k

abbrev pub more_by : ℕ → ℕ → ℕ
more_by k n = n + k

-- over the members of a set
pub record Shifted (s : Set) (f : ℕ → ℕ) (rest : List ℕ) (before after : List ℕ) : Type 0 where
  pub long : length after ≡ length before
  pub low : AllByRecursion (λ y. y < MEMBERS) rest
  pub climbs : Climbs rest
  pub inside : (v : ℕ) → is_in rest v ≡ true → has s v ≡ true
  pub done : (v : ℕ) → v < MEMBERS → get_or after v 0 ≡ (if has s v && not (is_in rest v) then f (get_or before v 0) else get_or before v 0)

nothing_yet : (b c : Bool) (x y : ℕ) → (b ≡ true → c ≡ true) → y ≡ (if b && not c then x else y)
nothing_yet true true x y h = refl
nothing_yet true false x y h = absurd (let e : false ≡ true = h refl in cc)
nothing_yet false c x y h = refl

pub shift_start : (s : Set) (f : ℕ → ℕ) (rest before : List ℕ) → rest ≡ members_below s MEMBERS → Shifted s f rest before before
shift_start s f rest before all =
    let P : List ℕ → Type 0 = λ l. Shifted s f l before before in
    subst P (sym all) (record {
      long = refl;
      low = low_members s MEMBERS;
      climbs = climbs_members s MEMBERS;
      inside = λ v there. has-from_members s MEMBERS v there;
      done = λ v near. nothing_yet (has s v) (is_in (members_below s MEMBERS) v) (f (get_or before v 0)) (get_or before v 0) (λ on. is_in-members s MEMBERS v on near);
    })

none_above : (v : ℕ) (xs : List ℕ) → AllByRecursion (λ y. v < y) xs → is_in xs v ≡ false
none_above v [] all = refl
none_above v (x ∷ xs) all =
    let ne : x ≡ v → ⊥ = λ e. absurd (omega (arith, all.0, e)) in
    ap (λ b. b || is_in xs v) (unlike x v ne) ∙ none_above v xs all.1

module _ (s : Set) (f : ℕ → ℕ) (w : ℕ) (all rest before after : List ℕ) (spent : Shifted s f all before after) (step : all ≡ w ∷ rest) where
  turn : Shifted s f (w ∷ rest) before after
  turn = let P : List ℕ → Type 0 = λ l. Shifted s f l before after in subst P step spent

  head : is_in (w ∷ rest) w ≡ true
  head = elim (eqb_tells w w) [ inl same ↦ ap (λ b. b || is_in rest w) same.0 | inr other ↦ absurd (other.1 refl) ]

  pub shift_small : w < MEMBERS
  shift_small = turn.low.0

  pub shift_before : get_or after w 0 ≡ get_or before w 0
  shift_before =
      turn.done w turn.low.0 ∙ ap (λ b. if has s w && not b then f (get_or before w 0) else get_or before w 0) head ∙ never (has s w) where
        never : (b : Bool) → (if b && false then f (get_or before w 0) else get_or before w 0) ≡ get_or before w 0
        never true = refl
        never false = refl

  pub shift_more : (value : ℕ) → length before ≡ MEMBERS → value ≡ f (get_or after w 0) → Shifted s f rest before (set after w value)
  shift_more value wide is = record {
    long = length-set after w value ∙ turn.long;
    low = turn.low.1;
    climbs = turn.climbs.1;
    inside = λ v there. turn.inside v (later (nat_eq w v) (is_in rest v) there);
    done = λ v near. elim (eqb_tells w v) [
      | inl hit ↦
          let within : w < length after = omega (arith, turn.long, wide, turn.low.0) in
          ap (λ u. get_or (set after w value) u 0) (sym hit.1) ∙ get_or-set_same after w value 0 within ∙ is ∙ ap f shift_before ∙ ap (λ u. f (get_or before u 0)) hit.1
          ∙ taken (has s v) (is_in rest v) (f (get_or before v 0)) (get_or before v 0) (ap (has s) (sym hit.1) ∙ turn.inside w head) (ap (is_in rest) (sym hit.1) ∙ none_above w rest turn.climbs.0)
      | inr miss ↦
          let ne : v ≢ w = λ e. miss.1 (sym e) in
          get_or-set_other after w v value 0 ne ∙ turn.done v near ∙ ap (λ b. if has s v && not (b || is_in rest v) then f (get_or before v 0) else get_or before v 0) miss.0
    ];
  } where
    later : (b c : Bool) → c ≡ true → (b || c) ≡ true
    later true c h = refl
    later false c h = h

    taken : (b c : Bool) (x y : ℕ) → b ≡ true → c ≡ false → x ≡ (if b && not c then x else y)
    taken true false x y h k = refl
    taken true true x y h k = absurd (let e : true ≡ false = k in cc)
    taken false c x y h k = absurd (let e : false ≡ true = h in cc)

pub shift_end : (s : Set) (f : ℕ → ℕ) (rest before after : List ℕ) → Shifted s f rest before after → rest ≡ [] → (v : ℕ) → v < MEMBERS → get_or after v 0 ≡ (if has s v then f (get_or before v 0) else get_or before v 0)
shift_end s f rest before after spent none v near =
    spent.done v near ∙ ap (λ l. if has s v && not (is_in l v) then f (get_or before v 0) else get_or before v 0) none ∙ plain (has s v) where
      plain : (b : Bool) → (if b && true then f (get_or before v 0) else get_or before v 0) ≡ (if b then f (get_or before v 0) else get_or before v 0)
      plain true = refl
      plain false = refl

-- a cut: first lowered, then raised
two_shifts : (p m : Bool) (k n : ℕ) → (p ≡ true → m ≡ false) → (if m then (if p then n - k else n) + k else (if p then n - k else n)) ≡ left_of k (if p then pos 1 else (if m then negsuc 0 else pos 0)) n
two_shifts true true k n apart = absurd (let e : true ≡ false = apart refl in cc)
two_shifts true false k n apart = omega arith
two_shifts false true k n apart = omega arith
two_shifts false false k n apart = omega arith

pub cut_left : (cut : CutParts) (k : ℕ) (before middle after : List ℕ) → IsCut cut → ((v : ℕ) → v < MEMBERS → get_or middle v 0 ≡ (if has cut.plus v then get_or before v 0 - k else get_or before v 0))
    → ((v : ℕ) → v < MEMBERS → get_or after v 0 ≡ (if has cut.minus v then get_or middle v 0 + k else get_or middle v 0)) → (v : ℕ) → v < MEMBERS → get_or after v 0 ≡ left_of k (coef_at (row_of_cut cut).terms v) (get_or before v 0)
cut_left cut k before middle after ok lowered raised v near =
    raised v near ∙ ap (λ n. if has cut.minus v then n + k else n) (lowered v near) ∙ two_shifts (has cut.plus v) (has cut.minus v) k (get_or before v 0) (ok.apart v)
    ∙ ap (λ a. left_of k a (get_or before v 0)) (sym (cut_coef_at cut v near))

cut_low_by : (p m : Bool) (k n : ℕ) → k ≤ 10 ^ 12 → left_of k (if p then pos 1 else (if m then negsuc 0 else pos 0)) n ≤ n + 10 ^ 28
cut_low_by true m k n few = omega arith
cut_low_by false true k n few = omega arith
cut_low_by false false k n few = omega arith

pub cut_low : (cut : CutParts) (k : ℕ) (before after : List ℕ) → k ≤ 10 ^ 12 → ((v : ℕ) → v < MEMBERS → get_or after v 0 ≡ left_of k (coef_at (row_of_cut cut).terms v) (get_or before v 0)) → (v : ℕ) → v < MEMBERS → get_or after v 0 ≤ get_or before v 0 + 10 ^ 28
cut_low cut k before after few left v near =
    let is : get_or after v 0 ≡ left_of k (cut_coef cut v) (get_or before v 0) = left v near ∙ ap (λ a. left_of k a (get_or before v 0)) (cut_coef_at cut v near) in
    let low = cut_low_by (has cut.plus v) (has cut.minus v) k (get_or before v 0) few in
    subst (λ n. n ≤ get_or before v 0 + 10 ^ 28) (sym is) low

-- a coefficient of a row is small
coef_small : (xs : List Term) (v : ℕ) → Rising xs → AllByRecursion (λ t. IsSized t.coef) xs → IsSized (coef_at xs v)
coef_small [] v h all = omega arith
coef_small (t ∷ xs) v h all = elim (eqb_tells t.var.0 v) [
  | inl same ↦
      let later : AllByRecursion (λ u. v < u.var.0) xs = let P : ℕ → Type 0 = λ n. AllByRecursion (λ u. n < u.var.0) xs in subst P same.1 h.0 in
      subst IsSized (sym (coef_head t xs v same.1 later)) all.0
  | inr other ↦ subst IsSized (sym (coef_tail t xs v other.1)) (coef_small xs v h.1 all.1)
]

pub row_low : (times : ℕ) (row : RowParts) → IsRow row → times ≤ 10 ^ 12 → (v before after : ℕ) → after ≡ left_of times (coef_at row.terms v) before → after ≤ before + 10 ^ 28
row_low times row ok few v before after e =
    let low = left_low times (coef_at row.terms v) before few (coef_small row.terms v (rising_from row.terms ok.ascending) (recursion_from_All (λ (t : Term). IsSized t.coef) row.terms ok.sized)) in
    subst (λ n. n ≤ before + 10 ^ 28) (sym e) low
