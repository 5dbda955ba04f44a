-- The loops that fix all that a row forces.
use Rattle.std.proofs.Common.{◌≡◌, ℕ, zero, suc, ◌+◌, ◌<◌, ◌≤◌, ◌^◌, ℤ, pos, neg_ℤ, ◌-ℤ◌, int_lt, to_z, of_z, FitsSigned, Bool, true, false, cond, not, ◌&&◌, ◌||◌, nat_eq, List, [], ◌∷◌, filter, length, get_or, Option, Some, None, refl, sym, ap, subst, ◌∙◌, arith, inl, inr}
use Rattle.std.specs.List.{AllByRecursion, range_with_len}
use Rattle.std.specs.Int.{w128}
use Rattle.std.proofs.lemmas.Int.{to_z-of_z}
use Rattle.std.proofs.lemmas.Bool.Decides.{eqb_tells}
use Rattle.arch_model.specs.Set.{Set, has, union, minus, put, members_below}
use Rattle.arch_model.specs.Member.{is_in, member_count}
use Rattle.arch_model.specs.Parts.{LibraryParts}
use Rattle.arch_model.specs.declared.limits.TheConstants.{MEMBERS}
use Rattle.arch_model.proofs.SetLaws.{has-put, has-minus}
use Rattle.arch_model.proofs.Members.{and_left, and_right, or_cases, is_in-members, has-from_members, same_test, length-members-le}
use Rattle.rows.specs.declared.row.Term.{Term}
use Rattle.rows.specs.Parts.{RowParts, CutParts, CubeParts}
use Rattle.rows.specs.Row.{IsRow, IsRowBelow, row_of_cut}
use Rattle.rows.specs.Cut.{IsCut}
use Rattle.rows.specs.Cube.{IsCube, is_free, fixed_at}
use Rattle.rows.specs.BaseRows.{cost_row_of, member_cost_of, cost_terms}
use Rattle.rows.specs.Activity.{is_refuted, least_forced, IsQuietAt}
use Rattle.rows.specs.Inner.Room.{room_of, forced_value, after_times}
use Rattle.rows.proofs.Activities.{blank, minus_is}
use Rattle.rows.proofs.Costs.{unlike}
use Rattle.rows.proofs.WhatIsForced.{has-put_other, has-put_same, rising_collected}
use Rattle.rows.proofs.LeastForced.{nothing_to}
use Rattle.rows.proofs.ForcedTurns.{row_hit, row_past, row_end, cost_hit, cost_end, cut_first, cut_idle, cut_rising, tight_some, tight_none, roomy, lt_from, free_of_cut}
use Rattle.rows.proofs.ForcedTimes.{RowTurn, turn_hit, turn_end, Forcing, forcing_more, forcing_end, cube_fixed}

-- over a row's terms
module _ (row : RowParts) (start cube : CubeParts) (xs : List Term) (i count : ℕ) (room : ℤ) (fixed : Bool) (r : Option Bool) (ok : IsRow row) (same : xs ≡ row.terms) (k : IsCube cube) (fits : FitsSigned w128 room)
    (turn : RowTurn row start cube xs i count (to_z w128 (of_z w128 room))) (short : i < length xs) (is : fixed ≡ has cube.fixed (get_or xs i blank).var.0) (e : r ≡ forced_value fixed (to_z w128 (of_z w128 (get_or xs i blank).coef)) (to_z w128 (of_z w128 room))) where
  plain_room : room ≡ room_of row cube
  plain_room = sym (to_z-of_z w128 room fits) ∙ turn.level

  pub row_loop_hit : (next : CubeParts) (after : ℕ) (b : Bool) → IsRowBelow MEMBERS row → r ≡ Some b → next ≡ fixed_at cube (get_or xs i blank).var.0 b → after ≡ count + 1 → RowTurn row start next xs (i + 1) after (to_z w128 (of_z w128 room))
  row_loop_hit next after b small some fix more =
      let P : ℕ → Type 0 = λ n. RowTurn row start next xs (i + 1) n (to_z w128 (of_z w128 room)) in
      let below : IsRowBelow MEMBERS (record { terms = xs; least = row.least }) = rw same small in
      subst P (sym more)
      (turn_hit row start cube next xs i count (to_z w128 (of_z w128 room)) (get_or xs i blank).var.0 b ok k turn short refl (below i blank short)
      (row_hit row cube xs i room fixed r b same ok k turn.stands plain_room fits short is e turn.passed some) fix)

  pub row_loop_past : (next : CubeParts) (after : ℕ) → r ≡ None → next ≡ cube → after ≡ count → RowTurn row start next xs (i + 1) after (to_z w128 (of_z w128 room))
  row_loop_past next after none stays still =
      let P : CubeParts → Type 0 = λ c. RowTurn row start c xs (i + 1) after (to_z w128 (of_z w128 room)) in
      subst P (sym stays) (record {
        few = omega (arith, turn.few, still);
        times = ap (after_times row start) still ∙ turn.times;
        level = turn.level;
        stands = turn.stands;
        passed = row_past row cube xs i room fixed r same ok k turn.stands plain_room fits short is e turn.passed none;
      })

pub row_loop_end : (row : RowParts) (start cube : CubeParts) (xs : List Term) (i count : ℕ) (room : ℤ) → xs ≡ row.terms → length xs ≤ i → RowTurn row start cube xs i count room → IsQuietAt cube row
row_loop_end row start cube xs i count room same far turn = turn_end row start cube xs i count room turn (row_end row cube xs i same far turn.passed)

-- over all members, for the cost row
pub record CostTurn (lib : LibraryParts) (bound : ℕ) (start cube : CubeParts) (i count : ℕ) (room : ℤ) : Type 0 where
  pub few : count ≤ i
  pub is_cube : IsCube cube
  pub untouched : (j : ℕ) → i ≤ j → has cube.fixed j ≡ has start.fixed j
  pub forcing : Forcing (cost_row_of lib bound) start cube count room
  pub passed : (j : ℕ) → j < i → None ≡ forced_value (has cube.fixed j) (neg_ℤ (pos (member_cost_of lib j))) room

passed_more : (cube : CubeParts) (v : ℕ) (b : Bool) (coef : ℕ → ℤ) (room : ℤ) → ((j : ℕ) → j < v → None ≡ forced_value (has cube.fixed j) (coef j) room) → (j : ℕ) → j < v + 1 → None ≡ forced_value (has (put cube.fixed v) j) (coef j) room
passed_more cube v b coef room before j short = elim (eqb_tells v j) [
  | inl same ↦ sym (ap (λ f. forced_value f (coef j) room) (ap (has (put cube.fixed v)) (sym same.1) ∙ has-put_same cube.fixed v))
  | inr other ↦ let less : j < v = omega (arith, short, other.1) in before j less ∙ sym (ap (λ f. forced_value f (coef j) room) (has-put_other cube.fixed v j other.1))
]

module _ (lib : LibraryParts) (bound : ℕ) (start cube : CubeParts) (i count n : ℕ) (room : ℤ) (fixed : Bool) (r : Option Bool) (fits : FitsSigned w128 room) (turn : CostTurn lib bound start cube i count (to_z w128 (of_z w128 room)))
    (short : i < member_count lib) (low : n ≤ 10 ^ 12) (cost : n ≡ member_cost_of lib i) (was : fixed ≡ has start.fixed i) (e : r ≡ forced_value fixed (to_z w128 (of_z w128 (pos 0 -ℤ to_z w128 n))) (to_z w128 (of_z w128 room))) where
  is : fixed ≡ has cube.fixed i
  is = was ∙ sym (turn.untouched i (omega arith))

  k : IsCube cube
  k = turn.is_cube

  pub cost_loop_hit : (next : CubeParts) (after : ℕ) (b : Bool) → i < MEMBERS → r ≡ Some b → next ≡ fixed_at cube i b → after ≡ count + 1 → CostTurn lib bound start next (i + 1) after (to_z w128 (of_z w128 room))
  cost_loop_hit next after b small some fix more =
      let first : Some (i, b) ≡ least_forced (cost_row_of lib bound) cube =
      cost_hit lib bound cube i n room fixed r b k fits (sym (to_z-of_z w128 room fits) ∙ turn.forcing.level) turn.forcing.stands short low cost is e turn.passed some in
      let P : ℕ → Type 0 = λ m. Forcing (cost_row_of lib bound) start next m (to_z w128 (of_z w128 room)) in
      record {
        few = omega (arith, turn.few, more);
        is_cube = let C : CubeParts → Type 0 = IsCube in subst C (sym fix) (cube_fixed cube i b k small);
        untouched = λ j far.
            let ne : i ≡ j → ⊥ = λ e. absurd (omega (arith, e, far)) in
            ap (λ (c : CubeParts). has c.fixed j) fix ∙ has-put_other cube.fixed i j ne ∙ turn.untouched j (omega arith);
        forcing = subst P (sym more) (forcing_more (cost_row_of lib bound) start cube next count (to_z w128 (of_z w128 room)) i b (rising_collected (member_count lib) (cost_terms lib)) k turn.forcing first fix);
        passed =
            let Q : CubeParts → Type 0 = λ c. (j : ℕ) → j < i + 1 → None ≡ forced_value (has c.fixed j) (neg_ℤ (pos (member_cost_of lib j))) (to_z w128 (of_z w128 room)) in
            subst Q (sym fix) (passed_more cube i b (λ j. neg_ℤ (pos (member_cost_of lib j))) (to_z w128 (of_z w128 room)) turn.passed);
      }

  pub cost_loop_past : (next : CubeParts) (after : ℕ) → r ≡ None → next ≡ cube → after ≡ count → CostTurn lib bound start next (i + 1) after (to_z w128 (of_z w128 room))
  cost_loop_past next after none stays still =
      let P : CubeParts → Type 0 = λ c. CostTurn lib bound start c (i + 1) after (to_z w128 (of_z w128 room)) in
      subst P (sym stays) (record {
        few = omega (arith, turn.few, still);
        is_cube = k;
        untouched = λ j far. turn.untouched j (omega arith);
        forcing = record { times = ap (after_times (cost_row_of lib bound) start) still ∙ turn.forcing.times; level = turn.forcing.level; stands = turn.forcing.stands };
        passed = λ j near. elim (eqb_tells j i) [
          | inl same ↦
              sym none ∙ e ∙ ap (λ z. forced_value fixed z (to_z w128 (of_z w128 room))) (minus_is n low ∙ ap (λ m. neg_ℤ (pos m)) (cost ∙ ap (member_cost_of lib) (sym same.1)))
              ∙ ap (λ f. forced_value f (neg_ℤ (pos (member_cost_of lib j))) (to_z w128 (of_z w128 room))) (is ∙ ap (has cube.fixed) (sym same.1))
          | inr other ↦ let less : j < i = omega (arith, near, other.1) in turn.passed j less
        ];
      })

pub cost_loop_end : (lib : LibraryParts) (bound : ℕ) (start cube : CubeParts) (i count : ℕ) (room : ℤ) → FitsSigned w128 room → CostTurn lib bound start cube i count (to_z w128 (of_z w128 room)) → member_count lib ≤ i → IsQuietAt cube (cost_row_of lib bound)
cost_loop_end lib bound start cube i count room fits turn far =
    forcing_end (cost_row_of lib bound) start cube count (to_z w128 (of_z w128 room)) turn.forcing
    (cost_end lib bound cube i room turn.is_cube fits (sym (to_z-of_z w128 room fits) ∙ turn.forcing.level) turn.forcing.stands far turn.passed)

-- over the free variables of a cut that has no room
abbrev pub Climbs : List ℕ → Type 0
Climbs [] = Unit {0}
Climbs (x ∷ xs) = AllByRecursion (λ y. x < y) xs × Climbs xs

above_one : (w : ℕ) (b : Bool) (x : ℕ) (xs : List ℕ) → w < x → AllByRecursion (λ y. w < y) xs → AllByRecursion (λ y. w < y) (cond b (x ∷ xs) xs)
above_one w true x xs h rest = (h, rest)
above_one w false x xs h rest = rest

above_chosen : (q : ℕ → Bool) (w a n : ℕ) → w < a → AllByRecursion (λ y. w < y) (filter q (range_with_len a n))
above_chosen q w a zero h = tt
above_chosen q w a (suc n) h = above_one w (q a) a (filter q (range_with_len (a + 1) n)) h (above_chosen q w (a + 1) n (omega arith))

climbs_one : (b : Bool) (x : ℕ) (xs : List ℕ) → AllByRecursion (λ y. x < y) xs → Climbs xs → Climbs (cond b (x ∷ xs) xs)
climbs_one true x xs h rest = (h, rest)
climbs_one false x xs h rest = rest

climbs_chosen : (q : ℕ → Bool) (a n : ℕ) → Climbs (filter q (range_with_len a n))
climbs_chosen q a zero = tt
climbs_chosen q a (suc n) = climbs_one (q a) a (filter q (range_with_len (a + 1) n)) (above_chosen q a (a + 1) n (omega arith)) (climbs_chosen q (a + 1) n)

low_one : (m : ℕ) (b : Bool) (x : ℕ) (xs : List ℕ) → x < m → AllByRecursion (λ y. y < m) xs → AllByRecursion (λ y. y < m) (cond b (x ∷ xs) xs)
low_one m true x xs h rest = (h, rest)
low_one m false x xs h rest = rest

pub low_chosen : (q : ℕ → Bool) (a n m : ℕ) → a + n ≤ m → AllByRecursion (λ y. y < m) (filter q (range_with_len a n))
low_chosen q a zero m h = tt
low_chosen q a (suc n) m h = low_one m (q a) a (filter q (range_with_len (a + 1) n)) (omega arith) (low_chosen q (a + 1) n m (omega arith))

pub climbs_members : (s : Set) (n : ℕ) → Climbs (members_below s n)
unfolding members_below
climbs_members s n = climbs_chosen (has s) 0 n

pub low_members : (s : Set) (n : ℕ) → AllByRecursion (λ y. y < n) (members_below s n)
unfolding members_below
low_members s n = low_chosen (has s) 0 n n (omega arith)

pub not_above : (j v : ℕ) (xs : List ℕ) → j ≤ v → AllByRecursion (λ y. v < y) xs → is_in xs j ≡ false
not_above j v [] h above = refl
not_above j v (x ∷ xs) h above =
    let ne : x ≡ j → ⊥ = λ e. absurd (omega (arith, above.0, e, h)) in
    ap (λ b. b || is_in xs j) (unlike x j ne) ∙ not_above j v xs h above.1

pub record CutTurn (cut : CutParts) (start cube : CubeParts) (rest : List ℕ) (count : ℕ) (room : ℤ) : Type 0 where
  pub few : count + length rest ≤ MEMBERS
  pub is_cube : IsCube cube
  pub forcing : Forcing (row_of_cut cut) start cube count room
  pub open_yet : (j : ℕ) → has (minus (union cut.plus cut.minus) cube.fixed) j ≡ is_in rest j
  pub climbs : Climbs rest
  pub low : AllByRecursion (λ y. y < MEMBERS) rest

pub cut_loop_start : (cut : CutParts) (cube : CubeParts) (free : Set) (rest : List ℕ) (room : ℤ) → IsCut cut → IsCube cube → room ≡ room_of (row_of_cut cut) cube → is_refuted (row_of_cut cut) cube ≡ false
    → free ≡ minus (union cut.plus cut.minus) cube.fixed → rest ≡ members_below free MEMBERS → CutTurn cut cube cube rest 0 room
cut_loop_start cut cube free rest room ok k level stands is all =
    let small : (j : ℕ) → has free j ≡ true → j < MEMBERS = λ j on. elim (or_cases (has cut.plus j) (has cut.minus j) (and_left (has cut.plus j || has cut.minus j) (not (has cube.fixed j)) (sym (free_of_cut cut cube j) ∙ sym (ap (λ s. has s j) is) ∙ on))) [
      | inl p ↦ ok.small_plus j p
      | inr m ↦ ok.small_minus j m
    ] in
    let P : List ℕ → Type 0 = λ l. CutTurn cut cube cube l 0 room in
    subst P (sym all) (record {
      few = omega (arith, length-members-le free MEMBERS);
      is_cube = k;
      forcing = record { times = refl; level = level; stands = stands };
      open_yet = λ j. ap (λ s. has s j) (sym is) ∙ same_test (has free j) (is_in (members_below free MEMBERS) j) (λ on. is_in-members free MEMBERS j on (small j on)) (λ on. has-from_members free MEMBERS j on);
      climbs = climbs_members free MEMBERS;
      low = low_members free MEMBERS;
    })

minus_put : (s fixed : Set) (v j : ℕ) → has (minus s (put fixed v)) j ≡ (has (minus s fixed) j && not (nat_eq v j))
minus_put s fixed v j =
    has-minus s (put fixed v) j ∙ ap (λ b. has s j && not b) (has-put fixed v j) ∙ split (has s j) (has fixed j) (nat_eq v j) ∙ ap (λ b. b && not (nat_eq v j)) (sym (has-minus s fixed j)) where
      split : (a b c : Bool) → (a && not (b || c)) ≡ ((a && not b) && not c)
      split true true c = refl
      split true false c = refl
      split false b c = refl

in_tail : (v j : ℕ) (xs : List ℕ) → AllByRecursion (λ y. v < y) xs → (is_in (v ∷ xs) j && not (nat_eq v j)) ≡ is_in xs j
in_tail v j xs above = elim (eqb_tells v j) [
  | inl same ↦ ap (λ b. (b || is_in xs j) && not b) same.0 ∙ sym (let le : j ≤ v = omega (arith, same.1) in not_above j v xs le above)
  | inr other ↦ ap (λ b. (b || is_in xs j) && not b) other.0 ∙ and_true (is_in xs j)
] where
  and_true : (b : Bool) → (b && true) ≡ b
  and_true true = refl
  and_true false = refl

head_in : (v : ℕ) (xs : List ℕ) → is_in (v ∷ xs) v ≡ true
head_in v xs = elim (eqb_tells v v) [
  | inl same ↦ ap (λ b. b || is_in xs v) same.0
  | inr other ↦ absurd (other.1 refl)
]

head_first : (v j : ℕ) (xs : List ℕ) → j < v → AllByRecursion (λ y. v < y) xs → is_in (v ∷ xs) j ≡ false
head_first v j xs less above =
    let ne : v ≡ j → ⊥ = λ e. absurd (omega (arith, less, e)) in
    let le : j ≤ v = omega arith in
    ap (λ b. b || is_in xs j) (unlike v j ne) ∙ not_above j v xs le above

module _ (cut : CutParts) (start cube : CubeParts) (v : ℕ) (all rest : List ℕ) (count : ℕ) (room : ℤ) (before : CutTurn cut start cube all count room) (step : all ≡ v ∷ rest) where
  turn : CutTurn cut start cube (v ∷ rest) count room
  turn = let P : List ℕ → Type 0 = λ l. CutTurn cut start cube l count room in subst P step before

  on_cut : ((has cut.plus v || has cut.minus v) && not (has cube.fixed v)) ≡ true
  on_cut = sym (free_of_cut cut cube v) ∙ turn.open_yet v ∙ head_in v rest

  pub cut_loop_free : is_free cube v ≡ true
  cut_loop_free = and_right (has cut.plus v || has cut.minus v) (not (has cube.fixed v)) on_cut

  pub cut_loop_hit : room ≡ pos 0 → (next : CubeParts) (after : ℕ) (b : Bool) → b ≡ has cut.plus v → next ≡ fixed_at cube v b → after ≡ count + 1 → CutTurn cut start next rest after room
  cut_loop_hit tight next after b is fix more =
      let no_room : room_of (row_of_cut cut) cube ≡ pos 0 = sym turn.forcing.level ∙ tight in
      let k = turn.is_cube in
      let first : Some (v, has cut.plus v) ≡ least_forced (row_of_cut cut) cube =
      cut_first cut cube v (has cut.plus v) k turn.forcing.stands turn.low.0
      (tight_some (has cube.fixed v) (has cut.plus v) (has cut.minus v) (room_of (row_of_cut cut) cube) no_room on_cut)
      (λ j less. tight_none (has cube.fixed j) (has cut.plus j) (has cut.minus j) (room_of (row_of_cut cut) cube) no_room (sym (free_of_cut cut cube j) ∙ turn.open_yet j ∙ head_first v j rest less turn.climbs.0)) in
      let told : Some (v, b) ≡ least_forced (row_of_cut cut) cube = ap (λ c. Some (v, c)) is ∙ first in
      let P : ℕ → Type 0 = λ m. Forcing (row_of_cut cut) start next m room in
      record {
        few = omega (arith, turn.few, more);
        is_cube = let C : CubeParts → Type 0 = IsCube in subst C (sym fix) (cube_fixed cube v b k turn.low.0);
        forcing = subst P (sym more) (forcing_more (row_of_cut cut) start cube next count room v b (cut_rising cut) k turn.forcing told fix);
        open_yet = λ j.
            ap (λ (c : CubeParts). has (minus (union cut.plus cut.minus) c.fixed) j) fix ∙ minus_put (union cut.plus cut.minus) cube.fixed v j
            ∙ ap (λ b. b && not (nat_eq v j)) (turn.open_yet j) ∙ in_tail v j rest turn.climbs.0;
        climbs = turn.climbs.1;
        low = turn.low.1;
      }

pub cut_loop_end : (cut : CutParts) (start cube : CubeParts) (rest : List ℕ) (count : ℕ) (room : ℤ) → room ≡ pos 0 → CutTurn cut start cube rest count room → rest ≡ [] → IsQuietAt cube (row_of_cut cut)
cut_loop_end cut start cube rest count room tight turn none =
    forcing_end (row_of_cut cut) start cube count room turn.forcing
    (cut_idle cut cube turn.is_cube turn.forcing.stands
    (λ j short. tight_none (has cube.fixed j) (has cut.plus j) (has cut.minus j) (room_of (row_of_cut cut) cube) (sym turn.forcing.level ∙ tight)
    (sym (free_of_cut cut cube j) ∙ turn.open_yet j ∙ ap (λ l. is_in l j) none)))

pub cut_with_room : (cut : CutParts) (cube : CubeParts) → IsCube cube → is_refuted (row_of_cut cut) cube ≡ false → int_lt (pos 0) (room_of (row_of_cut cut) cube) ≡ true → IsQuietAt cube (row_of_cut cut)
cut_with_room cut cube k stands some =
    record {
      open_yet = stands;
      still =
          nothing_to (row_of_cut cut) cube
          (sym (cut_idle cut cube k stands (λ v short. roomy (has cube.fixed v) (has cut.plus v) (has cut.minus v) (room_of (row_of_cut cut) cube) (lt_from (pos 0) (room_of (row_of_cut cut) cube) some))));
    }
