-- A forced variable is fixed to its better value, so the room of its row stays, and what else the row forces as well.
use Rattle.std.proofs.Common.{◌≡◌, ℕ, zero, suc, add-one, ◌+◌, ◌<◌, ◌≤◌, ℤ, pos, negsuc, neg_ℤ, ◌+ℤ◌, ◌-ℤ◌, ◌≤ℤ◌, ◌<ℤ◌, int_lt, Bool, true, false, cond, not, ◌&&◌, ◌||◌, nat_eq, List, [], ◌∷◌, map, find, take, length, get_or, Option, Some, None, option_map, option_and_then, is_some, IfSome, IsTrue, replicate, refl, sym, ap, subst, ◌∙◌, arith, eq-eqb, if◌then◌else◌}
use Rattle.std.proofs.lemmas.Int.{ints}
use Rattle.arch_model.specs.Set.{has}
use Rattle.arch_model.specs.declared.limits.TheConstants.{MEMBERS}
use Rattle.arch_model.proofs.SetLaws.{has-put}
use Rattle.arch_model.proofs.Members.{and_left, and_right, and_both, or_right, false_if}
use Rattle.rows.specs.declared.row.Term.{Term}
use Rattle.rows.specs.declared.known.RowRef.{RowRef}
use Rattle.rows.specs.Parts.{RowParts, CubeParts, KnownParts}
use Rattle.rows.specs.Known.{row_at, has_row}
use Rattle.rows.specs.Trace.{cube_after}
use Rattle.rows.specs.Row.{IsRow, coef_at}
use Rattle.rows.specs.Cube.{IsCube, is_free, fixed_at}
use Rattle.rows.specs.Activity.{best_of, greatest_activity, is_refuted, Forces, forces, least_forced, IsQuietAt}
use Rattle.rows.specs.Inner.Room.{room_of, after_times}
use Rattle.rows.proofs.WhatIsForced.{Rising, rising_from, forces_any, forces_one, forces_zero, activity_fixed, room_is_some, find_past}
use Rattle.rows.proofs.Activities.{blank}
use Rattle.rows.proofs.LeastForced.{test_from_forces, found_is_forced, nothing_to}
use Rattle.rows.proofs.SetFacts.{has-put_keeps, put_within, put_below}

-- a cube with one more variable fixed is one
pub cube_fixed : (cube : CubeParts) (v : ℕ) (b : Bool) → IsCube cube → v < MEMBERS → IsCube (fixed_at cube v b)
cube_fixed cube v true k small = record { within = put_within cube.ones cube.fixed v k.within; small = put_below cube.fixed v MEMBERS small k.small }
cube_fixed cube v false k small = record { within = λ w h. has-put_keeps cube.fixed v w (k.within w h); small = put_below cube.fixed v MEMBERS small k.small }

-- steps of one row: one more at the end
through : (f g : CubeParts → Option CubeParts) (o : Option CubeParts) (cube next : CubeParts) → ((c : CubeParts) → f c ≡ Some cube → g c ≡ Some next) → option_and_then f o ≡ Some cube → option_and_then g o ≡ Some next
through f g (Some c) cube next h e = h c e
through f g None cube next h e = absurd (let n : None ≡ Some cube = e in cc)

same_cube : (a b : CubeParts) → Some a ≡ Some b → a ≡ b
same_cube a b e = cc

one_more : (row : RowParts) (k : ℕ) (start cube next : CubeParts) → after_times row start k ≡ Some cube → after_times row cube 1 ≡ Some next → after_times row start (suc k) ≡ Some next
one_more row zero start cube next e f = ap (λ c. after_times row c 1) (same_cube start cube e) ∙ f
one_more row (suc k) start cube next e f =
    through (λ n. after_times row n k) (λ n. after_times row n (suc k)) (option_map (λ (p : ℕ × Bool). fixed_at start p.0 p.1) (least_forced row start)) cube next (λ c g. one_more row k c cube next g f) e

pub times_more : (row : RowParts) (k : ℕ) (start cube : CubeParts) (v : ℕ) (b : Bool) → after_times row start k ≡ Some cube → Some (v, b) ≡ least_forced row cube → after_times row start (k + 1) ≡ Some (fixed_at cube v b)
times_more row k start cube v b e first =
    ap (after_times row start) (add-one k)
    ∙ one_more row k start cube (fixed_at cube v b) e (ap (λ o. option_and_then (λ n. after_times row n 0) (option_map (λ (p : ℕ × Bool). fixed_at cube p.0 p.1) o)) (sym first))

-- a forced value is the better one
better_one : (a room : ℤ) → pos 0 ≤ℤ room → int_lt room a ≡ true → best_of None a ≡ a
better_one (pos n) room up less = grind arith
better_one (negsuc n) room up less = absurd (let h : room <ℤ negsuc n = grind (arith, ints) in omega (arith, ints))

better_zero : (a room : ℤ) → pos 0 ≤ℤ room → int_lt room (neg_ℤ a) ≡ true → best_of None a ≡ pos 0
better_zero (pos n) room up less = absurd (let h : room <ℤ neg_ℤ (pos n) = grind (arith, ints) in omega (arith, ints))
better_zero (negsuc n) room up less = refl

best_here : (b : Bool) (a room : ℤ) → pos 0 ≤ℤ room → int_lt room (if b then a else neg_ℤ a) ≡ true → best_of None a ≡ best_of (Some b) a
best_here true a room up less = better_one a room up less
best_here false a room up less = better_zero a room up less

beyond : (row : RowParts) (cube : CubeParts) (v : ℕ) (b : Bool) → Rising row.terms → IsCube cube → is_refuted row cube ≡ false → forces row cube v b ≡ true → int_lt (room_of row cube) (if b then coef_at row.terms v else neg_ℤ (coef_at row.terms v)) ≡ true
beyond row cube v true rising k stands test = and_right (is_free cube v) (int_lt (room_of row cube) (coef_at row.terms v)) (sym (forces_one row cube v rising k stands) ∙ test)
beyond row cube v false rising k stands test = and_right (is_free cube v) (int_lt (room_of row cube) (neg_ℤ (coef_at row.terms v))) (sym (forces_zero row cube v rising k stands) ∙ test)

same_left : (a b c d : ℤ) → a +ℤ c ≡ b +ℤ d → c ≡ d → a ≡ b
same_left a b c d e f = omega (arith, ints)

fewer : (f g t : Bool) → (g ≡ true → f ≡ true) → (g && t) ≡ true → (f && t) ≡ true
fewer f g t h e = and_both f t (h (and_left g t e)) (and_right g t e)

either_fewer : (a b c d : Bool) → (c ≡ true → a ≡ true) → (d ≡ true → b ≡ true) → (if c then true else d) ≡ true → (if a then true else b) ≡ true
either_fewer true b c d h k e = refl
either_fewer false b true d h k e = absurd (let g : false ≡ true = h refl in cc)
either_fewer false b false d h k e = k e

not_both : (b : Bool) → not b ≡ true → b ≡ true → ⊥
not_both true h k = let e : false ≡ true = h in cc
not_both false h k = let e : false ≡ true = k in cc

still_free : (a b : Bool) → not (a || b) ≡ true → not a ≡ true
still_free true b h = h
still_free false b h = refl

find_fewer : (p q : ℕ → Bool) → ((w : ℕ) → q w ≡ true → p w ≡ true) → (xs : List ℕ) → find p xs ≡ None → find q xs ≡ None
find_fewer p q h [] e = refl
find_fewer p q h (x ∷ xs) e =
    let w = none_cons (p x) x (find p xs) e in
    ap (λ b. cond b (Some x) (find q xs)) (false_if (q x) (λ on. let g : false ≡ true = sym w.0 ∙ h x on in cc)) ∙ find_fewer p q h xs w.1 where
      none_cons : (b : Bool) (x : ℕ) (r : Option ℕ) → cond b (Some x) r ≡ None → (b ≡ false) × (r ≡ None)
      none_cons true x r h = absurd (let g : Some x ≡ None = h in cc)
      none_cons false x r h = (refl, h)

module _ (row : RowParts) (cube : CubeParts) (v : ℕ) (b : Bool) (rising : Rising row.terms) (k : IsCube cube) (first : Some (v, b) ≡ least_forced row cube) where
  forced : Forces row cube v b
  forced = found_is_forced row cube v b (sym first)

  better : best_of None (coef_at row.terms v) ≡ best_of (Some b) (coef_at row.terms v)
  better =
      best_here b (coef_at row.terms v) (room_of row cube) (room_is_some row cube forced.open_yet)
      (beyond row cube v b rising k forced.open_yet (test_from_forces row cube v b forced))

  -- so its row's greatest activity stays
  pub activity_stays : greatest_activity row (fixed_at cube v b) ≡ greatest_activity row cube
  activity_stays = same_left (greatest_activity row (fixed_at cube v b)) (greatest_activity row cube) (best_of None (coef_at row.terms v)) (best_of (Some b) (coef_at row.terms v)) (activity_fixed row.terms cube v b rising k forced.is_free) better

  pub room_stays : room_of row cube ≡ room_of row (fixed_at cube v b)
  room_stays = sym (ap (λ z. z -ℤ row.least) activity_stays)

  pub row_stands : is_refuted row (fixed_at cube v b) ≡ false
  row_stands = ap (λ z. int_lt z row.least) activity_stays ∙ forced.open_yet

  -- and it forces the others as before
  module _ (small : v < MEMBERS) where
    next_cube : IsCube (fixed_at cube v b)
    next_cube = cube_fixed cube v b k small

    free_before : (w : ℕ) → is_free (fixed_at cube v b) w ≡ true → is_free cube w ≡ true
    free_before w h = still_free (has cube.fixed w) (nat_eq v w) (sym (ap not (has-put cube.fixed v w)) ∙ h)

    one_before : (w : ℕ) → forces row (fixed_at cube v b) w true ≡ true → forces row cube w true ≡ true
    one_before w h =
        forces_one row cube w rising k forced.open_yet
        ∙ fewer (is_free cube w) (is_free (fixed_at cube v b) w) (int_lt (room_of row cube) (coef_at row.terms w)) (free_before w)
        (ap (λ r. is_free (fixed_at cube v b) w && int_lt r (coef_at row.terms w)) room_stays ∙ sym (forces_one row (fixed_at cube v b) w rising next_cube row_stands) ∙ h)

    zero_before : (w : ℕ) → forces row (fixed_at cube v b) w false ≡ true → forces row cube w false ≡ true
    zero_before w h =
        forces_zero row cube w rising k forced.open_yet
        ∙ fewer (is_free cube w) (is_free (fixed_at cube v b) w) (int_lt (room_of row cube) (neg_ℤ (coef_at row.terms w))) (free_before w)
        (ap (λ r. is_free (fixed_at cube v b) w && int_lt r (neg_ℤ (coef_at row.terms w))) room_stays ∙ sym (forces_zero row (fixed_at cube v b) w rising next_cube row_stands) ∙ h)

    any_before : (w : ℕ) → forces_any row (fixed_at cube v b) w ≡ true → forces_any row cube w ≡ true
    any_before w h = either_fewer (forces row cube w true) (forces row cube w false) (forces row (fixed_at cube v b) w true) (forces row (fixed_at cube v b) w false) (one_before w) (zero_before w) h

    taken : is_free (fixed_at cube v b) v ≡ false
    taken = ap not (has-put cube.fixed v v ∙ or_right (has cube.fixed v) (nat_eq v v) (eq-eqb v v refl))

    pub none_twice : forces_any row (fixed_at cube v b) v ≡ false
    none_twice =
        ap (λ c. if c then true else forces row (fixed_at cube v b) v false) (forces_one row (fixed_at cube v b) v rising next_cube row_stands ∙ ap (λ f. f && int_lt (room_of row (fixed_at cube v b)) (coef_at row.terms v)) taken)
        ∙ forces_zero row (fixed_at cube v b) v rising next_cube row_stands ∙ ap (λ f. f && int_lt (room_of row (fixed_at cube v b)) (neg_ℤ (coef_at row.terms v))) taken

    pub none_among : (xs : List ℕ) → find (forces_any row cube) xs ≡ None → find (forces_any row (fixed_at cube v b)) xs ≡ None
    none_among = find_fewer (forces_any row cube) (forces_any row (fixed_at cube v b)) any_before

-- a loop over a row's terms: what it keeps
pub record RowTurn (row : RowParts) (start cube : CubeParts) (xs : List Term) (i count : ℕ) (room : ℤ) : Type 0 where
  pub few : count ≤ i
  pub times : after_times row start count ≡ Some cube
  pub level : room ≡ room_of row cube
  pub stands : is_refuted row cube ≡ false
  pub passed : find (forces_any row cube) (map (λ t. t.var.0) (take i xs)) ≡ None

pub turn_hit : (row : RowParts) (start cube next : CubeParts) (xs : List Term) (i count : ℕ) (room : ℤ) (v : ℕ) (b : Bool) → IsRow row → IsCube cube → RowTurn row start cube xs i count room → i < length xs → v ≡ (get_or xs i blank).var.0 → v < MEMBERS
    → Some (v, b) ≡ least_forced row cube → next ≡ fixed_at cube v b → RowTurn row start next xs (i + 1) (count + 1) room
turn_hit row start cube next xs i count room v b ok k turn short at small first is =
    let P : CubeParts → Type 0 = λ c. RowTurn row start c xs (i + 1) (count + 1) room in
    let rising = rising_from row.terms ok.ascending in
    subst P (sym is) (record {
      few = omega (arith, turn.few);
      times = times_more row count start cube v b turn.times first;
      level = turn.level ∙ room_stays row cube v b rising k first;
      stands = row_stands row cube v b rising k first;
      passed =
          find_past (forces_any row (fixed_at cube v b)) (λ (t : Term). t.var.0) xs i blank short (none_among row cube v b rising k first small (map (λ (t : Term). t.var.0) (take i xs)) turn.passed)
          (ap (forces_any row (fixed_at cube v b)) (sym at) ∙ none_twice row cube v b rising k first small);
    })

pub turn_end : (row : RowParts) (start cube : CubeParts) (xs : List Term) (i count : ℕ) (room : ℤ) → RowTurn row start cube xs i count room → None ≡ least_forced row cube → IsQuietAt cube row
turn_end row start cube xs i count room turn none = record { open_yet = turn.stands; still = nothing_to row cube (sym none) }

-- whatever order finds it: what was forced so far, and that the row stands
pub record Forcing (row : RowParts) (start cube : CubeParts) (count : ℕ) (room : ℤ) : Type 0 where
  pub times : after_times row start count ≡ Some cube
  pub level : room ≡ room_of row cube
  pub stands : is_refuted row cube ≡ false

pub forcing_more : (row : RowParts) (start cube next : CubeParts) (count : ℕ) (room : ℤ) (v : ℕ) (b : Bool) → Rising row.terms → IsCube cube → Forcing row start cube count room
    → Some (v, b) ≡ least_forced row cube → next ≡ fixed_at cube v b → Forcing row start next (count + 1) room
forcing_more row start cube next count room v b rising k turn first is =
    let P : CubeParts → Type 0 = λ c. Forcing row start c (count + 1) room in
    subst P (sym is) (record {
      times = times_more row count start cube v b turn.times first;
      level = turn.level ∙ room_stays row cube v b rising k first;
      stands = row_stands row cube v b rising k first;
    })

pub forcing_end : (row : RowParts) (start cube : CubeParts) (count : ℕ) (room : ℤ) → Forcing row start cube count room → None ≡ least_forced row cube → IsQuietAt cube row
forcing_end row start cube count room turn none = record { open_yet = turn.stands; still = nothing_to row cube (sym none) }

-- the same steps as those of a trace that names the row
through_same : (f g : CubeParts → Option CubeParts) (o : Option CubeParts) → ((c : CubeParts) → f c ≡ g c) → option_and_then f o ≡ option_and_then g o
through_same f g (Some c) h = h c
through_same f g None h = refl

pub times_are_steps : (known : KnownParts) (r : RowRef) (row : RowParts) → row_at known r ≡ Some row → (k : ℕ) (cube : CubeParts) → cube_after known cube (replicate k r) ≡ after_times row cube k
times_are_steps known r row there zero cube = refl
times_are_steps known r row there (suc k) cube =
    ap (λ o. option_and_then (λ next. cube_after known next (replicate k r)) (option_and_then (λ x. option_map (λ (p : ℕ × Bool). fixed_at cube p.0 p.1) (least_forced x cube)) o)) there
    ∙ through_same (λ next. cube_after known next (replicate k r)) (λ next. after_times row next k) (option_map (λ (p : ℕ × Bool). fixed_at cube p.0 p.1) (least_forced row cube)) (times_are_steps known r row there k)

named_steps : (known : KnownParts) (r : RowRef) (o : Option RowParts) (start cube : CubeParts) (told : Option ℕ) → row_at known r ≡ o → is_some o ≡ true → IfSome o (λ row. IfSome told (λ k. after_times row start k ≡ Some cube))
    → IfSome told (λ k. cube_after known start (replicate k r) ≡ Some cube)
named_steps known r (Some row) start cube (Some k) is there e = times_are_steps known r row is k start ∙ e
named_steps known r (Some row) start cube None is there e = tt
named_steps known r None start cube told is there e = absurd (let f : false ≡ true = there in cc)

pub named_times : (known : KnownParts) (r : RowRef) (start cube : CubeParts) (told : Option ℕ) → IsTrue (has_row known r) → IfSome (row_at known r) (λ row. IfSome told (λ k. after_times row start k ≡ Some cube))
    → IfSome told (λ k. cube_after known start (replicate k r) ≡ Some cube)
named_times known r start cube told there e = named_steps known r (row_at known r) start cube told refl there e
