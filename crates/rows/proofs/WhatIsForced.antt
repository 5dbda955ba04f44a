-- What a row forces, from its greatest activity and the coefficient of a variable.
use Rattle.std.proofs.Common.{◌≡◌, ℕ, zero, suc, ◌+◌, ◌≤◌, ◌<◌, ℤ, pos, negsuc, neg_ℤ, ◌+ℤ◌, ◌-ℤ◌, ◌≤ℤ◌, ◌<ℤ◌, Bool, true, false, cond, not, ◌&&◌, ◌||◌, nat_eq, int_lt, List, [], ◌∷◌, map, filter, find, length, get_or, take, Option, Some, None, option_map, is_some, add-one, refl, sym, ap, subst, ◌∙◌, inl, inr, arith, eq-eqb, if◌then◌else◌}
use Rattle.std.specs.List.{AllByRecursion, AllPairs, range_with_len}
use Rattle.std.specs.List.Sorted.{IsStrictlyIncreasing}
use Rattle.std.proofs.lemmas.Int.{ints}
use Rattle.std.proofs.Math.IntN.{+ℤ_idl, +ℤ_idr}
use Rattle.std.proofs.lemmas.List.Kept.{AllPairs-from_increasing}
use Rattle.std.proofs.lemmas.List.Elements.{recursion_from_All, All-from_recursion}
use Rattle.std.proofs.lemmas.List.{get_or-map, length-map}
use Rattle.std.proofs.lemmas.Bool.Decides.{eqb_tells}
use Rattle.arch_model.specs.Set.{Set, has, put}
use Rattle.arch_model.proofs.SetLaws.{has-put}
use Rattle.arch_model.proofs.Members.{or_right}
use Rattle.rows.specs.declared.row.Term.{Term}
use Rattle.rows.specs.Parts.{RowParts, CubeParts}
use Rattle.rows.specs.Row.{int_sum_by, term, coef_at, is_nonzero, collected}
use Rattle.rows.specs.Cube.{IsCube, value_at, is_free, fixed_at}
use Rattle.rows.specs.Activity.{best_of, greatest_activity, is_refuted, Forces, forces, least_forced}
use Rattle.rows.specs.Inner.Room.{forced_value, room_of}
use Rattle.rows.proofs.Costs.{unlike}

-- terms that ascend by variable
abbrev pub After : ℕ → List Term → Type 0
After v terms = AllByRecursion (λ t. v < t.var.0) terms

abbrev pub Rising : List Term → Type 0
Rising [] = Unit {0}
Rising (t ∷ terms) = After t.var.0 terms × Rising terms

rising_pairs : (terms : List Term) → AllPairs (λ v w. v < w) (map (λ t. t.var.0) terms) → Rising terms
rising_pairs [] h = tt
rising_pairs (t ∷ terms) h = (
  recursion_from_All (λ u. t.var.0 < u.var.0) terms
      (λ k d short.
      let there : suc k < length (map (λ (u : Term). u.var.0) (t ∷ terms)) = omega (arith, length-map terms (λ (u : Term). u.var.0)) in
      let below = h 0 (suc k) 0 (omega arith) there in
      rw (← (get_or-map (λ (u : Term). u.var.0) terms k d 0 short)) below),
  rising_pairs terms (λ i j d lt short. h (suc i) (suc j) d (omega arith) (omega arith)),
)

pub rising_from : (terms : List Term) → IsStrictlyIncreasing (map (λ t. t.var.0) terms) → Rising terms
rising_from terms h = rising_pairs terms (AllPairs-from_increasing (map (λ (t : Term). t.var.0) terms) h)

-- the values of a cube with one more variable fixed
or_none : (b : Bool) → (b || false) ≡ b
or_none true = refl
or_none false = refl

pub has-put_other : (s : Set) (v w : ℕ) → (v ≡ w → ⊥) → has (put s v) w ≡ has s w
has-put_other s v w ne = has-put s v w ∙ ap (λ b. has s w || b) (unlike v w ne) ∙ or_none (has s w)

pub ones_other : (cube : CubeParts) (v w : ℕ) (b : Bool) → (v ≡ w → ⊥) → has (if b then put cube.ones v else cube.ones) w ≡ has cube.ones w
ones_other cube v w true ne = has-put_other cube.ones v w ne
ones_other cube v w false ne = refl

value_other : (cube : CubeParts) (v w : ℕ) (b : Bool) → (v ≡ w → ⊥) → value_at (fixed_at cube v b) w ≡ value_at cube w
value_other cube v w b ne =
    ap (λ f. if f then Some (has (if b then put cube.ones v else cube.ones) w) else None) (has-put_other cube.fixed v w ne)
    ∙ ap (λ o. if has cube.fixed w then Some o else None) (ones_other cube v w b ne)

pub has-put_same : (s : Set) (v : ℕ) → has (put s v) v ≡ true
has-put_same s v = has-put s v v ∙ or_right (has s v) (nat_eq v v) (eq-eqb v v refl)

free_fixed : (b : Bool) → not b ≡ true → b ≡ false
free_fixed true h = absurd (let e : false ≡ true = h in cc)
free_fixed false h = refl

not_one : (f o : Bool) → f ≡ false → (o ≡ true → f ≡ true) → o ≡ false
not_one f true e within = absurd (let g : false ≡ true = sym e ∙ within refl in cc)
not_one f false e within = refl

pub ones_same : (cube : CubeParts) (v : ℕ) (b : Bool) → IsCube cube → is_free cube v ≡ true → has (if b then put cube.ones v else cube.ones) v ≡ b
ones_same cube v true k free = has-put_same cube.ones v
ones_same cube v false k free = not_one (has cube.fixed v) (has cube.ones v) (free_fixed (has cube.fixed v) free) (k.within v)

value_same : (cube : CubeParts) (v : ℕ) (b : Bool) → IsCube cube → is_free cube v ≡ true → value_at (fixed_at cube v b) v ≡ Some b
value_same cube v b k free =
    ap (λ f. if f then Some (has (if b then put cube.ones v else cube.ones) v) else None) (has-put_same cube.fixed v)
    ∙ ap (λ o. Some o) (ones_same cube v b k free)

value_free : (cube : CubeParts) (v : ℕ) → is_free cube v ≡ true → value_at cube v ≡ None
value_free cube v free = ap (λ f. if f then Some (has cube.ones v) else None) (free_fixed (has cube.fixed v) free)

-- terms after a variable have no coefficient there, and their activity doesn't change with it
pub coef_after : (terms : List Term) (v : ℕ) → After v terms → coef_at terms v ≡ pos 0
coef_after [] v h = refl
coef_after (t ∷ terms) v h =
    let ne : t.var.0 ≡ v → ⊥ = λ e. absurd (omega (arith, h.0, e)) in
    ap (λ b. (if b then t.coef else pos 0) +ℤ coef_at terms v) (unlike t.var.0 v ne) ∙ +ℤ_idl _ ∙ coef_after terms v h.1

abbrev activity : List Term → CubeParts → ℤ
activity terms cube = int_sum_by (λ t. best_of (value_at cube t.var.0) t.coef) terms

abbrev pub Apart : ℕ → List Term → Type 0
Apart v terms = AllByRecursion (λ t. v ≡ t.var.0 → ⊥) terms

pub apart_after : (v w : ℕ) (terms : List Term) → v ≤ w → After w terms → Apart v terms
apart_after v w [] le h = tt
apart_after v w (t ∷ terms) le h = ((λ e. absurd (omega (arith, le, h.0, e))), apart_after v w terms le h.1)

activity_apart : (terms : List Term) (cube : CubeParts) (v : ℕ) (b : Bool) → Apart v terms → activity terms (fixed_at cube v b) ≡ activity terms cube
activity_apart [] cube v b h = refl
activity_apart (t ∷ terms) cube v b h =
    ap (λ o. best_of o t.coef +ℤ activity terms (fixed_at cube v b)) (value_other cube v t.var.0 b h.0) ∙ ap (λ s. best_of (value_at cube t.var.0) t.coef +ℤ s) (activity_apart terms cube v b h.1)

-- so a variable that no term has isn't forced
pub apart_is_idle : (row : RowParts) (cube : CubeParts) (v : ℕ) (b : Bool) → Apart v row.terms → Forces row cube v b → ⊥
apart_is_idle row cube v b h forced =
    let same : is_refuted row (fixed_at cube v (not b)) ≡ is_refuted row cube = ap (λ z. int_lt z row.least) (activity_apart row.terms cube v (not b) h) in
    let e : true ≡ false = sym forced.other ∙ same ∙ forced.open_yet in
    cc

-- once a free variable is fixed, its coefficient is taken at its value in place of its better one
swapped : (x y s : ℤ) → (x +ℤ s) +ℤ y ≡ (y +ℤ s) +ℤ x
swapped x y s = omega (arith, ints)

carried : (a after before x y : ℤ) → after +ℤ x ≡ before +ℤ y → (a +ℤ after) +ℤ x ≡ (a +ℤ before) +ℤ y
carried a after before x y e = omega (arith, ints)

here : (now then' : Option Bool) (c all after before : ℤ) (b : Bool) → then' ≡ Some b → now ≡ None → all ≡ c → after ≡ before
    → (best_of then' c +ℤ after) +ℤ best_of None all ≡ (best_of now c +ℤ before) +ℤ best_of (Some b) all
here now then' c all after before b e f g h = rw (e, f, g, h) (swapped (best_of (Some b) c) (best_of None c) before)

elsewhere : (now then' : Option Bool) (c all rest after before : ℤ) (b : Bool) → then' ≡ now → all ≡ rest → after +ℤ best_of None rest ≡ before +ℤ best_of (Some b) rest
    → (best_of then' c +ℤ after) +ℤ best_of None all ≡ (best_of now c +ℤ before) +ℤ best_of (Some b) all
elsewhere now then' c all rest after before b e f h = rw (e, f) (carried (best_of now c) after before (best_of None rest) (best_of (Some b) rest) h)

after_at : (t : Term) (terms : List Term) (v : ℕ) → t.var.0 ≡ v → After t.var.0 terms → After v terms
after_at t terms v e h = let family : ℕ → Type 0 = λ n. After n terms in subst family e h

pub coef_head : (t : Term) (terms : List Term) (v : ℕ) → t.var.0 ≡ v → After v terms → coef_at (t ∷ terms) v ≡ t.coef
coef_head t terms v e h = ap (λ b. (if b then t.coef else pos 0) +ℤ coef_at terms v) (eq-eqb t.var.0 v e) ∙ ap (λ z. t.coef +ℤ z) (coef_after terms v h) ∙ +ℤ_idr t.coef

pub coef_tail : (t : Term) (terms : List Term) (v : ℕ) → (t.var.0 ≡ v → ⊥) → coef_at (t ∷ terms) v ≡ coef_at terms v
coef_tail t terms v ne = ap (λ b. (if b then t.coef else pos 0) +ℤ coef_at terms v) (unlike t.var.0 v ne) ∙ +ℤ_idl _

pub activity_fixed : (terms : List Term) (cube : CubeParts) (v : ℕ) (b : Bool) → Rising terms → IsCube cube → is_free cube v ≡ true
    → activity terms (fixed_at cube v b) +ℤ best_of None (coef_at terms v) ≡ activity terms cube +ℤ best_of (Some b) (coef_at terms v)
activity_fixed [] cube v true h k free = refl
activity_fixed [] cube v false h k free = refl
activity_fixed (t ∷ terms) cube v b h k free = elim (eqb_tells t.var.0 v) [
  | inl w ↦
      let later : After v terms = after_at t terms v w.1 h.0 in
      here (value_at cube t.var.0) (value_at (fixed_at cube v b) t.var.0) t.coef (coef_at (t ∷ terms) v) (activity terms (fixed_at cube v b)) (activity terms cube) b
      (ap (value_at (fixed_at cube v b)) w.1 ∙ value_same cube v b k free) (ap (value_at cube) w.1 ∙ value_free cube v free) (coef_head t terms v w.1 later) (activity_apart terms cube v b (apart_after v v terms (omega arith) later))
  | inr w ↦
      let ne : v ≡ t.var.0 → ⊥ = λ e. w.1 (sym e) in
      elsewhere (value_at cube t.var.0) (value_at (fixed_at cube v b) t.var.0) t.coef (coef_at (t ∷ terms) v) (coef_at terms v) (activity terms (fixed_at cube v b)) (activity terms cube) b
      (value_other cube v t.var.0 b ne) (coef_tail t terms v w.1) (activity_fixed terms cube v b h.1 k free)
]

-- the tests of forcing, by how far the greatest activity is above the least
test_same : (a b c d : ℤ) → (a <ℤ b → c <ℤ d) → (c <ℤ d → a <ℤ b) → int_lt a b ≡ int_lt c d
test_same a b c d f g = grind (arith, ints)

best_pos : (n : ℕ) → best_of None (pos n) ≡ pos n
best_pos n = grind arith

-- at 0 in place of the better value
pub one_test : (g l a after : ℤ) → l ≤ℤ g → after +ℤ best_of None a ≡ g +ℤ pos 0 → int_lt after l ≡ int_lt (g -ℤ l) a
one_test g l (pos n) after above e =
    let f : after +ℤ pos n ≡ g +ℤ pos 0 = sym (ap (λ z. after +ℤ z) (best_pos n)) ∙ e in
    test_same after l (g -ℤ l) (pos n) (λ h. omega (arith, ints)) (λ h. omega (arith, ints))
one_test g l (negsuc n) after above e =
    let f : after +ℤ pos 0 ≡ g +ℤ pos 0 = e in
    test_same after l (g -ℤ l) (negsuc n) (λ h. omega (arith, ints)) (λ h. omega (arith, ints))

-- at 1 in place of the better value
pub zero_test : (g l a after : ℤ) → l ≤ℤ g → after +ℤ best_of None a ≡ g +ℤ a → int_lt after l ≡ int_lt (g -ℤ l) (neg_ℤ a)
zero_test g l (pos n) after above e =
    let f : after +ℤ pos n ≡ g +ℤ pos n = sym (ap (λ z. after +ℤ z) (best_pos n)) ∙ e in
    test_same after l (g -ℤ l) (neg_ℤ (pos n)) (λ h. omega (arith, ints)) (λ h. omega (arith, ints))
zero_test g l (negsuc n) after above e =
    let f : after +ℤ pos 0 ≡ g +ℤ negsuc n = e in
    test_same after l (g -ℤ l) (pos (suc n)) (λ h. omega (arith, ints)) (λ h. omega (arith, ints))

pub above_least : (g l : ℤ) → int_lt g l ≡ false → l ≤ℤ g
above_least g l h = grind (arith, ints)

-- a row that isn't refuted forces a free variable to 1 where its coefficient is above the room, and to 0 where minus its coefficient is
forced_when : (refuted free other test : Bool) → refuted ≡ false → (free ≡ true → other ≡ test) → (not refuted && (free && other)) ≡ (free && test)
forced_when true free other test e f = absurd (let g : true ≡ false = e in cc)
forced_when false true other test e f = f refl
forced_when false false other test e f = refl

pub forces_one : (row : RowParts) (cube : CubeParts) (v : ℕ) → Rising row.terms → IsCube cube → is_refuted row cube ≡ false → forces row cube v true ≡ (is_free cube v && int_lt (room_of row cube) (coef_at row.terms v))
forces_one row cube v h k open_yet =
    forced_when (is_refuted row cube) (is_free cube v) (is_refuted row (fixed_at cube v false)) (int_lt (room_of row cube) (coef_at row.terms v)) open_yet
    (λ free. one_test (greatest_activity row cube) row.least (coef_at row.terms v) (greatest_activity row (fixed_at cube v false)) (above_least (greatest_activity row cube) row.least open_yet) (activity_fixed row.terms cube v false h k free))

pub forces_zero : (row : RowParts) (cube : CubeParts) (v : ℕ) → Rising row.terms → IsCube cube → is_refuted row cube ≡ false → forces row cube v false ≡ (is_free cube v && int_lt (room_of row cube) (neg_ℤ (coef_at row.terms v)))
forces_zero row cube v h k open_yet =
    forced_when (is_refuted row cube) (is_free cube v) (is_refuted row (fixed_at cube v true)) (int_lt (room_of row cube) (neg_ℤ (coef_at row.terms v))) open_yet
    (λ free. zero_test (greatest_activity row cube) row.least (coef_at row.terms v) (greatest_activity row (fixed_at cube v true)) (above_least (greatest_activity row cube) row.least open_yet) (activity_fixed row.terms cube v true h k free))

-- a refuted row forces nothing
pub forces_none : (row : RowParts) (cube : CubeParts) (v : ℕ) (b : Bool) → is_refuted row cube ≡ true → forces row cube v b ≡ false
forces_none row cube v b h = ap (λ r. not r && (is_free cube v && is_refuted row (fixed_at cube v (not b)))) h

-- whether a row forces a variable at all
abbrev pub forces_any : RowParts → CubeParts → ℕ → Bool
forces_any row cube v = if forces row cube v true then true else forces row cube v false

-- the same from the value to which the code says that it is forced
tells_by : (fixed x y : Bool) (r : Option Bool) → (if fixed then None else (if x then Some true else (if y then Some false else None))) ≡ r
    → (is_some r ≡ (if (not fixed && x) then true else (not fixed && y))) × ((b : Bool) → r ≡ Some b → (not fixed && x) ≡ b)
tells_by true x y r e = (ap is_some (sym e), λ b h. absurd (let g : None ≡ Some b = e ∙ h in cc))
tells_by false true y r e = (ap is_some (sym e), λ b h. let g : Some true ≡ Some b = e ∙ h in cc)
tells_by false false true r e = (ap is_some (sym e), λ b h. let g : Some false ≡ Some b = e ∙ h in cc)
tells_by false false false r e = (ap is_some (sym e), λ b h. absurd (let g : None ≡ Some b = e ∙ h in cc))

pub tells : (row : RowParts) (cube : CubeParts) (v : ℕ) (a : ℤ) (r : Option Bool) → Rising row.terms → IsCube cube → is_refuted row cube ≡ false → coef_at row.terms v ≡ a → r ≡ forced_value (has cube.fixed v) a (room_of row cube)
    → (is_some r ≡ forces_any row cube v) × ((b : Bool) → r ≡ Some b → forces row cube v true ≡ b)
tells row cube v a r h k open_yet coef e =
    let one : forces row cube v true ≡ (is_free cube v && int_lt (room_of row cube) a) = forces_one row cube v h k open_yet ∙ ap (λ z. is_free cube v && int_lt (room_of row cube) z) coef in
    let zero : forces row cube v false ≡ (is_free cube v && int_lt (room_of row cube) (neg_ℤ a)) = forces_zero row cube v h k open_yet ∙ ap (λ z. is_free cube v && int_lt (room_of row cube) (neg_ℤ z)) coef in
    let w = tells_by (has cube.fixed v) (int_lt (room_of row cube) a) (int_lt (room_of row cube) (neg_ℤ a)) r (sym e) in (
      w.0 ∙ ap (λ x. if x then true else (is_free cube v && int_lt (room_of row cube) (neg_ℤ a))) (sym one) ∙ ap (λ y. if forces row cube v true then true else y) (sym zero),
      λ b f. one ∙ w.1 b f,
    )

-- finding the first that passes a test: a loop over a list
none_cons : (b : Bool) (x : ℕ) (r : Option ℕ) → cond b (Some x) r ≡ None → (b ≡ false) × (r ≡ None)
none_cons true x r h = absurd (let g : Some x ≡ None = h in cc)
none_cons false x r h = (refl, h)

pub find_hit : {Y : Type 0} (p : ℕ → Bool) (f : Y → ℕ) (ys : List Y) (i : ℕ) (d : Y) → i < length ys → find p (map f (take i ys)) ≡ None → p (f (get_or ys i d)) ≡ true → find p (map f ys) ≡ Some (f (get_or ys i d))
find_hit p f [] i d short none passes = absurd (omega arith)
find_hit p f (y ∷ ys) zero d short none passes = ap (λ b. cond b (Some (f y)) (find p (map f ys))) passes
find_hit p f (y ∷ ys) (suc i) d short none passes =
    let w = none_cons (p (f y)) (f y) (find p (map f (take i ys))) none in
    let further : i < length ys = omega arith in
    ap (λ b. cond b (Some (f y)) (find p (map f ys))) w.0 ∙ find_hit p f ys i d further w.1 passes

find_past_one : {Y : Type 0} (p : ℕ → Bool) (f : Y → ℕ) (ys : List Y) (i : ℕ) (d : Y) → i < length ys → find p (map f (take i ys)) ≡ None → p (f (get_or ys i d)) ≡ false → find p (map f (take (suc i) ys)) ≡ None
find_past_one p f [] i d short none fails = absurd (omega arith)
find_past_one p f (y ∷ ys) zero d short none fails = ap (λ b. cond b (Some (f y)) None) fails
find_past_one p f (y ∷ ys) (suc i) d short none fails =
    let w = none_cons (p (f y)) (f y) (find p (map f (take i ys))) none in
    let further : i < length ys = omega arith in
    ap (λ b. cond b (Some (f y)) (find p (map f (take (suc i) ys)))) w.0 ∙ find_past_one p f ys i d further w.1 fails

pub find_past : {Y : Type 0} (p : ℕ → Bool) (f : Y → ℕ) (ys : List Y) (i : ℕ) (d : Y) → i < length ys → find p (map f (take i ys)) ≡ None → p (f (get_or ys i d)) ≡ false → find p (map f (take (i + 1) ys)) ≡ None
find_past p f ys i d short none fails = ap (λ n. find p (map f (take n ys))) (add-one i) ∙ find_past_one p f ys i d short none fails

-- the coefficient at a term's own variable
pub coef_own : (terms : List Term) (i : ℕ) (d : Term) → Rising terms → i < length terms → coef_at terms (get_or terms i d).var.0 ≡ (get_or terms i d).coef
coef_own [] i d h short = absurd (omega arith)
coef_own (t ∷ terms) zero d h short = coef_head t terms t.var.0 refl h.0
coef_own (t ∷ terms) (suc i) d h short =
    let further : i < length terms = omega arith in
    let later : t.var.0 < (get_or terms i d).var.0 = All-from_recursion (λ u. t.var.0 < u.var.0) terms h.0 i d further in
    let ne : t.var.0 ≡ (get_or terms i d).var.0 → ⊥ = λ e. absurd (omega arith) in
    coef_tail t terms (get_or terms i d).var.0 ne ∙ coef_own terms i d h.1 further

-- what a row forces at all, from the first of its variables that is forced
pub forced_at : (row : RowParts) (cube : CubeParts) (v : ℕ) (b : Bool) → find (forces_any row cube) (map (λ t. t.var.0) row.terms) ≡ Some v → forces row cube v true ≡ b → least_forced row cube ≡ Some (v, b)
forced_at row cube v b e f = ap (option_map (λ w. (w, forces row cube w true))) e ∙ ap (λ c. Some (v, c)) f

pub forced_not : (row : RowParts) (cube : CubeParts) → find (forces_any row cube) (map (λ t. t.var.0) row.terms) ≡ None → least_forced row cube ≡ None
forced_not row cube e = ap (option_map (λ w. (w, forces row cube w true))) e

-- the first of a range
find_from : (p : ℕ → Bool) (a n k : ℕ) → a ≤ k → k < a + n → ((j : ℕ) → a ≤ j → j < k → p j ≡ false) → p k ≡ true → find p (range_with_len a n) ≡ Some k
find_from p a zero k from to none passes = absurd (omega arith)
find_from p a (suc n) k from to none passes = elim (eqb_tells a k) [
  | inl w ↦ ap (λ b. cond b (Some a) (find p (range_with_len (a + 1) n))) (ap p w.1 ∙ passes) ∙ ap (λ x. Some x) w.1
  | inr w ↦
      let later : a < k = omega (arith, from, w.1) in
      let after : a + 1 ≤ k = omega arith in
      let before : k < (a + 1) + n = omega arith in
      ap (λ b. cond b (Some a) (find p (range_with_len (a + 1) n))) (none a (omega arith) later) ∙ find_from p (a + 1) n k after before (λ j low high. none j (omega arith) high) passes
]

none_from : (p : ℕ → Bool) (a n : ℕ) → ((j : ℕ) → a ≤ j → j < a + n → p j ≡ false) → find p (range_with_len a n) ≡ None
none_from p a zero none = refl
none_from p a (suc n) none = ap (λ b. cond b (Some a) (find p (range_with_len (a + 1) n))) (none a (omega arith) (omega arith)) ∙ none_from p (a + 1) n (λ j low high. none j (omega arith) (omega arith))

-- numbers that don't pass may be left out before the search
find_kept_one : (p : ℕ → Bool) (b : Bool) (v : ℕ) (vs : List ℕ) → (b ≡ false → p v ≡ false) → find p (cond b (v ∷ vs) vs) ≡ find p (v ∷ vs)
find_kept_one p true v vs h = refl
find_kept_one p false v vs h = sym (ap (λ c. cond c (Some v) (find p vs)) (h refl))

find_kept : (p q : ℕ → Bool) → ((v : ℕ) → q v ≡ false → p v ≡ false) → (vs : List ℕ) → find p (filter q vs) ≡ find p vs
find_kept p q h [] = refl
find_kept p q h (v ∷ vs) = find_kept_one p (q v) v (filter q vs) (h v) ∙ ap (λ r. cond (p v) (Some v) r) (find_kept p q h vs)

pub own_var : (coef : ℕ → ℤ) (vs : List ℕ) → map (λ t. t.var.0) (map (λ v. term v (coef v)) vs) ≡ vs
own_var coef [] = refl
own_var coef (v ∷ vs) = ap (λ l. v ∷ l) (own_var coef vs)

-- terms over chosen numbers of a range, each with its coefficient
abbrev pub chosen_terms : (ℕ → Bool) → (ℕ → ℤ) → ℕ → ℕ → List Term
chosen_terms q coef a n = map (λ v. term v (coef v)) (filter q (range_with_len a n))

pub find_chosen : (p q : ℕ → Bool) (coef : ℕ → ℤ) (n k : ℕ) → ((v : ℕ) → q v ≡ false → p v ≡ false) → k < n → ((j : ℕ) → j < k → p j ≡ false) → p k ≡ true → find p (map (λ t. t.var.0) (chosen_terms q coef 0 n)) ≡ Some k
find_chosen p q coef n k out short none passes =
    ap (find p) (own_var coef (filter q (range_with_len 0 n))) ∙ find_kept p q out (range_with_len 0 n) ∙ find_from p 0 n k (omega arith) (omega arith) (λ j low high. none j high) passes

pub none_chosen : (p q : ℕ → Bool) (coef : ℕ → ℤ) (n : ℕ) → ((v : ℕ) → q v ≡ false → p v ≡ false) → ((j : ℕ) → j < n → p j ≡ false) → find p (map (λ t. t.var.0) (chosen_terms q coef 0 n)) ≡ None
none_chosen p q coef n out none =
    ap (find p) (own_var coef (filter q (range_with_len 0 n))) ∙ find_kept p q out (range_with_len 0 n) ∙ none_from p 0 n (λ j low high. none j (omega arith))

after_one : (w : ℕ) (b : Bool) (t : Term) (terms : List Term) → w < t.var.0 → After w terms → After w (cond b (t ∷ terms) terms)
after_one w true t terms h rest = (h, rest)
after_one w false t terms h rest = rest

chosen_cons : (q : ℕ → Bool) (coef : ℕ → ℤ) (b : Bool) (v : ℕ) (vs : List ℕ) → map (λ u. term u (coef u)) (cond b (v ∷ vs) vs) ≡ cond b (term v (coef v) ∷ map (λ u. term u (coef u)) vs) (map (λ u. term u (coef u)) vs)
chosen_cons q coef true v vs = refl
chosen_cons q coef false v vs = refl

after_chosen : (q : ℕ → Bool) (coef : ℕ → ℤ) (w a n : ℕ) → w < a → After w (chosen_terms q coef a n)
after_chosen q coef w a zero h = tt
after_chosen q coef w a (suc n) h =
    rw (chosen_cons q coef (q a) a (filter q (range_with_len (a + 1) n))) (after_one w (q a) (term a (coef a)) (chosen_terms q coef (a + 1) n) h (after_chosen q coef w (a + 1) n (omega arith)))

rising_one : (b : Bool) (t : Term) (terms : List Term) → After t.var.0 terms → Rising terms → Rising (cond b (t ∷ terms) terms)
rising_one true t terms h rest = (h, rest)
rising_one false t terms h rest = rest

pub rising_chosen : (q : ℕ → Bool) (coef : ℕ → ℤ) (a n : ℕ) → Rising (chosen_terms q coef a n)
rising_chosen q coef a zero = tt
rising_chosen q coef a (suc n) =
    rw (chosen_cons q coef (q a) a (filter q (range_with_len (a + 1) n))) (rising_one (q a) (term a (coef a)) (chosen_terms q coef (a + 1) n) (after_chosen q coef a (a + 1) n (omega arith)) (rising_chosen q coef (a + 1) n))

-- their coefficients: those of the chosen numbers, and 0 at all others
coef_cond_here : (b : Bool) (t : Term) (terms : List Term) (v : ℕ) → t.var.0 ≡ v → After v terms → coef_at (cond b (t ∷ terms) terms) v ≡ (if b then t.coef else pos 0)
coef_cond_here true t terms v e h = coef_head t terms v e h
coef_cond_here false t terms v e h = coef_after terms v h

coef_cond_other : (b : Bool) (t : Term) (terms : List Term) (v : ℕ) → (t.var.0 ≡ v → ⊥) → coef_at (cond b (t ∷ terms) terms) v ≡ coef_at terms v
coef_cond_other true t terms v ne = coef_tail t terms v ne
coef_cond_other false t terms v ne = refl

pub coef_chosen : (q : ℕ → Bool) (coef : ℕ → ℤ) (v a n : ℕ) → a ≤ v → v < a + n → coef_at (chosen_terms q coef a n) v ≡ (if q v then coef v else pos 0)
coef_chosen q coef v a zero low high = absurd (omega arith)
coef_chosen q coef v a (suc n) low high =
    ap (λ l. coef_at l v) (chosen_cons q coef (q a) a (filter q (range_with_len (a + 1) n)))
    ∙ elim (eqb_tells a v) [
      | inl w ↦
          let later : v < a + 1 = omega (arith, w.1) in
          coef_cond_here (q a) (term a (coef a)) (chosen_terms q coef (a + 1) n) v w.1 (after_chosen q coef v (a + 1) n later) ∙ ap (λ u. if q u then coef u else pos 0) w.1
      | inr w ↦
          let after : a + 1 ≤ v = omega (arith, low, w.1) in
          coef_cond_other (q a) (term a (coef a)) (chosen_terms q coef (a + 1) n) v w.1 ∙ coef_chosen q coef v (a + 1) n after (omega arith)
    ]

-- collected terms are chosen terms
filter_own : (p : Term → Bool) (coef : ℕ → ℤ) (b : Bool) (v : ℕ) (vs : List ℕ) → cond b (term v (coef v) ∷ map (λ u. term u (coef u)) vs) (map (λ u. term u (coef u)) vs) ≡ map (λ u. term u (coef u)) (cond b (v ∷ vs) vs)
filter_own p coef true v vs = refl
filter_own p coef false v vs = refl

collected_from : (coef : ℕ → ℤ) (vs : List ℕ) → filter (λ t. is_nonzero t.coef) (map (λ v. term v (coef v)) vs) ≡ map (λ v. term v (coef v)) (filter (λ v. is_nonzero (coef v)) vs)
collected_from coef [] = refl
collected_from coef (v ∷ vs) =
    ap (λ l. cond (is_nonzero (coef v)) (term v (coef v) ∷ l) l) (collected_from coef vs) ∙ filter_own (λ t. is_nonzero t.coef) coef (is_nonzero (coef v)) v (filter (λ u. is_nonzero (coef u)) vs)

pub collected_is : (n : ℕ) (terms : List Term) → collected n terms ≡ chosen_terms (λ v. is_nonzero (coef_at terms v)) (coef_at terms) 0 n
collected_is n terms = collected_from (coef_at terms) (range_with_len 0 n)

pub rising_collected : (n : ℕ) (terms : List Term) → Rising (collected n terms)
rising_collected n terms = rw (collected_is n terms) (rising_chosen (λ v. is_nonzero (coef_at terms v)) (coef_at terms) 0 n)

-- a number that isn't chosen has no coefficient
coef_left_out_one : (b c : Bool) (t : Term) (terms : List Term) (v : ℕ) → t.var.0 ≡ v → After v terms → b ≡ false → coef_at (cond b (t ∷ terms) terms) v ≡ pos 0
coef_left_out_one b c t terms v e h out = coef_cond_here b t terms v e h ∙ ap (λ d. if d then t.coef else pos 0) out

pub coef_left_out : (q : ℕ → Bool) (coef : ℕ → ℤ) (v a n : ℕ) → q v ≡ false → coef_at (chosen_terms q coef a n) v ≡ pos 0
coef_left_out q coef v a zero out = refl
coef_left_out q coef v a (suc n) out =
    ap (λ l. coef_at l v) (chosen_cons q coef (q a) a (filter q (range_with_len (a + 1) n)))
    ∙ elim (eqb_tells a v) [
      | inl w ↦
          let later : v < a + 1 = omega (arith, w.1) in
          coef_left_out_one (q a) true (term a (coef a)) (chosen_terms q coef (a + 1) n) v w.1 (after_chosen q coef v (a + 1) n later) (ap q w.1 ∙ out)
      | inr w ↦ coef_cond_other (q a) (term a (coef a)) (chosen_terms q coef (a + 1) n) v w.1 ∙ coef_left_out q coef v (a + 1) n out
    ]

-- a row that stands has room, and doesn't force a variable without a coefficient
room_from : (g l : ℤ) → l ≤ℤ g → pos 0 ≤ℤ (g -ℤ l)
room_from g l h = omega (arith, ints)

pub room_is_some : (row : RowParts) (cube : CubeParts) → is_refuted row cube ≡ false → pos 0 ≤ℤ room_of row cube
room_is_some row cube h = let above = above_least (greatest_activity row cube) row.least h in room_from (greatest_activity row cube) row.least above

none_at_zero : (fixed : Bool) (r : ℤ) → pos 0 ≤ℤ r → None ≡ forced_value fixed (pos 0) r
none_at_zero true r h = refl
none_at_zero false r h = let e : int_lt r (pos 0) ≡ false = grind (arith, ints) in sym (ap (λ b. if b then Some true else (if b then Some false else None)) e)

pub idle_at_zero : (row : RowParts) (cube : CubeParts) (v : ℕ) → Rising row.terms → IsCube cube → is_refuted row cube ≡ false → coef_at row.terms v ≡ pos 0 → forces_any row cube v ≡ false
idle_at_zero row cube v h k open_yet coef = sym (tells row cube v (pos 0) None h k open_yet coef (none_at_zero (has cube.fixed v) (room_of row cube) (room_is_some row cube open_yet))).0

-- a refuted row forces nothing
find_none : (p : ℕ → Bool) → ((v : ℕ) → p v ≡ false) → (vs : List ℕ) → find p vs ≡ None
find_none p none [] = refl
find_none p none (v ∷ vs) = ap (λ b. cond b (Some v) (find p vs)) (none v) ∙ find_none p none vs

pub refuted_none : (row : RowParts) (cube : CubeParts) → is_refuted row cube ≡ true → None ≡ least_forced row cube
refuted_none row cube h =
    sym (forced_not row cube (find_none (forces_any row cube)
    (λ v. ap (λ b. if b then true else forces row cube v false) (forces_none row cube v true h) ∙ forces_none row cube v false h) (map (λ t. t.var.0) row.terms)))

refuted_from : (g l : ℤ) → int_lt (g -ℤ l) (pos 0) ≡ true → int_lt g l ≡ true
refuted_from g l h = let e : (g -ℤ l) <ℤ pos 0 = grind (arith, ints) in let f : g <ℤ l = omega (arith, ints) in grind (arith, ints)

refuted_without_room : (row : RowParts) (cube : CubeParts) (room : ℤ) → room ≡ room_of row cube → int_lt room (pos 0) ≡ true → is_refuted row cube ≡ true
refuted_without_room row cube room e h = refuted_from (greatest_activity row cube) row.least (sym (ap (λ z. int_lt z (pos 0)) e) ∙ h)

pub roomless : (row : RowParts) (cube : CubeParts) (room : ℤ) → room ≡ room_of row cube → int_lt room (pos 0) ≡ true → None ≡ least_forced row cube
roomless row cube room e h = refuted_none row cube (refuted_without_room row cube room e h)
