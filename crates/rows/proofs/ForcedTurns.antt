-- The turns of the loops that look for the least variable that a row forces.
use Rattle.std.proofs.Common.{◌≡◌, ℕ, zero, suc, ◌+◌, ◌≤◌, ◌<◌, ◌^◌, ℤ, pos, negsuc, neg_ℤ, ◌-ℤ◌, ◌≤ℤ◌, ◌<ℤ◌, to_z, of_z, FitsSigned, Bool, true, false, not, ◌&&◌, ◌||◌, int_lt, List, map, find, take, length, get_or, Option, Some, None, is_some, refl, sym, ap, ◌∙◌, arith, if◌then◌else◌}
use Rattle.std.specs.List.{All}
use Rattle.std.specs.Int.{w128}
use Rattle.std.proofs.lemmas.Int.{ints, to_z-of_z}
use Rattle.std.proofs.lemmas.List.{take_all}
use Rattle.arch_model.specs.Set.{has, union, minus, members_below}
use Rattle.arch_model.specs.Parts.{LibraryParts}
use Rattle.arch_model.specs.Member.{member_count}
use Rattle.arch_model.specs.declared.limits.TheConstants.{MEMBERS}
use Rattle.arch_model.proofs.SetLaws.{has-union, has-minus}
use Rattle.rows.specs.declared.row.Term.{Term}
use Rattle.rows.specs.Parts.{RowParts, CutParts, CubeParts}
use Rattle.rows.specs.Row.{IsRow, IsSized, coef_at, is_nonzero, cut_coef, row_of_cut}
use Rattle.rows.specs.Cube.{IsCube}
use Rattle.rows.specs.Activity.{is_refuted, forces, least_forced}
use Rattle.rows.specs.Inner.Room.{forced_value, room_of}
use Rattle.rows.proofs.Activities.{blank, plain, minus_is}
use Rattle.rows.specs.BaseRows.{cost_row_of, cost_terms, member_cost_of}
use Rattle.rows.proofs.Costs.{cost_coef}
use Rattle.rows.proofs.WhatIsForced.{Rising, rising_from, forces_any, tells, coef_own, find_hit, find_past, forced_at, forced_not, find_chosen, none_chosen, collected_is, rising_collected, rising_chosen, coef_chosen, coef_left_out, idle_at_zero}

abbrev var_of : Term → ℕ
var_of t = t.var.0

-- what a turn of the loop over a row's terms learns
row_turn : (row : RowParts) (cube : CubeParts) (xs : List Term) (i : ℕ) (room : ℤ) (fixed : Bool) (r : Option Bool) → xs ≡ row.terms → IsRow row → IsCube cube → is_refuted row cube ≡ false
    → room ≡ room_of row cube → FitsSigned w128 room → i < length xs → fixed ≡ has cube.fixed (get_or xs i blank).var.0
    → r ≡ forced_value fixed (to_z w128 (of_z w128 (get_or xs i blank).coef)) (to_z w128 (of_z w128 room))
    → (is_some r ≡ forces_any row cube (get_or xs i blank).var.0) × ((b : Bool) → r ≡ Some b → forces row cube (get_or xs i blank).var.0 true ≡ b)
row_turn row cube xs i room fixed r same ok k stands is_room fits short is e =
    let rising : Rising row.terms = rising_from row.terms ok.ascending in
    let rising_xs : Rising xs = rw same rising in
    let sized : All (λ t. IsSized t.coef) xs = rw same ok.sized in
    let v : ℕ = (get_or xs i blank).var.0 in
    let a : ℤ = (get_or xs i blank).coef in
    tells row cube v a r rising k stands (ap (λ l. coef_at l v) (sym same) ∙ coef_own xs i blank rising_xs short)
    (e ∙ ap (λ z. forced_value fixed z (to_z w128 (of_z w128 room))) (plain a (sized i blank short)) ∙ ap (forced_value fixed a) (to_z-of_z w128 room fits ∙ is_room) ∙ ap (λ o. forced_value o a (room_of row cube)) is)

pub row_hit : (row : RowParts) (cube : CubeParts) (xs : List Term) (i : ℕ) (room : ℤ) (fixed : Bool) (r : Option Bool) (b : Bool) → xs ≡ row.terms → IsRow row → IsCube cube → is_refuted row cube ≡ false
    → room ≡ room_of row cube → FitsSigned w128 room → i < length xs → fixed ≡ has cube.fixed (get_or xs i blank).var.0
    → r ≡ forced_value fixed (to_z w128 (of_z w128 (get_or xs i blank).coef)) (to_z w128 (of_z w128 room))
    → find (forces_any row cube) (map (λ t. t.var.0) (take i xs)) ≡ None → r ≡ Some b → Some ((get_or xs i blank).var.0, b) ≡ least_forced row cube
row_hit row cube xs i room fixed r b same ok k stands is_room fits short is e before some =
    let w = row_turn row cube xs i room fixed r same ok k stands is_room fits short is e in
    let passes : forces_any row cube (get_or xs i blank).var.0 ≡ true = sym w.0 ∙ ap is_some some in
    sym (forced_at row cube (get_or xs i blank).var.0 b
    (ap (λ l. find (forces_any row cube) (map (λ t. t.var.0) l)) (sym same) ∙ find_hit (forces_any row cube) var_of xs i blank short before passes) (w.1 b some))

pub row_past : (row : RowParts) (cube : CubeParts) (xs : List Term) (i : ℕ) (room : ℤ) (fixed : Bool) (r : Option Bool) → xs ≡ row.terms → IsRow row → IsCube cube → is_refuted row cube ≡ false
    → room ≡ room_of row cube → FitsSigned w128 room → i < length xs → fixed ≡ has cube.fixed (get_or xs i blank).var.0
    → r ≡ forced_value fixed (to_z w128 (of_z w128 (get_or xs i blank).coef)) (to_z w128 (of_z w128 room))
    → find (forces_any row cube) (map (λ t. t.var.0) (take i xs)) ≡ None → r ≡ None → find (forces_any row cube) (map (λ t. t.var.0) (take (i + 1) xs)) ≡ None
row_past row cube xs i room fixed r same ok k stands is_room fits short is e before none =
    let w = row_turn row cube xs i room fixed r same ok k stands is_room fits short is e in
    find_past (forces_any row cube) var_of xs i blank short before (sym w.0 ∙ ap is_some none)

pub row_end : (row : RowParts) (cube : CubeParts) (xs : List Term) (i : ℕ) → xs ≡ row.terms → length xs ≤ i → find (forces_any row cube) (map (λ t. t.var.0) (take i xs)) ≡ None → None ≡ least_forced row cube
row_end row cube xs i same far none =
    sym (forced_not row cube (ap (λ l. find (forces_any row cube) (map (λ t. t.var.0) l)) (sym same) ∙ sym (ap (λ l. find (forces_any row cube) (map (λ t. t.var.0) l)) (take_all i xs far)) ∙ none))

-- the cost row: its coefficients, and what a turn of the loop over the members learns
nonzero_or : (a : ℤ) → (if is_nonzero a then a else pos 0) ≡ a
nonzero_or (pos zero) = refl
nonzero_or (pos (suc n)) = refl
nonzero_or (negsuc n) = refl

pub cost_coef_at : (lib : LibraryParts) (u v : ℕ) → v < member_count lib → coef_at (cost_row_of lib u).terms v ≡ neg_ℤ (pos (member_cost_of lib v))
cost_coef_at lib u v short =
    ap (λ l. coef_at l v) (collected_is (member_count lib) (cost_terms lib))
    ∙ coef_chosen (λ w. is_nonzero (coef_at (cost_terms lib) w)) (coef_at (cost_terms lib)) v 0 (member_count lib) (omega arith) (omega arith)
    ∙ nonzero_or (coef_at (cost_terms lib) v) ∙ cost_coef lib v

cost_left_out : (lib : LibraryParts) (u : ℕ) (cube : CubeParts) → IsCube cube → is_refuted (cost_row_of lib u) cube ≡ false
    → (v : ℕ) → is_nonzero (coef_at (cost_terms lib) v) ≡ false → forces_any (cost_row_of lib u) cube v ≡ false
cost_left_out lib u cube k stands v out =
    idle_at_zero (cost_row_of lib u) cube v (rising_collected (member_count lib) (cost_terms lib)) k stands
    (ap (λ l. coef_at l v) (collected_is (member_count lib) (cost_terms lib)) ∙ coef_left_out (λ w. is_nonzero (coef_at (cost_terms lib) w)) (coef_at (cost_terms lib)) v 0 (member_count lib) out)

cost_tells : (lib : LibraryParts) (u : ℕ) (cube : CubeParts) (v : ℕ) (room : ℤ) (r : Option Bool) → IsCube cube → is_refuted (cost_row_of lib u) cube ≡ false → room ≡ room_of (cost_row_of lib u) cube → v < member_count lib
    → r ≡ forced_value (has cube.fixed v) (neg_ℤ (pos (member_cost_of lib v))) room
    → (is_some r ≡ forces_any (cost_row_of lib u) cube v) × ((b : Bool) → r ≡ Some b → forces (cost_row_of lib u) cube v true ≡ b)
cost_tells lib u cube v room r k stands is_room short e =
    tells (cost_row_of lib u) cube v (neg_ℤ (pos (member_cost_of lib v))) r (rising_collected (member_count lib) (cost_terms lib)) k stands (cost_coef_at lib u v short)
    (e ∙ ap (forced_value (has cube.fixed v) (neg_ℤ (pos (member_cost_of lib v)))) is_room)

pub cost_hit : (lib : LibraryParts) (u : ℕ) (cube : CubeParts) (i n : ℕ) (room : ℤ) (fixed : Bool) (r : Option Bool) (b : Bool) → IsCube cube → FitsSigned w128 room → room ≡ room_of (cost_row_of lib u) cube
    → is_refuted (cost_row_of lib u) cube ≡ false → i < member_count lib → n ≤ 10 ^ 12 → n ≡ member_cost_of lib i → fixed ≡ has cube.fixed i
    → r ≡ forced_value fixed (to_z w128 (of_z w128 (pos 0 -ℤ to_z w128 n))) (to_z w128 (of_z w128 room))
    → ((j : ℕ) → j < i → None ≡ forced_value (has cube.fixed j) (neg_ℤ (pos (member_cost_of lib j))) (to_z w128 (of_z w128 room)))
    → r ≡ Some b → Some (i, b) ≡ least_forced (cost_row_of lib u) cube
cost_hit lib u cube i n room fixed r b k fits is_room stands short small cost is e before some =
    let plain_room : to_z w128 (of_z w128 room) ≡ room_of (cost_row_of lib u) cube = to_z-of_z w128 room fits ∙ is_room in
    let here : r ≡ forced_value (has cube.fixed i) (neg_ℤ (pos (member_cost_of lib i))) (to_z w128 (of_z w128 room)) =
    e ∙ ap (λ z. forced_value fixed z (to_z w128 (of_z w128 room))) (minus_is n small ∙ ap (λ m. neg_ℤ (pos m)) cost) ∙ ap (λ f. forced_value f (neg_ℤ (pos (member_cost_of lib i))) (to_z w128 (of_z w128 room))) is in
    let w = cost_tells lib u cube i (to_z w128 (of_z w128 room)) r k stands plain_room short here in
    let passes : forces_any (cost_row_of lib u) cube i ≡ true = sym w.0 ∙ ap is_some some in
    sym (forced_at (cost_row_of lib u) cube i b
    (ap (λ l. find (forces_any (cost_row_of lib u) cube) (map (λ t. t.var.0) l)) (collected_is (member_count lib) (cost_terms lib))
    ∙ find_chosen (forces_any (cost_row_of lib u) cube) (λ v. is_nonzero (coef_at (cost_terms lib) v)) (coef_at (cost_terms lib)) (member_count lib) i (cost_left_out lib u cube k stands) short
    (λ j lt. let near : j < member_count lib = omega arith in sym (cost_tells lib u cube j (to_z w128 (of_z w128 room)) None k stands plain_room near (before j lt)).0) passes)
    (w.1 b some))

pub cost_end : (lib : LibraryParts) (u : ℕ) (cube : CubeParts) (i : ℕ) (room : ℤ) → IsCube cube → FitsSigned w128 room → room ≡ room_of (cost_row_of lib u) cube → is_refuted (cost_row_of lib u) cube ≡ false → member_count lib ≤ i
    → ((j : ℕ) → j < i → None ≡ forced_value (has cube.fixed j) (neg_ℤ (pos (member_cost_of lib j))) (to_z w128 (of_z w128 room)))
    → None ≡ least_forced (cost_row_of lib u) cube
cost_end lib u cube i room k fits is_room stands far before =
    let plain_room : to_z w128 (of_z w128 room) ≡ room_of (cost_row_of lib u) cube = to_z-of_z w128 room fits ∙ is_room in
    sym (forced_not (cost_row_of lib u) cube
    (ap (λ l. find (forces_any (cost_row_of lib u) cube) (map (λ t. t.var.0) l)) (collected_is (member_count lib) (cost_terms lib))
    ∙ none_chosen (forces_any (cost_row_of lib u) cube) (λ v. is_nonzero (coef_at (cost_terms lib) v)) (coef_at (cost_terms lib)) (member_count lib) (cost_left_out lib u cube k stands)
    (λ j near. let lt : j < i = omega arith in sym (cost_tells lib u cube j (to_z w128 (of_z w128 room)) None k stands plain_room near (before j lt)).0)))

-- a cut's row
cut_none_by : (p m : Bool) → (p || m) ≡ false → (if p then pos 1 else (if m then negsuc 0 else pos 0)) ≡ pos 0
cut_none_by true m h = absurd (let e : true ≡ false = h in cc)
cut_none_by false true h = absurd (let e : true ≡ false = h in cc)
cut_none_by false false h = refl

pub cut_coef_none : (cut : CutParts) (v : ℕ) → has (union cut.plus cut.minus) v ≡ false → cut_coef cut v ≡ pos 0
cut_coef_none cut v out = cut_none_by (has cut.plus v) (has cut.minus v) (sym (has-union cut.plus cut.minus v) ∙ out)

cut_coef_by : (b : Bool) (a : ℤ) → (b ≡ false → a ≡ pos 0) → (if b then a else pos 0) ≡ a
cut_coef_by true a h = refl
cut_coef_by false a h = sym (h refl)

pub cut_coef_at : (cut : CutParts) (v : ℕ) → v < MEMBERS → coef_at (row_of_cut cut).terms v ≡ cut_coef cut v
unfolding members_below
cut_coef_at cut v short =
    coef_chosen (has (union cut.plus cut.minus)) (cut_coef cut) v 0 MEMBERS (omega arith) (omega arith)
    ∙ cut_coef_by (has (union cut.plus cut.minus) v) (cut_coef cut v) (cut_coef_none cut v)

pub cut_rising : (cut : CutParts) → Rising (row_of_cut cut).terms
unfolding members_below
cut_rising cut = rising_chosen (has (union cut.plus cut.minus)) (cut_coef cut) 0 MEMBERS

cut_left_out : (cut : CutParts) (cube : CubeParts) → IsCube cube → is_refuted (row_of_cut cut) cube ≡ false → (v : ℕ) → has (union cut.plus cut.minus) v ≡ false → forces_any (row_of_cut cut) cube v ≡ false
unfolding members_below
cut_left_out cut cube k stands v out =
    idle_at_zero (row_of_cut cut) cube v (cut_rising cut) k stands (coef_left_out (has (union cut.plus cut.minus)) (cut_coef cut) v 0 MEMBERS out)

cut_tells : (cut : CutParts) (cube : CubeParts) (v : ℕ) (r : Option Bool) → IsCube cube → is_refuted (row_of_cut cut) cube ≡ false → v < MEMBERS
    → r ≡ forced_value (has cube.fixed v) (cut_coef cut v) (room_of (row_of_cut cut) cube)
    → (is_some r ≡ forces_any (row_of_cut cut) cube v) × ((b : Bool) → r ≡ Some b → forces (row_of_cut cut) cube v true ≡ b)
cut_tells cut cube v r k stands short e = tells (row_of_cut cut) cube v (cut_coef cut v) r (cut_rising cut) k stands (cut_coef_at cut v short) e

pub cut_idle : (cut : CutParts) (cube : CubeParts) → IsCube cube → is_refuted (row_of_cut cut) cube ≡ false
    → ((v : ℕ) → v < MEMBERS → None ≡ forced_value (has cube.fixed v) (cut_coef cut v) (room_of (row_of_cut cut) cube)) → None ≡ least_forced (row_of_cut cut) cube
unfolding members_below
cut_idle cut cube k stands none =
    sym (forced_not (row_of_cut cut) cube
    (none_chosen (forces_any (row_of_cut cut) cube) (has (union cut.plus cut.minus)) (cut_coef cut) MEMBERS (cut_left_out cut cube k stands)
    (λ j near. sym (cut_tells cut cube j None k stands near (none j near)).0)))

pub cut_first : (cut : CutParts) (cube : CubeParts) (v : ℕ) (b : Bool) → IsCube cube → is_refuted (row_of_cut cut) cube ≡ false → v < MEMBERS
    → Some b ≡ forced_value (has cube.fixed v) (cut_coef cut v) (room_of (row_of_cut cut) cube)
    → ((j : ℕ) → j < v → None ≡ forced_value (has cube.fixed j) (cut_coef cut j) (room_of (row_of_cut cut) cube)) → Some (v, b) ≡ least_forced (row_of_cut cut) cube
unfolding members_below
cut_first cut cube v b k stands short some none =
    let w = cut_tells cut cube v (Some b) k stands short some in
    sym (forced_at (row_of_cut cut) cube v b
    (find_chosen (forces_any (row_of_cut cut) cube) (has (union cut.plus cut.minus)) (cut_coef cut) MEMBERS v (cut_left_out cut cube k stands) short
    (λ j lt. let near : j < MEMBERS = omega arith in sym (cut_tells cut cube j None k stands near (none j lt)).0) (sym w.0))
    (w.1 b refl))

-- with room for 1 no variable of a cut is forced; without room each free one is
pub roomy : (fixed p m : Bool) (r : ℤ) → pos 0 <ℤ r → None ≡ forced_value fixed (if p then pos 1 else (if m then negsuc 0 else pos 0)) r
roomy true p m r h = refl
roomy false true m r h =
    let e : int_lt r (pos 1) ≡ false = grind (arith, ints) in
    let f : int_lt r (negsuc 0) ≡ false = grind (arith, ints) in
    sym (ap (λ x. if x then Some true else (if int_lt r (negsuc 0) then Some false else None)) e ∙ ap (λ y. if y then Some false else None) f)
roomy false false true r h =
    let e : int_lt r (negsuc 0) ≡ false = grind (arith, ints) in
    let f : int_lt r (pos 1) ≡ false = grind (arith, ints) in
    sym (ap (λ x. if x then Some true else (if int_lt r (pos 1) then Some false else None)) e ∙ ap (λ y. if y then Some false else None) f)
roomy false false false r h =
    let e : int_lt r (pos 0) ≡ false = grind (arith, ints) in
    sym (ap (λ x. if x then Some true else (if x then Some false else None)) e)

pub tight_none : (fixed p m : Bool) (r : ℤ) → r ≡ pos 0 → ((p || m) && not fixed) ≡ false → None ≡ forced_value fixed (if p then pos 1 else (if m then negsuc 0 else pos 0)) r
tight_none true p m r e h = refl
tight_none false true m r e h = absurd (let g : true ≡ false = h in cc)
tight_none false false true r e h = absurd (let g : true ≡ false = h in cc)
tight_none false false false r e h = rw e refl

pub tight_some : (fixed p m : Bool) (r : ℤ) → r ≡ pos 0 → ((p || m) && not fixed) ≡ true → Some p ≡ forced_value fixed (if p then pos 1 else (if m then negsuc 0 else pos 0)) r
tight_some true true m r e h = absurd (let g : false ≡ true = h in cc)
tight_some true false true r e h = absurd (let g : false ≡ true = h in cc)
tight_some true false false r e h = absurd (let g : false ≡ true = h in cc)
tight_some false true m r e h = rw e refl
tight_some false false true r e h = rw e refl
tight_some false false false r e h = absurd (let g : false ≡ true = h in cc)

pub lt_from : (a b : ℤ) → int_lt a b ≡ true → a <ℤ b
lt_from a b h = grind (arith, ints)

pub zero_room : (r : ℤ) → int_lt (pos 0) r ≡ false → pos 0 ≤ℤ r → r ≡ pos 0
zero_room r h k = let low : r ≤ℤ pos 0 = grind (arith, ints) in omega (arith, ints)

-- the variables of a cut that are free
pub free_of_cut : (cut : CutParts) (cube : CubeParts) (v : ℕ) → has (minus (union cut.plus cut.minus) cube.fixed) v ≡ ((has cut.plus v || has cut.minus v) && not (has cube.fixed v))
free_of_cut cut cube v = has-minus (union cut.plus cut.minus) cube.fixed v ∙ ap (λ b. b && not (has cube.fixed v)) (has-union cut.plus cut.minus v)
