-- Combinations of rows: sums of coefficients and of leasts.
use Rattle.std.proofs.Common.{◌≡◌, ℕ, zero, suc, ◌+◌, ◌*◌, ◌^◌, ◌≤◌, ◌<◌, ℤ, pos, ◌+ℤ◌, ◌*ℤ◌, unsigned_abs, Bool, true, false, nat_eq, List, [], ◌∷◌, map, flat_map, take, length, get_or, refl, sym, ap, ◌∙◌, arith, Option, Some, None, is_some, IfSome, unwrap_or, FitsSigned, to_z, of_z, if◌then◌else◌}
use Rattle.std.specs.Int.{w128}
use Rattle.std.proofs.Math.IntN.{suc_ℤ-*ℤ, zero-*ℤ, *ℤ-zero}
use Rattle.std.proofs.Math.Nat.{mul-le-mul_right}
use Rattle.std.proofs.lemmas.Int.{ints, to_z-of_z, to_z_pos, fits_signed_from_abs, fits_signed_mul, unsigned_abs-mul}
use Rattle.std.specs.List.{range_with_len}
use Rattle.std.proofs.lemmas.List.{take_all}
use Rattle.rows.specs.declared.row.Term.{Term}
use Rattle.rows.specs.declared.known.Pair.{Pair}
use Rattle.rows.specs.Parts.{RowParts, CubeParts, KnownParts}
use Rattle.rows.specs.Row.{int_sum_by, term, coef_at}
use Rattle.rows.specs.Reason.{row_of_pair, terms_times, empty_row, AllThere, combination_of}
use Rattle.rows.specs.Known.{row_at, variables}
use Rattle.rows.specs.Cube.{value_at}
use Rattle.rows.specs.declared.activity.End.TheVariants.{Greatest}
use Rattle.rows.specs.Activity.{best_of, greatest_activity}
use Rattle.rows.proofs.IntSums.{int_sum_by-append, sized_sum}
use Rattle.rows.proofs.Activities.{plain_to, best_of-sized}
use Rattle.rows.proofs.Costs.{activity_collected}
use Rattle.rows.specs.declared.known.RowRef.TheVariants.{Base}

regroup : (x y a b : ℤ) → (x +ℤ y) +ℤ (a +ℤ b) ≡ (x +ℤ a) +ℤ (y +ℤ b)
regroup x y a b = omega (arith, ints)

-- a sum taken k times
pub times_add : (k : ℕ) (a b : ℤ) → pos k *ℤ (a +ℤ b) ≡ (pos k *ℤ a) +ℤ (pos k *ℤ b)
times_add zero a b = zero-*ℤ (a +ℤ b) ∙ sym (ap (λ z. z +ℤ (pos zero *ℤ b)) (zero-*ℤ a) ∙ ap (λ z. pos 0 +ℤ z) (zero-*ℤ b))
times_add (suc n) a b =
    let both : pos (suc n) *ℤ (a +ℤ b) ≡ (pos n *ℤ (a +ℤ b)) +ℤ (a +ℤ b) = suc_ℤ-*ℤ (pos n) (a +ℤ b) in
    let left : pos (suc n) *ℤ a ≡ (pos n *ℤ a) +ℤ a = suc_ℤ-*ℤ (pos n) a in
    let right : pos (suc n) *ℤ b ≡ (pos n *ℤ b) +ℤ b = suc_ℤ-*ℤ (pos n) b in
    both ∙ ap (λ z. z +ℤ (a +ℤ b)) (times_add n a b) ∙ regroup (pos n *ℤ a) (pos n *ℤ b) a b ∙ sym (ap (λ z. z +ℤ (pos (suc n) *ℤ b)) left ∙ ap (λ z. ((pos n *ℤ a) +ℤ a) +ℤ z) right)

-- the coefficient of a row that is taken k times
times_one : (k : ℕ) (b : Bool) (a : ℤ) → (if b then pos k *ℤ a else pos 0) ≡ pos k *ℤ (if b then a else pos 0)
times_one k true a = refl
times_one k false a = sym (*ℤ-zero (pos k))

coef_times : (k : ℕ) (terms : List Term) (v : ℕ) → coef_at (map (λ t. term t.var.0 (pos k *ℤ t.coef)) terms) v ≡ pos k *ℤ coef_at terms v
coef_times k [] v = sym (*ℤ-zero (pos k))
coef_times k (t ∷ terms) v =
    ap (λ z. z +ℤ coef_at (map (λ u. term u.var.0 (pos k *ℤ u.coef)) terms) v) (times_one k (nat_eq t.var.0 v) t.coef)
    ∙ ap (λ z. (pos k *ℤ (if nat_eq t.var.0 v then t.coef else pos 0)) +ℤ z) (coef_times k terms v)
    ∙ sym (times_add k (if nat_eq t.var.0 v then t.coef else pos 0) (coef_at terms v))

-- the coefficients of a combination
abbrev pub pair_coef : KnownParts → ℕ → Pair → ℤ
pair_coef known v p = pos p.times *ℤ coef_at (row_of_pair known p).terms v

abbrev pub pair_least : KnownParts → Pair → ℤ
pair_least known p = pos p.times *ℤ (row_of_pair known p).least

pub combined : (known : KnownParts) (pairs : List Pair) (v : ℕ) → coef_at (flat_map (λ p. terms_times p.times (row_of_pair known p)) pairs) v ≡ int_sum_by (pair_coef known v) pairs
combined known [] v = refl
combined known (p ∷ pairs) v =
    int_sum_by-append (λ t. if nat_eq t.var.0 v then t.coef else pos 0) (terms_times p.times (row_of_pair known p)) (flat_map (λ q. terms_times q.times (row_of_pair known q)) pairs)
    ∙ ap (λ z. z +ℤ coef_at (flat_map (λ q. terms_times q.times (row_of_pair known q)) pairs) v) (coef_times p.times (row_of_pair known p).terms v)
    ∙ ap (λ z. pair_coef known v p +ℤ z) (combined known pairs v)

one_more : (i m : ℕ) → (i + 1) * m ≡ i * m + m
one_more i m = grind arith

-- a loop that adds up numbers of at most m in absolute value
pub adds_to : (total r : ℤ) (i n m : ℕ) → unsigned_abs total ≤ i * m → unsigned_abs r ≤ m → i < n → unsigned_abs (total +ℤ r) ≤ (i + 1) * m
adds_to total r i n m h k below = let size = sized_sum total r (i * m) m h k in omega (arith, size, one_more i m)

pub adds_fit : (total r : ℤ) (i n m : ℕ) → unsigned_abs total ≤ i * m → unsigned_abs r ≤ m → i < n → n * m < 2 ^ 127 → FitsSigned w128 (total +ℤ r)
adds_fit total r i n m h k below few =
    let size = adds_to total r i n m h k below in
    let up : (i + 1) * m ≤ n * m = mul-le-mul_right m (omega arith) in
    fits_signed_from_abs w128 (total +ℤ r) (omega (arith, size, up, few))

pub adds_is : (total r : ℤ) (i n m : ℕ) → unsigned_abs total ≤ i * m → unsigned_abs r ≤ m → m < 2 ^ 127 → i < n → n * m < 2 ^ 127 → to_z w128 (of_z w128 (total +ℤ to_z w128 (of_z w128 r))) ≡ total +ℤ r
adds_is total r i n m h k fits below few =
    ap (λ z. to_z w128 (of_z w128 (total +ℤ z))) (to_z-of_z w128 r (fits_signed_from_abs w128 r (omega (arith, k, fits)))) ∙ to_z-of_z w128 (total +ℤ r) (adds_fit total r i n m h k below few)

-- what a variable adds to the greatest activity of a combination
abbrev pub combined_best : KnownParts → List Pair → CubeParts → ℕ → ℤ
combined_best known pairs cube v = best_of (value_at cube v) (coef_at (flat_map (λ p. terms_times p.times (row_of_pair known p)) pairs) v)

-- a fact of the row of a name, where there is one
pub of_there : (P : RowParts → Type 0) (o : Option RowParts) → is_some o ≡ true → IfSome o P → P (unwrap_or o empty_row)
of_there P (Some row) h w = w
of_there P None h w = absurd (let e : false ≡ true = h in cc)

-- a number taken up to 10^12 times, as the code has it
pub scaled_small : (k : ℕ) (a : ℤ) → k ≤ 10 ^ 12 → unsigned_abs a ≤ 2 ^ 65 → unsigned_abs (to_z w128 (of_z w128 (to_z w128 k *ℤ to_z w128 (of_z w128 a)))) ≤ 10 ^ 12 * unsigned_abs a
scaled_small k a h small =
    let is : to_z w128 (of_z w128 (to_z w128 k *ℤ to_z w128 (of_z w128 a))) ≡ pos k *ℤ a =
    ap (λ z. to_z w128 (of_z w128 (z *ℤ to_z w128 (of_z w128 a)))) (to_z_pos w128 k (omega (arith, h))) ∙ ap (λ z. to_z w128 (of_z w128 (pos k *ℤ z))) (to_z-of_z w128 a (fits_signed_from_abs w128 a (omega (arith, small))))
    ∙ to_z-of_z w128 (pos k *ℤ a) (fits_signed_mul w128 (pos k) a (10 ^ 12) (2 ^ 65) h small (omega arith)) in
    let size : k * unsigned_abs a ≤ 10 ^ 12 * unsigned_abs a = mul-le-mul_right (unsigned_abs a) h in
    rw (is, unsigned_abs-mul (pos k) a) size

-- the sum over all items, at the end of a loop
pub summed : {X : Type 0} (f : X → ℤ) (xs ys : List X) (i : ℕ) → xs ≡ ys → length xs ≤ i → int_sum_by f (take i xs) ≡ int_sum_by f ys
summed f xs ys i same far = ap (int_sum_by f) (take_all i xs far ∙ same)

abbrev pub blank_pair : Pair
blank_pair = record { row = Base 0; times = 0 }

pub adds_small : (total r : ℤ) (i n m : ℕ) → unsigned_abs total ≤ i * m → unsigned_abs r ≤ m → m < 2 ^ 127 → i < n → n * m < 2 ^ 127 → unsigned_abs (to_z w128 (of_z w128 (total +ℤ to_z w128 (of_z w128 r)))) ≤ (i + 1) * m
adds_small total r i n m h k fits below few = rw (adds_is total r i n m h k fits below few) (adds_to total r i n m h k below)

-- what a turn of the loops over a reason's pairs adds
pub pair_turn : (f : RowParts → ℤ) (known : KnownParts) (pairs xs : List Pair) (i : ℕ) (r s : ℤ) → xs ≡ pairs → AllThere known pairs → i < length xs → unsigned_abs r ≤ 2 ^ 118
    → IfSome (row_at known (get_or xs i blank_pair).row) (λ row. r ≡ f row) → s ≡ pos (get_or xs i blank_pair).times *ℤ to_z w128 (of_z w128 r)
    → s ≡ pos (get_or xs i blank_pair).times *ℤ f (row_of_pair known (get_or xs i blank_pair))
pair_turn f known pairs xs i r s same there short small is e =
    let all : AllThere known xs = rw same there in
    e ∙ ap (λ z. pos (get_or xs i blank_pair).times *ℤ z) (plain_to r small ∙ of_there (λ row. r ≡ f row) (row_at known (get_or xs i blank_pair).row) (all i blank_pair short) is)

-- the greatest activity of a combination
pub combined_activity : (known : KnownParts) (pairs : List Pair) (cube : CubeParts) → int_sum_by (combined_best known pairs cube) (range_with_len 0 (variables known)) ≡ greatest_activity (combination_of known pairs) cube
combined_activity known pairs cube = sym (activity_collected Greatest cube (variables known) (flat_map (λ p. terms_times p.times (row_of_pair known p)) pairs))

pub kept_small : (r s : ℤ) (m : ℕ) → unsigned_abs r ≤ m → m ≤ 2 ^ 118 → unsigned_abs s ≤ 10 ^ 12 * unsigned_abs (to_z w128 (of_z w128 r)) → unsigned_abs s ≤ 10 ^ 12 * m
kept_small r s m h few k =
    let within : unsigned_abs r ≤ 2 ^ 118 = omega arith in
    let e : unsigned_abs (to_z w128 (of_z w128 r)) ≡ unsigned_abs r = ap unsigned_abs (plain_to r within) in
    omega (arith, h, k, e)

-- what a turn of the loop over the variables adds
pub best_turn : (a c : ℤ) (value is : Option Bool) (r : ℤ) → unsigned_abs a ≤ 64 * 10 ^ 28 → a ≡ c → value ≡ is → r ≡ best_of value (to_z w128 (of_z w128 a)) → r ≡ best_of is c
best_turn a c value is r small e f g =
    let within : unsigned_abs a ≤ 2 ^ 118 = omega (arith, small) in
    g ∙ ap (best_of value) (plain_to a within ∙ e) ∙ ap (λ o. best_of o c) f

pub best_small : (a : ℤ) (value : Option Bool) (r : ℤ) → unsigned_abs a ≤ 64 * 10 ^ 28 → r ≡ best_of value (to_z w128 (of_z w128 a)) → unsigned_abs r ≤ 64 * 10 ^ 28
best_small a value r small g =
    let within : unsigned_abs a ≤ 2 ^ 118 = omega (arith, small) in
    let sized = best_of-sized value a (64 * 10 ^ 28) small in
    rw (g, plain_to a within) sized
