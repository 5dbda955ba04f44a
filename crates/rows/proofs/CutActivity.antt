-- The activities of a cut's row, counted by sets.
use Rattle.std.proofs.Common.{◌≡◌, ℕ, ◌+◌, ◌<◌, ℤ, pos, negsuc, ◌+ℤ◌, ◌-ℤ◌, Bool, true, false, cond, ◌&&◌, ◌||◌, not, List, [], ◌∷◌, filter, length, Option, Some, None, refl, sym, ap, ◌∙◌, arith, if◌then◌else◌}
use Rattle.std.specs.List.{range_with_len}
use Rattle.std.proofs.lemmas.Int.{ints}
use Rattle.arch_model.specs.Set.{Set, has, len, union, minus, members_below}
use Rattle.arch_model.specs.declared.limits.TheConstants.{MEMBERS}
use Rattle.arch_model.proofs.SetLaws.{has-union, has-intersection, has-minus}
use Rattle.arch_model.proofs.Counting.{len-members}
use Rattle.arch_model.proofs.Members.{and_left}
use Rattle.rows.proofs.IntSums.{int_sum_by-map, int_sum_by-filter, int_sum_by-same}
use Rattle.rows.specs.Parts.{CutParts, CubeParts}
use Rattle.rows.specs.Row.{int_sum_by, term, cut_coef, row_of_cut}
use Rattle.rows.specs.Cut.{IsCut}
use Rattle.rows.specs.Cube.{IsCube, value_at}
use Rattle.rows.specs.declared.activity.End.{End}
use Rattle.rows.specs.declared.activity.End.TheVariants.{Greatest, Least}
use Rattle.rows.specs.Inner.Ends.{taken_at, adds_at, activity_at, ones_among}

-- 1 or 0
abbrev pub bit : Bool → ℤ
bit b = cond b (pos 1) (pos 0)

-- whether the free variables with coefficient 1 are at 1 at an end
abbrev pub rises_at : End → Bool
rises_at Greatest = true
rises_at Least = false

-- whether a variable of one of the sets counts, from whether it is fixed, and fixed to 1
abbrev counts : Bool → Bool → Bool → Bool
counts f o true = not (f && not o)
counts f o false = o

-- what one variable adds, from whether it is in the two sets, fixed, and fixed to 1
adds : (end : End) (p m f o : Bool) → (p ≡ true → m ≡ false) → (o ≡ true → f ≡ true)
    → taken_at end (if f then Some o else None) (if p then pos 1 else (if m then negsuc 0 else pos 0)) ≡ bit (p && counts f o (rises_at end)) -ℤ bit (m && counts f o (not (rises_at end)))
adds end true true f o apart within = absurd (let e : true ≡ false = apart refl in cc)
adds end p m false true apart within = absurd (let e : false ≡ true = within refl in cc)
adds Greatest true false true true apart within = refl
adds Greatest true false true false apart within = refl
adds Greatest true false false false apart within = refl
adds Greatest false true true true apart within = refl
adds Greatest false true true false apart within = refl
adds Greatest false true false false apart within = refl
adds Greatest false false true true apart within = refl
adds Greatest false false true false apart within = refl
adds Greatest false false false false apart within = refl
adds Least true false true true apart within = refl
adds Least true false true false apart within = refl
adds Least true false false false apart within = refl
adds Least false true true true apart within = refl
adds Least false true true false apart within = refl
adds Least false true false false apart within = refl
adds Least false false true true apart within = refl
adds Least false false true false apart within = refl
adds Least false false false false apart within = refl

-- a sum of ones less a sum of ones counts
counted : (a b : Bool) (s : ℤ) (m n : ℕ) → s ≡ pos m -ℤ pos n → (bit a -ℤ bit b) +ℤ s ≡ pos (cond a (1 + m) m) -ℤ pos (cond b (1 + n) n)
counted true true s m n e = omega (arith, ints)
counted true false s m n e = omega (arith, ints)
counted false true s m n e = omega (arith, ints)
counted false false s m n e = omega (arith, ints)

longer : (b : Bool) (v : ℕ) (vs : List ℕ) → cond b (1 + length vs) (length vs) ≡ length (cond b (v ∷ vs) vs)
longer true v vs = omega arith
longer false v vs = refl

pub count_bits : (a b : ℕ → Bool) (vs : List ℕ) → int_sum_by (λ v. bit (a v) -ℤ bit (b v)) vs ≡ pos (length (filter a vs)) -ℤ pos (length (filter b vs))
count_bits a b [] = refl
count_bits a b (v ∷ vs) =
    counted (a v) (b v) _ (length (filter a vs)) (length (filter b vs)) (count_bits a b vs)
    ∙ ap (λ n. pos n -ℤ pos (cond (b v) (1 + length (filter b vs)) (length (filter b vs)))) (longer (a v) v (filter a vs))
    ∙ ap (λ n. pos (length (cond (a v) (v ∷ filter a vs) (filter a vs))) -ℤ pos n) (longer (b v) v (filter b vs))

-- what a variable of neither set adds
nothing_at : (end : End) (p m : Bool) (value : Option Bool) → (p || m) ≡ false → taken_at end value (if p then pos 1 else (if m then negsuc 0 else pos 0)) ≡ pos 0
nothing_at end true m value h = absurd (let e : true ≡ false = h in cc)
nothing_at end false true value h = absurd (let e : true ≡ false = h in cc)
nothing_at Greatest false false (Some true) h = refl
nothing_at Greatest false false (Some false) h = refl
nothing_at Greatest false false None h = refl
nothing_at Least false false (Some true) h = refl
nothing_at Least false false (Some false) h = refl
nothing_at Least false false None h = refl

-- the members that count
has-ones : (s : Set) (cube : CubeParts) (free : Bool) (v : ℕ) → has (ones_among s cube free) v ≡ (has s v && counts (has cube.fixed v) (has cube.ones v) free)
has-ones s cube true v = has-minus s (minus cube.fixed cube.ones) v ∙ ap (λ b. has s v && not b) (has-minus cube.fixed cube.ones v)
has-ones s cube false v = has-intersection s cube.ones v

-- an activity: how many with coefficient 1 count, less how many with -1 do
pub cut_activity : (end : End) (cut : CutParts) (cube : CubeParts) → IsCut cut → IsCube cube
    → activity_at end (row_of_cut cut) cube ≡ pos (len (ones_among cut.plus cube (rises_at end))) -ℤ pos (len (ones_among cut.minus cube (not (rises_at end))))
unfolding members_below
cut_activity end cut cube c k =
    let add : ℕ → ℤ = λ v. taken_at end (value_at cube v) (cut_coef cut v) in
    let most : Set = ones_among cut.plus cube (rises_at end) in
    let least : Set = ones_among cut.minus cube (not (rises_at end)) in
    let both : Set = union cut.plus cut.minus in
    let in_most : (v : ℕ) → has most v ≡ (has cut.plus v && counts (has cube.fixed v) (has cube.ones v) (rises_at end)) = has-ones cut.plus cube (rises_at end) in
    let in_least : (v : ℕ) → has least v ≡ (has cut.minus v && counts (has cube.fixed v) (has cube.ones v) (not (rises_at end))) = has-ones cut.minus cube (not (rises_at end)) in
    let each : (v : ℕ) → add v ≡ bit (has most v) -ℤ bit (has least v) =
    λ v. adds end (has cut.plus v) (has cut.minus v) (has cube.fixed v) (has cube.ones v) (c.apart v) (k.within v)
    ∙ ap (λ b. bit b -ℤ bit (has cut.minus v && counts (has cube.fixed v) (has cube.ones v) (not (rises_at end)))) (sym (in_most v)) ∙ ap (λ b. bit (has most v) -ℤ bit b) (sym (in_least v)) in
    let none : (v : ℕ) → has both v ≡ false → add v ≡ pos 0 =
    λ v h. nothing_at end (has cut.plus v) (has cut.minus v) (value_at cube v) (sym (has-union cut.plus cut.minus v) ∙ h) in
    let most_small : (v : ℕ) → has most v ≡ true → v < MEMBERS = λ v h. c.small_plus v (and_left (has cut.plus v) (counts (has cube.fixed v) (has cube.ones v) (rises_at end)) (sym (in_most v) ∙ h)) in
    let least_small : (v : ℕ) → has least v ≡ true → v < MEMBERS = λ v h. c.small_minus v (and_left (has cut.minus v) (counts (has cube.fixed v) (has cube.ones v) (not (rises_at end))) (sym (in_least v) ∙ h)) in
    int_sum_by-map (adds_at end cube) (λ v. term v (cut_coef cut v)) (members_below both MEMBERS)
    ∙ int_sum_by-filter add (has both) none (range_with_len 0 MEMBERS)
    ∙ int_sum_by-same add (λ v. bit (has most v) -ℤ bit (has least v)) each (range_with_len 0 MEMBERS)
    ∙ count_bits (has most) (has least) (range_with_len 0 MEMBERS)
    ∙ ap (λ n. pos n -ℤ pos (length (members_below least MEMBERS))) (sym (len-members most MEMBERS most_small))
    ∙ ap (λ n. pos (len most) -ℤ pos n) (sym (len-members least MEMBERS least_small))
