-- Traces that grow, their room, and what a pass over the rows learns.
use Rattle.std.proofs.Common.{◌≡◌, ℕ, zero, suc, ◌+◌, ◌<◌, ◌≤◌, Bool, true, false, cond, not, nat_eq, List, [], ◌∷◌, ◌++◌, filter, length, get_or, slice_get, replicate, Option, Some, IfSome, refl, sym, ap, subst, ◌∙◌, arith, inl, inr}
use Rattle.std.specs.List.{AllWithin, range_with_len}
use Rattle.std.proofs.lemmas.List.{length-append, length-replicate, append_assoc}
use Rattle.std.proofs.lemmas.List.FromFn.{length-range_with_len}
use Rattle.std.proofs.lemmas.List.Elements.{AllWithin-more}
use Rattle.std.proofs.lemmas.Bool.Decides.{eqb_tells}
use Rattle.std.proofs.lemmas.Option.{slice_get-get_or}
use Rattle.arch_model.specs.Set.{has, len, members_below}
use Rattle.arch_model.proofs.Counting.{len-members}
use Rattle.arch_model.proofs.Members.{length-filter-le, length-members-le, bool_cases}
use Rattle.rows.specs.declared.known.RowRef.{RowRef}
use Rattle.rows.specs.Parts.{RowParts, CubeParts, KnownParts}
use Rattle.rows.specs.Cube.{IsCubeBelow, IsFull, is_free}
use Rattle.rows.specs.Activity.{IsQuietAt}
use Rattle.rows.specs.Known.{variables, known_rows, row_at}
use Rattle.rows.specs.Trace.{cube_after}
use Rattle.rows.proofs.TraceLaws.{trace_joined, trace_counts, trace_below}
use Rattle.propagate.specs.Inner.Way.{Leads, HasRoom, AreBelow}

-- how many are fixed, and whether something is free
pub fixed_count : (n : ℕ) (cube : CubeParts) → IsCubeBelow n cube → len cube.fixed ≤ n
fixed_count n cube below = let all = len-members cube.fixed n below in let few = length-members-le cube.fixed n in omega (arith, all, few)

kept_short : (b : Bool) (a : ℕ) (xs : List ℕ) → b ≡ false → length (cond b (a ∷ xs) xs) ≡ length xs
kept_short true a xs e = absurd (let f : true ≡ false = e in cc)
kept_short false a xs e = refl

kept_long : (b : Bool) (a : ℕ) (xs : List ℕ) → b ≡ true → length (cond b (a ∷ xs) xs) ≡ suc (length xs)
kept_long true a xs e = refl
kept_long false a xs e = absurd (let f : false ≡ true = e in cc)

filter_few : (p : ℕ → Bool) (a n : ℕ) → length (filter p (range_with_len a n)) ≤ n
filter_few p a n = omega (arith, length-filter-le p (range_with_len a n), length-range_with_len a n)

all_pass : (p : ℕ → Bool) (a n : ℕ) → length (filter p (range_with_len a n)) ≡ n → (v : ℕ) → a ≤ v → v < a + n → p v ≡ true
all_pass p a zero all v low high = absurd (omega arith)
all_pass p a (suc n) all v low high = elim (bool_cases (p a)) [
  | inl on ↦
      let rest : length (filter p (range_with_len (a + 1) n)) ≡ n = omega (arith, all, kept_long (p a) a (filter p (range_with_len (a + 1) n)) on) in
      elim (eqb_tells a v) [
        | inl same ↦ ap p (sym same.1) ∙ on
        | inr other ↦ all_pass p (a + 1) n rest v (omega (arith, low, other.1)) (omega arith)
      ]
  | inr off ↦ absurd (omega (arith, all, kept_short (p a) a (filter p (range_with_len (a + 1) n)) off, filter_few p (a + 1) n))
]

some_fail : (p : ℕ → Bool) (a n : ℕ) → length (filter p (range_with_len a n)) < n → (v : ℕ) × (v < a + n) × (p v ≡ false)
some_fail p a zero few = absurd (omega arith)
some_fail p a (suc n) few = elim (bool_cases (p a)) [
  | inl on ↦
      let rest : length (filter p (range_with_len (a + 1) n)) < n = omega (arith, few, kept_long (p a) a (filter p (range_with_len (a + 1) n)) on) in
      let w = some_fail p (a + 1) n rest in
      (w.0, omega (arith, w.1), w.2)
  | inr off ↦ (a, omega arith, off)
]

full_when : (n : ℕ) (cube : CubeParts) → IsCubeBelow n cube → len cube.fixed ≡ n → IsFull n cube
unfolding members_below
full_when n cube below all v short = all_pass (has cube.fixed) 0 n (sym (len-members cube.fixed n below) ∙ all) v (omega arith) (omega arith)

open_when : (n : ℕ) (cube : CubeParts) → IsCubeBelow n cube → (len cube.fixed ≡ n → ⊥) → (v : ℕ) × (v < n) × (is_free cube v ≡ true)
unfolding members_below
open_when n cube below not_all =
    let all = len-members cube.fixed n below in
    let few : length (filter (has cube.fixed) (range_with_len 0 n)) < n = omega (arith, all, not_all, filter_few (has cube.fixed) 0 n) in
    let w = some_fail (has cube.fixed) 0 n few in
    (w.0, omega (arith, w.1), ap not w.2)

-- the same by a test of two counts
pub full_by : (known : KnownParts) (cube : CubeParts) (a b : ℕ) → IsCubeBelow (variables known) cube → a ≡ len cube.fixed → b ≡ variables known → nat_eq a b ≡ true → IsFull (variables known) cube
full_by known cube a b below e f test = elim (eqb_tells a b) [
  | inl same ↦ full_when (variables known) cube below (sym e ∙ same.1 ∙ f)
  | inr other ↦ absurd (let g : false ≡ true = sym other.0 ∙ test in cc)
]

pub open_by : (known : KnownParts) (cube : CubeParts) (a b : ℕ) → IsCubeBelow (variables known) cube → a ≡ len cube.fixed → b ≡ variables known → nat_eq a b ≡ false → (v : ℕ) × (v < variables known) × (is_free cube v ≡ true)
open_by known cube a b below e f test = elim (eqb_tells a b) [
  | inl same ↦ absurd (let g : true ≡ false = sym same.0 ∙ test in cc)
  | inr other ↦ open_when (variables known) cube below (λ g. other.1 (e ∙ g ∙ sym f))
]

-- room for the steps of a trace
pub room_fits : (known : KnownParts) (cube : CubeParts) (steps capacity : ℕ) → HasRoom known cube steps capacity → steps ≤ capacity
room_fits known cube steps capacity h = omega (arith, h.room, fixed_count (variables known) cube h.below)

pub room_after : (known : KnownParts) (r : RowRef) (cube next : CubeParts) (k steps capacity : ℕ) → AreBelow known → HasRoom known cube steps capacity → cube_after known cube (replicate k r) ≡ Some next → HasRoom known next (steps + k) capacity
room_after known r cube next k steps capacity rows h e =
    let below : IsCubeBelow (variables known) next = trace_below known (variables known) rows (replicate k r) cube next e h.below in
    let count = trace_counts known (variables known) (replicate k r) cube next below e in
    record { below = below; room = omega (arith, h.room, count, length-replicate k r) }

pub room_at : (known : KnownParts) (cube : CubeParts) (steps steps' capacity capacity' : ℕ) → HasRoom known cube steps capacity → steps' ≡ steps → capacity' ≡ capacity → HasRoom known cube steps' capacity'
room_at known cube steps steps' capacity capacity' h e f = record { below = h.below; room = omega (arith, h.room, e, f) }

pub room_first : (known : KnownParts) (cube : CubeParts) (capacity : ℕ) → IsCubeBelow (variables known) cube → capacity + len cube.fixed ≡ variables known → HasRoom known cube 0 capacity
room_first known cube capacity below e = record { below = below; room = omega (arith, e) }

-- traces that grow
pub leads_none : (known : KnownParts) (cube : CubeParts) (steps : List RowRef) → Leads known cube steps cube steps
leads_none known cube steps = record { more = []; grown = sym (append_nil steps); reached = refl } where
  append_nil : (xs : List RowRef) → xs ++ [] ≡ xs
  append_nil [] = refl
  append_nil (x ∷ xs) = ap (λ l. x ∷ l) (append_nil xs)

pub leads_more : (known : KnownParts) (a b c : CubeParts) (xs ys zs : List RowRef) → Leads known a xs b ys → Leads known b ys c zs → Leads known a xs c zs
leads_more known a b c xs ys zs h k = record {
  more = h.more ++ k.more;
  grown = k.grown ∙ ap (λ l. l ++ k.more) h.grown ∙ append_assoc xs h.more k.more;
  reached = trace_joined known h.more k.more a b c h.reached k.reached;
}

pub leads_by : (known : KnownParts) (r : RowRef) (a b : CubeParts) (xs ys : List RowRef) (k : ℕ) → ys ≡ xs ++ replicate k r → cube_after known a (replicate k r) ≡ Some b → Leads known a xs b ys
leads_by known r a b xs ys k grown reached = record { more = replicate k r; grown = grown; reached = reached }

pub leads_from : (known : KnownParts) (a b : CubeParts) (ys : List RowRef) → Leads known a [] b ys → cube_after known a ys ≡ Some b
leads_from known a b ys h = ap (cube_after known a) h.grown ∙ h.reached

pub grows : (known : KnownParts) (a b : CubeParts) (xs ys : List RowRef) → Leads known a xs b ys → length xs ≤ length ys
grows known a b xs ys h = omega (arith, ap length h.grown, length-append xs h.more)

none_when : (xs : List RowRef) → length xs ≡ 0 → xs ≡ []
none_when [] e = refl
none_when (x ∷ xs) e = absurd (omega arith)

pub stays_when : (known : KnownParts) (a b : CubeParts) (xs ys : List RowRef) → Leads known a xs b ys → length ys ≡ length xs → b ≡ a
stays_when known a b xs ys h same =
    let none : h.more ≡ [] = none_when h.more (omega (arith, ap length h.grown, length-append xs h.more, same)) in
    let e : Some a ≡ Some b = sym (ap (cube_after known a) none) ∙ h.reached in
    same_cube a b e where
      same_cube : (a b : CubeParts) → Some a ≡ Some b → b ≡ a
      same_cube a b e = cc

-- a pass: the rows that were looked at are quiet where nothing was fixed since
pub at_row : (known : KnownParts) (P : RowParts → Type 0) (r : RowRef) (k : ℕ) → row_at known r ≡ slice_get (known_rows known) k → k < length (known_rows known) → IfSome (row_at known r) P → (d : RowParts) → P (get_or (known_rows known) k d)
at_row known P r k is short h d =
    let at : row_at known r ≡ Some (get_or (known_rows known) k d) = is ∙ slice_get-get_or (known_rows known) k d short in
    let Q : Option RowParts → Type 0 = λ o. IfSome o P in
    subst Q at h

pub pass_quiet : (known : KnownParts) (start mid next : CubeParts) (xs ys zs : List RowRef) (r : RowRef) (k : ℕ) → Leads known start xs mid ys → Leads known mid ys next zs → (length ys ≡ length xs → AllWithin (IsQuietAt mid) (known_rows known) 0 k)
    → row_at known r ≡ slice_get (known_rows known) k → k < length (known_rows known) → IfSome (row_at known r) (IsQuietAt next) → length zs ≡ length xs → AllWithin (IsQuietAt next) (known_rows known) 0 (k + 1)
pass_quiet known start mid next xs ys zs r k to_mid to_next so_far is short quiet same =
    let low = grows known start mid xs ys to_mid in
    let high = grows known mid next ys zs to_next in
    let before : length ys ≡ length xs = omega (arith, low, high, same) in
    let after : length zs ≡ length ys = omega (arith, low, high, same) in
    let stays : next ≡ mid = stays_when known mid next ys zs to_next after in
    let P : CubeParts → Type 0 = λ c. AllWithin (IsQuietAt c) (known_rows known) 0 k in
    AllWithin-more (IsQuietAt next) (known_rows known) 0 k (subst P (sym stays) (so_far before)) (at_row known (IsQuietAt next) r k is short quiet)
