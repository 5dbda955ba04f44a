-- The ascent, row after row.
use Rattle.std.proofs.Common.{◌≡◌, ◌≢◌, ℕ, zero, suc, ◌+◌, ◌^◌, ◌<◌, ◌≤◌, min, pos, int_lt, Bool, true, false, cond, ◌&&◌, nat_lt, nat_le, List, [], ◌∷◌, ◌++◌, map, fold, drop, set, replicate, length, get_or, slice_get, Option, Some, None, IfSome, IsTrue, IsSome, is_some, option_map, refl, sym, ap, subst, ◌∙◌, arith, inl, inr}
use Rattle.std.specs.Prelude.{filter_map, slice_index}
use Rattle.std.specs.List.{AllByRecursion, enumerate_from, cons_option}
use Rattle.std.proofs.lemmas.Bool.{lt-ltb, cases_lt}
use Rattle.std.proofs.lemmas.Bool.Decides.{eqb_tells, nat_tests}
use Rattle.std.proofs.lemmas.List.{length-append, drop_more, length-take, get_or-take, get_or_past, length-set, get_or-set_same, get_or-set_other, length-replicate, length-map}
use Rattle.std.proofs.lemmas.List.Elements.{recursion_from_All, All-push}
use Rattle.std.proofs.lemmas.Option.{slice_get-get_or, get_or_from_slice_get, slice_get_within}
use Rattle.arch_model.specs.Set.{has, empty}
use Rattle.arch_model.specs.declared.template.Component.{Component}
use Rattle.arch_model.specs.declared.template.Edge.{Edge}
use Rattle.arch_model.specs.Parts.{LibraryParts}
use Rattle.arch_model.specs.Member.{member_count}
use Rattle.arch_model.specs.declared.limits.TheConstants.{MEMBERS}
use Rattle.rows.specs.declared.row.Term.{Term}
use Rattle.rows.specs.declared.known.Pair.{Pair}
use Rattle.rows.specs.declared.known.RowRef.{RowRef}
use Rattle.rows.specs.declared.known.RowRef.TheVariants.{Base, Cut, Cost}
use Rattle.rows.specs.Parts.{RowParts, CutParts, CubeParts, KnownParts}
use Rattle.rows.specs.Row.{IsRowBelow, row_of_cut, value_of, coef_at}
use Rattle.rows.specs.Cut.{IsCut}
use Rattle.rows.specs.BaseRows.{member_cost_of, costs_of, cost_row_of}
use Rattle.rows.specs.Reason.{AllThere}
use Rattle.rows.specs.Known.{known_cuts, has_row, IsKnown}
use Rattle.rows.specs.Ascent.{Ascent, quotient_at, times_of, left_of, is_worth, with_row, looked_at, ascent_start, whole_ascent}
use Rattle.rows.proofs.TraceLaws.{cut_below}
use Rattle.row_bounds.specs.Inner.Climb.{Follows, IsRising, is_wanting, base_named, cuts_named, quotient_by}
use Rattle.row_bounds.proofs.SpendLaws.{fold_append, quotient_same}

-- options
pub some_at : {X : Type 0} (P : X → Type 0) (o : Option X) (x : X) → IfSome o P → o ≡ Some x → P x
some_at {X = X} P o x h e = let Q : Option X → Type 0 = λ p. IfSome p P in subst Q e h

pub each_some : {X : Type 0} (P : X → Type 0) (o : Option X) → ((x : X) → o ≡ Some x → P x) → IfSome o P
each_some P (Some x) each = each x refl
each_some P None each = tt

pub at_some : {X : Type 0} (P : X → Type 0) (o : Option X) (x : X) → o ≡ Some x → P x → IfSome o P
at_some {X = X} P o x e h = let Q : Option X → Type 0 = λ p. IfSome p P in subst Q (sym e) h

-- one row that is looked at
same_quotient : (cube : CubeParts) (f g : ℕ → ℕ) (t : Term) → f t.var.0 ≡ g t.var.0 → quotient_at cube f t ≡ quotient_at cube g t
same_quotient cube f g t e = quotient_same cube f t.var.0 t.coef ∙ ap (quotient_by (has cube.fixed t.var.0) t.coef) e ∙ sym (quotient_same cube g t.var.0 t.coef)

quotients_agree : (cube : CubeParts) (f g : ℕ → ℕ) → ((v : ℕ) → v < MEMBERS → f v ≡ g v) → (terms : List Term) → AllByRecursion (λ t. t.var.0 < MEMBERS) terms → filter_map (quotient_at cube f) terms ≡ filter_map (quotient_at cube g) terms
quotients_agree cube f g same [] below = refl
quotients_agree cube f g same (t ∷ terms) below =
    ap (λ o. cons_option o (filter_map (quotient_at cube f) terms)) (same_quotient cube f g t (same t.var.0 below.0)) ∙ ap (λ l. cons_option (quotient_at cube g t) l) (quotients_agree cube f g same terms below.1)

not_chosen : (pairs : List Pair) (residues : List ℕ) (b : Bool) (x y : Ascent) → b ≡ false → Follows pairs residues y → Follows pairs residues (cond b x y)
not_chosen pairs residues true x y e f = absurd (let g : true ≡ false = e in cc)
not_chosen pairs residues false x y e f = f

chosen : (pairs : List Pair) (residues : List ℕ) (b : Bool) (x y : Ascent) → b ≡ true → Follows pairs residues x → Follows pairs residues (cond b x y)
chosen pairs residues true x y e f = f
chosen pairs residues false x y e f = absurd (let g : false ≡ true = e in cc)

third_false : (a b c : Bool) → c ≡ false → (a && (b && c)) ≡ false
third_false true true c e = e
third_false true false c e = refl
third_false false b c e = refl

second_false : (a b c : Bool) → b ≡ false → (a && (b && c)) ≡ false
second_false true true c e = absurd (let g : true ≡ false = e in cc)
second_false true false c e = refl
second_false false b c e = refl

all_true : (a b c : Bool) → a ≡ true → b ≡ true → c ≡ true → (a && (b && c)) ≡ true
all_true a b c e f g = ap (λ x. x && (b && c)) e ∙ ap (λ x. x && c) f ∙ g

none_or : (k : ℕ) → k ≡ 0 → nat_le 1 k ≡ false
none_or k e = grind (arith, nat_tests)

some_or : (k : ℕ) → 1 ≤ k → nat_le 1 k ≡ true
some_or k e = grind (arith, nat_tests)

module _ (cube : CubeParts) (pairs : List Pair) (residues : List ℕ) (a : Ascent) (r : RowRef) (row : RowParts) (f : Follows pairs residues a) (below : IsRowBelow MEMBERS row) where
  times_is : times_of cube (slice_index residues) row ≡ times_of cube a.residue row
  times_is = ap (fold min (10 ^ 12)) (quotients_agree cube (slice_index residues) a.residue f.residue row.terms (recursion_from_All (λ (t : Term). t.var.0 < MEMBERS) row.terms below))

  pub past_met : is_wanting cube row ≡ false → Follows pairs residues (looked_at cube a (r, row))
  past_met off =
      not_chosen pairs residues (nat_lt (length a.pairs) 64 && is_worth cube row (times_of cube a.residue row)) (with_row a r row (times_of cube a.residue row)) a
      (third_false (nat_lt (length a.pairs) 64) (nat_le 1 (times_of cube a.residue row)) (int_lt (value_of row.terms (has cube.ones)) row.least) off) f

  pub past_none : times_of cube (slice_index residues) row ≡ 0 → Follows pairs residues (looked_at cube a (r, row))
  past_none none =
      not_chosen pairs residues (nat_lt (length a.pairs) 64 && is_worth cube row (times_of cube a.residue row)) (with_row a r row (times_of cube a.residue row)) a
      (second_false (nat_lt (length a.pairs) 64) (nat_le 1 (times_of cube a.residue row)) (int_lt (value_of row.terms (has cube.ones)) row.least) (none_or (times_of cube a.residue row) (sym times_is ∙ none))) f

  pub row_added : (k : ℕ) (more : List Pair) (left : List ℕ) → length pairs < 64 → is_wanting cube row ≡ true → k ≡ times_of cube (slice_index residues) row → 1 ≤ k → more ≡ pairs ++ record { row = r; times = k } ∷ []
      → ((v : ℕ) → v < MEMBERS → slice_index left v ≡ left_of k (coef_at row.terms v) (slice_index residues v)) → Follows more left (looked_at cube a (r, row))
  row_added k more left few on is some grown taken =
      let same : k ≡ times_of cube a.residue row = is ∙ times_is in
      let short : length a.pairs < 64 = omega (arith, ap length f.same, few) in
      chosen more left (nat_lt (length a.pairs) 64 && is_worth cube row (times_of cube a.residue row)) (with_row a r row (times_of cube a.residue row)) a
      (all_true (nat_lt (length a.pairs) 64) (nat_le 1 (times_of cube a.residue row)) (int_lt (value_of row.terms (has cube.ones)) row.least) (lt-ltb (length a.pairs) 64 short) (some_or (times_of cube a.residue row) (omega (arith, same, some))) on)
      (record {
        same = grown ∙ ap (λ p. p ++ record { row = r; times = k } ∷ []) f.same ∙ ap (λ m. a.pairs ++ record { row = r; times = m } ∷ []) same;
        residue = λ v low. taken v low ∙ ap (left_of k (coef_at row.terms v)) (f.residue v low) ∙ ap (λ m. left_of m (coef_at row.terms v) (a.residue v)) same;
      })

-- what an ascent on its way keeps
pub rising_more : (known : KnownParts) (pairs more : List Pair) (residues left : List ℕ) (r : RowRef) (k : ℕ) → IsRising known pairs residues → length pairs < 64 → 1 ≤ k → k ≤ 10 ^ 12 → IsTrue (has_row known r)
    → more ≡ pairs ++ record { row = r; times = k } ∷ [] → ((v : ℕ) → v < MEMBERS → slice_index left v ≤ slice_index residues v + 10 ^ 28) → IsRising known more left
rising_more known pairs more residues left r k h few some small there grown low =
    let P : List Pair → Type 0 = λ l. IsRising known l left in
    subst P (sym grown) (record {
      reason = record {
        some = omega (arith, length-append pairs (record { row = r; times = k } ∷ []));
        few = omega (arith, length-append pairs (record { row = r; times = k } ∷ []), few);
        positive = All-push (λ (p : Pair). 1 ≤ p.times) pairs (record { row = r; times = k }) h.reason.positive some;
        sized = All-push (λ (p : Pair). p.times ≤ 10 ^ 12) pairs (record { row = r; times = k }) h.reason.sized small;
      };
      there = λ bound. All-push (λ (p : Pair). IsTrue (has_row known p.row)) pairs (record { row = r; times = k }) (h.there bound) there;
      low = λ v near. let old = h.low v near in let new = low v near in omega (arith, old, new, length-append pairs (record { row = r; times = k } ∷ []));
    })

some_is : {X : Type 0} (xs : List X) (i : ℕ) → i < length xs → is_some (slice_get xs i) ≡ true
some_is [] i short = absurd (omega arith)
some_is (x ∷ xs) zero short = refl
some_is (x ∷ xs) (suc i) short = some_is xs i (omega arith)

pub has_base : (known : KnownParts) (i : ℕ) → i < length known.problem.base → IsTrue (has_row known (Base i))
has_base known i short = some_is known.problem.base i short

map_some : {X Y : Type 0} (f : X → Y) (o : Option X) → is_some o ≡ true → is_some (option_map f o) ≡ true
map_some f (Some x) h = refl
map_some f None h = h

pub has_cut : (known : KnownParts) (j : ℕ) → IsKnown known → j < known.upto → IsTrue (has_row known (Cut j))
has_cut known j is short = map_some row_of_cut (slice_get (known_cuts known) j) (some_is (known_cuts known) j (omega (arith, length-take known.upto known.cuts, is.upto, short)))

-- all rows of an ascent are there, the cost row where there is a bound
base_there : (known : KnownParts) (xs : List RowParts) (i : ℕ) → ((k : ℕ) → i ≤ k → k < i + length xs → IsTrue (has_row known (Base k)))
    → AllByRecursion (λ (p : RowRef × RowParts). IsTrue (has_row known p.0)) (map (λ p. (Base p.0, p.1)) (enumerate_from i xs))
base_there known [] i each = tt
base_there known (x ∷ xs) i each = (each i (omega arith) (omega arith), base_there known xs (i + 1) (λ k low high. each k (omega (arith, low)) (omega (arith, high))))

cuts_there : (known : KnownParts) (xs : List CutParts) (j : ℕ) → ((k : ℕ) → j ≤ k → k < j + length xs → IsTrue (has_row known (Cut k)))
    → AllByRecursion (λ (p : RowRef × RowParts). IsTrue (has_row known p.0)) (map (λ p. (Cut p.0, row_of_cut p.1)) (enumerate_from j xs))
cuts_there known [] j each = tt
cuts_there known (x ∷ xs) j each = (each j (omega arith) (omega arith), cuts_there known xs (j + 1) (λ k low high. each k (omega (arith, low)) (omega (arith, high))))

either_there : (known : KnownParts) (b : Bool) (x y : Ascent) → AllThere known x.pairs → AllThere known y.pairs → AllThere known (cond b x y).pairs
either_there known true x y h k = h
either_there known false x y h k = k

fold_there : (known : KnownParts) (cube : CubeParts) (named : List (RowRef × RowParts)) (a : Ascent) → AllByRecursion (λ p. IsTrue (has_row known p.0)) named → AllThere known a.pairs → AllThere known (fold (looked_at cube) a named).pairs
fold_there known cube [] a all there = there
fold_there known cube (p ∷ named) a all there =
    let k = times_of cube a.residue p.1 in
    fold_there known cube named (looked_at cube a p) all.1
    (either_there known (nat_lt (length a.pairs) 64 && is_worth cube p.1 k) (with_row a p.0 p.1 k) a (All-push (λ (q : Pair). IsTrue (has_row known q.row)) a.pairs (record { row = p.0; times = k }) there all.0) there)

cost_there : (known : KnownParts) → IsSome known.bound → AllThere known (ascent_start known).pairs
cost_there known some = All-push (λ (q : Pair). IsTrue (has_row known q.row)) [] (record { row = Cost; times = 1 }) (λ i d short. absurd (omega arith)) (map_some (cost_row_of known.problem.library) known.bound some)

pub whole_there : (known : KnownParts) (cube : CubeParts) (pairs : List Pair) → pairs ≡ (whole_ascent known cube).pairs → IsSome known.bound → AllThere known pairs
whole_there known cube pairs same some =
    let P : Ascent → Type 0 = λ a. AllThere known a.pairs in
    let base : AllThere known (fold (looked_at cube) (ascent_start known) (base_named known)).pairs =
    fold_there known cube (base_named known) (ascent_start known) (base_there known known.problem.base 0 (λ k low high. has_base known k (omega (arith, high)))) (cost_there known some) in
    let both : AllThere known (fold (looked_at cube) (fold (looked_at cube) (ascent_start known) (base_named known)) (cuts_named known)).pairs =
    fold_there known cube (cuts_named known) _ (cuts_there known (known_cuts known) 0 (λ k low high. map_some row_of_cut (slice_get (known_cuts known) k) (some_is (known_cuts known) k (omega (arith, high))))) base in
    let whole : AllThere known (whole_ascent known cube).pairs = subst P (sym (fold_append (looked_at cube) (ascent_start known) (base_named known) (cuts_named known))) both in
    let Q : List Pair → Type 0 = AllThere known in
    subst Q (sym same) whole

-- the row of a cut is over the variables that there can be
pub cut_inside : (cut : CutParts) → IsCut cut → IsRowBelow MEMBERS (row_of_cut cut)
cut_inside cut ok = cut_below MEMBERS cut (record { plus = ok.small_plus; minus = ok.small_minus })

-- a cut of a number, as the list of all cuts and that of the known ones have it
pub known_cut : (known : KnownParts) (j : ℕ) (cut : CutParts) → j < known.upto → slice_get known.cuts j ≡ Some cut → slice_get (known_cuts known) j ≡ Some cut
known_cut known j cut short at =
    let within = slice_get_within known.cuts j cut at in
    let inside : j < length (known_cuts known) = omega (arith, length-take known.upto known.cuts, within, short) in
    slice_get-get_or (known_cuts known) j cut inside ∙ ap (λ c. Some c) (get_or-take known.upto known.cuts j cut short ∙ get_or_from_slice_get known.cuts j cut cut at)

-- the loops over base rows and cuts
abbrev pub base_from : KnownParts → ℕ → List (RowRef × RowParts)
base_from known i = map (λ p. (Base p.0, p.1)) (enumerate_from i (drop i known.problem.base))

abbrev pub cuts_from : KnownParts → ℕ → List (RowRef × RowParts)
cuts_from known j = map (λ p. (Cut p.0, row_of_cut p.1)) (enumerate_from j (drop j (known_cuts known)))

abbrev pub ClimbsBase : KnownParts → CubeParts → List Pair → List ℕ → List Pair → List ℕ → ℕ → Type 0
ClimbsBase known cube pairs residues more left i =
    (a : Ascent) → Follows pairs residues a → (b : Ascent) × Follows more left b × (fold (looked_at cube) b (base_from known i) ≡ fold (looked_at cube) a (base_from known 0))

abbrev pub ClimbsCuts : KnownParts → CubeParts → List Pair → List ℕ → List Pair → List ℕ → ℕ → Type 0
ClimbsCuts known cube pairs residues more left j =
    (a : Ascent) → Follows pairs residues a → (b : Ascent) × Follows more left b × (fold (looked_at cube) b (cuts_from known j) ≡ fold (looked_at cube) a (cuts_from known 0))

pub base_more : (known : KnownParts) (cube : CubeParts) (pairs : List Pair) (residues : List ℕ) (mid : List Pair) (between : List ℕ) (more : List Pair) (left : List ℕ) (i : ℕ) → i < length known.problem.base → ClimbsBase known cube pairs residues mid between i
    → ((a : Ascent) → Follows mid between a → IfSome (slice_get known.problem.base i) (λ row. Follows more left (looked_at cube a (Base i, row)))) → ClimbsBase known cube pairs residues more left (i + 1)
base_more known cube pairs residues mid between more left i short climbs step a f =
    let row : RowParts = get_or known.problem.base i (record { terms = []; least = pos 0 }) in
    let at : slice_get known.problem.base i ≡ Some row = slice_get-get_or known.problem.base i (record { terms = []; least = pos 0 }) short in
    let w = climbs a f in (
      looked_at cube w.0 (Base i, row),
      some_at (λ (x : RowParts). Follows more left (looked_at cube w.0 (Base i, x))) (slice_get known.problem.base i) row (step w.0 w.1) at,
      sym (ap (λ l. fold (looked_at cube) w.0 (map (λ (p : ℕ × RowParts). (Base p.0, p.1)) (enumerate_from i l))) (drop_more known.problem.base i (record { terms = []; least = pos 0 }) short)) ∙ w.2,
    )

pub cuts_more : (known : KnownParts) (cube : CubeParts) (pairs : List Pair) (residues : List ℕ) (mid : List Pair) (between : List ℕ) (more : List Pair) (left : List ℕ) (j : ℕ) → j < length (known_cuts known) → ClimbsCuts known cube pairs residues mid between j
    → ((a : Ascent) → Follows mid between a → IfSome (slice_get (known_cuts known) j) (λ cut. Follows more left (looked_at cube a (Cut j, row_of_cut cut)))) → ClimbsCuts known cube pairs residues more left (j + 1)
cuts_more known cube pairs residues mid between more left j short climbs step a f =
    let none : CutParts = record { plus = empty; minus = empty; least = pos 0 } in
    let cut : CutParts = get_or (known_cuts known) j none in
    let at : slice_get (known_cuts known) j ≡ Some cut = slice_get-get_or (known_cuts known) j none short in
    let w = climbs a f in (
      looked_at cube w.0 (Cut j, row_of_cut cut),
      some_at (λ (x : CutParts). Follows more left (looked_at cube w.0 (Cut j, row_of_cut x))) (slice_get (known_cuts known) j) cut (step w.0 w.1) at,
      sym (ap (λ l. fold (looked_at cube) w.0 (map (λ (p : ℕ × CutParts). (Cut p.0, row_of_cut p.1)) (enumerate_from j l))) (drop_more (known_cuts known) j none short)) ∙ w.2,
    )

drop_nothing : {X : Type 0} (xs : List X) → drop 0 xs ≡ xs
drop_nothing [] = refl
drop_nothing (x ∷ xs) = refl

drop_past : {X : Type 0} (xs : List X) (n : ℕ) → length xs ≤ n → drop n xs ≡ []
drop_past [] zero h = refl
drop_past [] (suc n) h = refl
drop_past (x ∷ xs) zero h = absurd (omega arith)
drop_past (x ∷ xs) (suc n) h = drop_past xs n (omega arith)

pub base_end : (known : KnownParts) (cube : CubeParts) (pairs : List Pair) (residues : List ℕ) (more : List Pair) (left : List ℕ) (i : ℕ) → length known.problem.base ≤ i → ClimbsBase known cube pairs residues more left i
    → (a : Ascent) → Follows pairs residues a → Follows more left (fold (looked_at cube) a (base_named known))
base_end known cube pairs residues more left i far climbs a f =
    let w = climbs a f in
    let P : Ascent → Type 0 = Follows more left in
    let named : List RowParts → List (RowRef × RowParts) = λ l. map (λ p. (Base p.0, p.1)) (enumerate_from i l) in
    let first : List RowParts → List (RowRef × RowParts) = λ l. map (λ p. (Base p.0, p.1)) (enumerate_from 0 l) in
    subst P (sym (ap (λ l. fold (looked_at cube) w.0 (named l)) (drop_past known.problem.base i far)) ∙ w.2 ∙ ap (λ l. fold (looked_at cube) a (first l)) (drop_nothing known.problem.base)) w.1

pub cuts_end : (known : KnownParts) (cube : CubeParts) (pairs : List Pair) (residues : List ℕ) (more : List Pair) (left : List ℕ) (j : ℕ) → length (known_cuts known) ≤ j → ClimbsCuts known cube pairs residues more left j
    → (a : Ascent) → Follows pairs residues a → Follows more left (fold (looked_at cube) a (cuts_named known))
cuts_end known cube pairs residues more left j far climbs a f =
    let w = climbs a f in
    let P : Ascent → Type 0 = Follows more left in
    let named : List CutParts → List (RowRef × RowParts) = λ l. map (λ p. (Cut p.0, row_of_cut p.1)) (enumerate_from j l) in
    let first : List CutParts → List (RowRef × RowParts) = λ l. map (λ p. (Cut p.0, row_of_cut p.1)) (enumerate_from 0 l) in
    subst P (sym (ap (λ l. fold (looked_at cube) w.0 (named l)) (drop_past (known_cuts known) j far)) ∙ w.2 ∙ ap (λ l. fold (looked_at cube) a (first l)) (drop_nothing (known_cuts known))) w.1

-- the whole ascent
pub both_climbs : (known : KnownParts) (cube : CubeParts) (more : List Pair) (left : List ℕ) → Follows more left (fold (looked_at cube) (fold (looked_at cube) (ascent_start known) (base_named known)) (cuts_named known)) → Follows more left (whole_ascent known cube)
both_climbs known cube more left f = let P : Ascent → Type 0 = Follows more left in subst P (sym (fold_append (looked_at cube) (ascent_start known) (base_named known) (cuts_named known))) f

-- the costs at the beginning
pub zero_at : (n v : ℕ) → get_or (replicate n zero) v zero ≡ zero
zero_at zero v = refl
zero_at (suc n) zero = refl
zero_at (suc n) (suc v) = zero_at n v

pub no_cost : (lib : LibraryParts) (v : ℕ) → member_count lib ≤ v → member_cost_of lib v ≡ 0
no_cost lib v far =
    get_or_past (costs_of lib) v 0
    (omega (arith, length-append (map (λ (c : Component). c.cost) lib.components) (map (λ (e : Edge). e.cost) lib.edges), length-map lib.components (λ (c : Component). c.cost), length-map lib.edges (λ (e : Edge). e.cost), far))

pub record CostsTo (lib : LibraryParts) (costs : List ℕ) (i : ℕ) : Type 0 where
  pub long : length costs ≡ MEMBERS
  pub done : (v : ℕ) → v < i → get_or costs v 0 ≡ member_cost_of lib v
  pub rest : (v : ℕ) → i ≤ v → get_or costs v 0 ≡ 0
  pub low : (v : ℕ) → get_or costs v 0 ≤ 10 ^ 12

pub costs_none : (lib : LibraryParts) → CostsTo lib (replicate MEMBERS 0) 0
costs_none lib = record {
  long = length-replicate MEMBERS zero;
  done = λ v short. absurd (omega arith);
  rest = λ v far. zero_at MEMBERS v;
  low = λ v. omega (arith, zero_at MEMBERS v);
}

pub costs_more : (lib : LibraryParts) (costs : List ℕ) (i cost : ℕ) → CostsTo lib costs i → i < length costs → cost ≡ member_cost_of lib i → cost ≤ 10 ^ 12 → CostsTo lib (set costs i cost) (i + 1)
costs_more lib costs i cost to short is small = record {
  long = length-set costs i cost ∙ to.long;
  done = λ v near. elim (eqb_tells i v) [
    | inl same ↦ ap (λ u. get_or (set costs i cost) u 0) (sym same.1) ∙ get_or-set_same costs i cost 0 short ∙ is ∙ ap (member_cost_of lib) same.1
    | inr other ↦ let ne : v ≢ i = λ e. other.1 (sym e) in let less : v < i = omega (arith, near, other.1) in get_or-set_other costs i v cost 0 ne ∙ to.done v less
  ];
  rest = λ v far. let ne : v ≢ i = λ e. absurd (omega (arith, e, far)) in let past : i ≤ v = omega arith in get_or-set_other costs i v cost 0 ne ∙ to.rest v past;
  low = λ v. elim (eqb_tells i v) [
    | inl same ↦ let e : get_or (set costs i cost) v 0 ≡ cost = ap (λ u. get_or (set costs i cost) u 0) (sym same.1) ∙ get_or-set_same costs i cost 0 short in omega (arith, e, small)
    | inr other ↦ let ne : v ≢ i = λ e. other.1 (sym e) in let e = get_or-set_other costs i v cost 0 ne in omega (arith, e, to.low v)
  ];
}

pub costs_all : (lib : LibraryParts) (costs : List ℕ) (i v : ℕ) → CostsTo lib costs i → i ≡ member_count lib → get_or costs v 0 ≡ member_cost_of lib v
costs_all lib costs i v to all = elim (cases_lt v i) [
  | inl near ↦ to.done v near
  | inr far ↦ to.rest v far ∙ sym (no_cost lib v (omega (arith, far, all)))
]

-- numbers that stay low
pub record LowTo (numbers : List ℕ) (m : ℕ) : Type 0 where
  pub long : length numbers ≡ MEMBERS
  pub low : (v : ℕ) → get_or numbers v 0 ≤ m

pub low_none : (m : ℕ) → LowTo (replicate MEMBERS zero) m
low_none m = record { long = length-replicate MEMBERS zero; low = λ v. omega (arith, zero_at MEMBERS v) }

pub low_more : (numbers : List ℕ) (i x m : ℕ) → LowTo numbers m → i < MEMBERS → x ≤ m → LowTo (set numbers i x) m
low_more numbers i x m to near small =
    let short : i < length numbers = omega (arith, to.long, near) in
    record {
      long = length-set numbers i x ∙ to.long;
      low = λ v. elim (eqb_tells i v) [
        | inl same ↦ let e : get_or (set numbers i x) v 0 ≡ x = ap (λ u. get_or (set numbers i x) u 0) (sym same.1) ∙ get_or-set_same numbers i x 0 short in omega (arith, e, small)
        | inr other ↦ let ne : v ≢ i = λ e. other.1 (sym e) in let e = get_or-set_other numbers i v x 0 ne in omega (arith, e, to.low v)
      ];
    }
