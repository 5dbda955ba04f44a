-- What a legal trace keeps: vectors that meet what is known, the program's variables, and how many are fixed.
use Rattle.std.proofs.Common.{◌≡◌, ℕ, zero, suc, ◌+◌, ◌<◌, ◌≤◌, Bool, true, false, cond, not, ◌||◌, nat_eq, List, [], ◌∷◌, ◌++◌, map, filter, find, length, slice_get, Option, Some, None, option_map, option_and_then, option_to_list, refl, sym, ap, subst, ◌∙◌, arith, inl, inr, if◌then◌else◌}
use Rattle.std.specs.List.{All, AllByRecursion, range_with_len}
use Rattle.std.proofs.lemmas.Bool.Decides.{eqb_tells}
use Rattle.std.proofs.lemmas.Option.{option_and_then_some, slice_get_within, get_or_from_slice_get}
use Rattle.std.proofs.lemmas.List.Elements.{recursion_from_All, All-from_recursion, All-map, All-weaker, All-take, All-append, All-cons, All-nil, filter_passes}
use Rattle.arch_model.specs.Set.{Set, has, put, union, members_below, len}
use Rattle.arch_model.specs.Member.{member_count}
use Rattle.arch_model.specs.Parts.{LibraryParts}
use Rattle.arch_model.specs.declared.limits.TheConstants.{MEMBERS}
use Rattle.arch_model.proofs.SetLaws.{has-put, has-union}
use Rattle.arch_model.proofs.Members.{or_cases, or_left}
use Rattle.arch_model.proofs.Counting.{len-members}
use Rattle.rows.specs.declared.row.Term.{Term}
use Rattle.rows.specs.declared.known.RowRef.{RowRef}
use Rattle.rows.specs.declared.known.RowRef.TheVariants.{Base, Cut, Cost}
use Rattle.rows.specs.Parts.{RowParts, CutParts, CubeParts, KnownParts}
use Rattle.rows.specs.Row.{RowHolds, IsRow, Ascends, IsRowBelow, row_of_cut, term, cut_coef, is_nonzero, coef_at}
use Rattle.rows.specs.Cube.{IsCubeBelow, LiesIn, fixed_at}
use Rattle.rows.specs.BaseRows.{cost_row_of, cost_terms}
use Rattle.rows.specs.Problem.{IsProblem}
use Rattle.rows.specs.Activity.{Forces, forces, least_forced}
use Rattle.rows.specs.Known.{known_rows, known_cuts, row_at, variables, IsKnown, IsCutBelow}
use Rattle.rows.specs.Trace.{cube_after, cube_after_step}
use Rattle.rows.proofs.Ascending.{collected_ascend, cut_ascends}
use Rattle.rows.proofs.AllParts.{all_left, all_right}
use Rattle.rows.proofs.CubeLaws.{holds_nowhere, is_refuted_when}
use Rattle.rows.proofs.SetFacts.{has-put_keeps, put_below}
use Rattle.rows.proofs.WhatIsForced.{has-put_other, has-put_same, ones_other, collected_is, forces_any}
use Rattle.rows.proofs.LeastForced.{found_is_forced}
use Rattle.rows.proofs.ClosingLoops.{low_chosen}

-- the row of a name is one of those that are known
at_place : (P : RowParts → Type 0) (rows : List RowParts) (i : ℕ) (row : RowParts) → All P rows → slice_get rows i ≡ Some row → P row
at_place P rows i row all at = subst P (get_or_from_slice_get rows i row row at) (all i row (slice_get_within rows i row at))

at_cut : (P : RowParts → Type 0) (cuts : List CutParts) (j : ℕ) (row : RowParts) → AllByRecursion P (map row_of_cut cuts) → option_map row_of_cut (slice_get cuts j) ≡ Some row → P row
at_cut P [] j row all is = absurd (let e : None ≡ Some row = is in cc)
at_cut P (cut ∷ cuts) zero row all is = let same : row_of_cut cut ≡ row = same_row (row_of_cut cut) row is in subst P same all.0 where
  same_row : (a b : RowParts) → Some a ≡ Some b → a ≡ b
  same_row a b e = cc
at_cut P (cut ∷ cuts) (suc j) row all is = at_cut P cuts j row all.1 is

at_bound : (P : RowParts → Type 0) (o : Option RowParts) (row : RowParts) → AllByRecursion P (option_to_list o) → o ≡ Some row → P row
at_bound P (Some x) row all is = let same : x ≡ row = cc in subst P same all.0
at_bound P None row all is = absurd (let e : None ≡ Some row = is in cc)

pub known_has : (P : RowParts → Type 0) (known : KnownParts) (r : RowRef) (row : RowParts) → All P (known_rows known) → row_at known r ≡ Some row → P row
known_has P known (Base i) row all is =
    at_place P known.problem.base i row
    (All-from_recursion P known.problem.base
    (all_left P known.problem.base (map row_of_cut (known_cuts known) ++ option_to_list (option_map (cost_row_of known.problem.library) known.bound)) (recursion_from_All P (known_rows known) all))) is
known_has P known (Cut j) row all is =
    at_cut P (known_cuts known) j row
    (all_left P (map row_of_cut (known_cuts known)) (option_to_list (option_map (cost_row_of known.problem.library) known.bound))
    (all_right P known.problem.base (map row_of_cut (known_cuts known) ++ option_to_list (option_map (cost_row_of known.problem.library) known.bound)) (recursion_from_All P (known_rows known) all))) is
known_has P known Cost row all is =
    at_bound P (option_map (cost_row_of known.problem.library) known.bound) row
    (all_right P (map row_of_cut (known_cuts known)) (option_to_list (option_map (cost_row_of known.problem.library) known.bound))
    (all_right P known.problem.base (map row_of_cut (known_cuts known) ++ option_to_list (option_map (cost_row_of known.problem.library) known.bound)) (recursion_from_All P (known_rows known) all))) is

-- a step by its parts
pub record StepParts (known : KnownParts) (cube : CubeParts) (r : RowRef) (next : CubeParts) : Type 0 where
  pub row : RowParts
  pub there : row_at known r ≡ Some row
  pub v : ℕ
  pub b : Bool
  pub first : least_forced row cube ≡ Some (v, b)
  pub is : next ≡ fixed_at cube v b

module _ (known : KnownParts) where
  by_forced : (cube : CubeParts) (r : RowRef) (next : CubeParts) (row : RowParts) → row_at known r ≡ Some row → (o : Option (ℕ × Bool)) → least_forced row cube ≡ o → option_map (λ (p : ℕ × Bool). fixed_at cube p.0 p.1) o ≡ Some next → StepParts known cube r next
  by_forced cube r next row there (Some p) first e = record { row = row; there = there; v = p.0; b = p.1; first = first; is = same (fixed_at cube p.0 p.1) next e } where
    same : (a b : CubeParts) → Some a ≡ Some b → b ≡ a
    same a b e = cc
  by_forced cube r next row there None first e = absurd (let f : None ≡ Some next = e in cc)

  by_row : (cube : CubeParts) (r : RowRef) (next : CubeParts) (o : Option RowParts) → row_at known r ≡ o → option_and_then (λ row. option_map (λ (p : ℕ × Bool). fixed_at cube p.0 p.1) (least_forced row cube)) o ≡ Some next → StepParts known cube r next
  by_row cube r next (Some row) there e = by_forced cube r next row there (least_forced row cube) refl e
  by_row cube r next None there e = absurd (let f : None ≡ Some next = e in cc)

  pub step_parts : (cube : CubeParts) (r : RowRef) (next : CubeParts) → cube_after_step known cube r ≡ Some next → StepParts known cube r next
  step_parts cube r next e = by_row cube r next (row_at known r) refl e

  -- what each step keeps, a trace keeps
  pub trace_keeps : (P : CubeParts → Type 0) → ((cube : CubeParts) (r : RowRef) (next : CubeParts) → P cube → StepParts known cube r next → P next) → (trace : List RowRef) (cube next : CubeParts) → cube_after known cube trace ≡ Some next → P cube → P next
  trace_keeps P step [] cube next e h = let same : cube ≡ next = same_cube cube next e in subst P same h where
    same_cube : (a b : CubeParts) → Some a ≡ Some b → a ≡ b
    same_cube a b e = cc
  trace_keeps P step (r ∷ trace) cube next e h =
      option_and_then_some (λ c. cube_after known c trace) (cube_after_step known cube r) next e
      (λ c at rest. trace_keeps P step trace c next rest (step cube r c h (step_parts cube r c at)))

  -- one trace after another
  pub trace_joined : (xs ys : List RowRef) (a b c : CubeParts) → cube_after known a xs ≡ Some b → cube_after known b ys ≡ Some c → cube_after known a (xs ++ ys) ≡ Some c
  trace_joined [] ys a b c e f = let same : a ≡ b = same_cube a b e in ap (λ x. cube_after known x ys) same ∙ f where
    same_cube : (a b : CubeParts) → Some a ≡ Some b → a ≡ b
    same_cube a b e = cc
  trace_joined (r ∷ xs) ys a b c e f =
      option_and_then_some (λ x. cube_after known x xs) (cube_after_step known a r) b e
      (λ x at rest. ap (option_and_then (λ y. cube_after known y (xs ++ ys))) at ∙ trace_joined xs ys x b c rest f)

  -- a forced variable is free
  pub step_free : (cube : CubeParts) (r : RowRef) (next : CubeParts) (p : StepParts known cube r next) → has cube.fixed p.v ≡ false
  step_free cube r next p = free_is (has cube.fixed p.v) (found_is_forced p.row cube p.v p.b p.first).is_free where
    free_is : (b : Bool) → not b ≡ true → b ≡ false
    free_is true h = absurd (let e : false ≡ true = h in cc)
    free_is false h = refl

  -- what is fixed stays so
  pub fixed_stays : (w : ℕ) (trace : List RowRef) (cube next : CubeParts) → cube_after known cube trace ≡ Some next → has cube.fixed w ≡ true → has next.fixed w ≡ true
  fixed_stays w = trace_keeps (λ c. has c.fixed w ≡ true) (λ cube r next h p. ap (λ (c : CubeParts). has c.fixed w) p.is ∙ has-put_keeps cube.fixed p.v w h)

-- only fixed variables are at 1
abbrev pub Within : CubeParts → Type 0
Within cube = (v : ℕ) → has cube.ones v ≡ true → has cube.fixed v ≡ true

pub within_fixed : (cube : CubeParts) (v : ℕ) (b : Bool) → Within cube → Within (fixed_at cube v b)
within_fixed cube v true h w on = has-put cube.fixed v w ∙ elim (or_cases (has cube.ones w) (nat_eq v w) (sym (has-put cube.ones v w) ∙ on)) [
  | inl old ↦ or_left (has cube.fixed w) (nat_eq v w) (h w old)
  | inr new ↦ or_right_by (has cube.fixed w) (nat_eq v w) new
] where
  or_right_by : (a b : Bool) → b ≡ true → (a || b) ≡ true
  or_right_by true b h = refl
  or_right_by false b h = h
within_fixed cube v false h w on = has-put_keeps cube.fixed v w (h w on)

-- a vector that meets what is known stays inside
pub ones_at : (cube : CubeParts) (v : ℕ) (b : Bool) → Within cube → has cube.fixed v ≡ false → has (if b then put cube.ones v else cube.ones) v ≡ b
ones_at cube v true h free = has-put_same cube.ones v
ones_at cube v false h free = none_of (has cube.ones v) (λ on. let e : false ≡ true = sym free ∙ h v on in cc) where
  none_of : (b : Bool) → (b ≡ true → ⊥) → b ≡ false
  none_of true f = absurd (f refl)
  none_of false f = refl

pub lies_at : (cube : CubeParts) (x : ℕ → Bool) (v : ℕ) (b : Bool) → Within cube → has cube.fixed v ≡ false → LiesIn x cube → x v ≡ b → LiesIn x (fixed_at cube v b)
lies_at cube x v b h free lies at w on = elim (eqb_tells v w) [
  | inl same ↦ ap x (sym same.1) ∙ at ∙ sym (ones_at cube v b h free) ∙ ap (has (if b then put cube.ones v else cube.ones)) same.1
  | inr other ↦ lies w (sym (has-put_other cube.fixed v w other.1) ∙ on) ∙ sym (ones_other cube v w b other.1)
]

other_value : (a b : Bool) → (a ≡ not b → ⊥) → a ≡ b
other_value true true h = refl
other_value true false h = absurd (h refl)
other_value false true h = absurd (h refl)
other_value false false h = refl

step_value : (cube : CubeParts) (x : ℕ → Bool) (row : RowParts) (v : ℕ) (b : Bool) → Within cube → has cube.fixed v ≡ false → LiesIn x cube → RowHolds row x → Forces row cube v b → x v ≡ b
step_value cube x row v b h free lies holds forced =
    other_value (x v) b (λ at. holds_nowhere row (fixed_at cube v (not b)) x (lies_at cube x v (not b) h free lies at) holds (is_refuted_when row (fixed_at cube v (not b)) forced.other))

module _ (known : KnownParts) where
  pub within_stays : (trace : List RowRef) (cube next : CubeParts) → cube_after known cube trace ≡ Some next → Within cube → Within next
  within_stays = trace_keeps known Within (λ cube r next h p. subst Within (sym p.is) (within_fixed cube p.v p.b h))

  pub trace_keeps_vectors : (x : ℕ → Bool) → All (λ row. RowHolds row x) (known_rows known) → (trace : List RowRef) (cube next : CubeParts) → cube_after known cube trace ≡ Some next → Within cube → LiesIn x cube → LiesIn x next
  trace_keeps_vectors x holds trace cube next e h lies =
      (trace_keeps known (λ c. Within c × LiesIn x c) (λ c r n k p. (
        subst Within (sym p.is) (within_fixed c p.v p.b k.0),
        let L : CubeParts → Type 0 = LiesIn x in
            subst L (sym p.is)
            (lies_at c x p.v p.b k.0 (step_free known c r n p) k.1
            (step_value c x p.row p.v p.b k.0 (step_free known c r n p) k.1 (known_has (λ row. RowHolds row x) known r p.row holds p.there) (found_is_forced p.row c p.v p.b p.first))),
      )) trace cube next e (h, lies)).1

-- how many are fixed
same_length : (b : Bool) (v : ℕ) (xs ys : List ℕ) → length xs ≡ length ys → length (cond b (v ∷ xs) xs) ≡ length (cond b (v ∷ ys) ys)
same_length true v xs ys e = ap suc e
same_length false v xs ys e = e

more_length : (b : Bool) (v : ℕ) (xs ys : List ℕ) → length xs ≡ suc (length ys) → length (cond b (v ∷ xs) xs) ≡ suc (length (cond b (v ∷ ys) ys))
more_length true v xs ys e = ap suc e
more_length false v xs ys e = e

count_before : (s : Set) (v a n : ℕ) → v < a → length (filter (has (put s v)) (range_with_len a n)) ≡ length (filter (has s) (range_with_len a n))
count_before s v a zero h = refl
count_before s v a (suc n) h =
    let ne : v ≡ a → ⊥ = λ e. absurd (omega (arith, e, h)) in
    ap (λ b. length (cond b (a ∷ filter (has (put s v)) (range_with_len (a + 1) n)) (filter (has (put s v)) (range_with_len (a + 1) n)))) (has-put_other s v a ne)
    ∙ same_length (has s a) a (filter (has (put s v)) (range_with_len (a + 1) n)) (filter (has s) (range_with_len (a + 1) n)) (count_before s v (a + 1) n (omega arith))

count_put : (s : Set) (v a n : ℕ) → has s v ≡ false → a ≤ v → v < a + n → length (filter (has (put s v)) (range_with_len a n)) ≡ suc (length (filter (has s) (range_with_len a n)))
count_put s v a zero out low high = absurd (omega arith)
count_put s v a (suc n) out low high = elim (eqb_tells v a) [
  | inl same ↦
      let on : has (put s v) a ≡ true = ap (has (put s v)) (sym same.1) ∙ has-put_same s v in
      let off : has s a ≡ false = ap (has s) (sym same.1) ∙ out in
      ap (λ b. length (cond b (a ∷ filter (has (put s v)) (range_with_len (a + 1) n)) (filter (has (put s v)) (range_with_len (a + 1) n)))) on
      ∙ ap suc (count_before s v (a + 1) n (omega (arith, same.1)))
      ∙ sym (ap (λ b. suc (length (cond b (a ∷ filter (has s) (range_with_len (a + 1) n)) (filter (has s) (range_with_len (a + 1) n))))) off)
  | inr other ↦
      ap (λ b. length (cond b (a ∷ filter (has (put s v)) (range_with_len (a + 1) n)) (filter (has (put s v)) (range_with_len (a + 1) n)))) (has-put_other s v a other.1)
      ∙ more_length (has s a) a (filter (has (put s v)) (range_with_len (a + 1) n)) (filter (has s) (range_with_len (a + 1) n)) (count_put s v (a + 1) n out (omega (arith, low, other.1)) (omega arith))
]

pub len_put : (s : Set) (v n : ℕ) → has s v ≡ false → v < n → ((k : ℕ) → has s k ≡ true → k < n) → len (put s v) ≡ suc (len s)
unfolding members_below
len_put s v n out short below =
    len-members (put s v) n (put_below s v n short below) ∙ count_put s v 0 n out (omega arith) (omega arith) ∙ ap suc (sym (len-members s n below))

pub trace_counts : (known : KnownParts) (n : ℕ) (trace : List RowRef) (cube next : CubeParts) → IsCubeBelow n next → cube_after known cube trace ≡ Some next → len next.fixed ≡ len cube.fixed + length trace
trace_counts known n [] cube next below e = let same : cube ≡ next = same_cube cube next e in ap (λ (c : CubeParts). len c.fixed) (sym same) ∙ omega arith where
  same_cube : (a b : CubeParts) → Some a ≡ Some b → a ≡ b
  same_cube a b e = cc
trace_counts known n (r ∷ trace) cube next below e =
    option_and_then_some (λ c. cube_after known c trace) (cube_after_step known cube r) next e
    (λ c at rest.
    let p = step_parts known cube r c at in
    let fixed : c.fixed ≡ put cube.fixed p.v = ap (λ (x : CubeParts). x.fixed) p.is in
    let on : has c.fixed p.v ≡ true = ap (λ s. has s p.v) fixed ∙ has-put_same cube.fixed p.v in
    let short : p.v < n = below p.v (fixed_stays known p.v trace c next rest on) in
    let old : (k : ℕ) → has cube.fixed k ≡ true → k < n = λ k h. below k (fixed_stays known k trace c next rest (ap (λ s. has s k) fixed ∙ has-put_keeps cube.fixed p.v k h)) in
    let one : len c.fixed ≡ suc (len cube.fixed) = ap len fixed ∙ len_put cube.fixed p.v n (step_free known cube r c p) short old in
    let later : len next.fixed ≡ len c.fixed + length trace = trace_counts known n trace c next below rest in
    omega (arith, one, later))

-- the rows that are known are over the program's variables, so what they force are such variables
same_some : (a b : ℕ) → Some a ≡ Some b → a ≡ b
same_some a b e = cc

one_below : (b : Bool) (w n v : ℕ) (o : Option ℕ) → w < n → (o ≡ Some v → v < n) → cond b (Some w) o ≡ Some v → v < n
one_below true w n v o less rest e = subst (λ u. u < n) (same_some w v e) less
one_below false w n v o less rest e = rest e

found_below : (p : ℕ → Bool) (n v : ℕ) (terms : List Term) → AllByRecursion (λ t. t.var.0 < n) terms → find p (map (λ t. t.var.0) terms) ≡ Some v → v < n
found_below p n v [] all e = absurd (let f : None ≡ Some v = e in cc)
found_below p n v (t ∷ terms) all e = one_below (p t.var.0) t.var.0 n v (find p (map (λ (u : Term). u.var.0) terms)) all.0 (found_below p n v terms all.1) e

same_first : (p q : ℕ × Bool) → Some p ≡ Some q → p.0 ≡ q.0
same_first p q e = let same : p ≡ q = cc in ap (λ (r : ℕ × Bool). r.0) same

by_found : (p f : ℕ → Bool) (n v : ℕ) (b : Bool) (terms : List Term) → AllByRecursion (λ t. t.var.0 < n) terms → (o : Option ℕ) → find p (map (λ t. t.var.0) terms) ≡ o → option_map {U = ℕ × Bool} (λ w. (w, f w)) o ≡ Some (v, b) → v < n
by_found p f n v b terms all None is e = absurd (let g : None ≡ Some (v, b) = e in cc)
by_found p f n v b terms all (Some w) is e = subst (λ u. u < n) (same_first (w, f w) (v, b) e) (found_below p n w terms all is)

first_below : (n : ℕ) (row : RowParts) (cube : CubeParts) (v : ℕ) (b : Bool) → IsRowBelow n row → least_forced row cube ≡ Some (v, b) → v < n
first_below n row cube v b below e =
    by_found (forces_any row cube) (λ w. forces row cube w true) n v b row.terms (recursion_from_All (λ (t : Term). t.var.0 < n) row.terms below) (find (forces_any row cube) (map (λ (t : Term). t.var.0) row.terms)) refl e

pub trace_below : (known : KnownParts) (n : ℕ) → All (IsRowBelow n) (known_rows known) → (trace : List RowRef) (cube next : CubeParts) → cube_after known cube trace ≡ Some next → IsCubeBelow n cube → IsCubeBelow n next
trace_below known n rows =
    trace_keeps known (IsCubeBelow n)
    (λ cube r next h p.
    let B : CubeParts → Type 0 = IsCubeBelow n in
    subst B (sym p.is) (put_below cube.fixed p.v n (first_below n p.row cube p.v p.b (known_has (IsRowBelow n) known r p.row rows p.there) p.first) h))

pub cut_below : (n : ℕ) (cut : CutParts) → IsCutBelow n cut → IsRowBelow n (row_of_cut cut)
unfolding members_below
cut_below n cut below =
    All-map (λ (t : Term). t.var.0 < n) (λ v. term v (cut_coef cut v)) (members_below (union cut.plus cut.minus) MEMBERS)
    (All-weaker (λ v. has (union cut.plus cut.minus) v ≡ true) (λ v. v < n)
    (λ v on. elim (or_cases (has cut.plus v) (has cut.minus v) (sym (has-union cut.plus cut.minus v) ∙ on)) [ inl p ↦ below.plus v p | inr m ↦ below.minus v m ])
    (members_below (union cut.plus cut.minus) MEMBERS) (filter_passes (has (union cut.plus cut.minus)) (range_with_len 0 MEMBERS)))

cost_below : (lib : LibraryParts) (u : ℕ) → IsRowBelow (member_count lib) (cost_row_of lib u)
cost_below lib u =
    let P : List Term → Type 0 = λ l. All (λ t. t.var.0 < member_count lib) l in
    let q : ℕ → Bool = λ v. is_nonzero (coef_at (cost_terms lib) v) in
    subst P (sym (collected_is (member_count lib) (cost_terms lib)))
    (All-map (λ (t : Term). t.var.0 < member_count lib) (λ v. term v (coef_at (cost_terms lib) v)) (filter q (range_with_len 0 (member_count lib)))
    (All-from_recursion (λ v. v < member_count lib) (filter q (range_with_len 0 (member_count lib))) (low_chosen q 0 (member_count lib) (member_count lib) (omega arith))))

bound_below : (lib : LibraryParts) (bound : Option ℕ) → All (IsRowBelow (member_count lib)) (option_to_list (option_map (cost_row_of lib) bound))
bound_below lib (Some u) = All-cons (IsRowBelow (member_count lib)) (cost_row_of lib u) [] (cost_below lib u) (All-nil (IsRowBelow (member_count lib)))
bound_below lib None = All-nil (IsRowBelow (member_count lib))

pub rows_below : (known : KnownParts) → IsProblem known.problem → IsKnown known → All (IsRowBelow (variables known)) (known_rows known)
rows_below known problem is =
    All-append (IsRowBelow (variables known)) known.problem.base (map row_of_cut (known_cuts known) ++ option_to_list (option_map (cost_row_of known.problem.library) known.bound)) problem.decide.variables
    (All-append (IsRowBelow (variables known)) (map row_of_cut (known_cuts known)) (option_to_list (option_map (cost_row_of known.problem.library) known.bound))
    (All-map (IsRowBelow (variables known)) row_of_cut (known_cuts known)
    (All-weaker (IsCutBelow (variables known)) (λ cut. IsRowBelow (variables known) (row_of_cut cut)) (cut_below (variables known)) (known_cuts known) (All-take (IsCutBelow (variables known)) known.upto known.cuts is.cuts)))
    (bound_below known.problem.library known.bound))

-- the terms of each row that is known ascend
bound_ascends : (lib : LibraryParts) (bound : Option ℕ) → All Ascends (option_to_list (option_map (cost_row_of lib) bound))
bound_ascends lib (Some u) = All-cons Ascends (cost_row_of lib u) [] (collected_ascend (member_count lib) (cost_terms lib)) (All-nil Ascends)
bound_ascends lib None = All-nil Ascends

cuts_ascend : (cuts : List CutParts) → AllByRecursion (λ cut. Ascends (row_of_cut cut)) cuts
cuts_ascend [] = tt
cuts_ascend (cut ∷ cuts) = (cut_ascends cut, cuts_ascend cuts)

pub rows_ascend : (known : KnownParts) → IsProblem known.problem → All Ascends (known_rows known)
rows_ascend known problem =
    All-append Ascends known.problem.base (map row_of_cut (known_cuts known) ++ option_to_list (option_map (cost_row_of known.problem.library) known.bound))
    (All-weaker IsRow Ascends (λ row is. is.ascending) known.problem.base problem.rows)
    (All-append Ascends (map row_of_cut (known_cuts known)) (option_to_list (option_map (cost_row_of known.problem.library) known.bound))
    (All-map Ascends row_of_cut (known_cuts known) (All-from_recursion (λ cut. Ascends (row_of_cut cut)) (known_cuts known) (cuts_ascend (known_cuts known))))
    (bound_ascends known.problem.library known.bound))

pub named_ascends : (known : KnownParts) (r : RowRef) (row : RowParts) → IsProblem known.problem → row_at known r ≡ Some row → Ascends row
named_ascends known r row problem there = known_has Ascends known r row (rows_ascend known problem) there
