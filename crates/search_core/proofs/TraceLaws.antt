-- What a legal trace keeps.
use Rattle.std.proofs.Common.{◌≡◌, ℕ, ◌<◌, ◌≤◌, Bool, true, false, nat_eq, List, [], ◌∷◌, map, find, Some, cond, option_map, sym, ap, subst, ◌∙◌, inl, inr, arith, if◌then◌else◌}
use Rattle.std.proofs.lemmas.Bool.{eqb-true}
use Rattle.std.specs.List.{AllByRecursion}
use Rattle.std.proofs.lemmas.List.Elements.{recursion_from_All}
use Rattle.arch_model.specs.Set.{has, put}
use Rattle.arch_model.specs.declared.limits.TheConstants.{MEMBERS}
use Rattle.arch_model.proofs.Members.{or_cases, or_left, or_right}
use Rattle.arch_model.proofs.SetLaws.{has-put}
use Rattle.rows.specs.declared.row.Term.{Term}
use Rattle.rows.specs.declared.known.RowRef.{RowRef}
use Rattle.rows.specs.Parts.{RowParts, CubeParts, KnownParts}
use Rattle.rows.specs.Row.{RowHolds, IsRowBelow}
use Rattle.rows.specs.Cube.{IsCube, IsCubeBelow, LiesIn, fixed_at}
use Rattle.rows.specs.Activity.{Forces, forces, least_forced}
use Rattle.rows.specs.Known.{row_at}
use Rattle.rows.specs.Trace.{cube_after, cube_after_step}
use Rattle.rows.proofs.CubeLaws.{lies_fixed, forced_is_kept}
use Rattle.rows.proofs.LeastForced.{found_is_forced}
use Rattle.search_core.proofs.Options.{none_is_some, same_some, mapped_from, chained_from}

-- one step of a trace: a known row forces a variable to a value, and the next cube has it
pub record IsForcedStep (known : KnownParts) (cube : CubeParts) (r : RowRef) (next : CubeParts) : Type 0 where
  pub row : RowParts
  pub named : row_at known r ≡ Some row
  pub var : ℕ
  pub value : Bool
  pub forced : least_forced row cube ≡ Some (var, value)
  pub fixes : next ≡ fixed_at cube var value

pub forced_step : (known : KnownParts) (cube next : CubeParts) (r : RowRef) → cube_after_step known cube r ≡ Some next → IsForcedStep known cube r next
forced_step known cube next r e =
    chained_from (IsForcedStep known cube r next) (λ row. option_map (λ p. fixed_at cube p.0 p.1) (least_forced row cube)) (row_at known r) next e
    (λ row named is. mapped_from (IsForcedStep known cube r next) (λ p. fixed_at cube p.0 p.1) (least_forced row cube) next is
    (λ p forced fixes. record { row = row; named = named; var = p.0; value = p.1; forced = forced; fixes = fixes }))

-- what each step keeps, a trace keeps
pub trace_keeps : (known : KnownParts) (P : CubeParts → Type 0) → ((cube next : CubeParts) (r : RowRef) → P cube → IsForcedStep known cube r next → P next)
    → (trace : List RowRef) (cube after : CubeParts) → P cube → cube_after known cube trace ≡ Some after → P after
trace_keeps known P keeps [] cube after h e = subst P (same_some e) h
trace_keeps known P keeps (r ∷ trace) cube after h e =
    chained_from (P after) (λ next. cube_after known next trace) (cube_after_step known cube r) after e
    (λ next step rest. trace_keeps known P keeps trace next after (keeps cube next r h (forced_step known cube next r step)) rest)

-- a forced variable is one of the row's
found_among : (P : ℕ → Type 0) (p : ℕ → Bool) (xs : List ℕ) (v : ℕ) → AllByRecursion P xs → find p xs ≡ Some v → P v
found_among P p [] v all e = none_is_some v e
found_among P p (x ∷ xs) v all is =
    elim (p x) as (λ b. cond b (Some x) (find p xs) ≡ Some v → P v) [
      | true ↦ λ h. subst P (same_some h) all.0
      | false ↦ λ h. found_among P p xs v all.1 h
    ] is

variables_below : (n : ℕ) (terms : List Term) → AllByRecursion (λ t. t.var.0 < n) terms → AllByRecursion (λ v. v < n) (map (λ t. t.var.0) terms)
variables_below n [] h = tt
variables_below n (t ∷ terms) h = (h.0, variables_below n terms h.1)

pub forced_below : (n : ℕ) (row : RowParts) (cube : CubeParts) (v : ℕ) (b : Bool) → IsRowBelow n row → least_forced row cube ≡ Some (v, b) → v < n
forced_below n row cube v b below e =
    let any : ℕ → Bool = λ w. if forces row cube w true then true else forces row cube w false in
    mapped_from (v < n) (λ w. (w, forces row cube w true)) (find any (map (λ t. t.var.0) row.terms)) (v, b) e
    (λ w there is.
    let same : v ≡ w = ap (λ (p : ℕ × Bool). p.0) is in
    let P : ℕ → Type 0 = λ u. u < n in
    subst P (sym same) (found_among P any (map (λ t. t.var.0) row.terms) w (variables_below n row.terms (recursion_from_All (λ (t : Term). t.var.0 < n) row.terms below)) there))

-- a cube with one more variable fixed is one, over the same variables
module _ (n : ℕ) (few : n ≤ MEMBERS) (cube : CubeParts) (v : ℕ) (b : Bool) (short : v < n) where
  fixed_below : IsCubeBelow n cube → IsCubeBelow n (fixed_at cube v b)
  fixed_below below w on = elim (or_cases (has cube.fixed w) (nat_eq v w) (sym (has-put cube.fixed v w) ∙ on)) [
    | inl before ↦ below w before
    | inr here ↦ let same = eqb-true v w here in omega arith
  ]

  fixed_ones : (b : Bool) → IsCube cube → (w : ℕ) → has (if b then put cube.ones v else cube.ones) w ≡ true → has (put cube.fixed v) w ≡ true
  fixed_ones true is w on = has-put cube.fixed v w ∙ elim (or_cases (has cube.ones w) (nat_eq v w) (sym (has-put cube.ones v w) ∙ on)) [
    | inl before ↦ or_left (has cube.fixed w) (nat_eq v w) (is.within w before)
    | inr here ↦ or_right (has cube.fixed w) (nat_eq v w) here
  ]
  fixed_ones false is w on = has-put cube.fixed v w ∙ or_left (has cube.fixed w) (nat_eq v w) (is.within w on)

  pub fixed_is_cube : IsCube cube × IsCubeBelow n cube → IsCube (fixed_at cube v b) × IsCubeBelow n (fixed_at cube v b)
  fixed_is_cube h = (
    record {
      within = λ w on. fixed_ones b h.0 w on;
      small = λ w on. let low = fixed_below h.1 w on in omega arith;
    },
    fixed_below h.1,
  )

-- so is the cube after a trace
pub cube_kept : (known : KnownParts) (n : ℕ) → n ≤ MEMBERS → ((r : RowRef) (row : RowParts) → row_at known r ≡ Some row → IsRowBelow n row)
    → (trace : List RowRef) (cube after : CubeParts) → IsCube cube × IsCubeBelow n cube → cube_after known cube trace ≡ Some after → IsCube after × IsCubeBelow n after
cube_kept known n few below trace cube after h e =
    let P : CubeParts → Type 0 = λ c. IsCube c × IsCubeBelow n c in
    trace_keeps known P (λ c next r is step. subst P (sym step.fixes) (fixed_is_cube n few c step.var step.value (forced_below n step.row c step.var step.value (below r step.row step.named) step.forced) is)) trace cube after h e

-- a vector of the cube that meets each known row lies in the cube after a trace
pub lies_after : (known : KnownParts) (n : ℕ) (x : ℕ → Bool) → n ≤ MEMBERS → ((r : RowRef) (row : RowParts) → row_at known r ≡ Some row → IsRowBelow n row)
    → ((r : RowRef) (row : RowParts) → row_at known r ≡ Some row → RowHolds row x)
    → (trace : List RowRef) (cube after : CubeParts) → IsCube cube × IsCubeBelow n cube → LiesIn x cube → cube_after known cube trace ≡ Some after → LiesIn x after
lies_after known n x few below holds trace cube after is lies e =
    let P : CubeParts → Type 0 = λ c. (IsCube c × IsCubeBelow n c) × LiesIn x c in
    (trace_keeps known P (λ c next r h step.
    let forced : Forces step.row c step.var step.value = found_is_forced step.row c step.var step.value step.forced in
    let value : x step.var ≡ step.value = forced_is_kept step.row c step.var step.value x h.0.0 forced h.1 (holds r step.row step.named) in
    subst P (sym step.fixes) (
      fixed_is_cube n few c step.var step.value (forced_below n step.row c step.var step.value (below r step.row step.named) step.forced) h.0,
      lies_fixed c x step.var step.value h.0.0 forced.is_free h.1 value,
    )) trace cube after (is, lies) e).1
