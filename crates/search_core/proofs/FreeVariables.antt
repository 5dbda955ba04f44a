-- How many variables a cube leaves free, and how often it can be split.
use Rattle.std.proofs.Common.{◌≡◌, ℕ, suc, ◌+◌, ◌-◌, ◌*◌, ◌^◌, ◌<◌, ◌≤◌, Bool, true, nat_eq, List, Some, refl, sym, subst, ◌∙◌, arith, inl, inr}
use Rattle.std.specs.List.{range_with_len}
use Rattle.std.proofs.lemmas.Bool.{eq-eqb}
use Rattle.std.proofs.lemmas.Nat.{pow_pos}
use Rattle.std.proofs.Math.Nat.{pow-le-pow_right, pow-suc}
use Rattle.arch_model.specs.Set.{has, put}
use Rattle.arch_model.proofs.Members.{or_left, or_right, not_true, not_of, is_in-range, length-filter-mono, filter_grows}
use Rattle.arch_model.proofs.SetLaws.{has-put}
use Rattle.rows.specs.declared.known.RowRef.{RowRef}
use Rattle.rows.specs.Parts.{CubeParts, KnownParts}
use Rattle.rows.specs.Cube.{is_free, fixed_at}
use Rattle.rows.specs.Trace.{cube_after}
use Rattle.search_core.specs.Invariant.{free_count}
use Rattle.search_core.proofs.TraceLaws.{trace_keeps}

-- what is free once v is fixed was free before
still_free : (cube : CubeParts) (v : ℕ) (b : Bool) (w : ℕ) → is_free (fixed_at cube v b) w ≡ true → is_free cube w ≡ true
still_free cube v b w = not_of (has (put cube.fixed v) w) (has cube.fixed w) (λ on. has-put cube.fixed v w ∙ or_left (has cube.fixed w) (nat_eq v w) on)

not_free : (cube : CubeParts) (v : ℕ) (b : Bool) → is_free (fixed_at cube v b) v ≡ true → ⊥
not_free cube v b free = not_true (has (put cube.fixed v) v) free (has-put cube.fixed v v ∙ or_right (has cube.fixed v) (nat_eq v v) (eq-eqb v v refl))

-- a free variable that is fixed is one free variable less
pub fewer_free : (n : ℕ) (cube : CubeParts) (v : ℕ) (b : Bool) → free_count n (fixed_at cube v b) ≤ free_count n cube
fewer_free n cube v b = length-filter-mono (is_free (fixed_at cube v b)) (is_free cube) (range_with_len 0 n) (λ w here free. still_free cube v b w free)

pub one_less_free : (n : ℕ) (cube : CubeParts) (v : ℕ) (b : Bool) → v < n → is_free cube v ≡ true → free_count n (fixed_at cube v b) < free_count n cube
one_less_free n cube v b short free = elim (filter_grows (is_free (fixed_at cube v b)) (is_free cube) (range_with_len 0 n) (λ w here is. still_free cube v b w is)) [
  | inl less ↦ less
  | inr same ↦ absurd (not_free cube v b (same v (is_in-range 0 n v (omega arith) (omega arith)) free))
]

-- a trace leaves no more variables free
pub fewer_after : (known : KnownParts) (n : ℕ) (trace : List RowRef) (cube after : CubeParts) → cube_after known cube trace ≡ Some after → free_count n after ≤ free_count n cube
fewer_after known n trace cube after e =
    let P : CubeParts → Type 0 = λ c. free_count n c ≤ free_count n cube in
    trace_keeps known P (λ c next r h step.
    let less : free_count n (fixed_at c step.var step.value) ≤ free_count n c = fewer_free n c step.var step.value in
    let within : free_count n (fixed_at c step.var step.value) ≤ free_count n cube = omega arith in
    subst P (sym step.fixes) within) trace cube after (omega arith) e

-- the two cubes of a branching can be split less often than the cube before it, by one
pub split_space : (f g h : ℕ) → g < f → h < f → (1 + (2 ^ g - 1)) + (2 ^ h - 1) ≤ 2 ^ f - 1
split_space f g h less also =
    let twice : 2 ^ suc g ≤ 2 ^ f = pow-le-pow_right {n = 2} (omega arith) (omega arith) in
    let again : 2 ^ suc h ≤ 2 ^ f = pow-le-pow_right {n = 2} (omega arith) (omega arith) in
    let two : 2 ^ suc g ≡ 2 ^ g * 2 = pow-suc 2 g in
    let other : 2 ^ suc h ≡ 2 ^ h * 2 = pow-suc 2 h in
    let some : 0 < 2 ^ g = pow_pos g in
    let some' : 0 < 2 ^ h = pow_pos h in
    omega arith

pub less_space : (f g : ℕ) → g ≤ f → 2 ^ g - 1 ≤ 2 ^ f - 1
less_space f g le = let up : 2 ^ g ≤ 2 ^ f = pow-le-pow_right {n = 2} (omega arith) le in omega arith
