-- The cost row and the cuts among the rows that are known.
use Rattle.std.proofs.Common.{◌≡◌, ℕ, ◌<◌, List, take, length, slice_get, Option, Some, None, IfSome, option_map, subst, refl, sym, ◌∙◌, arith}
use Rattle.std.proofs.lemmas.List.{length-take, get_or-take}
use Rattle.std.proofs.lemmas.Option.{slice_get_within, get_or_from_slice_get}
use Rattle.arch_model.specs.Parts.{LibraryParts}
use Rattle.rows.specs.declared.known.RowRef.{RowRef}
use Rattle.rows.specs.declared.known.RowRef.TheVariants.{Cut, Cost}
use Rattle.rows.specs.Parts.{RowParts, CutParts, KnownParts}
use Rattle.rows.specs.Row.{row_of_cut}
use Rattle.rows.specs.BaseRows.{cost_row_of}
use Rattle.rows.specs.Known.{row_at}

-- a fact of the cost row for each bound is one of the row of its name
for_bound : (P : RowParts → Type 0) (lib : LibraryParts) (bound : Option ℕ) → ((u : ℕ) → P (cost_row_of lib u)) → IfSome (option_map (cost_row_of lib) bound) P
for_bound P lib (Some u) each = each u
for_bound P lib None each = tt

pub of_cost_row : (P : RowParts → Type 0) (known : KnownParts) (r : RowRef) → r ≡ Cost → ((u : ℕ) → P (cost_row_of known.problem.library u)) → IfSome (row_at known r) P
of_cost_row P known r is each = let family : RowRef → Type 0 = λ s. IfSome (row_at known s) P in subst family (sym is) (for_bound P known.problem.library known.bound each)

-- so is a fact of the cost row for the bound that there is
for_this : (P : RowParts → Type 0) (lib : LibraryParts) (bound : Option ℕ) (u : ℕ) → bound ≡ Some u → P (cost_row_of lib u) → IfSome (option_map (cost_row_of lib) bound) P
for_this P lib bound u e h = let family : Option ℕ → Type 0 = λ o. IfSome (option_map (cost_row_of lib) o) P in subst family (sym e) h

pub of_bound_row : (P : RowParts → Type 0) (known : KnownParts) (r : RowRef) (lib : LibraryParts) (u : ℕ) → r ≡ Cost → lib ≡ known.problem.library → known.bound ≡ Some u → P (cost_row_of lib u) → IfSome (row_at known r) P
of_bound_row P known r lib u is same e h =
    let family : RowRef → Type 0 = λ s. IfSome (row_at known s) P in
    let own : LibraryParts → Type 0 = λ l. P (cost_row_of l u) in
    subst family (sym is) (for_this P known.problem.library known.bound u e (subst own same h))

-- a fact of the row of a cut is one of the row of its name
front_same : {X : Type 0} (xs : List X) (n j : ℕ) (x y : X) → slice_get (take n xs) j ≡ Some x → slice_get xs j ≡ Some y → x ≡ y
front_same xs n j x y e f =
    let inside : j < length (take n xs) = slice_get_within (take n xs) j x e in
    let short : j < n = omega (arith, length-take n xs, inside) in
    sym (get_or_from_slice_get (take n xs) j x y e) ∙ get_or-take n xs j y short ∙ get_or_from_slice_get xs j y y f

for_cut : (P : RowParts → Type 0) (known : Option CutParts) (cut : CutParts) → ((x : CutParts) → known ≡ Some x → x ≡ cut) → P (row_of_cut cut) → IfSome (option_map row_of_cut known) P
for_cut P (Some x) cut same h = let family : CutParts → Type 0 = λ y. P (row_of_cut y) in subst family (sym (same x refl)) h
for_cut P None cut same h = tt

pub of_cut_row : (P : RowParts → Type 0) (known : KnownParts) (r : RowRef) (j : ℕ) (cut : CutParts) → r ≡ Cut j → slice_get known.cuts j ≡ Some cut → P (row_of_cut cut) → IfSome (row_at known r) P
of_cut_row P known r j cut is at h =
    let family : RowRef → Type 0 = λ s. IfSome (row_at known s) P in
    subst family (sym is) (for_cut P (slice_get (take known.upto known.cuts) j) cut (λ x e. front_same known.cuts known.upto j x cut e at) h)

-- what follows from one fact of the row of a name, or from two, where there is such a row
pub if_some : {X : Type 0} (P Q : X → Type 0) (o : Option X) → ((x : X) → P x → Q x) → IfSome o P → IfSome o Q
if_some P Q (Some x) f p = f x p
if_some P Q None f p = tt

pub if_both : {X : Type 0} (P Q R : X → Type 0) (o : Option X) → ((x : X) → P x → Q x → R x) → IfSome o P → IfSome o Q → IfSome o R
if_both P Q R (Some x) f p q = f x p q
if_both P Q R None f p q = tt
