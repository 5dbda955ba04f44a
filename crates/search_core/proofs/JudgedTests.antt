-- What the tests find on which the rules stand.
use Rattle.std.proofs.Common.{◌≡◌, ℕ, ◌<◌, pos, Bool, true, false, List, [], length, get_or, slice_get, Option, Some, None, IfSome, if◌then◌else◌, refl, sym, ap, ◌∙◌}
use Rattle.std.specs.Prelude.{is_some}
use Rattle.std.proofs.lemmas.Option.{slice_get-get_or, slice_get_within, get_or_from_slice_get}
use Rattle.arch_model.specs.declared.library.Requirement.{Requirement}
use Rattle.arch_model.specs.Set.{has}
use Rattle.rows.specs.Parts.{RowParts, CubeParts}
use Rattle.rows.specs.Cube.{value_at}
use Rattle.rows.specs.Activity.{is_refuted}
use Rattle.search_core.proofs.Options.{from_if_some}

-- a variable that has a value is fixed
pub fixed_there : (cube : CubeParts) (v : ℕ) (o : Option Bool) → is_some o ≡ true → o ≡ value_at cube v → has cube.fixed v ≡ true
fixed_there cube v o h e = by_fixed (has cube.fixed v) (ap is_some (sym e) ∙ h) where
  by_fixed : (b : Bool) → is_some (if b then Some (has cube.ones v) else None) ≡ true → b ≡ true
  by_fixed true h = refl
  by_fixed false h = h

-- a fact of the row at a place
pub row_there : (P : RowParts → Type 0) (rows : List RowParts) (i : ℕ) (d : RowParts) → IfSome (slice_get rows i) P → i < length rows → P (get_or rows i d)
row_there P rows i d h short = from_if_some P (slice_get rows i) (get_or rows i d) h (slice_get-get_or rows i d short)

abbrev pub blank_row : RowParts
blank_row = record { terms = []; least = pos 0 }

-- a fact of the requirement at a place
pub requirement_there : (requirements : List Requirement) (k : ℕ) (r d : Requirement) → slice_get requirements k ≡ Some r → (k < length requirements) × (get_or requirements k d ≡ r)
requirement_there requirements k r d at = (slice_get_within requirements k r at, get_or_from_slice_get requirements k r d at)

pub requirement_at : (requirements : List Requirement) (k : ℕ) (d : Requirement) → k < length requirements → slice_get requirements k ≡ Some (get_or requirements k d)
requirement_at requirements k d short = slice_get-get_or requirements k d short

pub was_false : (o : Option RowParts) (cube : CubeParts) → IfSome o (λ row. false ≡ is_refuted row cube) → IfSome o (λ row. is_refuted row cube ≡ false)
was_false None cube h = tt
was_false (Some row) cube h = sym h

abbrev pub blank_requirement : Requirement
blank_requirement = record { sink = record { 0 = 0 }; bound = 0 }
