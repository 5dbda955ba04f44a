-- What is read of a component by its number.
use Rattle.std.proofs.Common.{◌≡◌, ℕ, ◌^◌, ◌<◌, ◌≤◌, List, length, get_or, sym, ap, subst, ◌∙◌, arith, inl, inr}
use Rattle.std.specs.List.{All, slice_get}
use Rattle.std.specs.Option.{option_map_or}
use Rattle.std.proofs.lemmas.Option.{slice_get_cases, slice_get_past}
use Rattle.arch_model.specs.declared.template.Component.{Component}
use Rattle.arch_model.specs.Parts.{LibraryParts}
use Rattle.arch_model.specs.Library.{IsLibrary}
use Rattle.arch_model.specs.Pattern.{at_component}
use Rattle.arch_model.proofs.Ranges.{component_ranges}

-- supplies and demands are small
pub supplies_small : (lib : LibraryParts) → IsLibrary lib → All (λ c. c.supply ≤ 10 ^ 12) lib.components
supplies_small = component_ranges (λ c. c.supply ≤ 10 ^ 12) (λ t i row is. is.supply)

pub demands_small : (lib : LibraryParts) → IsLibrary lib → All (λ c. c.demand ≤ 10 ^ 12) lib.components
demands_small = component_ranges (λ c. c.demand ≤ 10 ^ 12) (λ t i row is. is.demand)

-- a number that a component gives is small where all are
pub at_small : (lib : LibraryParts) (f : Component → ℕ) (c : ℕ) → All (λ x. f x ≤ 10 ^ 12) lib.components → at_component lib f c ≤ 10 ^ 12
at_small lib f c small = elim (slice_get_cases lib.components c).1 [
  | inl w ↦ rw w.2 (subst (λ x. f x ≤ 10 ^ 12) w.3 (small c w.0 w.1))
  | inr w ↦ rw w.1 (omega arith)
]

-- it is 0 where there is no such component
pub at_none : (lib : LibraryParts) (f : Component → ℕ) (xs : List Component) (c : ℕ) → xs ≡ lib.components → length xs ≤ c → 0 ≡ at_component lib f c
at_none lib f xs c same past = sym (ap (λ l. option_map_or f (slice_get l c) 0) (sym same) ∙ ap (λ o. option_map_or f o 0) (slice_get_past xs c past))

-- a fact of all components of a library holds of one that was read
pub of_read : (P : Component → Type 0) (lib : LibraryParts) (xs : List Component) (c : ℕ) (x : Component) → All P lib.components → xs ≡ lib.components → c < length xs → x ≡ get_or xs c x → P x
of_read P lib xs c x all same short is = subst P (sym (is ∙ ap (λ l. get_or l c x) same)) (all c x (omega (arith, short, ap length same)))
