-- The last test of a redundancy cut decides whether it is right, where the others passed.
use Rattle.std.proofs.Common.{◌≡◌, ℕ, ◌<◌, ◌≤◌, Bool, true, false, length, sym, ap, subst, ◌∙◌, arith}
use Rattle.std.specs.Prelude.{◌↔◌, IsTrue}
use Rattle.arch_model.specs.declared.limits.TheConstants.{MEMBERS}
use Rattle.arch_model.specs.declared.library.Requirement.{Requirement}
use Rattle.arch_model.specs.Set.{Set, has, members_below}
use Rattle.arch_model.specs.Parts.{LibraryParts}
use Rattle.arch_model.specs.Library.{IsLibrary}
use Rattle.arch_model.specs.Member.{member_count}
use Rattle.arch_model.specs.Weight.{product_of}
use Rattle.redundancy_cut.specs.RightCut.{IsRightRedundancy}
use Rattle.redundancy_cut.proofs.SublistLaws.{same_members}

pub heavy_decides : (lib : LibraryParts) → IsLibrary lib → (r : Requirement) (set far : Set) (p : ℕ) (above : Bool) → ((v : ℕ) → has set v ≡ true → v < member_count lib) → ((c : ℕ) → has far c ≡ true → c < length lib.components)
    → ((c : ℕ) → has far c ≡ true → has set c ≡ false) → has far r.sink.0 ≡ false → p ≡ product_of lib (members_below set MEMBERS) → (IsTrue above ↔ (r.bound < p)) → IsTrue above ↔ IsRightRedundancy lib r set far
heavy_decides lib right r set far p above members components apart out is tests =
    let few : member_count lib ≤ MEMBERS = omega (arith, right.few_components, right.few_edges) in
    let same : p ≡ product_of lib (members_below set (member_count lib)) = is ∙ ap (product_of lib) (same_members set (member_count lib) MEMBERS few members) in (
      (λ h. record { members = members; components = components; apart = apart; sink = out; heavy = subst (λ (n : ℕ). r.bound < n) same (tests.0 h) }),
      (λ good. tests.1 (subst (λ (n : ℕ). r.bound < n) (sym same) good.heavy)),
    )
