-- The cut of a requirement by its kind, from what the heaviest set and the weight are.
use Rattle.std.proofs.Common.{◌≡◌, ℕ, ◌<◌, ◌≤◌, true, nat_eq, List, [], ◌∷◌, map, Option, Some, None, refl, sym, ap, subst, ◌∙◌, arith, eq-eqb}
use Rattle.std.specs.Prelude.{nat_lt, option_and_then, IfSome, IsNone, if◌then◌else◌}
use Rattle.std.specs.List.{All, AllByRecursion}
use Rattle.std.proofs.lemmas.Bool.{lt-ltb, le-ltb}
use Rattle.std.proofs.lemmas.List.Elements.{All-from_recursion}
use Rattle.arch_model.specs.declared.sets.VarId.{VarId}
use Rattle.arch_model.specs.declared.library.Requirement.{Requirement}
use Rattle.arch_model.specs.declared.limits.TheConstants.{MEMBERS}
use Rattle.arch_model.specs.Set.{Set}
use Rattle.arch_model.specs.Parts.{LibraryParts, ArchitectureParts}
use Rattle.arch_model.specs.Library.{IsLibrary}
use Rattle.arch_model.specs.Architecture.{IsArchitecture}
use Rattle.arch_model.specs.Member.{is_in, member_count}
use Rattle.arch_model.specs.CutSet.{IsMinimalCutSet}
use Rattle.arch_model.specs.Weight.{product_of, IsHeaviest}
use Rattle.arch_model.proofs.Members.{or_left, or_right}
use Rattle.arch_model.proofs.Reaching.{present_small}
use Rattle.redundancy_cut.specs.declared.cut.Cut.{Cut}
use Rattle.redundancy_cut.specs.declared.cut.Cut.TheVariants.{Redundancy}
use Rattle.redundancy_cut.specs.CutRow.{set_of_numbers}
use Rattle.redundancy_cut.specs.ChosenCut.{far_of, redundancy_of}
use Rattle.redundancy_cut.proofs.HeaviestFound.{heaviest_exact, some_heaviest}

-- the numbers of a minimal cut set, as the code holds them
abbrev pub numbers : List VarId → List ℕ
numbers items = map (λ v. v.0) items

below_by : (n : ℕ) (items : List VarId) → ((v : ℕ) → is_in (numbers items) v ≡ true → v < n) → AllByRecursion (λ v. v.0 < n) items
below_by n [] each = tt
below_by n (x ∷ items) each = (
  each x.0 (or_left (nat_eq x.0 x.0) (is_in (numbers items) x.0) (eq-eqb x.0 x.0 refl)),
  below_by n items (λ v h. each v (or_right (nat_eq x.0 v) (is_in (numbers items) v) h)),
)

module _ (lib : LibraryParts) (arch : ArchitectureParts) (fits : IsArchitecture lib arch) (sink : ℕ) (items slice : List VarId) (heaviest : IsHeaviest lib arch sink (numbers items)) (same : slice ≡ items) where
  pub in_range : All (λ v. v.0 < member_count lib) slice
  in_range = subst (All (λ v. v.0 < member_count lib)) (sym same) (All-from_recursion (λ (v : VarId). v.0 < member_count lib) items
      (below_by (member_count lib) items (λ v h. present_small lib arch fits v (heaviest.cut_set.present v h))))

  pub in_room : IsLibrary lib → All (λ v. v.0 < MEMBERS) slice
  in_room right = subst (All (λ v. v.0 < MEMBERS)) (sym same) (All-from_recursion (λ (v : VarId). v.0 < MEMBERS) items
      (below_by MEMBERS items (λ v h. let low = present_small lib arch fits v (heaviest.cut_set.present v h) in omega (arith, low, right.few_components, right.few_edges))))

module _ (lib : LibraryParts) (arch : ArchitectureParts) (fits : IsArchitecture lib arch) (q : ℕ) (r : Requirement) where
  abbrev made_of : List ℕ → Option Cut
  made_of members = if nat_lt r.bound (product_of lib members) then Some (Redundancy q (set_of_numbers members) (far_of lib arch r.sink.0 (set_of_numbers members))) else None

  light : (m : List ℕ) → IsHeaviest lib arch r.sink.0 m → product_of lib m ≤ r.bound → None ≡ redundancy_of lib arch (q, r)
  light m heaviest le =
      sym (ap (option_and_then made_of) ((heaviest_exact lib arch fits r.sink.0 m).1 heaviest)
      ∙ ap (λ b. if b then Some (Redundancy q (set_of_numbers m) (far_of lib arch r.sink.0 (set_of_numbers m))) else None) (le-ltb r.bound (product_of lib m) le))

  -- the heaviest set isn't above the bound
  pub light_none : (items slice : List VarId) (p : ℕ) → IsHeaviest lib arch r.sink.0 (numbers items) → slice ≡ items → p ≡ product_of lib (map (λ v. v.0) slice) → p ≤ r.bound → None ≡ redundancy_of lib arch (q, r)
  light_none items slice p heaviest same value le =
      light (numbers items) heaviest (subst (λ (n : ℕ). n ≤ r.bound) (value ∙ ap (λ (l : List VarId). product_of lib (numbers l)) same) le)

  -- it is
  pub heavy_some : (items slice other : List VarId) (p : ℕ) (set far : Set) → IsHeaviest lib arch r.sink.0 (numbers items) → slice ≡ items → other ≡ items → p ≡ product_of lib (map (λ v. v.0) slice) → r.bound < p
      → set ≡ set_of_numbers (map (λ v. v.0) other) → far ≡ far_of lib arch r.sink.0 set → Some (Redundancy q set far) ≡ redundancy_of lib arch (q, r)
  heavy_some items slice other p set far heaviest same too value above is_set is_far =
      let m = numbers items in
      let made : set ≡ set_of_numbers m = is_set ∙ ap (λ (l : List VarId). set_of_numbers (numbers l)) too in
      let over : r.bound < product_of lib m = subst (λ (n : ℕ). r.bound < n) (value ∙ ap (λ (l : List VarId). product_of lib (numbers l)) same) above in
      ap (λ (f : Set). Some (Redundancy q set f)) is_far
      ∙ ap (λ (s : Set). Some (Redundancy q s (far_of lib arch r.sink.0 s))) made
      ∙ sym (ap (option_and_then made_of) ((heaviest_exact lib arch fits r.sink.0 m).1 heaviest)
      ∙ ap (λ b. if b then Some (Redundancy q (set_of_numbers m) (far_of lib arch r.sink.0 (set_of_numbers m))) else None) (lt-ltb r.bound (product_of lib m) over))

  -- all minimal cut sets have product 0
  pub nought_none : ((members : List ℕ) → IsMinimalCutSet lib arch r.sink.0 members → product_of lib members ≡ 0) → None ≡ redundancy_of lib arch (q, r)
  nought_none none =
      let h = some_heaviest lib arch fits r.sink.0 in
      let nought = none h.0 h.1.cut_set in
      light h.0 h.1 (omega (arith, nought))

-- what is said of an item that may be there, where it is
pub if_some : {X : Type 0} (o : Option X) (x : X) (P : X → Type 0) → o ≡ Some x → IfSome o P → P x
if_some o x P e h = subst (λ p. IfSome p P) e h

-- and of one that may not, where it isn't
pub if_none : {X : Type 0} (o : Option X) (Q : Type 0) → o ≡ None → (IsNone o → Q) → Q
if_none {X} o Q e h = let P : Option X → Type 0 = λ p. IsNone p → Q in subst P e h refl
