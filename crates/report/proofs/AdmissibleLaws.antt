-- What the last line of a weighing says.
use Rattle.std.proofs.Common.{◌≡◌, ℕ, zero, suc, ◌≤◌, ◌↔◌, true, false, List, [], ◌∷◌, map, Option, None, Some, refl, arith}
use Rattle.std.specs.Prelude.{IsTrue, nat_le, slice_get}
use Rattle.std.specs.List.{All, zip, list_all}
use Rattle.std.specs.Option.{IsSomeAnd}
use Rattle.std.proofs.lemmas.Bool.{leb-true, le-leb}
use Rattle.arch_model.specs.declared.library.Requirement.{Requirement}
use Rattle.arch_model.specs.declared.library.Pattern.{Pattern}
use Rattle.arch_model.specs.Set.{has}
use Rattle.arch_model.specs.Parts.{LibraryParts, ArchitectureParts}
use Rattle.arch_model.specs.Architecture.{IsArchitecture}
use Rattle.arch_model.specs.Pattern.{MeetsPattern}
use Rattle.arch_model.specs.Weight.{weight_of}
use Rattle.arch_model.specs.Admissible.{IsAdmissible}
use Rattle.arch_model.proofs.Members.{and_left, and_right, and_both}
use Rattle.search_core.specs.Rules.{weights_of}
use Rattle.report.specs.Weighing.{is_met, says_admissible, IsFirstBroken}

abbrev AreAllMet : ArchitectureParts → (Requirement → ℕ) → List Requirement → Type 0
AreAllMet arch f rs = list_all (is_met arch) (zip rs (map f rs)) ≡ true

sinks_of : (arch : ArchitectureParts) (f : Requirement → ℕ) (rs : List Requirement) → AreAllMet arch f rs → All (λ r. IsTrue (has arch.comps r.sink.0)) rs
sinks_of arch f [] h k d short = absurd (omega (arith, short))
sinks_of arch f (r ∷ rs) h zero d short = and_left (has arch.comps r.sink.0) (nat_le (f r) r.bound) (and_left (is_met arch (r, f r)) (list_all (is_met arch) (zip rs (map f rs))) h)
sinks_of arch f (r ∷ rs) h (suc k) d short = sinks_of arch f rs (and_right (is_met arch (r, f r)) (list_all (is_met arch) (zip rs (map f rs))) h) k d (omega (arith, short))

weights_in : (arch : ArchitectureParts) (f : Requirement → ℕ) (rs : List Requirement) → AreAllMet arch f rs → All (λ r. f r ≤ r.bound) rs
weights_in arch f [] h k d short = absurd (omega (arith, short))
weights_in arch f (r ∷ rs) h zero d short = leb-true (f r) r.bound (and_right (has arch.comps r.sink.0) (nat_le (f r) r.bound) (and_left (is_met arch (r, f r)) (list_all (is_met arch) (zip rs (map f rs))) h))
weights_in arch f (r ∷ rs) h (suc k) d short = weights_in arch f rs (and_right (is_met arch (r, f r)) (list_all (is_met arch) (zip rs (map f rs))) h) k d (omega (arith, short))

all_met : (arch : ArchitectureParts) (f : Requirement → ℕ) (rs : List Requirement) → All (λ r. IsTrue (has arch.comps r.sink.0)) rs → All (λ r. f r ≤ r.bound) rs → AreAllMet arch f rs
all_met arch f [] sinks weights = refl
all_met arch f (r ∷ rs) sinks weights =
    and_both (is_met arch (r, f r)) (list_all (is_met arch) (zip rs (map f rs)))
    (and_both (has arch.comps r.sink.0) (nat_le (f r) r.bound) (sinks 0 r (omega arith)) (le-leb (f r) r.bound (weights 0 r (omega arith))))
    (all_met arch f rs (λ k d short. sinks (suc k) d (omega (arith, short))) (λ k d short. weights (suc k) d (omega (arith, short))))

some_met : (P : Pattern → Type 0) (patterns : List Pattern) (k : ℕ) → IsSomeAnd (slice_get patterns k) (λ p. P p → ⊥) → All P patterns → ⊥
some_met P [] k broken all = broken
some_met P (p ∷ ps) zero broken all = broken (all 0 p (omega arith))
some_met P (p ∷ ps) (suc k) broken all = some_met P ps k broken (λ j d short. all (suc j) d (omega (arith, short)))

broken_not_met : (lib : LibraryParts) (arch : ArchitectureParts) (k : ℕ) → IsFirstBroken lib arch (Some k) → All (MeetsPattern lib arch) lib.patterns → ⊥
broken_not_met lib arch k broken all = some_met (MeetsPattern lib arch) lib.patterns k broken.0 all

-- the last line says yes exactly where the architecture is admissible
pub last_line : (lib : LibraryParts) (arch : ArchitectureParts) (broken : Option ℕ) → IsArchitecture lib arch → IsFirstBroken lib arch broken → IsTrue (says_admissible lib arch (weights_of lib arch) broken) ↔ IsAdmissible lib arch
last_line lib arch None fits first = (
  λ yes. record {
    meets = record { architecture = fits; patterns = first };
    sinks = sinks_of arch (λ r. weight_of lib arch r.sink.0) lib.requirements yes;
    weights = weights_in arch (λ r. weight_of lib arch r.sink.0) lib.requirements yes;
  },
  λ h. all_met arch (λ r. weight_of lib arch r.sink.0) lib.requirements h.sinks h.weights,
)
last_line lib arch (Some k) fits first = (
  λ yes. absurd (let e : false ≡ true = yes in cc),
  λ h. absurd (broken_not_met lib arch k first h.meets.patterns),
)
