-- A minimal cut set is a least set that parts the sink.
use Rattle.std.proofs.Common.{◌≡◌, ℕ, Bool, true, false, not, ◌&&◌, nat_eq, List, refl, sym, ap, ◌∙◌, eq-eqb, inl, inr}
use Rattle.std.specs.Prelude.{◌↔◌}
use Rattle.std.specs.List.Sorted.{IsStrictlyIncreasing}
use Rattle.std.proofs.lemmas.Bool.{eqb-true}
use Rattle.arch_model.specs.Parts.{LibraryParts, ArchitectureParts}
use Rattle.arch_model.specs.Architecture.{IsArchitecture}
use Rattle.arch_model.specs.Member.{is_in, is_present}
use Rattle.arch_model.specs.CutSet.{without, IsMinimalCutSet, IsProperPart, IsLeastParting}
use Rattle.arch_model.proofs.Members.{and_right, and_both, not_true, false_if, bool_cases, is_in-filter}
use Rattle.arch_model.proofs.Reaching.{parts_exact, parts_more}
use Rattle.arch_model.proofs.Pruning.{parts_mono}

-- the members but c lack c, and hold each part that lacks it
without_same : (c : ℕ) (members : List ℕ) → not (is_in (without c members) c) ≡ true
without_same c members = ap not (is_in-filter (λ d. not (nat_eq d c)) members c ∙ ap (λ b. not b && is_in members c) (eq-eqb c c refl))

in_without : (part : ℕ → Bool) (c d : ℕ) (members : List ℕ) → not (part c) ≡ true → part d ≡ true → is_in members d ≡ true → is_in (without c members) d ≡ true
in_without part c d members lacks here among =
    is_in-filter (λ e. not (nat_eq e c)) members d
    ∙ and_both (not (nat_eq d c)) (is_in members d) (ap not (false_if (nat_eq d c) (λ e. not_true (part c) lacks (ap part (sym (eqb-true d c e)) ∙ here)))) among

-- the members but one that is part of them are a proper part
but_one : (c : ℕ) (members : List ℕ) → is_in members c ≡ true → IsProperPart (is_in (without c members)) (is_in members)
but_one c members among = record {
  inside = λ d here. and_right (not (nat_eq d c)) (is_in members d) (sym (is_in-filter (λ e. not (nat_eq e c)) members d) ∙ here);
  lacks = (c, among, without_same c members);
}

-- a least set has present members alone, since an absent one can be left out
least_present : (lib : LibraryParts) (arch : ArchitectureParts) → IsArchitecture lib arch → (sink : ℕ) (members : List ℕ)
    → IsLeastParting lib arch sink (is_in members) → (c : ℕ) → is_in members c ≡ true → is_present lib arch c ≡ true
least_present lib arch fits sink members h c among = elim (bool_cases (is_present lib arch c)) [
  | inl here ↦ here
  | inr absent ↦
      let kept : (v : ℕ) → is_present lib arch v ≡ true → is_in members v ≡ true → is_in (without c members) v ≡ true =
      λ v here in_all. is_in-filter (λ e. not (nat_eq e c)) members v
      ∙ and_both (not (nat_eq v c)) (is_in members v)
      (ap not (false_if (nat_eq v c) (λ same. let e : false ≡ true = sym absent ∙ ap (is_present lib arch) (sym (eqb-true v c same)) ∙ here in cc))) in_all in
      let cuts = parts_more lib arch fits sink (is_in members) (is_in (without c members)) kept ((parts_exact lib arch (is_in members) fits sink).1 h.cuts) in
      absurd (h.least (is_in (without c members)) (but_one c members among) ((parts_exact lib arch (is_in (without c members)) fits sink).0 cuts))
]

pub minimal_least : (lib : LibraryParts) (arch : ArchitectureParts) → IsArchitecture lib arch → (sink : ℕ) (members : List ℕ)
    → IsStrictlyIncreasing members → IsMinimalCutSet lib arch sink members ↔ IsLeastParting lib arch sink (is_in members)
minimal_least lib arch fits sink members up = (
  (λ h. record {
    cuts = h.cuts;
    least = λ part proper cuts.
        let c = proper.lacks in
        let wider = parts_mono lib arch fits sink part (is_in (without c.0 members)) (λ d here. in_without part c.0 d members c.2 here (proper.inside d here)) ((parts_exact lib arch part fits sink).1 cuts) in
        h.minimal c.0 c.1 ((parts_exact lib arch (is_in (without c.0 members)) fits sink).0 wider);
  }),
  (λ h. record {
    ascending = up;
    present = least_present lib arch fits sink members h;
    cuts = h.cuts;
    minimal = λ c among cuts. h.least (is_in (without c members)) (but_one c members among) cuts;
  }),
)
