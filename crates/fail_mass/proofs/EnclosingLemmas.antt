-- What the enclosure says of the weight, and its parts.
use Rattle.std.proofs.Common.{◌≡◌, ℕ, ◌+◌, ◌*◌, ◌/◌, ◌^◌, ◌<◌, ◌≤◌, arith, le_trans, ap, subst, sym, ◌∙◌, suc, zero}
use Rattle.std.proofs.Math.Nat.{le_of_mul-le-mul_right}
use Rattle.arch_model.specs.Parts.{LibraryParts, ArchitectureParts}
use Rattle.arch_model.specs.Library.{IsLibrary}
use Rattle.arch_model.specs.Architecture.{IsArchitecture}
use Rattle.arch_model.specs.Member.{member_count}
use Rattle.arch_model.specs.Weight.{weight_of, ceil_div}
use Rattle.arch_model.specs.Mass.{mass_of, mass_low, mass_high, enclosure_of}
use Rattle.arch_model.specs.Set.{Set, has, empty}
use Rattle.arch_model.specs.Inner.Sets.{members_from}
use Rattle.fail_mass.specs.declared.network.Network.{Network}
use Rattle.fail_mass.specs.Inner.Cases.{may_fail, enclosure_with}
use Rattle.fail_mass.specs.Inner.Networks.{enclosure_from}
use Rattle.fail_mass.proofs.CaseLemmas.{down_whole, up_whole}
use Rattle.fail_mass.proofs.PartingLemmas.{from_all}
use Rattle.arch_model.proofs.Enclosure.{low-le-mass, mass-le-high, high-le-low}
use Rattle.arch_model.proofs.Boole.{mass-le-weight, pow_more}

-- the scale of n members is not 0
scale_pos : (m : ℕ) → 0 < 10 ^ (6 * m)
scale_pos zero = omega arith
scale_pos (suc m) = let h = scale_pos m in let e = pow_more m in omega (arith, h, e)

pub low-le-weight : (lib : LibraryParts) → IsLibrary lib → (arch : ArchitectureParts) → IsArchitecture lib arch → (sink : ℕ) → mass_low lib arch sink ≤ weight_of lib arch sink
low-le-weight lib right arch fits sink = le_of_mul-le-mul_right (le_trans (low-le-mass lib arch sink) (mass-le-weight lib right arch fits sink)) (scale_pos (member_count lib))

pub low-le-high : (lib : LibraryParts) (arch : ArchitectureParts) (sink : ℕ) → mass_low lib arch sink ≤ mass_high lib arch sink
low-le-high lib arch sink = le_of_mul-le-mul_right (le_trans (low-le-mass lib arch sink) (mass-le-high lib arch sink)) (scale_pos (member_count lib))

-- a network is known by its parts
pub same_network : (net : Network) (lib : LibraryParts) (arch : ArchitectureParts) (sink : ℕ) → net.lib.now ≡ lib → net.arch.now ≡ arch → net.sink.0 ≡ sink
    → (failed undecided : Set) → enclosure_from net failed undecided 0 ≡ enclosure_with lib arch sink failed (members_from undecided 0 (member_count lib))
same_network net lib arch sink in_lib in_arch at failed undecided = λ i. enclosure_with (in_lib i) (in_arch i) (at i) failed (members_from undecided 0 (member_count (in_lib i)))

module _ (lib : LibraryParts) (arch : ArchitectureParts) (sink : ℕ) (result : ℕ × ℕ) where
  -- conditioning on what is present and may fail is conditioning on all members
  pub exact_from : IsLibrary lib → IsArchitecture lib arch → (failed undecided : Set) → failed ≡ empty → ((v : ℕ) → has undecided v ≡ may_fail lib arch v)
      → result ≡ enclosure_with lib arch sink failed (members_from undecided 0 (member_count lib)) → result ≡ enclosure_of lib arch sink
  exact_from right fits failed undecided none alike value =
      value
      ∙ ap (λ (s : Set). enclosure_with lib arch sink s (members_from undecided 0 (member_count lib))) none
      ∙ (λ i. (from_all lib arch fits sink right (λ m. m / 10 ^ 6) down_whole undecided alike i, from_all lib arch fits sink right (λ m. ceil_div m (10 ^ 6)) up_whole undecided alike i))

  module _ (exact : result ≡ enclosure_of lib arch sink) where
    pub low_bound : result.0 * 10 ^ (6 * member_count lib) ≤ mass_of lib arch sink * 10 ^ 18
    low_bound = let P : ℕ → Type 0 = λ n. n * 10 ^ (6 * member_count lib) ≤ mass_of lib arch sink * 10 ^ 18 in subst P (sym (ap (λ (p : ℕ × ℕ). p.0) exact)) (low-le-mass lib arch sink)

    pub high_bound : mass_of lib arch sink * 10 ^ 18 ≤ result.1 * 10 ^ (6 * member_count lib)
    high_bound = let P : ℕ → Type 0 = λ n. mass_of lib arch sink * 10 ^ 18 ≤ n * 10 ^ (6 * member_count lib) in subst P (sym (ap (λ (p : ℕ × ℕ). p.1) exact)) (mass-le-high lib arch sink)

    pub is_narrow : IsLibrary lib → result.1 ≤ result.0 + 2 * member_count lib
    is_narrow right = let P : ℕ × ℕ → Type 0 = λ p. p.1 ≤ p.0 + 2 * member_count lib in subst P (sym exact) (high-le-low lib right arch sink)

    pub is_ordered : result.0 ≤ result.1
    is_ordered = let P : ℕ × ℕ → Type 0 = λ p. p.0 ≤ p.1 in subst P (sym exact) (low-le-high lib arch sink)

    pub is_within : IsLibrary lib → IsArchitecture lib arch → result.0 ≤ weight_of lib arch sink
    is_within right fits = let P : ℕ → Type 0 = λ n. n ≤ weight_of lib arch sink in subst P (sym (ap (λ (p : ℕ × ℕ). p.0) exact)) (low-le-weight lib right arch fits sink)
