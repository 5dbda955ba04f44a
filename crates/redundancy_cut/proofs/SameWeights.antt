-- Two architectures in which the same paths lead to a sink have the same minimal cut sets there, and so the same weight.
use Rattle.std.proofs.Common.{◌≡◌, ℕ, Bool, true, false, cond, ◌&&◌, List, refl, sym, ap, ◌∙◌}
use Rattle.std.specs.Prelude.{IsTrue}
use Rattle.std.specs.List.{list_all}
use Rattle.std.specs.List.Sorted.{IsStrictlyIncreasing}
use Rattle.arch_model.specs.Parts.{LibraryParts, ArchitectureParts}
use Rattle.arch_model.specs.Architecture.{IsArchitecture}
use Rattle.arch_model.specs.Member.{is_in, is_present, member_count, member_numbers}
use Rattle.arch_model.specs.Path.{IsPath}
use Rattle.arch_model.specs.CutSet.{IsLeastParting, is_minimal_cut_set}
use Rattle.arch_model.specs.Weight.{sum_over_sublists, product_of, weight_of}
use Rattle.arch_model.proofs.Members.{and_left, and_right, and_both, same_test}
use Rattle.arch_model.proofs.CutSets.{minimal_exact, all_pass, passes}
use Rattle.arch_model.proofs.LeastSets.{minimal_least}
use Rattle.arch_model.proofs.Sublists.{map_all}
use Rattle.redundancy_cut.proofs.SublistLaws.{Ascends, range_ascends, sublists_ascend, rises, sum-same, sum-filter}

-- each path of one architecture to a sink, whatever failed, is one of another
abbrev pub KeepsPaths : LibraryParts → ℕ → ArchitectureParts → ArchitectureParts → Type 0
KeepsPaths lib sink a b = (failed : ℕ → Bool) (path : List ℕ) → IsPath lib a sink failed path → IsPath lib b sink failed path

-- whether a list is a minimal cut set of present members
abbrev pub is_cut : LibraryParts → ℕ → ArchitectureParts → List ℕ → Bool
is_cut lib sink arch m = list_all (is_present lib arch) m && is_minimal_cut_set lib arch sink m

cond_both : (u v : Bool) (n : ℕ) → cond u (cond v n 0) 0 ≡ cond (u && v) n 0
cond_both true v n = refl
cond_both false v n = refl

module _ (lib : LibraryParts) (sink : ℕ) where
  least_kept : (a b : ArchitectureParts) → KeepsPaths lib sink a b → KeepsPaths lib sink b a → (members : ℕ → Bool) → IsLeastParting lib a sink members → IsLeastParting lib b sink members
  least_kept a b there back members h = record {
    cuts = λ path p. h.cuts path (back members path p);
    least = λ part proper cuts. h.least part proper (λ path p. cuts path (there part path p));
  }

  cut_kept : (a b : ArchitectureParts) → IsArchitecture lib a → IsArchitecture lib b → KeepsPaths lib sink a b → KeepsPaths lib sink b a
      → (m : List ℕ) → IsStrictlyIncreasing m → is_cut lib sink a m ≡ true → is_cut lib sink b m ≡ true
  cut_kept a b fits_a fits_b there back m up h =
      let inside : (c : ℕ) → IsTrue (is_in m c) → IsTrue (is_present lib a c)
      = passes (is_present lib a) m (and_left (list_all (is_present lib a) m) (is_minimal_cut_set lib a sink m) h) in
      let minimal = (minimal_exact lib a fits_a sink m up inside).0 (and_right (list_all (is_present lib a) m) (is_minimal_cut_set lib a sink m) h) in
      let least = least_kept a b there back (is_in m) ((minimal_least lib a fits_a sink m up).0 minimal) in
      let other = (minimal_least lib b fits_b sink m up).1 least in
      and_both (list_all (is_present lib b) m) (is_minimal_cut_set lib b sink m)
      (all_pass (is_present lib b) m other.present)
      ((minimal_exact lib b fits_b sink m up other.present).1 other)

  -- the weight as a sum over the sublists of all members
  weight-all : (arch : ArchitectureParts) → weight_of lib arch sink ≡ sum_over_sublists (λ m. cond (list_all (is_present lib arch) m) (cond (is_minimal_cut_set lib arch sink m) (product_of lib m) 0) 0) (member_numbers lib)
  unfolding weight_of
  weight-all arch = sum-filter (λ m. cond (is_minimal_cut_set lib arch sink m) (product_of lib m) 0) (is_present lib arch) (member_numbers lib)

  pub same_weight : (a b : ArchitectureParts) → IsArchitecture lib a → IsArchitecture lib b → KeepsPaths lib sink a b → KeepsPaths lib sink b a → weight_of lib a sink ≡ weight_of lib b sink
  same_weight a b fits_a fits_b there back =
      weight-all a
      ∙ sum-same _ _ (member_numbers lib) (map_all (Ascends 0) _ (λ m up.
      let rise = rises 0 m up in
      cond_both (list_all (is_present lib a) m) (is_minimal_cut_set lib a sink m) (product_of lib m)
      ∙ ap (λ v. cond v (product_of lib m) 0) (same_test (is_cut lib sink a m) (is_cut lib sink b m) (cut_kept a b fits_a fits_b there back m rise) (cut_kept b a fits_b fits_a back there m rise))
      ∙ sym (cond_both (list_all (is_present lib b) m) (is_minimal_cut_set lib b sink m) (product_of lib m))) (member_numbers lib) (sublists_ascend 0 (member_numbers lib) (range_ascends 0 (member_count lib))))
      ∙ sym (weight-all b)
