-- What a study finds, from the first cut of each kind.
use Rattle.std.proofs.Common.{◌≡◌, true, false, List, [], ◌∷◌, ◌++◌, Option, Some, None, refl, sym, ◌∙◌}
use Rattle.std.specs.Prelude.{slice_get, is_some}
use Rattle.std.specs.List.{enumerate_from, filter_map}
use Rattle.arch_model.specs.Parts.{LibraryParts, ArchitectureParts}
use Rattle.arch_model.specs.Library.{IsLibrary}
use Rattle.arch_model.specs.Admissible.{IsAdmissible}
use Rattle.rows.specs.Problem.{IsCandidate}
use Rattle.redundancy_cut.specs.declared.cut.Cut.{Cut}
use Rattle.redundancy_cut.specs.ChosenCut.{redundancy_of, no_good_of, chosen_cut_of}
use Rattle.redundancy_cut.proofs.ChosenLaws.{chosen_exactly}

first_left : {Y : Type 0} (xs ys : List Y) (y : Y) → Some y ≡ slice_get xs 0 → Some y ≡ slice_get (xs ++ ys) 0
first_left [] ys y h = absurd (let e : Some y ≡ None = h in cc)
first_left (x ∷ xs) ys y h = h

first_right : {Y : Type 0} (xs ys : List Y) → None ≡ slice_get xs 0 → slice_get ys 0 ≡ slice_get (xs ++ ys) 0
first_right [] ys h = refl
first_right (x ∷ xs) ys h = absurd (let e : Some x ≡ None = sym h in cc)

module _ (lib : LibraryParts) (arch : ArchitectureParts) where
  abbrev alone : List Cut
  alone = filter_map (redundancy_of lib arch) (enumerate_from 0 lib.requirements)

  abbrev sums : List Cut
  sums = filter_map (no_good_of lib arch) (enumerate_from 0 lib.requirements)

  by_alone : (cut : Cut) → Some cut ≡ slice_get alone 0 → Some cut ≡ chosen_cut_of lib arch
  unfolding chosen_cut_of
  by_alone cut h = first_left alone sums cut h

  pub by_some : (o : Option Cut) → is_some o ≡ true → o ≡ slice_get alone 0 → o ≡ chosen_cut_of lib arch
  by_some None some h = absurd (let e : false ≡ true = some in cc)
  by_some (Some cut) some h = by_alone cut h

  pub by_sum : (o : Option Cut) → None ≡ slice_get alone 0 → o ≡ slice_get sums 0 → o ≡ chosen_cut_of lib arch
  unfolding chosen_cut_of
  by_sum o none h = h ∙ first_right alone sums none

  module _ (right : IsLibrary lib) (candidate : IsCandidate lib arch) where
    -- a candidate is admissible where no cut is chosen for it
    pub none_admissible : None ≡ chosen_cut_of lib arch → IsAdmissible lib arch
    none_admissible none = record { meets = candidate.meets; sinks = candidate.sinks; weights = (chosen_exactly lib arch right candidate.meets.architecture).0 (sym none) }

    pub admissible_none : (cut : Cut) → Some cut ≡ chosen_cut_of lib arch → IsAdmissible lib arch → ⊥
    admissible_none cut some good = let e : Some cut ≡ None = some ∙ (chosen_exactly lib arch right candidate.meets.architecture).1 good.weights in cc
