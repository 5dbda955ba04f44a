-- The sets of a chosen cut, as the code makes them.
use Rattle.std.proofs.Common.{◌≡◌, ℕ, ◌+◌, ◌<◌, Bool, false, ◌||◌, nat_eq, List, [], ◌∷◌, map, fold, filter, length, take, get_or, Some, refl, sym, ap, ◌∙◌, arith, inl, inr}
use Rattle.std.specs.Prelude.{◌↔◌, IsTrue, slice_get}
use Rattle.std.specs.List.{range_with_len}
use Rattle.std.proofs.lemmas.List.{take_more, map-append}
use Rattle.std.proofs.lemmas.List.Sums.{fold_push}
use Rattle.std.proofs.lemmas.Option.{slice_get-get_or}
use Rattle.arch_model.specs.declared.sets.VarId.{VarId}
use Rattle.arch_model.specs.declared.library.Requirement.{Requirement}
use Rattle.arch_model.specs.Set.{Set, has, empty, put}
use Rattle.arch_model.specs.Parts.{LibraryParts, ArchitectureParts}
use Rattle.arch_model.specs.Library.{IsLibrary}
use Rattle.arch_model.specs.Member.{is_in}
use Rattle.arch_model.specs.Path.{LeadsTo}
use Rattle.arch_model.proofs.Members.{and_left, and_both, or_right, or_cases, same_test, is_in-filter, is_in-range}
use Rattle.arch_model.proofs.SetLaws.{has-empty, same_set}
use Rattle.redundancy_cut.specs.CutRow.{set_of_numbers}
use Rattle.redundancy_cut.specs.Reaching.{reaches}
use Rattle.redundancy_cut.specs.ChosenCut.{cone_of}
use Rattle.redundancy_cut.proofs.NumberSets.{has-set_of_numbers}
use Rattle.redundancy_cut.proofs.ReachingLaws.{reaches_exact, reaches_low, sink_reaches}

-- one more member put into the set of some
pub set_more : (members : List VarId) (i : ℕ) (d : VarId) (set after : Set) → i < length members → set ≡ set_of_numbers (map (λ v. v.0) (take i members)) → after ≡ put set (get_or members i d).0
    → after ≡ set_of_numbers (map (λ v. v.0) (take (i + 1) members))
unfolding set_of_numbers
set_more members i d set after here so_far step =
    step ∙ ap (λ s. put s (get_or members i d).0) so_far
    ∙ sym (fold_push put empty (map (λ (v : VarId). v.0) (take i members)) (get_or members i d).0)
    ∙ ap (λ l. fold put empty l) (sym (ap (map (λ (v : VarId). v.0)) (take_more members i d here) ∙ map-append (λ (v : VarId). v.0) (take i members) (get_or members i d ∷ [])))

pub set_none : (members : List VarId) (set : Set) → set ≡ empty → set ≡ set_of_numbers (map (λ v. v.0) (take 0 members))
unfolding set_of_numbers
set_none members set e = e

module _ (lib : LibraryParts) (right : IsLibrary lib) (arch : ArchitectureParts) (sink : ℕ) (low : sink < length lib.components) (failed : ℕ → Bool) where
  -- what is reached, as a set that has exactly what `LeadsTo` says
  pub near_is : (near : Set) → ((c : ℕ) → IsTrue (has near c) ↔ ((rest : List ℕ) × LeadsTo lib arch sink failed (c ∷ rest))) → (c : ℕ) → has near c ≡ reaches lib arch sink failed c
  near_is near exact c = same_test (has near c) (reaches lib arch sink failed c)
      (λ h. (reaches_exact lib right arch sink low failed c).1 ((exact c).0 h))
      (λ h. (exact c).1 ((reaches_exact lib right arch sink low failed c).0 h))

-- what is reached from with nothing failed is the cone
pub cone_is : (lib : LibraryParts) → IsLibrary lib → (arch : ArchitectureParts) (sink : ℕ) → sink < length lib.components → (near none : Set) → none ≡ empty
    → ((c : ℕ) → IsTrue (has near c) ↔ ((rest : List ℕ) × LeadsTo lib arch sink (has none) (c ∷ rest))) → near ≡ cone_of lib arch sink
cone_is lib right arch sink low near none e exact =
    let nothing : has none ≡ (λ _. false) = ap has e ∙ (λ i v. has-empty v i) in
    let n = length lib.components in
    let t : ℕ → Bool = λ c. nat_eq sink c || reaches lib arch sink (λ _. false) c in
    same_set near (cone_of lib arch sink) (λ c.
    near_is lib right arch sink low (has none) near exact c ∙ ap (λ (f : ℕ → Bool). reaches lib arch sink f c) nothing
    ∙ same_test (reaches lib arch sink (λ _. false) c) (has (cone_of lib arch sink) c)
    (λ h.
    has-set_of_numbers (filter t (range_with_len 0 n)) c ∙ is_in-filter t (range_with_len 0 n) c
    ∙ and_both (t c) (is_in (range_with_len 0 n) c) (or_right (nat_eq sink c) (reaches lib arch sink (λ _. false) c) h)
    (let below = reaches_low lib right arch sink low (λ _. false) c h in is_in-range 0 n c (omega arith) (omega (arith, below))))
    (λ h.
    elim (or_cases (nat_eq sink c) (reaches lib arch sink (λ _. false) c) (and_left (t c) (is_in (range_with_len 0 n) c) (sym (has-set_of_numbers (filter t (range_with_len 0 n)) c ∙ is_in-filter t (range_with_len 0 n) c) ∙ h))) [
      | inl same ↦ sink_reaches lib right arch sink low (λ _. false) refl c same
      | inr reached ↦ reached
    ]))

-- a member for lemmas that name one by its place
abbrev pub no_member : VarId
no_member = record { 0 = 0 }

-- and a requirement
abbrev pub no_requirement : Requirement
no_requirement = record { sink = record { 0 = 0 }; bound = 0 }

pub requirement_at : (rows list : List Requirement) (i : ℕ) (d : Requirement) → rows ≡ list → i < length rows → slice_get list i ≡ Some (get_or rows i d)
requirement_at rows list i d e short = ap (λ l. slice_get l i) (sym e) ∙ slice_get-get_or rows i d short
