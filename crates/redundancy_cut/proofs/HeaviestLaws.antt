-- What the heaviest minimal cut set is.
use Rattle.std.proofs.Common.{◌≡◌, ℕ, ◌≤◌, Bool, true, false, cond, List, [], ◌∷◌, map, filter, Some, None, refl, sym, ap, subst, ◌∙◌, inl, inr}
use Rattle.std.specs.List.{AllByRecursion, list_all, find}
use Rattle.arch_model.specs.Parts.{LibraryParts, ArchitectureParts}
use Rattle.arch_model.specs.Architecture.{IsArchitecture}
use Rattle.arch_model.specs.Member.{is_in, is_present, member_count, member_numbers, present_members}
use Rattle.arch_model.specs.CutSet.{IsMinimalCutSet, is_minimal_cut_set, nonempty_sublists, sublists, minimal_cut_sets}
use Rattle.arch_model.specs.Weight.{product_of, weight_of}
use Rattle.arch_model.proofs.Members.{bool_cases, is_in-filter, and_left}
use Rattle.arch_model.proofs.CutSets.{minimal_exact}
use Rattle.arch_model.proofs.Sublists.{AllSublists, zip_all, members_inside}
use Rattle.rows.proofs.AllParts.{all_joined, all_then}
use Rattle.redundancy_cut.specs.ChosenCut.{goes_before, heaviest_of}
use Rattle.redundancy_cut.proofs.SublistLaws.{Ascends, range_ascends, sublists_ascend, ascends_filter, rises, each-le-sum}

all_mapped : (P : List ℕ → Type 0) (f : List ℕ → List ℕ) (xs : List (List ℕ)) → AllByRecursion (λ m. P (f m)) xs → AllByRecursion P (map f xs)
all_mapped P f [] all = tt
all_mapped P f (x ∷ xs) all = (all.0, all_mapped P f xs all.1)

-- what holds of each sublist holds of the empty one
of_none : (P : List ℕ → Type 0) (cs : List ℕ) → AllSublists P cs → P []
of_none P [] h = h
of_none P (c ∷ cs) h = of_none P cs h.0

all_nonempty : (P : List ℕ → Type 0) (cs : List ℕ) → AllSublists P cs → AllByRecursion P (nonempty_sublists cs)
all_nonempty P [] h = tt
all_nonempty P (c ∷ cs) h = (
  of_none (λ m. P (c ∷ m)) cs h.1,
  all_joined P (map (λ m. c ∷ m) (nonempty_sublists cs)) (nonempty_sublists cs) (all_mapped P (λ m. c ∷ m) (nonempty_sublists cs) (all_nonempty (λ m. P (c ∷ m)) cs h.1)) (all_nonempty P cs h.0),
)

-- and of all that are listed
pub all_sublists : (P : List ℕ → Type 0) (cs : List ℕ) → AllSublists P cs → AllByRecursion P (sublists cs)
all_sublists P cs h = (of_none P cs h, all_nonempty P cs h)

all_filtered : (P : List ℕ → Type 0) (t : List ℕ → Bool) (xs : List (List ℕ)) → AllByRecursion P xs → AllByRecursion (λ m. (t m ≡ true) × P m) (filter t xs)
all_filtered P t [] all = tt
all_filtered P t (x ∷ xs) all = one (t x) refl (all_filtered P t xs all.1) where
  one : (b : Bool) → t x ≡ b → AllByRecursion (λ m. (t m ≡ true) × P m) (filter t xs) → AllByRecursion (λ m. (t m ≡ true) × P m) (cond b (x ∷ filter t xs) (filter t xs))
  one true e rest = ((e, all.0), rest)
  one false e rest = rest

found : (P : List ℕ → Type 0) (t : List ℕ → Bool) (xs : List (List ℕ)) (m : List ℕ) → AllByRecursion P xs → find t xs ≡ Some m → P m × (t m ≡ true)
found P t [] m all h = absurd (let e : None ≡ Some m = h in cc)
found P t (x ∷ xs) m all h = elim (bool_cases (t x)) [
  | inl yes_t ↦
      let e : Some x ≡ Some m = sym (ap (λ b. cond b (Some x) (find t xs)) yes_t) ∙ h in
      let same : x ≡ m = cc in
      (subst P same all.0, ap t (sym same) ∙ yes_t)
  | inr no_t ↦ found P t xs m all.1 (sym (ap (λ b. cond b (Some x) (find t xs)) no_t) ∙ h)
]

-- a rising list of present members that is a minimal cut set, no heavier than the weight
pub record IsCutList (lib : LibraryParts) (arch : ArchitectureParts) (sink : ℕ) (m : List ℕ) : Type 0 where
  pub ascends : Ascends 0 m
  pub inside : (v : ℕ) → is_in m v ≡ true → is_in (present_members lib arch) v ≡ true
  pub minimal : is_minimal_cut_set lib arch sink m ≡ true
  pub light : product_of lib m ≤ weight_of lib arch sink

module _ (lib : LibraryParts) (arch : ArchitectureParts) (sink : ℕ) where
  abbrev share : List ℕ → ℕ
  share m = cond (is_minimal_cut_set lib arch sink m) (product_of lib m) 0

  abbrev Listed : List ℕ → Type 0
  Listed m = Ascends 0 m × ((v : ℕ) → is_in m v ≡ true → is_in (present_members lib arch) v ≡ true) × (share m ≤ weight_of lib arch sink)

  listed : AllSublists Listed (present_members lib arch)
  unfolding weight_of
  listed =
      let cs = present_members lib arch in
      zip_all (Ascends 0) (λ m. ((v : ℕ) → is_in m v ≡ true → is_in cs v ≡ true) × (share m ≤ weight_of lib arch sink)) Listed (λ m a b. (a, b.0, b.1)) cs
      (sublists_ascend 0 cs (ascends_filter (is_present lib arch) 0 (member_numbers lib) (range_ascends 0 (member_count lib))))
      (zip_all (λ m. (v : ℕ) → is_in m v ≡ true → is_in cs v ≡ true) (λ m. share m ≤ weight_of lib arch sink) _ (λ m a b. (a, b)) cs (members_inside cs) (each-le-sum share cs))

  -- each minimal cut set that is listed is one
  pub cut_lists : AllByRecursion (IsCutList lib arch sink) (minimal_cut_sets lib arch sink)
  unfolding minimal_cut_sets
  cut_lists = all_then _ _ (λ m h. record {
    ascends = h.1.0;
    inside = h.1.1;
    minimal = h.0;
    light = subst (λ b. cond b (product_of lib m) 0 ≤ weight_of lib arch sink) h.0 h.1.2;
  }) (filter (is_minimal_cut_set lib arch sink) (sublists (present_members lib arch)))
      (all_filtered Listed (is_minimal_cut_set lib arch sink) (sublists (present_members lib arch)) (all_sublists Listed (present_members lib arch) listed))

  -- the heaviest one is one, and goes before all
  pub heaviest_is_cut : (m : List ℕ) → heaviest_of lib arch sink ≡ Some m → IsCutList lib arch sink m × (list_all (goes_before lib m) (minimal_cut_sets lib arch sink) ≡ true)
  heaviest_is_cut m h = found (IsCutList lib arch sink) (λ a. list_all (goes_before lib a) (minimal_cut_sets lib arch sink)) (minimal_cut_sets lib arch sink) m cut_lists h

-- it is a minimal cut set of the textbook
pub minimal_cut_set_of : (lib : LibraryParts) (arch : ArchitectureParts) → IsArchitecture lib arch → (sink : ℕ) (m : List ℕ) → IsCutList lib arch sink m → IsMinimalCutSet lib arch sink m
minimal_cut_set_of lib arch fits sink m h =
    (minimal_exact lib arch fits sink m (rises 0 m h.ascends) (λ v i. and_left (is_present lib arch v) (is_in (member_numbers lib) v) (sym (is_in-filter (is_present lib arch) (member_numbers lib) v) ∙ h.inside v i))).0 h.minimal
