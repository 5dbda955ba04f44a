-- There is a heaviest minimal cut set, and it is the one that is found.
use Rattle.std.proofs.Common.{◌≡◌, ℕ, suc, ◌+◌, ◌<◌, ◌≤◌, Bool, true, false, cond, ◌&&◌, List, [], ◌∷◌, ◌++◌, map, filter, Some, refl, sym, ap, subst, ◌∙◌, arith, ◌⊎◌, inl, inr}
use Rattle.std.specs.Prelude.{◌↔◌, slice_index}
use Rattle.std.proofs.lemmas.Bool.{cases_lt}
use Rattle.std.specs.List.{AllByRecursion, list_all, find}
use Rattle.std.specs.List.Sorted.{IsStrictlyIncreasing}
use Rattle.arch_model.specs.Parts.{LibraryParts, ArchitectureParts}
use Rattle.arch_model.specs.Architecture.{IsArchitecture}
use Rattle.arch_model.specs.Member.{is_in, is_present, member_count, member_numbers, present_members}
use Rattle.arch_model.specs.Path.{Parts}
use Rattle.arch_model.specs.CutSet.{IsMinimalCutSet, is_minimal_cut_set, nonempty_sublists, sublists, minimal_cut_sets}
use Rattle.arch_model.specs.Weight.{product_of, IsHeaviest}
use Rattle.arch_model.proofs.Members.{and_left, and_right, and_both, bool_cases, not_true, same_test}
use Rattle.arch_model.proofs.Reaching.{parts_exact, present_component, present_small, in_present}
use Rattle.arch_model.proofs.CutSets.{minimal_exact}
use Rattle.arch_model.proofs.Boole.{filter_twice, minimal_inside}
use Rattle.redundancy_cut.specs.ChosenCut.{goes_before, heaviest_of}
use Rattle.redundancy_cut.proofs.NumberSets.{filter_same}
use Rattle.redundancy_cut.proofs.SublistLaws.{Ascends, kept_of_range}
use Rattle.redundancy_cut.proofs.PathLaws.{first_in, head_live}
use Rattle.redundancy_cut.proofs.CutOrder.{before_says, before_less, before_same, before_total, before_trans, same_list, same_or_less, not_gt_of}
use Rattle.redundancy_cut.proofs.HeaviestLaws.{IsCutList, cut_lists, heaviest_is_cut, minimal_cut_set_of}

-- a list among lists
abbrev pub Listed : List ℕ → List (List ℕ) → Type 0
Listed m [] = ⊥
Listed m (x ∷ xs) = (x ≡ m) ⊎ Listed m xs

listed_left : (m : List ℕ) (xs ys : List (List ℕ)) → Listed m xs → Listed m (xs ++ ys)
listed_left m [] ys h = absurd h
listed_left m (x ∷ xs) ys h = elim h [ inl here ↦ inl here | inr later ↦ inr (listed_left m xs ys later) ]

listed_right : (m : List ℕ) (xs ys : List (List ℕ)) → Listed m ys → Listed m (xs ++ ys)
listed_right m [] ys h = h
listed_right m (x ∷ xs) ys h = inr (listed_right m xs ys h)

listed_map : (c : ℕ) (m : List ℕ) (xs : List (List ℕ)) → Listed m xs → Listed (c ∷ m) (map (λ l. c ∷ l) xs)
listed_map c m [] h = h
listed_map c m (x ∷ xs) h = elim h [ inl here ↦ inl (ap (λ l. c ∷ l) here) | inr later ↦ inr (listed_map c m xs later) ]

listed_filter : (t : List ℕ → Bool) (m : List ℕ) (xs : List (List ℕ)) → Listed m xs → t m ≡ true → Listed m (filter t xs)
listed_filter t m [] h k = h
listed_filter t m (x ∷ xs) h k = elim h [
  | inl here ↦ subst (λ b. Listed m (cond b (x ∷ filter t xs) (filter t xs))) (sym (ap t here ∙ k)) (inl here)
  | inr later ↦ one (t x) (listed_filter t m xs later k)
] where
  one : (b : Bool) → Listed m (filter t xs) → Listed m (cond b (x ∷ filter t xs) (filter t xs))
  one true rest = inr rest
  one false rest = rest

-- what a list keeps by a test is one of its sublists
kept_none_or : (r : ℕ → Bool) (cs : List ℕ) → (filter r cs ≡ []) ⊎ Listed (filter r cs) (nonempty_sublists cs)
kept_none_or r [] = inl refl
kept_none_or r (c ∷ cs) =
    let with_c = map (λ l. c ∷ l) (nonempty_sublists cs) in
    let rest = kept_none_or r cs in
    elim (r c) as (λ b. (cond b (c ∷ filter r cs) (filter r cs) ≡ []) ⊎ Listed (cond b (c ∷ filter r cs) (filter r cs)) (nonempty_sublists (c ∷ cs))) [
      | true ↦ elim rest [
        | inl none ↦ inr (inl (ap (λ l. c ∷ l) (sym none)))
        | inr some ↦ inr (inr (listed_left (c ∷ filter r cs) with_c (nonempty_sublists cs) (listed_map c (filter r cs) (nonempty_sublists cs) some)))
      ]
      | false ↦ elim rest [ inl none ↦ inl none | inr some ↦ inr (inr (listed_right (filter r cs) with_c (nonempty_sublists cs) some)) ]
    ]

listed_sublist : (r : ℕ → Bool) (cs : List ℕ) → Listed (filter r cs) (sublists cs)
listed_sublist r cs = elim (kept_none_or r cs) [ inl none ↦ inl (sym none) | inr some ↦ inr some ]

-- what all have, and what each passes
listed_has : (P : List ℕ → Type 0) (m : List ℕ) (xs : List (List ℕ)) → AllByRecursion P xs → Listed m xs → P m
listed_has P m [] all h = absurd h
listed_has P m (x ∷ xs) all h = elim h [ inl here ↦ subst P here all.0 | inr later ↦ listed_has P m xs all.1 later ]

each_passes : (t : List ℕ → Bool) (m : List ℕ) (xs : List (List ℕ)) → list_all t xs ≡ true → Listed m xs → t m ≡ true
each_passes t m [] all h = absurd h
each_passes t m (x ∷ xs) all h = elim h [
  | inl here ↦ ap t (sym here) ∙ and_left (t x) (list_all t xs) all
  | inr later ↦ each_passes t m xs (and_right (t x) (list_all t xs) all) later
]

all_passes : (t : List ℕ → Bool) (xs : List (List ℕ)) → ((m : List ℕ) → Listed m xs → t m ≡ true) → list_all t xs ≡ true
all_passes t [] each = refl
all_passes t (x ∷ xs) each = and_both (t x) (list_all t xs) (each x (inl refl)) (all_passes t xs (λ m h. each m (inr h)))

-- one that passes a test is found, if only one does
found_only : (t : List ℕ → Bool) (m : List ℕ) (xs : List (List ℕ)) → Listed m xs → t m ≡ true → ((n : List ℕ) → Listed n xs → t n ≡ true → n ≡ m) → find t xs ≡ Some m
found_only t m [] h k only = absurd h
found_only t m (x ∷ xs) h k only = elim (bool_cases (t x)) [
  | inl yes_t ↦ ap (λ b. cond b (Some x) (find t xs)) yes_t ∙ ap Some (only x (inl refl) yes_t)
  | inr no_t ↦ elim h [
    | inl here ↦ let e : true ≡ false = sym (ap t here ∙ k) ∙ no_t in absurd cc
    | inr later ↦ ap (λ b. cond b (Some x) (find t xs)) no_t ∙ found_only t m xs later k (λ n g. only n (inr g))
  ]
]

-- numbers that rise by their places rise from the first on
later_rise : (x y : ℕ) (xs : List ℕ) → IsStrictlyIncreasing (x ∷ y ∷ xs) → IsStrictlyIncreasing (y ∷ xs)
later_rise x y xs up k short =
    let next : suc k + 1 ≡ suc (k + 1) = omega arith in
    subst (λ (j : ℕ). slice_index (y ∷ xs) k < slice_index (x ∷ y ∷ xs) j) next (up (suc k) (omega (arith, short)))

ascends_after : (a x : ℕ) (xs : List ℕ) → a ≤ x → IsStrictlyIncreasing (x ∷ xs) → Ascends a (x ∷ xs)
ascends_after a x [] le up = (le, tt)
ascends_after a x (y ∷ xs) le up = let here : x < y = up 0 (omega arith) in (le, ascends_after (suc x) y xs (omega (arith, here)) (later_rise x y xs up))

ascends_of : (xs : List ℕ) → IsStrictlyIncreasing xs → Ascends 0 xs
ascends_of [] up = tt
ascends_of (x ∷ xs) up = ascends_after 0 x xs (omega arith) up

module _ (lib : LibraryParts) (arch : ArchitectureParts) (fits : IsArchitecture lib arch) (sink : ℕ) where
  -- every minimal cut set is listed
  cut_listed : (m : List ℕ) → IsMinimalCutSet lib arch sink m → Listed m (minimal_cut_sets lib arch sink)
  unfolding minimal_cut_sets
  cut_listed m cut =
      let kept : ℕ → Bool = λ v. is_present lib arch v && is_in m v in
      let once = filter_twice (is_present lib arch) (is_in m) (member_numbers lib) in
      let same : filter kept (member_numbers lib) ≡ filter (is_in m) (member_numbers lib)
      = filter_same kept (is_in m) (member_numbers lib) (λ v among. same_test (kept v) (is_in m v) (λ h. and_right (is_present lib arch v) (is_in m v) h) (λ h. and_both (is_present lib arch v) (is_in m v) (cut.present v h) h)) in
      let whole = kept_of_range (member_count lib) 0 m (ascends_of m cut.ascending) (λ v h. let low = present_small lib arch fits v (cut.present v h) in omega (arith, low)) in
      listed_filter (is_minimal_cut_set lib arch sink) m (sublists (present_members lib arch))
      (subst (λ l. Listed l (sublists (present_members lib arch))) (once ∙ same ∙ whole) (listed_sublist (is_in m) (present_members lib arch)))
      ((minimal_exact lib arch fits sink m cut.ascending cut.present).1 cut)

  abbrev sets : List (List ℕ)
  sets = minimal_cut_sets lib arch sink

  -- and every one that is listed is one
  listed_cut : (m : List ℕ) → Listed m sets → IsMinimalCutSet lib arch sink m
  listed_cut m h = minimal_cut_set_of lib arch fits sink m (listed_has (IsCutList lib arch sink) m sets (cut_lists lib arch sink) h)

  -- what is found is the heaviest
  found_heaviest : (m : List ℕ) → heaviest_of lib arch sink ≡ Some m → IsHeaviest lib arch sink m
  found_heaviest m h =
      let f = heaviest_is_cut lib arch sink m h in
      let before : (n : List ℕ) → IsMinimalCutSet lib arch sink n → goes_before lib m n ≡ true = λ n cut. each_passes (goes_before lib m) n sets f.1 (cut_listed n cut) in
      record {
        cut_set = minimal_cut_set_of lib arch fits sink m f.0;
        greatest = λ n cut. elim (before_says lib m n (before n cut)) [ inl less ↦ omega arith | inr same ↦ omega (arith, same.0) ];
        least = λ n cut same. elim (before_says lib m n (before n cut)) [ inl less ↦ absurd (omega (arith, less, same)) | inr both ↦ same_or_less m n both.1 ];
      }

  -- the heaviest goes before each
  heaviest_before : (m : List ℕ) → IsHeaviest lib arch sink m → (n : List ℕ) → Listed n sets → goes_before lib m n ≡ true
  heaviest_before m h n listed =
      let cut = listed_cut n listed in
      let le = h.greatest n cut in
      elim (cases_lt (product_of lib n) (product_of lib m)) [
        | inl less ↦ before_less lib m n less
        | inr not_less ↦ let same : product_of lib n ≡ product_of lib m = omega arith in before_same lib m n same (not_gt_of m n (h.least n cut same))
      ]

  heaviest_found : (m : List ℕ) → IsHeaviest lib arch sink m → heaviest_of lib arch sink ≡ Some m
  heaviest_found m h = found_only (λ a. list_all (goes_before lib a) sets) m sets (cut_listed m h.cut_set) (all_passes (goes_before lib m) sets (heaviest_before m h))
      (λ n listed before.
      let there = each_passes (goes_before lib n) m sets before (cut_listed m h.cut_set) in
      let here = heaviest_before m h n listed in
      elim (before_says lib n m there) [
        | inl less ↦ let le = h.greatest n (listed_cut n listed) in absurd (omega (arith, less, le))
        | inr same ↦ same_list n m same.1 (not_gt_of m n (h.least n (listed_cut n listed) (sym same.0)))
      ])

  pub heaviest_exact : (m : List ℕ) → (heaviest_of lib arch sink ≡ Some m) ↔ IsHeaviest lib arch sink m
  heaviest_exact m = (found_heaviest m, heaviest_found m)

  -- ---- there is one

  itself : (a : List ℕ) → goes_before lib a a ≡ true
  itself a = elim (before_total lib a a) [ inl h ↦ h | inr h ↦ h ]

  -- a list that goes before all of some lists
  record First (xs : List (List ℕ)) : Type 0 where
    list : List ℕ
    listed : Listed list xs
    first : (n : List ℕ) → Listed n xs → goes_before lib list n ≡ true

  first_of : (x : List ℕ) (xs : List (List ℕ)) → First (x ∷ xs)
  first_of x [] = record {
    list = x;
    listed = inl refl;
    first = λ n g. elim g [ inl here ↦ subst (λ l. goes_before lib x l ≡ true) here (itself x) | inr none ↦ absurd none ];
  }
  first_of x (y ∷ xs) =
      let rest = first_of y xs in
      elim (before_total lib x rest.list) [
        | inl ahead ↦ record {
          list = x;
          listed = inl refl;
          first = λ n g. elim g [
            | inl here ↦ subst (λ l. goes_before lib x l ≡ true) here (itself x)
            | inr later ↦ before_trans lib x rest.list n ahead (rest.first n later)
          ];
        }
        | inr behind ↦ record {
          list = rest.list;
          listed = inr rest.listed;
          first = λ n g. elim g [
            | inl here ↦ subst (λ l. goes_before lib rest.list l ≡ true) here behind
            | inr later ↦ rest.first n later
          ];
        }
      ]

  first_of_some : (xs : List (List ℕ)) (m : List ℕ) → Listed m xs → First xs
  first_of_some [] m h = absurd h
  first_of_some (x ∷ xs) m h = first_of x xs

  all_part : Parts lib arch sink (is_in (present_members lib arch))
  all_part [] h = h.leads
  all_part (c ∷ rest) h =
      not_true (is_in (present_members lib arch) c) (head_live lib arch (is_in (present_members lib arch)) sink c rest h.leads)
      (in_present lib arch fits c (present_component lib arch fits c (h.present c (first_in c rest))))

  some_cut : (m : List ℕ) × Listed m sets
  unfolding minimal_cut_sets
  some_cut =
      let f = minimal_inside lib arch sink fits (present_members lib arch) ((parts_exact lib arch (is_in (present_members lib arch)) fits sink).1 all_part) in
      (filter f.0 (present_members lib arch), listed_filter (is_minimal_cut_set lib arch sink) (filter f.0 (present_members lib arch)) (sublists (present_members lib arch)) (listed_sublist f.0 (present_members lib arch)) f.1)

  pub some_heaviest : (m : List ℕ) × IsHeaviest lib arch sink m
  some_heaviest =
      let some = some_cut in
      let first = first_of_some sets some.0 some.1 in (
        first.list,
        record {
          cut_set = listed_cut first.list first.listed;
          greatest = λ n cut. elim (before_says lib first.list n (first.first n (cut_listed n cut))) [ inl less ↦ omega arith | inr same ↦ omega (arith, same.0) ];
          least = λ n cut same. elim (before_says lib first.list n (first.first n (cut_listed n cut))) [ inl less ↦ absurd (omega (arith, less, same)) | inr both ↦ same_or_less first.list n both.1 ];
        },
      )
