-- The list of cut sets ascends in the order of slices.
use Rattle.std.proofs.Common.{◌≡◌, ℕ, suc, ◌<◌, ◌≤◌, List, [], ◌∷◌, ◌++◌, map, refl, sym, ap, ◌∙◌, subst, arith}
use Rattle.std.specs.List.{AllByRecursion}
use Rattle.std.specs.List.Sorted.{IsStrictlySortedBy}
use Rattle.std.specs.Ordering.{nat_cmp, ordering_then}
use Rattle.std.specs.declared.cmp.Ordering.TheVariants.{Less, Equal}
use Rattle.std.specs.Cmp.Lexicographic.{slice_cmp}
use Rattle.std.specs.Cmp.{nat_cmp_is}
use Rattle.std.proofs.lemmas.List.Kept.{IsStrictlySortedBy-filter}
use Rattle.arch_model.specs.Parts.{LibraryParts, ArchitectureParts}
use Rattle.arch_model.specs.Member.{present_members}
use Rattle.arch_model.specs.CutSet.{nonempty_sublists, sublists}
use Rattle.cut_sets.specs.CutSets.{cut_sets_of}
use Rattle.cut_sets.specs.Inner.Upcoming.{is_live_cut_set}
use Rattle.cut_sets.proofs.Filters.{live_sublists}
use Rattle.cut_sets.proofs.Listed.{Up, present_up}

abbrev Before : List ℕ → List ℕ → Type 0
Before a b = slice_cmp nat_cmp a b ≡ Less

-- a list that begins with a number from low on
abbrev Begins : ℕ → List ℕ → Type 0
Begins low [] = ⊥
Begins low (c ∷ cs) = low ≤ c

each_map : (P Q : List ℕ → Type 0) (f : List ℕ → List ℕ) → ((m : List ℕ) → P m → Q (f m)) → (ms : List (List ℕ)) → AllByRecursion P ms → AllByRecursion Q (map f ms)
each_map P Q f step [] h = tt
each_map P Q f step (m ∷ ms) h = (step m h.0, each_map P Q f step ms h.1)

each_kept : (P Q : List ℕ → Type 0) → ((m : List ℕ) → P m → Q m) → (ms : List (List ℕ)) → AllByRecursion P ms → AllByRecursion Q ms
each_kept P Q step [] h = tt
each_kept P Q step (m ∷ ms) h = (step m h.0, each_kept P Q step ms h.1)

each_append : (P : List ℕ → Type 0) (xs ys : List (List ℕ)) → AllByRecursion P xs → AllByRecursion P ys → AllByRecursion P (xs ++ ys)
each_append P [] ys h k = k
each_append P (x ∷ xs) ys h k = (h.0, each_append P xs ys h.1 k)

sorted_append : (xs ys : List (List ℕ)) → IsStrictlySortedBy (slice_cmp nat_cmp) xs → IsStrictlySortedBy (slice_cmp nat_cmp) ys → AllByRecursion (λ x. AllByRecursion (Before x) ys) xs → IsStrictlySortedBy (slice_cmp nat_cmp) (xs ++ ys)
unfolding IsStrictlySortedBy
sorted_append [] ys h k all = k
sorted_append (x ∷ xs) ys h k all = (each_append (Before x) xs ys h.0 all.0, sorted_append xs ys h.1 k all.1)

begins_all : (low : ℕ) (cs : List ℕ) → Up low cs → AllByRecursion (Begins low) (nonempty_sublists cs)
begins_all low [] up = tt
begins_all low (d ∷ ds) up =
    let rest = begins_all (suc d) ds up.1 in
    let l = up.0 in (
      up.0,
      each_append (Begins low) (map (λ m. d ∷ m) (nonempty_sublists ds)) (nonempty_sublists ds)
          (each_map (Begins (suc d)) (Begins low) (λ m. d ∷ m) (λ m h. up.0) (nonempty_sublists ds) rest)
          (each_kept (Begins (suc d)) (Begins low) (lower low d l) (nonempty_sublists ds) rest),
    ) where
      lower : (low d : ℕ) → low ≤ d → (m : List ℕ) → Begins (suc d) m → Begins low m
      lower low d l [] h = absurd h
      lower low d l (c ∷ cs) h = omega (arith, l, h)

same_first : (d : ℕ) → nat_cmp d d ≡ Equal
same_first d = sym (nat_cmp_is d d Equal refl)

less_first : (d c : ℕ) → d < c → nat_cmp d c ≡ Less
less_first d c h = sym (nat_cmp_is d c Less h)

front_first : (d : ℕ) (m : List ℕ) → Begins (suc d) m → Before (d ∷ []) (d ∷ m)
front_first d [] h = absurd h
front_first d (c ∷ cs) h = ap (λ o. ordering_then o Less) (same_first d)

less_later : (d : ℕ) (a m : List ℕ) → Begins (suc d) m → Before (d ∷ a) m
less_later d a [] h = absurd h
less_later d a (c ∷ cs) h = ap (λ o. ordering_then o (slice_cmp nat_cmp a cs)) (less_first d c h)

sorted_with : (d : ℕ) (ms : List (List ℕ)) → IsStrictlySortedBy (slice_cmp nat_cmp) ms → IsStrictlySortedBy (slice_cmp nat_cmp) (map (λ m. d ∷ m) ms)
unfolding IsStrictlySortedBy
sorted_with d [] h = tt
sorted_with d (m ∷ ms) h = (
  each_map (Before m) (Before (d ∷ m)) (λ l. d ∷ l) (λ l k. ap (λ o. ordering_then o (slice_cmp nat_cmp m l)) (same_first d) ∙ k) ms h.0,
  sorted_with d ms h.1,
)

each_all : (P : List ℕ → Type 0) → ((m : List ℕ) → P m) → (ms : List (List ℕ)) → AllByRecursion P ms
each_all P h [] = tt
each_all P h (m ∷ ms) = (h m, each_all P h ms)

nonempty_sorted : (low : ℕ) (cs : List ℕ) → Up low cs → IsStrictlySortedBy (slice_cmp nat_cmp) (nonempty_sublists cs)
unfolding IsStrictlySortedBy
nonempty_sorted low [] up = tt
nonempty_sorted low (d ∷ ds) up =
    let rest = begins_all (suc d) ds up.1 in
    let sorted = nonempty_sorted (suc d) ds up.1 in (
      each_append (Before (d ∷ [])) (map (λ m. d ∷ m) (nonempty_sublists ds)) (nonempty_sublists ds)
          (each_map (Begins (suc d)) (Before (d ∷ [])) (λ m. d ∷ m) (front_first d) (nonempty_sublists ds) rest)
          (each_kept (Begins (suc d)) (Before (d ∷ [])) (less_later d []) (nonempty_sublists ds) rest),
      sorted_append (map (λ m. d ∷ m) (nonempty_sublists ds)) (nonempty_sublists ds) (sorted_with d (nonempty_sublists ds) sorted) sorted
          (each_map (λ m. Unit {0}) (λ x. AllByRecursion (Before x) (nonempty_sublists ds)) (λ m. d ∷ m) (λ m h. each_kept (Begins (suc d)) (Before (d ∷ m)) (less_later d m) (nonempty_sublists ds) rest) (nonempty_sublists ds)
          (each_all (λ m. Unit {0}) (λ m. tt) (nonempty_sublists ds))),
    )

after_none : (low : ℕ) (m : List ℕ) → Begins low m → Before [] m
after_none low [] h = absurd h
after_none low (c ∷ cs) h = refl

pub listed_ascend : (lib : LibraryParts) (arch : ArchitectureParts) (sink : ℕ) → IsStrictlySortedBy (slice_cmp nat_cmp) (cut_sets_of lib arch sink)
unfolding IsStrictlySortedBy
listed_ascend lib arch sink = subst (IsStrictlySortedBy (slice_cmp nat_cmp)) (sym (live_sublists lib arch sink))
    (IsStrictlySortedBy-filter (slice_cmp nat_cmp) (is_live_cut_set lib arch sink) (sublists (present_members lib arch)) (
      each_kept (Begins 0) (Before []) (after_none 0) (nonempty_sublists (present_members lib arch)) (begins_all 0 (present_members lib arch) (present_up lib arch)),
      nonempty_sorted 0 (present_members lib arch) (present_up lib arch),
    ))
