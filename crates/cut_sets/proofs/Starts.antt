-- Which members may be in a set, and the list of all sets at the start.
use Rattle.std.proofs.Common.{◌≡◌, ℕ, zero, suc, ◌+◌, ◌≤◌, Bool, true, false, cond, ◌&&◌, nat_eq, nat_lt, List, [], ◌∷◌, ◌++◌, map, filter, length, refl, sym, ap, ◌∙◌, arith, subst, ◌⊎◌, inl, inr}
use Rattle.std.specs.List.{range_with_len}
use Rattle.std.proofs.lemmas.Bool.{eq-eqb, lt-ltb, le-ltb}
use Rattle.std.proofs.lemmas.List.{append-nil}
use Rattle.arch_model.specs.declared.limits.TheConstants.{MEMBERS, FAILING}
use Rattle.arch_model.specs.Parts.{LibraryParts, ArchitectureParts}
use Rattle.arch_model.specs.Library.{IsLibrary}
use Rattle.arch_model.specs.Set.{Set, has, empty, members_below}
use Rattle.arch_model.specs.Inner.Sets.{members_from}
use Rattle.arch_model.specs.Member.{is_in, is_present, fail_of, member_count, member_numbers, present_members}
use Rattle.arch_model.specs.Path.{parts}
use Rattle.arch_model.specs.Weight.{product_of}
use Rattle.arch_model.specs.CutSet.{nonempty_sublists, is_minimal_cut_set}
use Rattle.arch_model.proofs.ProductLaws.{product_zero}
use Rattle.arch_model.proofs.Members.{and_right, or_left, or_right, bool_cases}
use Rattle.arch_model.proofs.NextMember.{members_all}
use Rattle.arch_model.proofs.SetLaws.{has-empty}
use Rattle.arch_model.proofs.WeightBound.{positives, few_positive}
use Rattle.arch_model.proofs.Pruning.{none_beyond}
use Rattle.cut_sets.specs.CutSets.{cut_sets_of}
use Rattle.cut_sets.specs.Inner.Upcoming.{NetworkParts, PlaceParts, IsNetwork, IsPlace, is_live_cut_set, is_candidate, sets_beyond, upcoming}
use Rattle.cut_sets.proofs.Filters.{passing, filter_yes, filter_no, passing_among, none_begins, live_sublists}
use Rattle.cut_sets.proofs.Places.{none_at_end, range_high}
use Rattle.cut_sets.proofs.Beyond.{beyond_none, and_no}

-- members below a number are members below a greater one, where there are no others
longer_range : (p : ℕ → Bool) (a n m : ℕ) → n ≤ m → ((v : ℕ) → a + n ≤ v → p v ≡ false) → filter p (range_with_len a m) ≡ filter p (range_with_len a n)
longer_range p a zero zero few none = refl
longer_range p a (suc n) zero few none = absurd (omega arith)
longer_range p a zero (suc m) few none =
    ap (λ b. cond b (a ∷ filter p (range_with_len (a + 1) m)) (filter p (range_with_len (a + 1) m))) (none a (omega arith)) ∙ longer_range p (a + 1) zero m (omega arith) (λ v h. none v (omega arith))
longer_range p a (suc n) (suc m) few none =
    ap (λ l. cond (p a) (a ∷ l) l) (longer_range p (a + 1) n m (omega arith) (λ v h. none v (omega arith)))

-- a test that is two tests on a list
pub two_tests : (p q r : ℕ → Bool) (xs : List ℕ) → ((v : ℕ) → is_in xs v ≡ true → p v ≡ (r v && q v)) → filter p xs ≡ filter q (filter r xs)
two_tests p q r [] same = refl
two_tests p q r (x ∷ xs) same =
    let rest = two_tests p q r xs (λ v h. same v (or_right (nat_eq x v) (is_in xs v) h)) in
    let here = same x (or_left (nat_eq x x) (is_in xs x) (eq-eqb x x refl)) in
    ap (λ l. cond (p x) (x ∷ l) l) rest
    ∙ ap (λ b. cond b (x ∷ filter q (filter r xs)) (filter q (filter r xs))) here
    ∙ elim (bool_cases (r x)) [
      | inl kept ↦
          ap (λ b. cond (b && q x) (x ∷ filter q (filter r xs)) (filter q (filter r xs))) kept
          ∙ ap (λ b. filter q (cond b (x ∷ filter r xs) (filter r xs))) (sym kept)
      | inr out ↦
          ap (λ b. cond (b && q x) (x ∷ filter q (filter r xs)) (filter q (filter r xs))) out
          ∙ ap (λ b. filter q (cond b (x ∷ filter r xs) (filter r xs))) (sym out)
    ]

count_positives : (lib : LibraryParts) (p : ℕ → Bool) (xs : List ℕ) → ((v : ℕ) → p v ≡ true → nat_lt 0 (fail_of lib v) ≡ true) → length (filter p xs) ≤ positives lib xs
count_positives lib p [] may = omega arith
count_positives lib p (x ∷ xs) may =
    let rest = count_positives lib p xs may in
    elim (bool_cases (p x)) [
      | inl kept ↦
          let e = ap (λ b. length (cond b (x ∷ filter p xs) (filter p xs))) kept in
          let d = ap (λ b. cond b (1 + positives lib xs) (positives lib xs)) (may x kept) in
          omega (arith, rest, e, d)
      | inr out ↦
          let e = ap (λ b. length (cond b (x ∷ filter p xs) (filter p xs))) out in
          elim (bool_cases (nat_lt 0 (fail_of lib x))) [
            | inl may_fail ↦ let d = ap (λ b. cond b (1 + positives lib xs) (positives lib xs)) may_fail in omega (arith, rest, e, d)
            | inr never ↦ let d = ap (λ b. cond b (1 + positives lib xs) (positives lib xs)) never in omega (arith, rest, e, d)
          ]
    ]

-- all members were looked at
pub all_looked_at : (lib : LibraryParts) (arch : ArchitectureParts) (found : Set) (i v : ℕ) → i ≡ member_count lib
    → ((c : ℕ) → has found c ≡ (nat_lt c i && (is_present lib arch c && nat_lt 0 (fail_of lib c)))) → has found v ≡ is_candidate lib arch v
all_looked_at lib arch found i v is so_far = so_far v ∙ ap (λ n. nat_lt v n && (is_present lib arch v && nat_lt 0 (fail_of lib v))) is

module _ (lib : LibraryParts) (arch : ArchitectureParts) (s : Set) (each : (v : ℕ) → has s v ≡ is_candidate lib arch v) (small : member_count lib ≤ MEMBERS) where
  none_above : (v : ℕ) → 0 + member_count lib ≤ v → has s v ≡ false
  none_above v h = each v ∙ ap (λ b. b && (is_present lib arch v && nat_lt 0 (fail_of lib v))) (le-ltb v (member_count lib) (omega arith))

  in_template : members_from s 0 MEMBERS ≡ filter (has s) (member_numbers lib)
  unfolding members_below
  in_template = members_all s MEMBERS ∙ longer_range (has s) 0 (member_count lib) MEMBERS small none_above

  pub few_candidates : IsLibrary lib → length (members_from s 0 MEMBERS) ≤ FAILING
  few_candidates right =
      let some = count_positives lib (has s) (member_numbers lib)
      (λ v h. and_right (is_present lib arch v) _ (and_right (nat_lt v (member_count lib)) _ (sym (each v) ∙ h))) in
      omega (arith, ap length in_template, some, few_positive lib right)

  -- they are those of the present members that may fail
  pub from_present : members_from s 0 MEMBERS ≡ filter (λ v. nat_lt 0 (fail_of lib v)) (present_members lib arch)
  from_present =
      in_template ∙ two_tests (has s) (λ v. nat_lt 0 (fail_of lib v)) (is_present lib arch) (member_numbers lib)
      (λ v h. each v ∙ ap (λ b. b && (is_present lib arch v && nat_lt 0 (fail_of lib v))) (lt-ltb v (member_count lib) (let short = range_high 0 (member_count lib) v h in omega (arith, short))))

same_list : (ms : List (List ℕ)) → map (λ m. m) ms ≡ ms
same_list [] = refl
same_list (m ∷ ms) = ap (λ l. m ∷ l) (same_list ms)

never : (n : ℕ) → nat_lt 0 n ≡ false → n ≡ 0
never zero h = refl
never (suc n) h = let e : false ≡ true = sym h ∙ lt-ltb 0 (suc n) (omega arith) in absurd cc

no_product : (b : Bool) (n : ℕ) → n ≡ 0 → (b && nat_lt 0 n) ≡ false
no_product true n e = ap (nat_lt 0) e
no_product false n e = refl

-- the list that is defined is that of an enumeration at its start
module _ (net : NetworkParts) (right : IsNetwork net) where
  abbrev live : List ℕ → Bool
  live = is_live_cut_set net.lib net.arch net.sink

  nonempty_from_start : filter live (nonempty_sublists (present_members net.lib net.arch)) ≡ sets_beyond net [] 0
  unfolding sets_beyond
  nonempty_from_start =
      ap (filter live) (sym (same_list (nonempty_sublists (present_members net.lib net.arch))))
      ∙ passing_among live (λ m. m) (λ v. nat_lt 0 (fail_of net.lib v)) (present_members net.lib net.arch)
      (λ c m out among inside. no_product (is_minimal_cut_set net.lib net.arch net.sink m) (product_of net.lib m) (product_zero net.lib m c among (never (fail_of net.lib c) out)))
      ∙ ap (passing live (λ m. m)) (sym (from_present net.lib net.arch net.candidates right.candidates right.small))

  cuts_none : parts net.lib net.arch net.sink (has empty) ≡ parts net.lib net.arch net.sink (is_in [])
  cuts_none = ap (parts net.lib net.arch net.sink) (λ i v. has-empty v i)

  live_none : (b : Bool) → parts net.lib net.arch net.sink (has empty) ≡ b → live [] ≡ b
  live_none b h = ap (λ (x : Bool). (x && true) && true) (sym cuts_none ∙ h) ∙ and_trues b where
    and_trues : (x : Bool) → ((x && true) && true) ≡ x
    and_trues true = refl
    and_trues false = refl

  -- where no path leads to the sink, the empty set is the only one
  pub start_parted : parts net.lib net.arch net.sink (has empty) ≡ true → upcoming true net (record { chosen = []; at = MEMBERS }) ≡ cut_sets_of net.lib net.arch net.sink
  start_parted cuts =
      ap (λ l. [] ∷ (l ++ [])) (beyond_none net [] MEMBERS (none_at_end net))
      ∙ sym (filter_yes live [] (nonempty_sublists (present_members net.lib net.arch)) (live_none true cuts)
      ∙ ap (λ l. [] ∷ l) (ap (filter live) (sym (same_list (nonempty_sublists (present_members net.lib net.arch))))
      ∙ none_begins live (λ m. m) (present_members net.lib net.arch) (λ y m among. and_no (is_minimal_cut_set net.lib net.arch net.sink (y ∷ m)) (nat_lt 0 (product_of net.lib (y ∷ m))) (none_beyond net.lib net.arch right.fits net.sink [] m y refl (sym cuts_none ∙ cuts)))))
      ∙ sym (live_sublists net.lib net.arch net.sink)

  pub start_open : parts net.lib net.arch net.sink (has empty) ≡ false → upcoming false net (record { chosen = []; at = 0 }) ≡ cut_sets_of net.lib net.arch net.sink
  start_open uncut =
      append-nil (sets_beyond net [] 0)
      ∙ sym (filter_no live [] (nonempty_sublists (present_members net.lib net.arch)) (live_none false uncut) ∙ nonempty_from_start)
      ∙ sym (live_sublists net.lib net.arch net.sink)

  pub start_is : (place : PlaceParts) (at : ℕ) (none : Set) (b : Bool) → b ≡ parts net.lib net.arch net.sink (has none) → none ≡ empty → place ≡ record { chosen = []; at = at }
      → ((b ≡ true) × (at ≡ MEMBERS)) ⊎ ((b ≡ false) × (at ≡ 0)) → upcoming b net place ≡ cut_sets_of net.lib net.arch net.sink
  start_is place at none b cuts is stands which = elim which [
    | inl p ↦
        ap (upcoming b net) (stands ∙ ap (λ (i : ℕ). record { chosen = []; at = i }) p.1)
        ∙ ap (λ x. upcoming x net (record { chosen = []; at = MEMBERS })) p.0
        ∙ start_parted (ap (λ (s : Set). parts net.lib net.arch net.sink (has s)) (sym is) ∙ sym cuts ∙ p.0)
    | inr p ↦
        ap (upcoming b net) (stands ∙ ap (λ (i : ℕ). record { chosen = []; at = i }) p.1)
        ∙ ap (λ x. upcoming x net (record { chosen = []; at = 0 })) p.0
        ∙ start_open (ap (λ (s : Set). parts net.lib net.arch net.sink (has s)) (sym is) ∙ sym cuts ∙ p.0)
  ]

  pub start_place : (place : PlaceParts) (at : ℕ) → place ≡ record { chosen = []; at = at } → (at ≡ MEMBERS) ⊎ (at ≡ 0) → IsPlace net place
  start_place place at stands which = elim which [
    | inl e ↦ let r = ap length (none_at_end net) in subst (IsPlace net) (sym (stands ∙ ap (λ (i : ℕ). record { chosen = []; at = i }) e)) (omega arith, omega (arith, r))
    | inr e ↦ let r = right.few in subst (IsPlace net) (sym (stands ∙ ap (λ (i : ℕ). record { chosen = []; at = i }) e)) (omega arith, omega (arith, r))
  ]
