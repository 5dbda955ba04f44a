-- What the rows of cuts come to at a vector.
use Rattle.std.proofs.Common.{◌≡◌, ℕ, ◌<◌, ◌≤◌, ℤ, pos, negsuc, ◌-ℤ◌, ◌≤ℤ◌, Bool, true, false, not, ◌&&◌, ◌||◌, List, filter, length, refl, sym, ap, subst, ◌∙◌, arith, ◌⊎◌, inl, inr, if◌then◌else◌}
use Rattle.std.specs.List.{list_any, range_with_len}
use Rattle.std.proofs.lemmas.Int.{ints}
use Rattle.arch_model.specs.declared.limits.TheConstants.{MEMBERS}
use Rattle.arch_model.specs.Set.{Set, has, empty, union, members_below}
use Rattle.arch_model.specs.Parts.{LibraryParts, ArchitectureParts}
use Rattle.arch_model.specs.Library.{IsLibrary}
use Rattle.arch_model.specs.Member.{is_in, is_present, member_count, member_numbers}
use Rattle.arch_model.proofs.Members.{and_left, and_right, and_both, bool_cases, not_true, false_if, some_of, any_of, is_in-filter, is_in-range, length-filter-mono, filter_grows}
use Rattle.arch_model.proofs.SetLaws.{has-empty, has-union}
use Rattle.arch_model.proofs.Counting.{len-members}
use Rattle.rows.specs.Parts.{CutParts}
use Rattle.rows.specs.Row.{term, value_of, RowHolds, cut_coef, row_of_cut}
use Rattle.rows.proofs.IntSums.{int_sum_by-map, int_sum_by-filter, int_sum_by-same}
use Rattle.rows.proofs.CutActivity.{bit, count_bits}
use Rattle.redundancy_cut.specs.CutRow.{set_of_numbers, members_where, one_of, one_differs}
use Rattle.redundancy_cut.proofs.NumberSets.{has-set_of_numbers, in_where, where_passes, where_below, filter_same, one_passes, none_passes}

-- how many chosen variables a set has
abbrev pub chosen_in : Set → (ℕ → Bool) → ℕ
chosen_in s x = length (filter (λ v. has s v && x v) (range_with_len 0 MEMBERS))

one_adds : (p m x : Bool) → (p ≡ true → m ≡ false) → (if x then (if p then pos 1 else (if m then negsuc 0 else pos 0)) else pos 0) ≡ bit (p && x) -ℤ bit (m && x)
one_adds true true x apart = absurd (let e : true ≡ false = apart refl in cc)
one_adds true false true apart = refl
one_adds true false false apart = refl
one_adds false true true apart = refl
one_adds false true false apart = refl
one_adds false false true apart = refl
one_adds false false false apart = refl

none_adds : (p m x : Bool) → (p || m) ≡ false → (if x then (if p then pos 1 else (if m then negsuc 0 else pos 0)) else pos 0) ≡ pos 0
none_adds true m x h = absurd (let e : true ≡ false = h in cc)
none_adds false true x h = absurd (let e : true ≡ false = h in cc)
none_adds false false true h = refl
none_adds false false false h = refl

-- the chosen variables with coefficient 1, less those with -1
pub row_value : (cut : CutParts) → ((v : ℕ) → has cut.plus v ≡ true → has cut.minus v ≡ false) → (x : ℕ → Bool)
    → value_of (row_of_cut cut).terms x ≡ pos (chosen_in cut.plus x) -ℤ pos (chosen_in cut.minus x)
unfolding members_below
row_value cut apart x =
    let add : ℕ → ℤ = λ v. if x v then cut_coef cut v else pos 0 in
    let both : Set = union cut.plus cut.minus in
    let none : (v : ℕ) → has both v ≡ false → add v ≡ pos 0 = λ v h. none_adds (has cut.plus v) (has cut.minus v) (x v) (sym (has-union cut.plus cut.minus v) ∙ h) in
    int_sum_by-map (λ t. if x t.var.0 then t.coef else pos 0) (λ v. term v (cut_coef cut v)) (members_below both MEMBERS)
    ∙ int_sum_by-filter add (has both) none (range_with_len 0 MEMBERS)
    ∙ int_sum_by-same add (λ v. bit (has cut.plus v && x v) -ℤ bit (has cut.minus v && x v)) (λ v. one_adds (has cut.plus v) (has cut.minus v) (x v) (apart v)) (range_with_len 0 MEMBERS)
    ∙ count_bits (λ v. has cut.plus v && x v) (λ v. has cut.minus v && x v) (range_with_len 0 MEMBERS)

-- from the value to the row and back
holds_by : (cut : CutParts) (x : ℕ → Bool) (p m : ℕ) → value_of (row_of_cut cut).terms x ≡ pos p -ℤ pos m → cut.least ≤ℤ (pos p -ℤ pos m) → RowHolds (row_of_cut cut) x
holds_by cut x p m e h = subst (λ (z : ℤ). cut.least ≤ℤ z) (sym e) h

says : (cut : CutParts) (x : ℕ → Bool) (p m : ℕ) → value_of (row_of_cut cut).terms x ≡ pos p -ℤ pos m → RowHolds (row_of_cut cut) x → cut.least ≤ℤ (pos p -ℤ pos m)
says cut x p m e h = subst (λ (z : ℤ). cut.least ≤ℤ z) e h

-- ---- one of some members

none_in_empty : (x : ℕ → Bool) → chosen_in empty x ≡ 0
none_in_empty x = none_passes (λ v. has empty v && x v) (range_with_len 0 MEMBERS) (λ v h. ap (λ b. b && x v) (has-empty v))

one_value : (members : List ℕ) (x : ℕ → Bool) → value_of (row_of_cut (one_of members)).terms x ≡ pos (chosen_in (set_of_numbers members) x) -ℤ pos 0
one_value members x =
    row_value (one_of members) (λ v h. has-empty v) x ∙ ap (λ n. pos (chosen_in (set_of_numbers members) x) -ℤ pos n) (none_in_empty x)

at_least_one : (p : ℕ) → 1 ≤ p → pos 1 ≤ℤ (pos p -ℤ pos 0)
at_least_one p h = omega (arith, ints)

not_none : (p : ℕ) → p ≡ 0 → pos 1 ≤ℤ (pos p -ℤ pos 0) → ⊥
not_none p e h = omega (arith, ints)

-- the row holds where one of them is chosen
pub one_of_holds : (members : List ℕ) (x : ℕ → Bool) (v : ℕ) → v < MEMBERS → is_in members v ≡ true → x v ≡ true → RowHolds (row_of_cut (one_of members)) x
one_of_holds members x v short among on =
    holds_by (one_of members) x (chosen_in (set_of_numbers members) x) 0 (one_value members x)
    (at_least_one (chosen_in (set_of_numbers members) x) (one_passes (λ w. has (set_of_numbers members) w && x w) (range_with_len 0 MEMBERS) v (is_in-range 0 MEMBERS v (omega arith) (omega arith))
    (and_both (has (set_of_numbers members) v) (x v) (has-set_of_numbers members v ∙ among) on)))

-- and not where none is
pub one_of_breaks : (members : List ℕ) (x : ℕ → Bool) → ((v : ℕ) → is_in members v ≡ true → x v ≡ true → ⊥) → RowHolds (row_of_cut (one_of members)) x → ⊥
one_of_breaks members x none holds =
    not_none (chosen_in (set_of_numbers members) x) (none_passes (λ w. has (set_of_numbers members) w && x w) (range_with_len 0 MEMBERS) (λ v h. false_if (has (set_of_numbers members) v && x v) (λ both.
    none v (sym (has-set_of_numbers members v) ∙ and_left (has (set_of_numbers members) v) (x v) both) (and_right (has (set_of_numbers members) v) (x v) both))))
    (says (one_of members) x (chosen_in (set_of_numbers members) x) 0 (one_value members x) holds)

-- ---- one that differs

module _ (lib : LibraryParts) (right : IsLibrary lib) (arch : ArchitectureParts) (test : ℕ → Bool) (x : ℕ → Bool) where
  abbrev absent : List ℕ
  absent = members_where lib (λ v. test v && not (is_present lib arch v))

  abbrev kept : List ℕ
  kept = members_where lib (λ v. test v && is_present lib arch v)

  abbrev plus : Set
  plus = set_of_numbers absent

  abbrev minus : Set
  minus = set_of_numbers kept

  few : member_count lib ≤ MEMBERS
  few = omega (arith, right.few_components, right.few_edges)

  kept_present : (v : ℕ) → has minus v ≡ true → is_present lib arch v ≡ true
  kept_present v h = and_right (test v) (is_present lib arch v) (where_passes lib (λ v. test v && is_present lib arch v) v (sym (has-set_of_numbers kept v) ∙ h))

  absent_not : (v : ℕ) → has plus v ≡ true → not (is_present lib arch v) ≡ true
  absent_not v h = and_right (test v) (not (is_present lib arch v)) (where_passes lib (λ v. test v && not (is_present lib arch v)) v (sym (has-set_of_numbers absent v) ∙ h))

  pub apart : (v : ℕ) → has plus v ≡ true → has minus v ≡ false
  apart v h = false_if (has minus v) (λ k. not_true (is_present lib arch v) (absent_not v h) (kept_present v k))

  -- the number of members that are kept
  kept_count : length kept ≡ length (filter (has minus) (range_with_len 0 MEMBERS))
  unfolding members_below
  kept_count =
      let small : (v : ℕ) → has minus v ≡ true → v < member_count lib = λ v h. where_below lib (λ v. test v && is_present lib arch v) v (sym (has-set_of_numbers kept v) ∙ h) in
      ap length (filter_same (λ v. test v && is_present lib arch v) (has minus) (member_numbers lib) (λ v h. sym (has-set_of_numbers kept v ∙ is_in-filter (λ v. test v && is_present lib arch v) (member_numbers lib) v ∙ ap (λ b. (test v && is_present lib arch v) && b) h ∙ and_yes (test v && is_present lib arch v))))
      ∙ sym (len-members minus (member_count lib) small) ∙ len-members minus MEMBERS (λ v h. let low = small v h in omega (arith, few)) where
        and_yes : (b : Bool) → (b && true) ≡ b
        and_yes true = refl
        and_yes false = refl

  value : value_of (row_of_cut (one_differs lib arch test)).terms x ≡ pos (chosen_in plus x) -ℤ pos (chosen_in minus x)
  value = row_value (one_differs lib arch test) apart x

  still : (v : ℕ) → is_in (range_with_len 0 MEMBERS) v ≡ true → (has minus v && x v) ≡ true → has minus v ≡ true
  still v among h = and_left (has minus v) (x v) h

  -- at most as many of the kept ones are chosen as there are
  at_most_kept : chosen_in minus x ≤ length kept
  at_most_kept = omega (arith, kept_count, length-filter-mono (λ v. has minus v && x v) (has minus) (range_with_len 0 MEMBERS) still)

  enough : (p m k : ℕ) → m ≤ k → 1 ≤ p → (pos 1 -ℤ pos k) ≤ℤ (pos p -ℤ pos m)
  enough p m k h one = omega (arith, ints)

  enough_less : (p m k : ℕ) → m < k → (pos 1 -ℤ pos k) ≤ℤ (pos p -ℤ pos m)
  enough_less p m k h = omega (arith, ints)

  too_few : (p m k : ℕ) → p ≡ 0 → k ≤ m → (pos 1 -ℤ pos k) ≤ℤ (pos p -ℤ pos m) → ⊥
  too_few p m k e h le = omega (arith, ints)

  -- where an absent member that passes the test is chosen, the row holds
  holds_by_absent : (v : ℕ) → is_in absent v ≡ true → x v ≡ true → RowHolds (row_of_cut (one_differs lib arch test)) x
  holds_by_absent v among on =
      let short : v < MEMBERS = (let low = where_below lib (λ v. test v && not (is_present lib arch v)) v among in omega (arith, low, few)) in
      holds_by (one_differs lib arch test) x (chosen_in plus x) (chosen_in minus x) value (enough (chosen_in plus x) (chosen_in minus x) (length kept) at_most_kept (one_passes (λ w. has plus w && x w) (range_with_len 0 MEMBERS) v (is_in-range 0 MEMBERS v (omega arith) (omega arith))
      (and_both (has plus v) (x v) (has-set_of_numbers absent v ∙ among) on)))

  -- where neither kind of change is made, the vector agrees with the architecture
  agrees : list_any x absent ≡ false → ((v : ℕ) → is_in (range_with_len 0 MEMBERS) v ≡ true → has minus v ≡ true → (has minus v && x v) ≡ true)
      → (v : ℕ) → v < member_count lib → test v ≡ true → x v ≡ is_present lib arch v
  agrees none all v short h = elim (bool_cases (is_present lib arch v)) [
    | inl here ↦
        let in_minus = has-set_of_numbers kept v ∙ in_where lib (λ v. test v && is_present lib arch v) v short (and_both (test v) (is_present lib arch v) h here) in
        and_right (has minus v) (x v) (all v (is_in-range 0 MEMBERS v (omega arith) (omega (arith, few))) in_minus) ∙ sym here
    | inr gone ↦
        let in_absent = in_where lib (λ v. test v && not (is_present lib arch v)) v short (and_both (test v) (not (is_present lib arch v)) h (ap not gone)) in
        false_if (x v) (λ on. let e : true ≡ false = sym (any_of x absent v in_absent on) ∙ none in cc) ∙ sym gone
  ]

  -- the row holds, or the vector agrees with the architecture at all members that pass the test
  pub differs_or_agrees : RowHolds (row_of_cut (one_differs lib arch test)) x ⊎ ((v : ℕ) → v < member_count lib → test v ≡ true → x v ≡ is_present lib arch v)
  differs_or_agrees = elim (bool_cases (list_any x absent)) [
    | inl some ↦ let v = some_of x absent some in inl (holds_by_absent v.0 v.1 v.2)
    | inr none ↦ elim (filter_grows (λ v. has minus v && x v) (has minus) (range_with_len 0 MEMBERS) still) [
      | inl fewer ↦ inl (holds_by (one_differs lib arch test) x (chosen_in plus x) (chosen_in minus x) value (enough_less (chosen_in plus x) (chosen_in minus x) (length kept) (omega (arith, kept_count, fewer))))
      | inr all ↦ inr (agrees none all)
    ]
  ]

  -- and it doesn't hold where it agrees
  pub agreeing_breaks : ((v : ℕ) → v < member_count lib → test v ≡ true → x v ≡ is_present lib arch v) → RowHolds (row_of_cut (one_differs lib arch test)) x → ⊥
  agreeing_breaks same holds =
      let none : chosen_in plus x ≡ 0 = none_passes (λ v. has plus v && x v) (range_with_len 0 MEMBERS) (λ v h. false_if (has plus v && x v) (λ both.
      let out = and_left (has plus v) (x v) both in
      let among = sym (has-set_of_numbers absent v) ∙ out in
      let passes = and_left (test v) (not (is_present lib arch v)) (where_passes lib (λ v. test v && not (is_present lib arch v)) v among) in
      not_true (is_present lib arch v) (absent_not v out)
      (sym (same v (where_below lib (λ v. test v && not (is_present lib arch v)) v among) passes) ∙ and_right (has plus v) (x v) both))) in
      let all : length (filter (has minus) (range_with_len 0 MEMBERS)) ≤ chosen_in minus x
      = length-filter-mono (has minus) (λ v. has minus v && x v) (range_with_len 0 MEMBERS) (λ v h in_minus.
      let among = sym (has-set_of_numbers kept v) ∙ in_minus in
      let passes = and_left (test v) (is_present lib arch v) (where_passes lib (λ v. test v && is_present lib arch v) v among) in
      and_both (has minus v) (x v) in_minus (same v (where_below lib (λ v. test v && is_present lib arch v) v among) passes ∙ kept_present v in_minus)) in
      too_few (chosen_in plus x) (chosen_in minus x) (length kept) none (omega (arith, kept_count, all)) (says (one_differs lib arch test) x (chosen_in plus x) (chosen_in minus x) value holds)
