-- The value of a case by the members that have failed, and the step from one undecided member to the next.
use Rattle.std.proofs.Common.{◌≡◌, ℕ, zero, suc, ◌+◌, ◌-◌, ◌^◌, ◌<◌, ◌≤◌, Bool, true, false, cond, not, ◌||◌, ◌&&◌, nat_eq, ltb, List, ◌∷◌, ◌++◌, filter, refl, sym, ap, ◌∙◌, arith, ◌⊎◌, inl, inr}
use Rattle.std.specs.List.{range_with_len}
use Rattle.std.proofs.lemmas.Bool.{eqb-true, lt-ltb, cases_lt}
use Rattle.arch_model.specs.Set.{Set, has, empty, put, union, minus, members_below}
use Rattle.arch_model.specs.Inner.Sets.{members_from}
use Rattle.arch_model.specs.Parts.{LibraryParts, ArchitectureParts}
use Rattle.arch_model.specs.Library.{IsLibrary}
use Rattle.arch_model.specs.Architecture.{IsArchitecture}
use Rattle.arch_model.specs.Member.{is_in, is_present, fail_of, member_count, member_numbers}
use Rattle.arch_model.specs.Path.{parts}
use Rattle.arch_model.specs.Mass.{mixed, over_failures}
use Rattle.arch_model.proofs.Members.{and_left, or_left, or_right, or_cases, same_test, false_if, is_in-append, is_in-filter}
use Rattle.arch_model.proofs.SetLaws.{has-empty, has-union, has-put, has-minus}
use Rattle.arch_model.proofs.NextMember.{members_first, members_all}
use Rattle.arch_model.proofs.Reaching.{parts_more}
use Rattle.arch_model.proofs.Sublists.{AllSublists, each_sublist, map_all, members_inside}
use Rattle.fail_mass.specs.Inner.Cases.{may_fail, value_with}
use Rattle.fail_mass.proofs.CaseLemmas.{IsWhole, Ignores, left_out}

or_assoc : (a b c : Bool) → ((a || b) || c) ≡ (a || (b || c))
or_assoc true b c = refl
or_assoc false b c = refl

-- members of a set from a number on
pub from_set : (s : Set) (i n c : ℕ) → is_in (members_from s i n) c ≡ true → has s c ≡ true
unfolding members_from
from_set s i n c h = and_left (has s c) (is_in (range_with_len i (n - i)) c) (sym (is_in-filter (has s) (range_with_len i (n - i)) c) ∙ h)

same_range : (s t : Set) (c a : ℕ) → ((j : ℕ) → a ≤ j → has s j ≡ has t j) → filter (has s) (range_with_len a c) ≡ filter (has t) (range_with_len a c)
same_range s t zero a alike = refl
same_range s t (suc c) a alike =
    ap (λ b. cond b (a ∷ filter (has s) (range_with_len (a + 1) c)) (filter (has s) (range_with_len (a + 1) c))) (alike a (omega arith))
    ∙ ap (λ (l : List ℕ). cond (has t a) (a ∷ l) l) (same_range s t c (a + 1) (λ j l. alike j (omega arith)))

pub same_from : (s t : Set) (i n : ℕ) → ((j : ℕ) → i ≤ j → has s j ≡ has t j) → members_from s i n ≡ members_from t i n
unfolding members_from
same_from s t i n alike = same_range s t (n - i) i alike

-- without one member the others stay
others : (s : Set) (v j : ℕ) → v + 1 ≤ j → has s j ≡ has (minus s (put empty v)) j
others s v j above =
    let apart : nat_eq v j ≡ false = false_if (nat_eq v j) (λ e. let same = eqb-true v j e in omega (arith, same)) in
    sym (has-minus s (put empty v) j ∙ ap (λ b. has s j && not b) (has-put empty v j ∙ ap (λ b. b || nat_eq v j) (has-empty j) ∙ apart) ∙ and_true (has s j))
  where
    and_true : (b : Bool) → (b && true) ≡ b
    and_true true = refl
    and_true false = refl

pub rest_smaller : (s : Set) (v j : ℕ) → has (minus s (put empty v)) j ≡ true → has s j ≡ true
rest_smaller s v j h = and_left (has s j) (not (has (put empty v) j)) (sym (has-minus s (put empty v) j) ∙ h)

zero_of : (p : ℕ) → ltb 0 p ≡ false → p ≡ 0
zero_of p h = elim (cases_lt 0 p) [
  | inl more ↦ let e : true ≡ false = sym (lt-ltb 0 p more) ∙ h in absurd cc
  | inr none ↦ omega arith
]

and_split : (a b : Bool) → (a && b) ≡ false → (a ≡ false) ⊎ (b ≡ false)
and_split true b h = inr h
and_split false b h = inl refl

module _ (lib : LibraryParts) (arch : ArchitectureParts) (fits : IsArchitecture lib arch) (sink : ℕ) where
  -- where the failed ones part the sink, each case has 10^18
  pub surely : (failed : Set) (xs : List ℕ) → parts lib arch sink (has failed) ≡ true → AllSublists (λ m. value_with lib arch sink failed m ≡ 10 ^ 18) xs
  surely failed xs cut = each_sublist (λ m. value_with lib arch sink failed m ≡ 10 ^ 18)
      (λ m. ap (λ b. cond b (10 ^ 18) 0) (parts_more lib arch fits sink (has failed) (λ v. has failed v || is_in m v) (λ v here h. or_left (has failed v) (is_in m v) h) cut)) xs

  -- where they don't together with all that are undecided, each has 0
  pub never : (failed undecided : Set) (i n : ℕ) → parts lib arch sink (has (union failed undecided)) ≡ false → AllSublists (λ m. value_with lib arch sink failed m ≡ 0) (members_from undecided i n)
  never failed undecided i n uncut = map_all _ _
      (λ m inside. ap (λ b. cond b (10 ^ 18) 0) (false_if (parts lib arch sink (λ v. has failed v || is_in m v)) (λ cut.
      let all = parts_more lib arch fits sink (λ v. has failed v || is_in m v) (has (union failed undecided))
      (λ v here h. has-union failed undecided v ∙ elim (or_cases (has failed v) (is_in m v) h) [
        | inl old ↦ or_left (has failed v) (has undecided v) old
        | inr new ↦ or_right (has failed v) (has undecided v) (from_set undecided i n v (inside v new))
      ]) cut in
      let e : true ≡ false = sym all ∙ uncut in cc)))
      (members_from undecided i n) (members_inside (members_from undecided i n))

  -- one more has failed
  pub one_more : (failed : Set) (v : ℕ) (m : List ℕ) → value_with lib arch sink failed (v ∷ m) ≡ value_with lib arch sink (put failed v) m
  one_more failed v m = ap (λ (t : ℕ → Bool). cond (parts lib arch sink t) (10 ^ 18) 0)
      (λ i w. let e : (has failed w || (nat_eq v w || is_in m w)) ≡ (has (put failed v) w || is_in m w) = sym (or_assoc (has failed w) (nat_eq v w) (is_in m w)) ∙ ap (λ b. b || is_in m w) (sym (has-put failed v w)) in e i)

  -- the two cases of the next undecided member
  pub both_cases : (round : ℕ → ℕ) (failed undecided : Set) (i v n : ℕ) → i ≤ v → v < n → ((j : ℕ) → i ≤ j → j < v → has undecided j ≡ false) → has undecided v ≡ true
      → over_failures lib round (value_with lib arch sink failed) (members_from undecided i n)
      ≡ round (mixed (fail_of lib v) (over_failures lib round (value_with lib arch sink (put failed v)) (members_from (minus undecided (put empty v)) (v + 1) n))
      (over_failures lib round (value_with lib arch sink failed) (members_from (minus undecided (put empty v)) (v + 1) n)))
  both_cases round failed undecided i v n low high none here =
      ap (over_failures lib round (value_with lib arch sink failed)) (members_first undecided i v n low high none here)
      ∙ ap (λ xs. round (mixed (fail_of lib v) (over_failures lib round (λ m. value_with lib arch sink failed (v ∷ m)) xs) (over_failures lib round (value_with lib arch sink failed) xs)))
      (same_from undecided (minus undecided (put empty v)) (v + 1) n (others undecided v))
      ∙ ap (λ (f : List ℕ → ℕ). round (mixed (fail_of lib v) (over_failures lib round f (members_from (minus undecided (put empty v)) (v + 1) n)) (over_failures lib round (value_with lib arch sink failed) (members_from (minus undecided (put empty v)) (v + 1) n))))
      (λ i m. one_more failed v m i)

  -- an absent member changes nothing
  absent : (x : ℕ) → is_present lib arch x ≡ false → Ignores (λ failed. cond (parts lib arch sink (is_in failed)) (10 ^ 18) 0) x
  absent x away before after =
      ap (λ b. cond b (10 ^ 18) 0) (same_test (parts lib arch sink (is_in (before ++ x ∷ after))) (parts lib arch sink (is_in (before ++ after)))
      (parts_more lib arch fits sink (is_in (before ++ x ∷ after)) (is_in (before ++ after)) (λ v here h.
      is_in-append before after v ∙ elim (or_cases (is_in before v) (nat_eq x v || is_in after v) (sym (is_in-append before (x ∷ after) v) ∙ h)) [
        | inl early ↦ or_left (is_in before v) (is_in after v) early
        | inr late ↦ elim (or_cases (nat_eq x v) (is_in after v) late) [
          | inl it ↦ let e : true ≡ false = sym here ∙ ap (is_present lib arch) (sym (eqb-true x v it)) ∙ away in absurd cc
          | inr later ↦ or_right (is_in before v) (is_in after v) later
        ]
      ]))
      (parts_more lib arch fits sink (is_in (before ++ after)) (is_in (before ++ x ∷ after)) (λ v here h.
      is_in-append before (x ∷ after) v ∙ elim (or_cases (is_in before v) (is_in after v) (sym (is_in-append before after v) ∙ h)) [
        | inl early ↦ or_left (is_in before v) (nat_eq x v || is_in after v) early
        | inr late ↦ or_right (is_in before v) (nat_eq x v || is_in after v) (or_right (nat_eq x v) (is_in after v) late)
      ])))

  -- all members, or those that are present and may fail
  pub from_all : IsLibrary lib → (round : ℕ → ℕ) → IsWhole round → (undecided : Set) → ((v : ℕ) → has undecided v ≡ may_fail lib arch v)
      → over_failures lib round (value_with lib arch sink empty) (members_from undecided 0 (member_count lib))
      ≡ over_failures lib round (λ failed. cond (parts lib arch sink (is_in failed)) (10 ^ 18) 0) (member_numbers lib)
  unfolding members_below
  from_all right round whole undecided alike =
      ap (over_failures lib round (value_with lib arch sink empty)) (members_all undecided (member_count lib))
      ∙ ap (λ (f : List ℕ → ℕ). over_failures lib round f (filter (has undecided) (member_numbers lib)))
      (λ i m. cond (parts lib arch sink (λ v. let e : (has empty v || is_in m v) ≡ is_in m v = ap (λ b. b || is_in m v) (has-empty v) in e i)) (10 ^ 18) 0)
      ∙ sym (left_out lib right round whole (has undecided) (λ failed. cond (parts lib arch sink (is_in failed)) (10 ^ 18) 0) (member_numbers lib)
      (λ x among out. elim (and_split (is_present lib arch x) (ltb 0 (fail_of lib x)) (sym (alike x) ∙ out)) [
        | inl away ↦ inr (absent x away)
        | inr rate ↦ inl (zero_of (fail_of lib x) rate)
      ]))
