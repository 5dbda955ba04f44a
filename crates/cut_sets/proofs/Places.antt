-- Places of an enumeration: what comes after one, and how many steps are left.
use Rattle.std.proofs.Common.{◌≡◌, ℕ, zero, suc, ◌+◌, ◌-◌, ◌^◌, ◌<◌, ◌≤◌, Bool, true, false, cond, nat_eq, List, [], ◌∷◌, ◌++◌, filter, length, refl, sym, ap, ◌∙◌, append_assoc, arith, inl, inr}
use Rattle.std.specs.List.{range_with_len}
use Rattle.std.proofs.lemmas.Bool.{eqb-true}
use Rattle.std.proofs.lemmas.List.{append-nil}
use Rattle.std.proofs.Math.Nat.{pow-suc}
use Rattle.arch_model.specs.declared.limits.TheConstants.{MEMBERS, FAILING}
use Rattle.arch_model.specs.Set.{Set, has, members_below}
use Rattle.arch_model.specs.Inner.Sets.{members_from}
use Rattle.arch_model.specs.Member.{is_in}
use Rattle.arch_model.proofs.Members.{and_left, and_right, and_both, or_cases, is_in-filter, is_in-range, is_in-members}
use Rattle.cut_sets.specs.Inner.Upcoming.{NetworkParts, candidates_from, sets_beyond, sets_after, AreChosen, steps_after}

range_low : (a n c : ℕ) → is_in (range_with_len a n) c ≡ true → a ≤ c
range_low a zero c h = absurd (let e : false ≡ true = h in cc)
range_low a (suc n) c h = elim (or_cases (nat_eq a c) (is_in (range_with_len (a + 1) n) c) h) [
  | inl here ↦ let e = eqb-true a c here in omega arith
  | inr later ↦ let r = range_low (a + 1) n c later in omega arith
]

pub range_high : (a n c : ℕ) → is_in (range_with_len a n) c ≡ true → c < a + n
range_high a zero c h = absurd (let e : false ≡ true = h in cc)
range_high a (suc n) c h = elim (or_cases (nat_eq a c) (is_in (range_with_len (a + 1) n) c) h) [
  | inl here ↦ let e = eqb-true a c here in omega arith
  | inr later ↦ let r = range_high (a + 1) n c later in omega arith
]

pub below_high : (s : Set) (n c : ℕ) → is_in (members_below s n) c ≡ true → c < n
unfolding members_below
below_high s n c h = let r = range_high 0 n c (and_right (has s c) _ (sym (is_in-filter (has s) (range_with_len 0 n) c) ∙ h)) in omega (arith, r)

-- a shorter range has no more numbers that pass a test
fewer_kept : (p : ℕ → Bool) (a n k : ℕ) → length (filter p (range_with_len (a + k) (n - k))) ≤ length (filter p (range_with_len a n))
fewer_kept p a n zero = let from : a + 0 ≡ a = omega arith in let left : n - 0 ≡ n = omega arith in let e = ap (λ b. length (filter p (range_with_len b (n - 0)))) from ∙ ap (λ m. length (filter p (range_with_len a m))) left in omega (arith, e)
fewer_kept p a zero (suc k) = let none : zero - suc k ≡ 0 = omega arith in let e = ap (λ m. length (filter p (range_with_len (a + suc k) m))) none in omega (arith, e)
fewer_kept p a (suc n) (suc k) =
    let from : a + suc k ≡ a + 1 + k = omega arith in
    let left : suc n - suc k ≡ n - k = omega arith in
    let rest = fewer_kept p (a + 1) n k in
    let e = ap (λ b. length (filter p (range_with_len b (suc n - suc k)))) from ∙ ap (λ m. length (filter p (range_with_len (a + 1 + k) m))) left in
    let one : length (filter p (range_with_len (a + 1) n)) ≤ length (filter p (range_with_len a (suc n))) = elim (p a) as (λ b. length (filter p (range_with_len (a + 1) n)) ≤ length (cond b (a ∷ filter p (range_with_len (a + 1) n)) (filter p (range_with_len (a + 1) n)))) [ true ↦ omega arith | false ↦ omega arith ] in
    omega (arith, rest, e, one)

pub positive_power : (n : ℕ) → 0 < 3 ^ n
positive_power zero = omega arith
positive_power (suc n) = let e = pow-suc 3 n in let p = positive_power n in omega (arith, e, p)

module _ (net : NetworkParts) where
  -- a candidate from i on
  pub candidate_low : (i c : ℕ) → is_in (candidates_from net i) c ≡ true → i ≤ c
  unfolding members_from
  candidate_low i c h = range_low i (MEMBERS - i) c (and_right (has net.candidates c) _ (sym (is_in-filter (has net.candidates) (range_with_len i (MEMBERS - i)) c) ∙ h))

  pub candidate_has : (i c : ℕ) → is_in (candidates_from net i) c ≡ true → has net.candidates c ≡ true
  unfolding members_from
  candidate_has i c h = and_left (has net.candidates c) _ (sym (is_in-filter (has net.candidates) (range_with_len i (MEMBERS - i)) c) ∙ h)

  pub candidate_member : (i c : ℕ) → is_in (candidates_from net i) c ≡ true → is_in (members_below net.candidates MEMBERS) c ≡ true
  unfolding members_from
  candidate_member i c h =
      let high = range_high i (MEMBERS - i) c (and_right (has net.candidates c) _ (sym (is_in-filter (has net.candidates) (range_with_len i (MEMBERS - i)) c) ∙ h)) in
      let low = candidate_low i c h in
      is_in-members net.candidates MEMBERS c (candidate_has i c h) (omega (arith, high, low))

  -- a candidate from j on is one from an earlier i on
  pub candidate_later : (i j c : ℕ) → i ≤ j → is_in (candidates_from net j) c ≡ true → is_in (candidates_from net i) c ≡ true
  unfolding members_from
  candidate_later i j c le h =
      let low = candidate_low j c h in
      let high = range_high j (MEMBERS - j) c (and_right (has net.candidates c) _ (sym (is_in-filter (has net.candidates) (range_with_len j (MEMBERS - j)) c) ∙ h)) in
      is_in-filter (has net.candidates) (range_with_len i (MEMBERS - i)) c
      ∙ and_both (has net.candidates c) (is_in (range_with_len i (MEMBERS - i)) c) (candidate_has j c h) (is_in-range i (MEMBERS - i) c (omega (arith, low, le)) (omega (arith, low, high, le)))

  pub fewer_later : (i j : ℕ) → i ≤ j → length (candidates_from net j) ≤ length (candidates_from net i)
  unfolding members_from
  fewer_later i j le =
      let from : i + (j - i) ≡ j = omega arith in
      let left : MEMBERS - i - (j - i) ≡ MEMBERS - j = omega arith in
      let fewer = fewer_kept (has net.candidates) i (MEMBERS - i) (j - i) in
      let e = ap (λ a. length (filter (has net.candidates) (range_with_len a (MEMBERS - i - (j - i))))) from ∙ ap (λ n. length (filter (has net.candidates) (range_with_len j n))) left in
      omega (arith, fewer, e)

  pub none_at_end : candidates_from net MEMBERS ≡ []
  unfolding members_from
  none_at_end = refl

  -- one more chosen member
  pub after-push : (before chosen : List ℕ) (c : ℕ) → sets_after net before (chosen ++ c ∷ []) ≡ sets_beyond net (before ++ chosen) (c + 1) ++ sets_after net before chosen
  after-push before [] c = ap (λ l. sets_beyond net l (c + 1)) (sym (append-nil before)) ∙ sym (append-nil (sets_beyond net (before ++ []) (c + 1)))
  after-push before (d ∷ cs) c =
      ap (λ l. l ++ sets_beyond net before (d + 1)) (after-push (before ++ d ∷ []) cs c)
      ∙ append_assoc (sets_beyond net ((before ++ d ∷ []) ++ cs) (c + 1)) (sets_after net (before ++ d ∷ []) cs) (sets_beyond net before (d + 1))
      ∙ ap (λ l. sets_beyond net l (c + 1) ++ (sets_after net (before ++ d ∷ []) cs ++ sets_beyond net before (d + 1))) (append_assoc before (d ∷ []) cs)

  pub steps-push : (chosen : List ℕ) (c : ℕ) → steps_after net (chosen ++ c ∷ []) ≡ 3 ^ length (candidates_from net (c + 1)) + steps_after net chosen
  steps-push [] c = refl
  steps-push (d ∷ cs) c = let e = steps-push cs c in regroup (3 ^ length (candidates_from net (d + 1))) (3 ^ length (candidates_from net (c + 1))) (steps_after net cs) (steps_after net (cs ++ c ∷ [])) e where
    regroup : (a b x y : ℕ) → y ≡ b + x → a + y ≡ b + (a + x)
    regroup a b x y e = omega arith

  -- what is known of chosen members
  pub chosen_room : (count low : ℕ) (chosen : List ℕ) (at : ℕ) → AreChosen net count low chosen at → count + length chosen + length (candidates_from net at) ≤ FAILING
  chosen_room count low [] at h = let r = h.1 in omega (arith, r)
  chosen_room count low (c ∷ cs) at h = let r = chosen_room (count + 1) (c + 1) cs at h.3 in omega (arith, r)

  pub chosen_more : (count low : ℕ) (chosen : List ℕ) (at w : ℕ) → AreChosen net count low chosen at → at ≤ w → has net.candidates w ≡ true → count + length chosen + 1 + length (candidates_from net (w + 1)) ≤ FAILING
      → AreChosen net count low (chosen ++ w ∷ []) (w + 1)
  chosen_more count low [] at w h from among room = let l = h.0 in (omega (arith, l, from), among, omega (arith, room), (omega arith, omega (arith, room)))
  chosen_more count low (c ∷ cs) at w h from among room = (h.0, h.1, h.2, chosen_more (count + 1) (c + 1) cs at w h.3 from among (omega (arith, room)))

  pub chosen_fewer : (count low : ℕ) (chosen : List ℕ) (c at : ℕ) → AreChosen net count low (chosen ++ c ∷ []) at → AreChosen net count low chosen (c + 1)
  chosen_fewer count low [] c at h = let l = h.0 in let r = h.2 in (omega (arith, l), omega (arith, r))
  chosen_fewer count low (d ∷ cs) c at h = (h.0, h.1, h.2, chosen_fewer (count + 1) (d + 1) cs c at h.3)

  pub chosen_skip : (count low : ℕ) (chosen : List ℕ) (at to : ℕ) → AreChosen net count low chosen at → at ≤ to → length (candidates_from net to) ≤ length (candidates_from net at) → AreChosen net count low chosen to
  chosen_skip count low [] at to h from fewer = let l = h.0 in let r = h.1 in (omega (arith, l, from), omega (arith, r, fewer))
  chosen_skip count low (c ∷ cs) at to h from fewer = (h.0, h.1, h.2, chosen_skip (count + 1) (c + 1) cs at to h.3 from fewer)

  chosen_low : (count low : ℕ) (chosen : List ℕ) (at : ℕ) → AreChosen net count low chosen at → low ≤ at
  chosen_low count low [] at h = h.0
  chosen_low count low (c ∷ cs) at h = let l = h.0 in let r = chosen_low (count + 1) (c + 1) cs at h.3 in omega (arith, l, r)

  pub chosen_below : (count low : ℕ) (chosen : List ℕ) (at : ℕ) → AreChosen net count low chosen at → (c : ℕ) → is_in chosen c ≡ true → c < at
  chosen_below count low [] at h c among = absurd (let e : false ≡ true = among in cc)
  chosen_below count low (d ∷ cs) at h c among = elim (or_cases (nat_eq d c) (is_in cs c) among) [
    | inl here ↦ let e = eqb-true d c here in let r = chosen_low (count + 1) (d + 1) cs at h.3 in omega (arith, e, r)
    | inr later ↦ chosen_below (count + 1) (d + 1) cs at h.3 c later
  ]

  pub chosen_has : (count low : ℕ) (chosen : List ℕ) (at : ℕ) → AreChosen net count low chosen at → (c : ℕ) → is_in chosen c ≡ true → has net.candidates c ≡ true
  chosen_has count low [] at h c among = absurd (let e : false ≡ true = among in cc)
  chosen_has count low (d ∷ cs) at h c among = elim (or_cases (nat_eq d c) (is_in cs c) among) [
    | inl here ↦ ap (has net.candidates) (sym (eqb-true d c here)) ∙ h.1
    | inr later ↦ chosen_has (count + 1) (d + 1) cs at h.3 c later
  ]
