-- What each step of an enumeration makes of its place.
use Rattle.std.proofs.Common.{◌≡◌, ℕ, suc, ◌+◌, ◌^◌, ◌<◌, ◌≤◌, Bool, true, false, ◌||◌, nat_eq, nat_lt, List, [], ◌∷◌, ◌++◌, length, refl, sym, ap, ◌∙◌, subst, append_assoc, arith, not}
use Rattle.std.specs.List.{list_all}
use Rattle.std.specs.Prelude.{IsTrue}
use Rattle.std.proofs.lemmas.Bool.{ltb-true, eq-eqb, lt-ltb}
use Rattle.std.proofs.Math.Nat.{pow-suc, pow-le-pow_right}
use Rattle.cut_sets.specs.declared.walking.Turn.{Turn}
use Rattle.cut_sets.specs.declared.walking.Turn.TheVariants.{Given, Passed, Ended}
use Rattle.cut_sets.specs.Inner.Turns.{IsTurn}
use Rattle.arch_model.specs.declared.limits.TheConstants.{MEMBERS, FAILING}
use Rattle.arch_model.specs.Set.{Set, has, put, empty, minus, members_below}
use Rattle.arch_model.specs.Member.{is_in, is_present, member_count, fail_of}
use Rattle.arch_model.specs.Path.{parts}
use Rattle.arch_model.specs.CutSet.{is_minimal_cut_set}
use Rattle.arch_model.specs.Weight.{product_of}
use Rattle.arch_model.proofs.Members.{and_left, and_right, or_left, false_if, is_in-append}
use Rattle.arch_model.proofs.SetLaws.{has-put}
use Rattle.cut_sets.specs.Inner.Upcoming.{NetworkParts, PlaceParts, IsNetwork, candidates_from, sets_beyond, sets_after, sets_from, AreChosen, IsPlace, steps_after, steps_from, WentBack, IsFirstUseful}
use Rattle.cut_sets.proofs.Places.{positive_power, candidate_low, candidate_has, fewer_later, none_at_end, after-push, steps-push, chosen_room, chosen_more, chosen_fewer, chosen_skip, chosen_below, chosen_has}
use Rattle.cut_sets.proofs.Beyond.{beyond_none, beyond_step, beyond_given, beyond_cut, minimal_on_set, and_no, and_yes}
use Rattle.cut_sets.proofs.Products.{product_positive}

pub members_small : (net : NetworkParts) → IsNetwork net → (place : PlaceParts) → IsPlace net place → (c : ℕ) → is_in place.chosen c ≡ true → c < MEMBERS
members_small net right place stands c h =
    let inside = ltb-true c (member_count net.lib) (and_left (nat_lt c (member_count net.lib)) _ (sym (right.candidates c) ∙ chosen_has net 0 0 place.chosen place.at stands c h)) in
    omega (arith, inside, right.small)

-- the last chosen member is left out
module _ (net : NetworkParts) (before after : PlaceParts) where
  pub left_place : WentBack before after true → IsPlace net before → IsPlace net after
  left_place w h =
      let fewer = chosen_fewer net 0 0 after.chosen w.0 before.at (subst (λ (cs : List ℕ). AreChosen net 0 0 cs before.at) w.1 h) in
      subst (λ (i : ℕ). AreChosen net 0 0 after.chosen i) (sym w.2) fewer

  same_after : (w : WentBack before after true) → sets_after net [] before.chosen ≡ sets_from net after
  same_after w =
      ap (sets_after net []) w.1 ∙ after-push net [] after.chosen w.0
      ∙ ap (λ i. sets_beyond net after.chosen i ++ sets_after net [] after.chosen) (sym w.2)

  fewer_steps : (w : WentBack before after true) → steps_after net before.chosen ≡ steps_from net after
  fewer_steps w =
      ap (steps_after net) w.1 ∙ steps-push net after.chosen w.0
      ∙ ap (λ i. 3 ^ length (candidates_from net i) + steps_after net after.chosen) (sym w.2)

  pub left_turn : WentBack before after true → sets_beyond net before.chosen before.at ≡ []
      → (sets_from net before ≡ sets_from net after) × (steps_from net after < steps_from net before)
  left_turn w none = (
    ap (λ l. l ++ sets_after net [] before.chosen) none ∙ same_after w,
    let e = fewer_steps w in let p = positive_power (length (candidates_from net before.at)) in omega (arith, e, p),
  )

-- nothing is left
module _ (net : NetworkParts) (before back after : PlaceParts) (w : WentBack before back false) (is : after ≡ record { chosen = back.chosen; at = MEMBERS }) where
  none_chosen : back.chosen ≡ []
  none_chosen = ap (λ (p : PlaceParts). p.chosen) w.1 ∙ w.0

  at_end : after ≡ record { chosen = []; at = MEMBERS }
  at_end = is ∙ ap (λ (cs : List ℕ). record { chosen = cs; at = MEMBERS }) none_chosen

  pub ended_place : IsPlace net after
  ended_place = let r = ap length (none_at_end net) in subst (IsPlace net) (sym at_end) (omega arith, omega (arith, r))

  pub ended_turn : sets_beyond net before.chosen before.at ≡ [] → (sets_from net before ≡ []) × (sets_from net after ≡ [])
  ended_turn none = (
    ap (λ l. l ++ sets_after net [] before.chosen) none ∙ ap (sets_after net []) w.0,
    ap (sets_from net) at_end ∙ ap (λ l. l ++ []) (beyond_none net [] MEMBERS (none_at_end net)),
  )

-- the least candidate that is not decided
module _ (net : NetworkParts) (right : IsNetwork net) (before : PlaceParts) (stands : IsPlace net before) (v : ℕ)
    (first : candidates_from net before.at ≡ v ∷ candidates_from net (v + 1)) where
  one_less : length (candidates_from net before.at) ≡ suc (length (candidates_from net (v + 1)))
  one_less = ap length first

  among : is_in (candidates_from net before.at) v ≡ true
  among = ap (λ l. is_in l v) first ∙ or_left (nat_eq v v) (is_in (candidates_from net (v + 1)) v) (eq-eqb v v refl)

  low : before.at ≤ v
  low = candidate_low net before.at v among

  pub room : length before.chosen < FAILING
  room = let r = chosen_room net 0 0 before.chosen before.at stands in omega (arith, r, one_less)

  chosen_place : AreChosen net 0 0 (before.chosen ++ v ∷ []) (v + 1)
  chosen_place = let r = chosen_room net 0 0 before.chosen before.at stands in
      chosen_more net 0 0 before.chosen before.at v stands low (candidate_has net before.at v among) (omega (arith, r, one_less))

  module _ (after : PlaceParts) where
    -- it is chosen
    pub more_place : after ≡ record { chosen = before.chosen ++ v ∷ []; at = v + 1 } → IsPlace net after
    more_place is = subst (IsPlace net) (sym is) chosen_place

    pub more_turn : after ≡ record { chosen = before.chosen ++ v ∷ []; at = v + 1 } → parts net.lib net.arch net.sink (is_in (before.chosen ++ v ∷ [])) ≡ false
        → (sets_from net before ≡ sets_from net after) × (steps_from net after < steps_from net before)
    more_turn is uncut = (
      ap (λ l. l ++ sets_after net [] before.chosen) (beyond_step net before.chosen before.at v first (and_no (is_minimal_cut_set net.lib net.arch net.sink (before.chosen ++ v ∷ [])) _ (and_no (parts net.lib net.arch net.sink (is_in (before.chosen ++ v ∷ []))) _ uncut)))
          ∙ append_assoc (sets_beyond net (before.chosen ++ v ∷ []) (v + 1)) (sets_beyond net before.chosen (v + 1)) (sets_after net [] before.chosen)
          ∙ ap (λ l. sets_beyond net (before.chosen ++ v ∷ []) (v + 1) ++ l) (sym (after-push net [] before.chosen v))
          ∙ ap (sets_from net) (sym is),
      let e = ap (λ n. 3 ^ n) one_less ∙ pow-suc 3 (length (candidates_from net (v + 1))) in
          let p = positive_power (length (candidates_from net (v + 1))) in
          let s = steps-push net before.chosen v in
          let n = ap (steps_from net) is in
          omega (arith, e, p, s, n),
    )

    -- it is left out
    pub skipped_place : after ≡ record { chosen = before.chosen; at = v + 1 } → IsPlace net after
    skipped_place is = subst (IsPlace net) (sym is) (chosen_skip net 0 0 before.chosen before.at (v + 1) stands (omega (arith, low)) (omega (arith, one_less)))

    module _ (is : after ≡ record { chosen = before.chosen; at = v + 1 }) (cuts : parts net.lib net.arch net.sink (is_in (before.chosen ++ v ∷ [])) ≡ true) where
      nothing_more : sets_beyond net (before.chosen ++ v ∷ []) (v + 1) ≡ []
      nothing_more = beyond_cut net right.fits (before.chosen ++ v ∷ []) (v + 1) cuts (λ y h. false_if (is_in (before.chosen ++ v ∷ []) y) (λ k.
          let short = chosen_below net 0 0 (before.chosen ++ v ∷ []) (v + 1) chosen_place y k in
          let far = candidate_low net (v + 1) y h in
          omega (arith, short, far)))

      pub skipped_turn : is_minimal_cut_set net.lib net.arch net.sink (before.chosen ++ v ∷ []) ≡ false
          → (sets_from net before ≡ sets_from net after) × (steps_from net after < steps_from net before)
      skipped_turn more = (
        ap (λ l. l ++ sets_after net [] before.chosen) (beyond_step net before.chosen before.at v first (and_no (is_minimal_cut_set net.lib net.arch net.sink (before.chosen ++ v ∷ [])) _ more) ∙ ap (λ l. l ++ sets_beyond net before.chosen (v + 1)) nothing_more)
            ∙ ap (sets_from net) (sym is),
        let e = ap (λ n. 3 ^ n) one_less ∙ pow-suc 3 (length (candidates_from net (v + 1))) in
            let p = positive_power (length (candidates_from net (v + 1))) in
            let n = ap (steps_from net) is in
            omega (arith, e, p, n),
      )

      positive : nat_lt 0 (product_of net.lib (before.chosen ++ v ∷ [])) ≡ true
      positive = lt-ltb 0 (product_of net.lib (before.chosen ++ v ∷ [])) (product_positive net.lib (before.chosen ++ v ∷ [])
          (λ c h. ltb-true 0 (fail_of net.lib c) (and_right (is_present net.lib net.arch c) _ (and_right (nat_lt c (member_count net.lib)) _ (sym (right.candidates c) ∙ chosen_has net 0 0 (before.chosen ++ v ∷ []) (v + 1) chosen_place c h)))))

      pub given_turn : is_minimal_cut_set net.lib net.arch net.sink (before.chosen ++ v ∷ []) ≡ true → sets_from net before ≡ (before.chosen ++ v ∷ []) ∷ sets_from net after
      given_turn minimal =
          ap (λ l. l ++ sets_after net [] before.chosen) (beyond_given net before.chosen before.at v first (and_yes (is_minimal_cut_set net.lib net.arch net.sink (before.chosen ++ v ∷ [])) _ minimal ∙ positive) nothing_more)
          ∙ ap (λ p. (before.chosen ++ v ∷ []) ∷ sets_from net p) (sym is)

  -- the set with it, and the list with it
  pub with_one : (s t : Set) → ((c : ℕ) → has s c ≡ is_in before.chosen c) → t ≡ put s v → (c : ℕ) → has t c ≡ is_in (before.chosen ++ v ∷ []) c
  with_one s t same is c =
      ap (λ x. has x c) is ∙ has-put s v c ∙ ap (λ b. b || nat_eq v c) (same c) ∙ ap (λ b. is_in before.chosen c || b) (sym (or_none (nat_eq v c)))
      ∙ sym (is_in-append before.chosen (v ∷ []) c) where
        or_none : (b : Bool) → (b || false) ≡ b
        or_none true = refl
        or_none false = refl

  pub all_small : (c : ℕ) → is_in (before.chosen ++ v ∷ []) c ≡ true → c < MEMBERS
  all_small c h =
      let inside = ltb-true c (member_count net.lib) (and_left (nat_lt c (member_count net.lib)) _ (sym (right.candidates c) ∙ chosen_has net 0 0 (before.chosen ++ v ∷ []) (v + 1) chosen_place c h)) in
      omega (arith, inside, right.small)

  module _ (t : Set) (same : (c : ℕ) → has t c ≡ is_in (before.chosen ++ v ∷ []) c) where
    pub with_candidates : (c : ℕ) → IsTrue (has t c) → IsTrue (has net.candidates c)
    with_candidates c h = chosen_has net 0 0 (before.chosen ++ v ∷ []) (v + 1) chosen_place c (sym (same c) ∙ h)

    pub cut_on_set : (b : Bool) → b ≡ parts net.lib net.arch net.sink (has t) → parts net.lib net.arch net.sink (is_in (before.chosen ++ v ∷ [])) ≡ b
    cut_on_set b is = sym (is ∙ ap (parts net.lib net.arch net.sink) (λ i c. same c i))

    pub minimal_is : (b : Bool) → b ≡ list_all (λ c. not (parts net.lib net.arch net.sink (has (minus t (put empty c))))) (members_below t MEMBERS)
        → parts net.lib net.arch net.sink (is_in (before.chosen ++ v ∷ [])) ≡ true → is_minimal_cut_set net.lib net.arch net.sink (before.chosen ++ v ∷ []) ≡ b
    minimal_is b is cuts =
        and_yes (parts net.lib net.arch net.sink (is_in (before.chosen ++ v ∷ []))) _ cuts ∙ sym (minimal_on_set net.lib net.arch net.sink t MEMBERS (before.chosen ++ v ∷ []) same all_small) ∙ sym is

-- candidates are passed over
module _ (net : NetworkParts) (before mid after : PlaceParts) (v : ℕ) (useful : IsFirstUseful net before v) (is : mid ≡ record { chosen = before.chosen; at = v }) where
  pub moved_place : IsPlace net before → IsPlace net mid
  moved_place stands = subst (IsPlace net) (sym is) (chosen_skip net 0 0 before.chosen before.at v stands useful.later (fewer_later net before.at v useful.later))

  moved_sets : sets_from net before ≡ sets_from net mid
  moved_sets = ap (λ l. l ++ sets_after net [] before.chosen) useful.same ∙ ap (sets_from net) (sym is)

  moved_steps : steps_from net mid ≤ steps_from net before
  moved_steps =
      let e = ap (steps_from net) is in
      let fewer = pow-le-pow_right {n = 3} (omega arith) (fewer_later net before.at v useful.later) in
      omega (arith, e, fewer)

  pub moved_turn : (t : Turn) → IsTurn net mid after t → IsTurn net before after t
  moved_turn (Given members) h = moved_sets ∙ h
  moved_turn Passed h = (moved_sets ∙ h.0, let s = h.1 in omega (arith, s, moved_steps))
  moved_turn Ended h = (moved_sets ∙ h.0, h.1)
