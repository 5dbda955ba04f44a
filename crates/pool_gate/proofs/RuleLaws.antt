-- What is kept between any two steps gives the gate's rule, and the rule what the calls promise.
use Rattle.std.proofs.Common.{◌≡◌, ◌≢◌, ℕ, ◌+◌, ◌*◌, ◌/◌, ◌%◌, ◌<◌, ◌≤◌, ◌⊎◌, zero, suc, inl, inr, ⊎_elim, true, false, List, [], ◌∷◌, length, get_or, sym, ap, ◌∙◌, subst, arith, Option, Some, slice_index}
use Rattle.std.specs.Prelude.{Contains}
use Rattle.std.specs.List.{AllPairs}
use Rattle.std.proofs.lemmas.Bool.{true≢false}
use Rattle.std.proofs.lemmas.List.Kept.{AllPairs-cons}
use mathlib.Core.Logic.{dite}
use mathlib.Core.Option.{some, none, some-injective}
use native.Mathlib.Decide.{ℕ_discrete}
use lib.ListN.{get_elem?}
use Rattle.atomic_table.specs.Table.{State}
use Rattle.pool_gate.specs.declared.view.SeatView.{SeatView}
use Rattle.pool_gate.specs.Views.{down_from}
use Rattle.pool_gate.specs.Rule.{Sits, NobodyTurns, OneTurns, IsHome, RuleHolds}
use Rattle.pool_gate.specs.Between.{AtHome, InTurn, Between}
use Rattle.pool_gate.proofs.Lists.{down_low, contains_none}

down_high : (n k d : ℕ) → k < length (down_from n) → 1 ≤ get_or (down_from n) k d
down_high zero k d h = absurd (omega arith)
down_high (suc n) zero d h = omega arith
down_high (suc n) (suc k) d h = down_high n k d (omega arith)

down_range : (n m : ℕ) → Contains (down_from n) m → (1 ≤ m) × (m ≤ n)
down_range n m c = (let h = down_high n c.0 m c.1 in omega (arith, c.2), let h = down_low n c.0 m c.1 in omega (arith, c.2))

down_apart : (n : ℕ) → AllPairs (λ (m k : ℕ). m ≢ k) (down_from n)
down_apart zero = λ i j d lt within. absurd (omega arith)
down_apart (suc n) = AllPairs-cons (λ (m k : ℕ). m ≢ k) (suc n) (down_from n) (λ k d low e. let h = down_low n k d low in omega (arith, e)) (down_apart n)

none_apart : AllPairs (λ (m k : ℕ). m ≢ k) []
none_apart = λ i j d lt within. absurd (omega arith)

module _ {V A : Type 0} (about : V → A) (count : V → ℕ) where
  abbrev St : Type 0
  St = State (Option V) (SeatView A)

  module _ (s : St) (r : Between about count s) where
    opened_at : (i : ℕ) (v : SeatView A) → Sits r.topic s.views i v → i ≡ 0 → r.opened ≡ v
    opened_at i v sits e = some-injective _ _ (sym r.opened_is.0 ∙ (ap (get_elem? s.views) (sym e) ∙ sits.0))

    -- a seat is the opened one, with number 0 and the spare numbers, or has a number above these and none that is spare
    rank : (i : ℕ) (v : SeatView A) → Sits r.topic s.views i v → ((i ≡ 0) × (v.number ≡ 0) × (v.spare ≡ down_from r.spares)) ⊎ ((r.spares < v.number) × (v.spare ≡ []))
    rank i v sits = dite (ℕ_discrete i 0)
        (λ (e : i ≡ 0). let is = opened_at i v sits e in inl (e, ap (λ (x : SeatView A). x.number) (sym is) ∙ r.opened_number, ap (λ (x : SeatView A). x.spare) (sym is) ∙ r.opened_spare))
        (λ (ne : i ≢ 0). inr (r.others_are_new i v sits ne, (r.others_have_none i v sits ne).0))

    spares_apart : (i : ℕ) (v : SeatView A) → Sits r.topic s.views i v → AllPairs (λ (m k : ℕ). m ≢ k) v.spare
    spares_apart i v sits = ⊎_elim (λ h. subst (AllPairs (λ (m k : ℕ). m ≢ k)) (sym h.2) (down_apart r.spares)) (λ h. subst (AllPairs (λ (m k : ℕ). m ≢ k)) (sym h.1) none_apart) (rank i v sits)

    -- who has a spare number
    owner : (i : ℕ) (v : SeatView A) (n : ℕ) → Sits r.topic s.views i v → Contains v.spare n → (i ≡ 0) × (1 ≤ n) × (n ≤ r.spares)
    owner i v n sits c = ⊎_elim (λ h. let d = down_range r.spares n (subst (λ (l : List ℕ). Contains l n) h.2 c) in (h.0, d.0, d.1)) (λ h. absurd (contains_none n (subst (λ (l : List ℕ). Contains l n) h.1 c))) (rank i v sits)

    taken_apart : (i j : ℕ) (v w : SeatView A) → Sits r.topic s.views i v → Sits r.topic s.views j w → Contains v.spare w.number → ⊥
    taken_apart i j v w sits sits' c = let o = owner i v w.number sits c in let low = o.1 in let high = o.2 in
        ⊎_elim (λ h. let e = h.1 in omega arith) (λ h. let e = h.0 in omega arith) (rank j w sits')

    abbrev word : ℕ
    word = slice_index s.words 0

    at_home : AtHome about count r.topic r.half s → (word % 2 ≡ 0) × (word / 2 ≡ r.half)
    at_home h = let e : word ≡ 2 * r.half = ap (λ (l : List ℕ). slice_index l 0) h.word_is in (omega arith, omega arith)

    in_turn : InTurn about count r.topic r.half s → (word % 2 ≡ 1) × (word / 2 ≡ r.half)
    in_turn t = let e : word ≡ 2 * r.half + 1 = ap (λ (l : List ℕ). slice_index l 0) t.word_is in (omega arith, omega arith)

    seen_just : (i : ℕ) (v : SeatView A) → Sits r.topic s.views i v → v.in_turn ≡ true → AtHome about count r.topic r.half s ⊎ InTurn about count r.topic r.half s → v.seen ≡ word / 2
    seen_just i v sits turn (inl h) = absurd (true≢false (sym turn ∙ h.nobody i v sits))
    seen_just i v sits turn (inr t) =
        let here = t.nobody_else i v sits turn in
        let same : t.view ≡ v = some-injective _ _ (sym t.holder_is.0 ∙ (ap (get_elem? s.views) (sym here) ∙ sits.0)) in
        sym (ap (λ (x : SeatView A). x.seen) same) ∙ (t.seen_is ∙ sym (in_turn t).1)

    half_is : AtHome about count r.topic r.half s ⊎ InTurn about count r.topic r.half s → word / 2 ≡ r.half
    half_is (inl h) = (at_home h).1
    half_is (inr t) = (in_turn t).1

    turns : AtHome about count r.topic r.half s ⊎ InTurn about count r.topic r.half s → ((word % 2 ≡ 0) × NobodyTurns r.topic s.views) ⊎ ((word % 2 ≡ 1) × OneTurns r.topic s.views)
    turns (inl h) = inl ((at_home h).0, h.nobody)
    turns (inr t) = inr ((in_turn t).0, record { holder = t.holder; view = t.view; sits = t.holder_is; turns = t.has_turn; alone = t.nobody_else })

    home : AtHome about count r.topic r.half s ⊎ InTurn about count r.topic r.half s → word % 2 ≡ 0 → IsHome about count r.topic (word / 2) s
    home (inl h) even = record { value = h.value; slot_is = h.slot_is; count_is = h.count_is ∙ sym (at_home h).1; about_is = h.about_is }
    home (inr t) even = let odd = (in_turn t).0 in absurd (omega (arith, even, odd))

    slot_lent : AtHome about count r.topic r.half s ⊎ InTurn about count r.topic r.half s → word % 2 ≡ 1 → s.homes ≡ none ∷ []
    slot_lent (inl h) odd = let even = (at_home h).0 in absurd (omega (arith, even, odd))
    slot_lent (inr t) odd = t.slot_is

    -- the slot is lent while a seat is in a turn
    lent_at : (i : ℕ) (v : SeatView A) → Sits r.topic s.views i v → v.in_turn ≡ true → AtHome about count r.topic r.half s ⊎ InTurn about count r.topic r.half s → s.homes ≡ none ∷ []
    lent_at i v sits turn (inl h) = absurd (true≢false (sym turn ∙ h.nobody i v sits))
    lent_at i v sits turn (inr t) = t.slot_is

    -- two seats in a turn are one
    alone_at : (i j : ℕ) (v w : SeatView A) → Sits r.topic s.views i v → Sits r.topic s.views j w → v.in_turn ≡ true → w.in_turn ≡ true → AtHome about count r.topic r.half s ⊎ InTurn about count r.topic r.half s → i ≡ j
    alone_at i j v w sits sits' turn turn' (inl h) = absurd (true≢false (sym turn ∙ h.nobody i v sits))
    alone_at i j v w sits sits' turn turn' (inr t) = t.nobody_else i v sits turn ∙ sym (t.nobody_else j w sits' turn')

    pub turn_has_slot : (i : ℕ) (v : SeatView A) → Sits r.topic s.views i v → v.in_turn ≡ true → s.homes ≡ none ∷ []
    turn_has_slot i v sits turn = lent_at i v sits turn r.stage

    pub turns_are_one : (i j : ℕ) (v w : SeatView A) → Sits r.topic s.views i v → Sits r.topic s.views j w → v.in_turn ≡ true → w.in_turn ≡ true → i ≡ j
    turns_are_one i j v w sits sits' turn turn' = alone_at i j v w sits sits' turn turn' r.stage

    pub gives_rule : RuleHolds about count s
    gives_rule = record {
      topic = r.topic;
      opened = r.opened;
      opened_is = (r.opened_is, r.opened_number);
      numbers_differ = record {
        of_seats = r.numbers_differ;
        of_spares = spares_apart;
        of_both = taken_apart;
        of_owners = λ i j v w n sits sits' c c'. (owner i v n sits c).0 ∙ sym (owner j w n sits' c').0;
      };
      others_are_away = λ i v sits. dite (ℕ_discrete i 0) (λ (e : i ≡ 0). inl e) (λ (ne : i ≢ 0). inr (subst (λ (l : List ℕ). Contains l v.number) (sym r.opened_away) (r.others_are_away i v sits ne)));
      one_turn = turns r.stage;
      seen_is_old = λ i v sits. (let old = r.seen_is_old i v sits in let e = half_is r.stage in omega (arith, old, e), λ turn. seen_just i v sits turn r.stage);
      one_topic = r.one_topic;
      value_is_home = home r.stage;
      slot_is_lent = slot_lent r.stage;
    }

  module _ (s : St) (rule : RuleHolds about count s) (i : ℕ) (v : SeatView A) (sits : Sits rule.topic s.views i v) where
    pub finds_value : slice_index s.words 0 % 2 ≡ 0
        → (value : V) × (s.homes ≡ some (Some value) ∷ []) × (slice_index s.words 0 ≡ 2 * count value) × (v.seen ≤ count value) × (v.about ≡ Some (about value))
    finds_value even =
        let h = rule.value_is_home even in
        let counted : count h.value ≡ slice_index s.words 0 / 2 = h.count_is in
        let old : v.seen ≤ slice_index s.words 0 / 2 = (rule.seen_is_old i v sits).0 in
        (h.value, h.slot_is, omega (arith, counted, even), omega (arith, counted, old), sits.1 ∙ ap Some (sym h.about_is))

    -- the one in a turn would be another, whose number is away
    alone_is_free : v.number ≡ 0 → v.away ≡ [] → v.in_turn ≡ false → OneTurns rule.topic s.views → ⊥
    alone_is_free zero_th nobody out t =
        let first : i ≡ 0 = rule.numbers_differ.of_seats i 0 v rule.opened sits rule.opened_is.0 (zero_th ∙ sym rule.opened_is.1) in
        let same : rule.opened ≡ v = some-injective _ _ (sym rule.opened_is.0.0 ∙ (ap (get_elem? s.views) (sym first) ∙ sits.0)) in
        ⊎_elim
        (λ (e : t.holder ≡ 0). let is : t.view ≡ v = some-injective _ _ (sym t.sits.0 ∙ (ap (get_elem? s.views) (e ∙ sym first) ∙ sits.0)) in
        true≢false (sym t.turns ∙ (ap (λ (x : SeatView A). x.in_turn) is ∙ out)))
        (λ (c : Contains rule.opened.away t.view.number). contains_none t.view.number (subst (λ (l : List ℕ). Contains l t.view.number) (ap (λ (x : SeatView A). x.away) same ∙ nobody) c))
        (rule.others_are_away t.holder t.view t.sits)

    pub finds_even : v.number ≡ 0 → v.away ≡ [] → v.in_turn ≡ false → slice_index s.words 0 % 2 ≡ 0
    finds_even zero_th nobody out = ⊎_elim (λ h. h.0) (λ h. absurd (alone_is_free zero_th nobody out h.1)) rule.one_turn
