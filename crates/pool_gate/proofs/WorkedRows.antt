-- Worked rows: the limits, states that meet the gate's rule, and states that break it. A value is its own count, and about 7.
use Rattle.std.proofs.Common.{◌≡◌, ℕ, ◌^◌, ◌≤◌, zero, suc, ⊎_elim, true, [], ◌∷◌, sym, refl, ap, ◌∙◌, arith, Option, Some, None}
use Rattle.std.proofs.lemmas.Bool.{true≢false}
use mathlib.Core.Option.{some, none, some-injective, some-ne-none}
use lib.ListN.{get_elem?}
use Rattle.atomic_table.specs.Table.{State, opening}
use Rattle.pool_gate.specs.declared.gate.TheConstants.{SEATS}
use Rattle.pool_gate.specs.declared.held.TheConstants.{COUNTS}
use Rattle.pool_gate.specs.declared.view.SeatView.{SeatView}
use Rattle.pool_gate.specs.Views.{opened_view}
use Rattle.pool_gate.specs.Rule.{RuleHolds}
use Rattle.pool_gate.proofs.Steps.{starts}
use Rattle.pool_gate.proofs.RuleLaws.{gives_rule}

limits : (SEATS ≡ 64) × (COUNTS ≡ 2 ^ 62)
limits = (refl, refl)

abbrev about : ℕ → ℕ
about value = 7

abbrev count : ℕ → ℕ
count value = value

abbrev Rule : State (Option ℕ) (SeatView ℕ) → Type 0
Rule = RuleHolds about count

-- a gate that opens for three seats over a value of count 1
opens : Rule (opening (2 ∷ []) (Some 1 ∷ []) (opened_view 7 1 3))
opens = gives_rule about count _ (starts about count 1 3)

-- the word is odd and nobody is in a turn
nobody_turns : Rule record { words = 3 ∷ []; homes = none ∷ []; views = opened_view 7 1 3 ∷ [] } → ⊥
nobody_turns r = ⊎_elim (λ h. let even = h.0 in absurd (cc)) (λ h. turns h.1.holder h.1.view h.1.sits.0 h.1.turns) r.one_turn
  where
    turns : (i : ℕ) (v : SeatView ℕ) → get_elem? (opened_view 7 1 3 ∷ []) i ≡ some v → v.in_turn ≡ true → ⊥
    turns zero v at on = true≢false (sym on ∙ ap (λ (x : SeatView ℕ). x.in_turn) (sym (some-injective _ _ at)))
    turns (suc i) v at on = some-ne-none v (sym at)

-- a seat has seen a count that isn't there yet
too_new : Rule (opening (2 ∷ []) (Some 1 ∷ []) (opened_view 7 2 3)) → ⊥
too_new r =
    let is : opened_view 7 2 3 ≡ r.opened = some-injective _ _ r.opened_is.0.0 in
    let seen : 2 ≡ r.opened.seen = ap (λ (x : SeatView ℕ). x.seen) is in
    let old : r.opened.seen ≤ 1 = (r.seen_is_old 0 r.opened r.opened_is.0).0 in
    omega (arith, seen, old)

-- the value at home is another than the word says
another_count : Rule (opening (2 ∷ []) (Some 4 ∷ []) (opened_view 7 1 3)) → ⊥
another_count r =
    let home = r.value_is_home refl in
    let slot = home.slot_is in
    let same : 4 ≡ home.value = cc in
    let counted : home.value ≡ 1 = home.count_is in
    omega (arith, same, counted)

-- a view that knows of nothing, and isn't the spent one
unspent : Rule record { words = 2 ∷ []; homes = some (Some 1) ∷ []; views = opened_view 7 1 3 ∷ record { number = 2; about = None; seen = 0; spare = []; away = []; found = []; in_turn = true } ∷ [] } → ⊥
unspent r = ⊎_elim (λ e. none_some r.topic e) (λ e. true≢false (ap (λ (x : SeatView ℕ). x.in_turn) e)) (r.one_topic 1 _ refl)
  where
    none_some : (n : ℕ) → ◌≡◌ {A = Option ℕ} None (Some n) → ⊥
    none_some n e = cc
