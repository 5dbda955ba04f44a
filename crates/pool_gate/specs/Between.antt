-- The gate's rule in the form that each step is proved to keep. It says more than the rule, to which `laws::the_rule_holds` leads.
use Rattle.std.specs.Prelude.{◌≡◌, ◌≢◌, ℕ, ◌+◌, ◌*◌, ◌<◌, ◌≤◌, ◌⊎◌, true, false, List, [], ◌∷◌, Option, Some, Contains}
use mathlib.Core.Option.{some, none}
use lib.ListN.{get_elem?}
use Rattle.atomic_table.specs.Table.{State}
use Rattle.pool_gate.specs.declared.view.SeatView.{SeatView}
use Rattle.pool_gate.specs.Views.{down_from, spent}
use Rattle.pool_gate.specs.Rule.{Sits}

module _ {V A : Type 0} (about : V → A) (count : V → ℕ) where
  -- the word is twice the count of the value at home, and no seat is in a turn
  pub record AtHome (topic : A) (half : ℕ) (s : State (Option V) (SeatView A)) : Type 0 where
    pub value : V
    pub word_is : s.words ≡ (2 * half) ∷ []
    pub slot_is : s.homes ≡ some (Some value) ∷ []
    pub count_is : count value ≡ half
    pub about_is : about value ≡ topic
    pub nobody : (i : ℕ) (v : SeatView A) → Sits topic s.views i v → v.in_turn ≡ false

  -- the word is odd, the slot is lent, and one seat is in a turn
  pub record InTurn (topic : A) (half : ℕ) (s : State (Option V) (SeatView A)) : Type 0 where
    pub holder : ℕ
    pub view : SeatView A
    pub word_is : s.words ≡ (2 * half + 1) ∷ []
    pub slot_is : s.homes ≡ none ∷ []
    pub holder_is : Sits topic s.views holder view
    pub has_turn : view.in_turn ≡ true
    pub seen_is : view.seen ≡ half
    pub nobody_else : (i : ℕ) (v : SeatView A) → Sits topic s.views i v → v.in_turn ≡ true → i ≡ holder

  -- between any two steps: the seats' numbers, topics and counts fit together, and the value is at home or with exactly one seat
  pub record Between (s : State (Option V) (SeatView A)) : Type 0 where
    -- what the value is about, and half of the word, rounded down
    pub topic : A
    pub half : ℕ
    -- the seat that was opened, how many spare numbers it has, and its numbers that are away
    pub spares : ℕ
    pub away : List ℕ
    pub opened : SeatView A
    pub opened_is : Sits topic s.views 0 opened
    pub opened_number : opened.number ≡ 0
    pub opened_spare : opened.spare ≡ down_from spares
    pub opened_away : opened.away ≡ away
    -- every other seat's number was given out and is away, and it has no numbers of its own
    pub others_are_away : (i : ℕ) (v : SeatView A) → Sits topic s.views i v → i ≢ 0 → Contains away v.number
    pub others_are_new : (i : ℕ) (v : SeatView A) → Sits topic s.views i v → i ≢ 0 → spares < v.number
    pub others_have_none : (i : ℕ) (v : SeatView A) → Sits topic s.views i v → i ≢ 0 → (v.spare ≡ []) × (v.away ≡ [])
    pub numbers_differ : (i j : ℕ) (v w : SeatView A) → Sits topic s.views i v → Sits topic s.views j w → v.number ≡ w.number → i ≡ j
    -- a view that doesn't know the topic is spent
    pub one_topic : (i : ℕ) (v : SeatView A) → get_elem? s.views i ≡ some v → (v.about ≡ Some topic) ⊎ (v ≡ spent)
    pub seen_is_old : (i : ℕ) (v : SeatView A) → Sits topic s.views i v → v.seen ≤ half
    pub stage : AtHome topic half s ⊎ InTurn topic half s
