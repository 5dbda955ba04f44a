-- The gate's rule: what holds between any two steps, whichever seats make them and in whatever order.
use Rattle.std.specs.Prelude.{◌≡◌, ◌≢◌, ℕ, ◌/◌, ◌%◌, ◌≤◌, ◌⊎◌, true, false, List, [], ◌∷◌, Option, Some, Contains, slice_index}
use Rattle.std.specs.List.{AllPairs}
use mathlib.Core.Option.{some, none}
use lib.ListN.{get_elem?}
use Rattle.atomic_table.specs.Table.{State}
use Rattle.pool_gate.specs.declared.view.SeatView.{SeatView}
use Rattle.pool_gate.specs.Views.{spent}

-- seat i has the view v, and wasn't joined into another
abbrev pub Sits : {A : Type 0} → A → List (SeatView A) → ℕ → SeatView A → Type 0
Sits topic views i v = (get_elem? views i ≡ some v) × (v.about ≡ Some topic)

-- the numbers of seats and the spare numbers all differ
pub record NumbersDiffer {A : Type 0} (topic : A) (views : List (SeatView A)) : Type 0 where
  pub of_seats : (i j : ℕ) (v w : SeatView A) → Sits topic views i v → Sits topic views j w → v.number ≡ w.number → i ≡ j
  pub of_spares : (i : ℕ) (v : SeatView A) → Sits topic views i v → AllPairs (λ m n. m ≢ n) v.spare
  pub of_both : (i j : ℕ) (v w : SeatView A) → Sits topic views i v → Sits topic views j w → Contains v.spare w.number → ⊥
  pub of_owners : (i j : ℕ) (v w : SeatView A) (n : ℕ) → Sits topic views i v → Sits topic views j w → Contains v.spare n → Contains w.spare n → i ≡ j

-- no seat is in a turn
abbrev pub NobodyTurns : {A : Type 0} → A → List (SeatView A) → Type 0
NobodyTurns {A} topic views = (i : ℕ) (v : SeatView A) → Sits topic views i v → v.in_turn ≡ false

-- exactly one seat is in a turn
pub record OneTurns {A : Type 0} (topic : A) (views : List (SeatView A)) : Type 0 where
  pub holder : ℕ
  pub view : SeatView A
  pub sits : Sits topic views holder view
  pub turns : view.in_turn ≡ true
  pub alone : (i : ℕ) (v : SeatView A) → Sits topic views i v → v.in_turn ≡ true → i ≡ holder

module _ {V A : Type 0} (about : V → A) (count : V → ℕ) where
  -- the value at home, about a topic and of a count
  pub record IsHome (topic : A) (n : ℕ) (s : State (Option V) (SeatView A)) : Type 0 where
    pub value : V
    pub slot_is : s.homes ≡ some (Some value) ∷ []
    pub count_is : count value ≡ n
    pub about_is : about value ≡ topic

  -- the rule, of the one word, the one slot and the views of all seats: first which topic the seats know, and the view of the seat that was opened
  pub record RuleHolds (s : State (Option V) (SeatView A)) : Type 0 where
    pub topic : A
    pub opened : SeatView A
    pub opened_is : Sits topic s.views 0 opened × (opened.number ≡ 0)
    -- the numbers of seats and the spare numbers all differ
    pub numbers_differ : NumbersDiffer topic s.views
    -- each seat is the opened one, or its number is away from that
    pub others_are_away : (i : ℕ) (v : SeatView A) → Sits topic s.views i v → (i ≡ 0) ⊎ Contains opened.away v.number
    -- the word is even and no seat is in a turn, or it is odd and exactly one is
    pub one_turn : ((slice_index s.words 0 % 2 ≡ 0) × NobodyTurns topic s.views) ⊎ ((slice_index s.words 0 % 2 ≡ 1) × OneTurns topic s.views)
    -- each seat has seen at most half of the word, rounded down, and the one in a turn has seen just that
    pub seen_is_old : (i : ℕ) (v : SeatView A) → Sits topic s.views i v → (v.seen ≤ slice_index s.words 0 / 2) × (v.in_turn ≡ true → v.seen ≡ slice_index s.words 0 / 2)
    -- all seats know the topic: another view is the spent one, of a seat that was joined into another
    pub one_topic : (i : ℕ) (v : SeatView A) → get_elem? s.views i ≡ some v → (v.about ≡ Some topic) ⊎ (v ≡ spent)
    -- where the word is even the value is at home, of half of the word, and about the topic
    pub value_is_home : slice_index s.words 0 % 2 ≡ 0 → IsHome topic (slice_index s.words 0 / 2) s
    -- where it is odd the slot is lent to the seat in a turn
    pub slot_is_lent : slice_index s.words 0 % 2 ≡ 1 → s.homes ≡ none ∷ []
