-- For the code's own contracts: the seats of a team.
use Rattle.std.specs.Prelude.{◌≡◌, ℕ, ◌<◌, false, Some}
use Rattle.std.specs.List.{All}
use Rattle.rows.specs.Parts.{ProblemParts}
use Rattle.pool_gate.specs.declared.view.SeatView.{SeatView}
use Rattle.pool_gate.specs.Views.{down_from}
use Rattle.node_pool.specs.Topic.{TopicParts}

-- a worker's seat at the gate of a pool for a problem: it is in no turn, and its number is one of the team's workers
pub record IsSeatFor (problem : ProblemParts) (view : SeatView TopicParts) : Type 0 where
  pub topic : TopicParts
  pub about : view.about ≡ Some topic
  pub problem_is : topic.problem ≡ problem
  pub worker : view.number < topic.workers
  pub free : view.in_turn ≡ false

-- the first seat of a team, with the numbers up to `left` to give out
pub record IsFirstSeat (problem : ProblemParts) (left : ℕ) (view : SeatView TopicParts) : Type 0 where
  pub topic : TopicParts
  pub about : view.about ≡ Some topic
  pub problem_is : topic.problem ≡ problem
  pub few : left < topic.workers
  pub number : view.number ≡ 0
  pub spare : view.spare ≡ down_from left
  pub away : All (λ n. left < n) view.away
  pub free : view.in_turn ≡ false

-- a seat after work: all but what it has seen and found is as before, and it is in no turn
pub record IsBack (old new : SeatView TopicParts) : Type 0 where
  pub number : new.number ≡ old.number
  pub spare : new.spare ≡ old.spare
  pub away : new.away ≡ old.away
  pub about : new.about ≡ old.about
  pub free : new.in_turn ≡ false
