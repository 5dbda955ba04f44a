-- The seats of a team.
use Rattle.std.proofs.Common.{◌≡◌, ◌≢◌, ℕ, zero, suc, ◌-◌, ◌<◌, ◌≤◌, Bool, false, not, cond, List, [], ◌∷◌, length, Some, refl, sym, ap, subst, ◌∙◌, ne_eqb, eq-eqb, arith}
use Rattle.std.specs.Prelude.{All}
use Rattle.rows.specs.Parts.{ProblemParts}
use Rattle.pool_gate.specs.declared.view.SeatView.{SeatView}
use Rattle.pool_gate.specs.Views.{down_from, first_of_numbers, numbers_after, without, opened_view, parted, fresh, joined}
use Rattle.node_pool.specs.Parts.{PoolParts}
use Rattle.node_pool.specs.Topic.{TopicParts, topic_of}
use Rattle.worker_team.specs.Inner.Seats.{IsSeatFor, IsFirstSeat, IsBack}

same_topic : (a b : TopicParts) → Some a ≡ Some b → a ≡ b
same_topic a b e = cc

-- a seat that came back is a worker's still
pub still_seat : (problem : ProblemParts) (old new : SeatView TopicParts) → IsSeatFor problem old → IsBack old new → IsSeatFor problem new
still_seat problem old new seat back = record {
  topic = seat.topic;
  about = back.about ∙ seat.about;
  problem_is = seat.problem_is;
  worker = subst (λ (n : ℕ). n < seat.topic.workers) (sym back.number) seat.worker;
  free = back.free;
}

pub back_twice : (old mid new : SeatView TopicParts) → IsBack old mid → IsBack mid new → IsBack old new
back_twice old mid new first next = record {
  number = next.number ∙ first.number;
  spare = next.spare ∙ first.spare;
  away = next.away ∙ first.away;
  about = next.about ∙ first.about;
  free = next.free;
}

pub back_at_once : (view : SeatView TopicParts) → view.in_turn ≡ false → IsBack view view
back_at_once view free = record { number = refl; spare = refl; away = refl; about = refl; free = free }

least_first : (k n w : ℕ) → n ≡ 0 → k < w → n < w
least_first k n w e f = omega (arith, e, f)

-- the first seat is a worker's
pub first_works : (problem : ProblemParts) (left : ℕ) (view : SeatView TopicParts) → IsFirstSeat problem left view → IsSeatFor problem view
first_works problem left view first = record {
  topic = first.topic;
  about = first.about;
  problem_is = first.problem_is;
  worker = least_first left view.number first.topic.workers first.number first.few;
  free = first.free;
}

behind : (k x : ℕ) (xs : List ℕ) → x ≡ suc k → All (λ n. suc k < n) xs → All (λ n. k < n) (x ∷ xs)
behind k x xs is all zero d short = omega (arith, is)
behind k x xs is all (suc i) d short = let h = all i d (omega (arith, short)) in omega (arith, h)

one_less : (k : ℕ) → suc k - 1 ≡ k
one_less k = omega arith

-- the first seat, of which the greatest number is given out
module _ (problem : ProblemParts) (view : SeatView TopicParts) where
  cut_to : (k : ℕ) → IsFirstSeat problem (suc k) view → IsFirstSeat problem k (parted view)
  cut_to k first = record {
    topic = first.topic;
    about = first.about;
    problem_is = first.problem_is;
    few = let h = first.few in omega (arith, h);
    number = first.number;
    spare = ap numbers_after first.spare;
    away = behind k (first_of_numbers view.spare) view.away (ap first_of_numbers first.spare) first.away;
    free = first.free;
  }

  pub cut_first : (left : ℕ) → left ≢ 0 → IsFirstSeat problem left view → IsFirstSeat problem (left - 1) (parted view)
  cut_first zero some first = absurd (some refl)
  cut_first (suc k) some first = subst (λ (n : ℕ). IsFirstSeat problem n (parted view)) (sym (one_less k)) (cut_to k first)

  pub fresh_works : (left : ℕ) → left ≢ 0 → IsFirstSeat problem left view → IsSeatFor problem (fresh view)
  fresh_works zero some first = absurd (some refl)
  fresh_works (suc k) some first = record {
    topic = first.topic;
    about = first.about;
    problem_is = first.problem_is;
    worker = subst (λ (n : ℕ). n < first.topic.workers) (sym (ap first_of_numbers first.spare)) first.few;
    free = refl;
  }

above_apart : (n x : ℕ) → n < x → x ≢ n
above_apart n x low e = omega (arith, low, e)

-- no number of the list is n
pub without_gone : (n : ℕ) (xs : List ℕ) → All (λ m. n < m) xs → without n xs ≡ xs
without_gone n [] all = refl
without_gone n (x ∷ xs) all =
    let apart : x ≢ n = above_apart n x (all 0 0 (omega arith)) in
    let rest : without n xs ≡ xs = without_gone n xs (λ i d short. all (suc i) d (omega (arith, short))) in
    subst (λ (b : Bool). cond (not b) (x ∷ without n xs) (without n xs) ≡ x ∷ xs) (sym (ne_eqb x n apart)) (ap (λ l. x ∷ l) rest)

-- a number that was given out and came back leaves those that are away as they were
pub rejoined : (n : ℕ) (xs : List ℕ) → All (λ m. n < m) xs → without n (n ∷ xs) ≡ xs
rejoined n xs all = subst (λ (b : Bool). cond (not b) (n ∷ without n xs) (without n xs) ≡ xs) (sym (eq-eqb n n refl)) (without_gone n xs all)

first_is : (k : ℕ) (spare : List ℕ) → k ≢ 0 → spare ≡ down_from k → first_of_numbers spare ≡ k
first_is zero spare some is = absurd (some refl)
first_is (suc k) spare some is = ap first_of_numbers is

-- the first seat, after a seat was split off it, both worked, and that one was joined back
module _ (problem : ProblemParts) (left : ℕ) (view cut other ours theirs after : SeatView TopicParts) (some : left ≢ 0) (first : IsFirstSeat problem left view)
    (cut_is : cut ≡ parted view) (other_is : other ≡ fresh view) (away : ours.away ≡ cut.away) (number : theirs.number ≡ other.number) where
  its_number : theirs.number ≡ left
  its_number = number ∙ (ap (λ v. v.number) other_is ∙ first_is left view.spare some first.spare)

  away_is : ours.away ≡ left ∷ view.away
  away_is = away ∙ (ap (λ v. v.away) cut_is ∙ ap (λ (n : ℕ). n ∷ view.away) (first_is left view.spare some first.spare))

  pub all_back : after ≡ joined ours theirs → after.away ≡ view.away
  all_back after_is = ap (λ v. v.away) after_is ∙ ((λ i. without (its_number i) (away_is i)) ∙ rejoined left view.away first.away)

-- the seat that comes with a gate is a team's first one
pub opened_first : (problem : ProblemParts) (pool : PoolParts) (workers : ℕ) (view : SeatView TopicParts) → view ≡ opened_view (topic_of pool) (length pool.history) workers
    → pool.problem ≡ problem → pool.workers ≡ workers → 1 ≤ workers → IsFirstSeat problem (workers - 1) view
opened_first problem pool workers view is its_problem its_workers some = subst (IsFirstSeat problem (workers - 1)) (sym is) (record {
  topic = topic_of pool;
  about = refl;
  problem_is = its_problem;
  few = below pool.workers its_workers;
  number = refl;
  spare = refl;
  away = none;
  free = refl;
}) where
  below : (n : ℕ) → n ≡ workers → workers - 1 < n
  below n e = omega (arith, e, some)

  none : All (λ n. workers - 1 < n) []
  none i d short = absurd (omega (arith, short))

-- the pool that comes out of a gate is about what the one was that went in
pub same_out : (pool after : PoolParts) (workers : ℕ) (first last : SeatView TopicParts) → first ≡ opened_view (topic_of pool) (length pool.history) workers → last.about ≡ first.about
    → last.about ≡ Some (topic_of after) → topic_of after ≡ topic_of pool
same_out pool after workers first last is kept told = same_topic (topic_of after) (topic_of pool) (sym told ∙ (kept ∙ ap (λ v. v.about) is))
