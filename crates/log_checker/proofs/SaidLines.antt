-- A line that breaks no rule on its own says something.
use Rattle.std.proofs.Common.{◌≡◌, ℕ, ◌+◌, ◌^◌, ◌≤◌, ◌<◌, List, [], ◌∷◌, length, map, refl, sym, ap, subst, ◌∙◌, arith}
use Rattle.std.specs.List.{AllByRecursion}
use Rattle.std.specs.List.Sorted.{IsStrictlyIncreasing}
use Rattle.std.proofs.lemmas.List.{length-map}
use Rattle.std.proofs.lemmas.List.Elements.{All-from_recursion}
use Rattle.arch_model.specs.Set.{Set, empty, put, members_below}
use Rattle.arch_model.specs.declared.limits.TheConstants.{COMPONENTS, MEMBERS}
use Rattle.rows.specs.declared.known.RowRef.{RowRef}
use Rattle.rows.specs.declared.known.RowRef.TheVariants as refs
use Rattle.rows.specs.declared.known.Pair.{Pair}
use Rattle.rows.specs.Reason.{IsReason}
use Rattle.redundancy_cut.specs.declared.cut.Cut.TheVariants as cuts
use Rattle.search_core.specs.declared.entry.Entry.TheVariants as entries
use Rattle.search_core.specs.declared.answer.Answer.TheVariants as answers
use Rattle.proof_log.specs.declared.log_line.TheConstants.{LINE_BYTES}
use Rattle.proof_log.specs.declared.log_line.LogLine.{LogLine}
use Rattle.proof_log.specs.declared.log_line.LogLine.TheVariants as lines
use Rattle.proof_log.specs.Field.{RowName, base_row, cut_row, cost_row, RowNumber}
use Rattle.proof_log.specs.Line.{Line, version, vars, limits, takes, branches, prunes, offers, studies, redundancy, no_good, accepts, parks, reopens, optimal, infeasible, node_limit}
use Rattle.proof_log.specs.Fault.{IsInRange, ListsAscend, BreaksNone}
use Rattle.proof_log.specs.Value.{row_name, named_pair, log_line, text_of, IsSmall, HasSmallSets}
use Rattle.proof_log.specs.Inner.Reading.{set_of}
use Rattle.proof_log.proofs.Ascending.{from_increasing, members_read}
use Rattle.proof_log.proofs.SmallSets.{empty_small, put_small}
use Rattle.log_checker.specs.Feeding.{SaysLine}

-- ---- rows and pairs

named : RowName ℕ → RowRef
named (base_row n) = refs.Base n
named (cut_row n) = refs.Cut n
named cost_row = refs.Cost

name_again : (r : RowName ℕ) → row_name (named r) ≡ r
unfolding named
name_again (base_row n) = refl
name_again (cut_row n) = refl
name_again cost_row = refl

names_again : (rs : List (RowName ℕ)) → map row_name (map named rs) ≡ rs
names_again [] = refl
names_again (r ∷ rs) = λ i. name_again r i ∷ names_again rs i

paired : RowName ℕ × ℕ → Pair
paired p = record { row = named p.0; times = p.1 }

pairs_again : (ps : List (RowName ℕ × ℕ)) → map named_pair (map paired ps) ≡ ps
unfolding paired
pairs_again [] = refl
pairs_again (p ∷ ps) = λ i. (name_again p.0 i, p.1) ∷ pairs_again ps i

-- ---- sets

below : (limit : ℕ) (ns : List ℕ) → AllByRecursion (λ m. (0 ≤ m) × (m < limit)) ns → AllByRecursion (λ m. m < limit) ns
below limit [] range = tt
below limit (n ∷ ns) range = (range.0.1, below limit ns range.1)

members_again : (ns : List ℕ) (limit n : ℕ) → IsStrictlyIncreasing ns → AllByRecursion (λ m. (0 ≤ m) × (m < limit)) ns → limit ≤ n → members_below (set_of empty ns) n ≡ ns
members_again ns limit n up range le = members_read ns limit n (from_increasing 0 ns up (λ k some. omega arith)) (below limit ns range) le

small_set_of : (n limit : ℕ) (ns : List ℕ) (s : Set) → limit ≤ n → AllByRecursion (λ m. (0 ≤ m) × (m < limit)) ns → IsSmall n s → IsSmall n (set_of s ns)
small_set_of n limit [] s le range small = small
small_set_of n limit (k ∷ ns) s le range small = let h : k < n = omega (arith, range.0.1) in small_set_of n limit ns (put s k) le range.1 (put_small n s (put s k) k refl h small)

-- ---- lines

-- a line says something
record IsSaid (line : Line ℕ) : Type 0 where
  pub said : LogLine
  pub same : log_line said ≡ line
  pub small : HasSmallSets said

is_said : (line : Line ℕ) → IsInRange line → ListsAscend line → IsSaid line
is_said version range up = record { said = lines.Version; same = refl; small = tt }
is_said (vars a b) range up = record { said = lines.Vars a b; same = refl; small = tt }
is_said (limits a) range up = record { said = lines.Limit a; same = refl; small = tt }
is_said (takes w n k u) range up = record { said = lines.Entry (entries.Take w n k u); same = refl; small = tt }
is_said (branches w n rs v) range up = record { said = lines.Entry (entries.Branch w n (map named rs) (record { 0 = v })); same = λ i. branches w n (names_again rs i) v; small = tt }
is_said (prunes w n rs ps) range up = record { said = lines.Entry (entries.Prune w n (map named rs) (map paired ps)); same = λ i. prunes w n (names_again rs i) (pairs_again ps i); small = tt }
is_said (offers w n rs) range up = record { said = lines.Entry (entries.Offer w n (map named rs)); same = λ i. offers w n (names_again rs i); small = tt }
is_said (studies w n) range up = record { said = lines.Entry (entries.Study w n); same = refl; small = tt }
is_said (redundancy w n q set far) range up =
    let s : members_below (set_of empty set) MEMBERS ≡ set = members_again set COMPONENTS MEMBERS up.1.1.1.1.1.0 range.1.1.1.1.1.0.0 (omega arith) in
    let f : members_below (set_of empty far) COMPONENTS ≡ far = members_again far COMPONENTS COMPONENTS up.1.1.1.1.1.1.0 range.1.1.1.1.1.1.0.0 (omega arith) in
    record {
      said = lines.Entry (entries.Publish w n (cuts.Redundancy q (set_of empty set) (set_of empty far)));
      same = λ i. redundancy w n q (s i) (f i);
      small = (
        small_set_of MEMBERS COMPONENTS set empty (omega arith) range.1.1.1.1.1.0.0 (empty_small MEMBERS empty refl),
        small_set_of COMPONENTS COMPONENTS far empty (omega arith) range.1.1.1.1.1.1.0.0 (empty_small COMPONENTS empty refl),
      );
    }
is_said (no_good w n q cone) range up =
    let s : members_below (set_of empty cone) COMPONENTS ≡ cone = members_again cone COMPONENTS COMPONENTS up.1.1.1.1.1.0 range.1.1.1.1.1.0.0 (omega arith) in
    record {
      said = lines.Entry (entries.Publish w n (cuts.NoGood q (set_of empty cone)));
      same = λ i. no_good w n q (s i);
      small = small_set_of COMPONENTS COMPONENTS cone empty (omega arith) range.1.1.1.1.1.0.0 (empty_small COMPONENTS empty refl);
    }
is_said (accepts w n c) range up = record { said = lines.Entry (entries.Accept w n c); same = refl; small = tt }
is_said (parks w n) range up = record { said = lines.Entry (entries.Park w n); same = refl; small = tt }
is_said (reopens a) range up = record { said = lines.Entry (entries.Reopen a); same = refl; small = tt }
is_said (optimal c b k) range up = record { said = lines.Closing (answers.Optimal c) b k; same = refl; small = tt }
is_said (infeasible b k) range up = record { said = lines.Closing answers.Infeasible b k; same = refl; small = tt }
is_said (node_limit o b k) range up = record { said = lines.Closing (answers.NodeLimit o) b k; same = refl; small = tt }

-- a line that breaks no rule on its own says something
pub says_something : (bytes : List ℕ) → BreaksNone bytes → (said : LogLine) × SaysLine bytes said
says_something bytes none =
    let line = none.1.0 in
    let its = is_said line none.1.1 none.1.2 in
    let text : bytes ≡ text_of (log_line its.said) = none.1.3 ∙ ap text_of (sym its.same) in
    let P : Line ℕ → Type 0 = IsInRange in
    let Q : List ℕ → Type 0 = λ l. length l ≤ LINE_BYTES in
    (its.said, record { readable = ((subst P (sym its.same) none.1.1, its.small), subst Q text none.0); text = text })

-- the reason that a line states has 1 to 64 pairs, each with a multiplier from 1 to 10^12
times_low : (pairs : List Pair) → AllByRecursion (λ (p : RowName ℕ × ℕ). RowNumber (λ low limit n. (low ≤ n) × (n < limit)) p.0 × ((1 ≤ p.1) × (p.1 < 10 ^ 12 + 1))) (map named_pair pairs) → AllByRecursion (λ p. 1 ≤ p.times) pairs
times_low [] range = tt
times_low (p ∷ pairs) range = (range.0.1.0, times_low pairs range.1)

times_high : (pairs : List Pair) → AllByRecursion (λ (p : RowName ℕ × ℕ). RowNumber (λ low limit n. (low ≤ n) × (n < limit)) p.0 × ((1 ≤ p.1) × (p.1 < 10 ^ 12 + 1))) (map named_pair pairs) → AllByRecursion (λ p. p.times ≤ 10 ^ 12) pairs
times_high [] range = tt
times_high (p ∷ pairs) range = (omega (arith, range.0.1.1), times_high pairs range.1)

pub reason_said : (worker node : ℕ) (trace : List RowRef) (pairs : List Pair) → IsInRange (log_line (lines.Entry (entries.Prune worker node trace pairs))) → IsReason pairs
reason_said worker node trace pairs range = record {
  some = omega (arith, range.1.1.1.1.0.1.0, length-map pairs named_pair);
  few = omega (arith, range.1.1.1.1.0.1.1, length-map pairs named_pair);
  positive = All-from_recursion (λ p. 1 ≤ p.times) pairs (times_low pairs range.1.1.1.1.0.0);
  sized = All-from_recursion (λ p. p.times ≤ 10 ^ 12) pairs (times_high pairs range.1.1.1.1.0.0);
}
