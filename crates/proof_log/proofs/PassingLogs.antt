-- The log of a small library that passes, and one that no answer passes with.
use Rattle.std.proofs.Common.{◌≡◌, ℕ, ◌^◌, ◌≤◌, ◌<◌, lit≤, lit<, List, [], ◌∷◌, ◌++◌, map, length, codes, Some, refl, sym, ap, subst, ◌∙◌, arith}
use Rattle.std.specs.List.{AllByRecursion}
use Rattle.std.specs.Fmt.{digits}
use Rattle.search_core.specs.declared.entry.Entry.{Entry}
use Rattle.search_core.specs.declared.answer.Answer.{Answer}
use Rattle.search_core.specs.declared.answer.Answer.TheVariants.{Optimal}
use Rattle.search_core.specs.State.{start_of}
use Rattle.search_core.specs.History.{Reaches}
use Rattle.search_core.specs.Answers.{answer_of}
use Rattle.search_core.proofs.Options.{same_some}
use Rattle.search_core.proofs.Determined.{steps_are_determined}
use Rattle.search_core.proofs.WorkedRows.{at, at_end, best_p, problem_p, history_p, reaches_p, answer_p}
use Rattle.proof_log.specs.declared.log_line.LogLine.{LogLine}
use Rattle.proof_log.specs.declared.log_line.LogLine.TheVariants as lines
use Rattle.proof_log.specs.Log.{IsLoggable, IsReadable, log_lines, log_text_of, Accepts}
use Rattle.proof_log.proofs.Numbers.{IsFrom}
use Rattle.proof_log.proofs.WholeLogs.{same_log, can_be_logged}
use Rattle.proof_log.proofs.WorkedLogs.{log_of_two}

-- the log of the search for the best of two components, entry by entry in the worked rows of the search's steps
abbrev passing : List ℕ
passing = codes "archex-log 1\nvars 2 0\nlimit 4\ntake 0 0 0 none\nbranch 0 0 - 0\ntake 0 2 0 none\noffer 0 2 b0\nstudy 0 2\naccept 0 2 3\ntake 0 1 0 3\nprune 0 1 - u*1\nanswer optimal 3 1 0\n"

-- a number of at most one digit, as a field
digit : (n : ℕ) → n ≤ 9 → IsFrom 0 (2 ^ 32) n × Unit {0}
digit n h = ((omega arith, omega arith), tt)

zero : IsFrom 0 (2 ^ 32) 0 × Unit {0}
zero = digit 0 (lit≤ tt)

two : IsFrom 0 (2 ^ 32) 2 × Unit {0}
two = digit 2 (lit≤ tt)

each-readable : AllByRecursion IsReadable (log_lines problem_p 4 history_p (Optimal 3) 1 0)
unfolding digits
each-readable = (
  ((((tt, tt), ((tt, tt), tt)), tt), lit≤ tt),
  (
    ((((tt, tt), (two, (zero, tt))), tt), lit≤ tt),
    (
      ((((tt, tt), (digit 4 (lit≤ tt), tt)), tt), lit≤ tt),
      (
        ((((tt, tt), (zero, (zero, (zero, ((tt, tt), tt))))), tt), lit≤ tt),
        (
          ((((tt, tt), (zero, (zero, ((tt, tt), (zero, tt))))), tt), lit≤ tt),
          (
            ((((tt, tt), (zero, (two, (zero, ((tt, tt), tt))))), tt), lit≤ tt),
            (
              ((((tt, tt), (zero, (two, (((zero.0, tt), tt), tt)))), tt), lit≤ tt),
              (
                ((((tt, tt), (zero, (two, tt))), tt), lit≤ tt),
                (
                  ((((tt, tt), (zero, (two, (((lit≤ tt, lit< tt), tt), tt)))), tt), lit≤ tt),
                  (
                    ((((tt, tt), (zero, (digit 1 (lit≤ tt), (zero, (((lit≤ tt, lit< tt), tt), tt))))), tt), lit≤ tt),
                    (
                      ((((tt, tt), (zero, (digit 1 (lit≤ tt), ((tt, tt), ((((tt, (lit≤ tt, lit< tt)), tt), (lit≤ tt, lit≤ tt)), tt))))), tt), lit≤ tt),
                      (((((tt, tt), ((tt, tt), (((lit≤ tt, lit< tt), tt), (digit 1 (lit≤ tt), (zero, tt))))), tt), lit≤ tt), tt),
                    ),
                  ),
                ),
              ),
            ),
          ),
        ),
      ),
    ),
  ),
)

it_passes : Accepts problem_p passing (Optimal 3)
it_passes = record {
  limit = 4;
  entries = history_p;
  state = at at_end best_p 1;
  legal = reaches_p;
  answers = answer_p;
  text = sym (log_of_two problem_p refl refl);
  readable = each-readable;
  few = lit≤ tt;
}

-- ---- the same with the cost 2 in the closing line

abbrev changed : List ℕ
changed = codes "archex-log 1\nvars 2 0\nlimit 4\ntake 0 0 0 none\nbranch 0 0 - 0\ntake 0 2 0 none\noffer 0 2 b0\nstudy 0 2\naccept 0 2 3\ntake 0 1 0 3\nprune 0 1 - u*1\nanswer optimal 2 1 0\n"

changed_text : changed ≡ log_text_of problem_p 4 history_p (Optimal 2) 1 0
unfolding digits
changed_text = refl

with_last : (entries : List Entry) (a b : LogLine) → AllByRecursion IsLoggable (map (λ e. lines.Entry e) entries ++ a ∷ []) → IsLoggable b → AllByRecursion IsLoggable (map (λ e. lines.Entry e) entries ++ b ∷ [])
with_last [] a b each last = (last, tt)
with_last (e ∷ es) a b each last = (each.0, with_last es a b each.1 last)

changed-loggable : AllByRecursion IsLoggable (log_lines problem_p 4 history_p (Optimal 2) 1 0)
changed-loggable =
    let each = can_be_logged (log_lines problem_p 4 history_p (Optimal 3) 1 0) each-readable in
    let last : IsLoggable (lines.Closing (Optimal 2) 1 0) = (((tt, tt), ((tt, tt), (((lit≤ tt, lit< tt), tt), (digit 1 (lit≤ tt), (zero, tt))))), tt) in
    (each.0, (each.1.0, (each.1.1.0, with_last history_p (lines.Closing (Optimal 3) 1 0) (lines.Closing (Optimal 2) 1 0) each.1.1.1 last)))

-- its entries lead to one state, whose answer isn't the one that it states
it_is_refused : (answer : Answer) → Accepts problem_p changed answer → ⊥
it_is_refused answer x =
    let its_lines : List LogLine = log_lines problem_p x.limit x.entries answer x.state.branchings (length x.state.cuts) in
    let t = same_log problem_p x.limit 4 x.entries history_p answer (Optimal 2) x.state.branchings 1 (length x.state.cuts) 0 (can_be_logged its_lines x.readable) changed-loggable (sym x.text ∙ changed_text) in
    let P : ℕ → Type 0 = λ l. Reaches problem_p l x.entries x.state in
    let Q : List Entry → Type 0 = λ es. Reaches problem_p 4 es x.state in
    let legal : Reaches problem_p 4 history_p x.state = subst Q t.1 (subst P t.0 x.legal) in
    let same : x.state ≡ at at_end best_p 1 = steps_are_determined problem_p history_p (start_of 4) x.state (at at_end best_p 1) legal.steps reaches_p.steps in
    let found : Some (Optimal 3) ≡ Some answer = sym answer_p ∙ sym (ap (λ s. answer_of s) same) ∙ x.answers in
    absurd (let wrong : Optimal 3 ≡ Optimal 2 = same_some found ∙ t.2 in cc)
