-- Worked rows: lines of the log of the search for the best of two components that lead on, and two that are refused.
use Rattle.std.proofs.Common.{◌≡◌, ℕ, ◌^◌, ◌≤◌, lit≤, lit<, codes, refl, sym, ◌∙◌, arith, inl, inr}
use Rattle.std.specs.Fmt.{digits}
use Rattle.search_core.specs.declared.rule.Rule.TheVariants as rule
use Rattle.search_core.specs.declared.answer.Answer.TheVariants.{Optimal}
use Rattle.search_core.proofs.Options.{same_some}
use Rattle.search_core.proofs.WorkedRows.{at, at_end, best_p, problem_p, answer_p}
use Rattle.proof_log.specs.declared.log_line.LogLine.TheVariants as lines
use Rattle.proof_log.proofs.Numbers.{IsFrom}
use Rattle.log_checker.specs.Phase.{Versioned, Sized, Running, Closed}
use Rattle.log_checker.specs.Feeding.{IsAnswer, LineLeads}
use Rattle.log_checker.specs.Breaking.{LineBreaks}

digit : (n : ℕ) → n ≤ 9 → IsFrom 0 (2 ^ 32) n × Unit {0}
digit n h = ((omega arith, omega arith), tt)

-- the second line states the two components
sizes_lead : LineLeads problem_p Versioned (codes "vars 2 0") Sized
unfolding digits
sizes_lead = record {
  said = lines.Vars 2 0;
  says = record { readable = ((((tt, tt), (digit 2 (lit≤ tt), (digit 0 (lit≤ tt), tt))), tt), lit≤ tt); text = refl };
  leads = record { before = refl; components = refl; edges = refl; after = refl };
}

-- the closing line states the answer
closing_leads : LineLeads problem_p (Running (at at_end best_p 1)) (codes "answer optimal 3 1 0") (Closed (at at_end best_p 1) (Optimal 3))
unfolding digits
closing_leads = record {
  said = lines.Closing (Optimal 3) 1 0;
  says = record { readable = ((((tt, tt), ((tt, tt), (((lit≤ tt, lit< tt), tt), (digit 1 (lit≤ tt), (digit 0 (lit≤ tt), tt))))), tt), lit≤ tt); text = refl };
  leads = record { state = at at_end best_p 1; before = refl; answer = record { answers = answer_p; branchings = refl; cuts = refl }; after = refl };
}

three_is_not_two : lines.Vars 3 0 ≡ lines.Vars 2 0 → ⊥
three_is_not_two e = cc

-- the second line may state no other numbers
pub sizes_break : LineBreaks problem_p Versioned (codes "vars 3 0") rule.Header
unfolding digits
sizes_break = inr (record {
  said = lines.Vars 3 0;
  says = record { readable = ((((tt, tt), (digit 3 (lit≤ tt), (digit 0 (lit≤ tt), tt))), tt), lit≤ tt); text = refl };
  first = inr ((λ answer closed. closed), inl (three_is_not_two, refl));
})

not_two : IsAnswer (at at_end best_p 1) (Optimal 2) 1 0 → ⊥
not_two is =
    let found : Optimal 3 ≡ Optimal 2 = same_some (sym answer_p ∙ is.answers) in cc

-- the closing line may state no other answer
closing_breaks : LineBreaks problem_p (Running (at at_end best_p 1)) (codes "answer optimal 2 1 0") rule.Answer
unfolding digits
closing_breaks = inr (record {
  said = lines.Closing (Optimal 2) 1 0;
  says = record { readable = ((((tt, tt), ((tt, tt), (((lit≤ tt, lit< tt), tt), (digit 1 (lit≤ tt), (digit 0 (lit≤ tt), tt))))), tt), lit≤ tt); text = refl };
  first = inr ((λ answer closed. closed), inr (tt, inl (not_two, refl)));
})
