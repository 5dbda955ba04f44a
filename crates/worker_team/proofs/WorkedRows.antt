-- Worked rows: the search for the best of two components, as a finished search, and what a job may answer on its way.
use Rattle.std.proofs.Common.{◌≡◌, ℕ, lit<, true, false, pos, List, [], ◌∷◌, map, Option, Some, None, refl, sym, ap, subst, ◌∙◌, arith, inl, inr}
use Rattle.std.specs.Prelude.{IsTrue}
use Rattle.std.specs.List.{All, list_all}
use Rattle.std.proofs.lemmas.Bool.{cases_eq}
use Rattle.std.proofs.lemmas.List.Elements.{All-from_recursion, recursion_from_All}
use Rattle.arch_model.specs.Set.{has, empty, put as with_member, union, members_below}
use Rattle.rows.specs.declared.known.Pair.{Pair}
use Rattle.rows.specs.declared.known.RowRef.TheVariants.{Base}
use Rattle.rows.specs.Parts.{RowParts, CutParts, CubeParts, KnownParts}
use Rattle.rows.specs.Cube.{whole, fixed_at, IsFull}
use Rattle.rows.specs.Activity.{is_refuted, IsQuietAt}
use Rattle.rows.specs.Known.{known_rows, has_row, IsQuiet}
use Rattle.rows.specs.Trace.{cube_after}
use Rattle.rows.specs.Outcome.{MayOffer}
use Rattle.rows.proofs.QuietRows.{all_tested}
use Rattle.search_core.specs.declared.entry.Entry.{Entry}
use Rattle.search_core.specs.declared.answer.Answer.TheVariants.{Optimal, NodeLimit}
use Rattle.search_core.specs.Node.{is_parked}
use Rattle.search_core.specs.State.{start_of}
use Rattle.search_core.specs.Step.{NamesWorkerBelow}
use Rattle.search_core.specs.History.{is_reopen, IsAtRest}
use Rattle.search_core.specs.Answers.{answer_of}
use Rattle.search_core.proofs.Determined.{steps_are_determined}
use Rattle.search_core.proofs.Places.{entries-map}
use Rattle.search_core.proofs.WorkedRows.{Listed, at, at_end, problem_p, not_first, second, best_p, cost_alone, history_p, reaches_p, answer_p, diligent_from_start}
use Rattle.branch_worker.specs.declared.outcome.Outcome.TheVariants.{Branch, Prune, Offer}
use Rattle.branch_worker.specs.Outcome.{IsOutcome, LeadsToQuiet}
use Rattle.worker_team.specs.declared.solved.Solved.{Solved}
use Rattle.worker_team.specs.Solved.{IsSolved}

-- what is known of P, two sources of which one is asked for, by some cuts and a bound
abbrev known_p : List CutParts → ℕ → Option ℕ → KnownParts
known_p cuts upto bound = record { problem = problem_p; cuts = cuts; upto = upto; bound = bound }

-- the whole cube may be split at the first
split_whole : IsOutcome (known_p [] 0 None) whole (Branch [] (record { 0 = 0 }))
unfolding has empty with_member
split_whole = record {
  after = whole;
  leads = refl;
  quiet = (all_tested whole (known_rows (known_p [] 0 None))).0 refl;
  ascent = refl;
  variable = lit< tt;
  free = refl;
}

-- with the bound 3, the cube with the first at 1 may be dropped for the cost row
drop_first : IsOutcome (known_p [] 0 (Some 3)) (fixed_at whole 0 true) (Prune [] cost_alone)
unfolding has empty with_member
drop_first = record {
  after = fixed_at whole 0 true;
  leads = refl;
  there = All-from_recursion (λ (p : Pair). IsTrue (has_row (known_p [] 0 (Some 3)) p.row)) cost_alone (refl, tt);
  refuted = refl;
}

-- both are fixed in the cube of the second alone
both-fixed : IsFull 2 second
unfolding has empty with_member
both-fixed v below = elim (cases_eq v 0) [
  | inl same ↦ let P : ℕ → Type 0 = λ k. IsTrue (has second.fixed k) in subst P (sym same) refl
  | inr ne ↦ let P : ℕ → Type 0 = λ k. IsTrue (has second.fixed k) in let one : v ≡ 1 = omega (arith, ne) in subst P (sym one) refl
]

second-stands : All (λ row. is_refuted row second ≡ false) problem_p.base
unfolding has empty with_member
second-stands = All-from_recursion (λ (row : RowParts). is_refuted row second ≡ false) problem_p.base (refl, tt)

second-quiet : IsQuiet (known_p [] 0 None) second
unfolding has empty with_member
second-quiet = (all_tested second (known_rows (known_p [] 0 None))).0 refl

-- without the first, the row forces the second, which may be offered
forced-second : cube_after (known_p [] 0 None) not_first (Base 0 ∷ []) ≡ Some second
unfolding has empty with_member
forced-second = refl

offer_second : IsOutcome (known_p [] 0 None) not_first (Offer (Base 0 ∷ []))
offer_second = (record { after = second; leads = forced-second; full = both-fixed; stands = second-stands }, quiet) where
  quiet : LeadsToQuiet (known_p [] 0 None) not_first (Base 0 ∷ [])
  quiet after leads = let same : Some second ≡ Some after = sym forced-second ∙ leads in subst (IsQuiet (known_p [] 0 None)) (inside second after same) second-quiet where
    inside : (a b : CubeParts) → Some a ≡ Some b → a ≡ b
    inside a b e = cc

-- a cut that asks for the first
abbrev asks_first : CutParts
asks_first = record { plus = with_member empty 0; minus = empty; least = pos 1 }

-- where it is known, the second alone meets all that the pool asks of an offer, and yet is no outcome of a job, since the cut refutes it
still_offered : MayOffer (known_p (asks_first ∷ []) 1 None) second []
still_offered = record { after = second; leads = refl; full = both-fixed; stands = second-stands }

refuted_by_cut : IsQuiet (known_p (asks_first ∷ []) 1 None) second → ⊥
unfolding has empty with_member union members_below
refuted_by_cut quiet =
    let rows = recursion_from_All (IsQuietAt second) (known_rows (known_p (asks_first ∷ []) 1 None)) quiet in
    absurd (let e : true ≡ false = rows.1.0.open_yet in cc)

no_outcome : IsOutcome (known_p (asks_first ∷ []) 1 None) second (Offer []) → ⊥
no_outcome offer = refuted_by_cut (offer.1 second refl)

-- what the search leaves: the best of cost 3, after one branching
abbrev solved_p : Solved
solved_p = record { answer = Optimal 3; history = record { entries = history_p; spare = 0 }; best = best_p; branchings = 1; cuts = 0 }

end-rests : IsAtRest (at at_end best_p 1)
end-rests = ap (λ (es : Listed). list_all is_parked (map (λ e. e.1) es)) (entries-map at_end refl)

is_solved : IsSolved problem_p 4 1 1 solved_p
is_solved = record {
  state = at at_end best_p 1;
  legal = reaches_p;
  diligent = diligent_from_start;
  no_reopen = All-from_recursion (λ (entry : Entry). is_reopen entry ≡ false) history_p (refl, (refl, (refl, (refl, (refl, (refl, (refl, (refl, tt))))))));
  workers_below = All-from_recursion (NamesWorkerBelow 1) history_p (lit< tt, (lit< tt, (lit< tt, (lit< tt, (lit< tt, (lit< tt, (lit< tt, (lit< tt, tt))))))));
  rest = end-rests;
  answer = answer_p;
  best = refl;
  branchings = refl;
  cuts = refl;
}

-- with the answer of a limit that was met it is no finished search
abbrev limited_p : Solved
limited_p = record { answer = NodeLimit None; history = record { entries = history_p; spare = 0 }; best = best_p; branchings = 1; cuts = 0 }

not_limited : IsSolved problem_p 4 1 1 limited_p → ⊥
not_limited is =
    let same : is.state ≡ at at_end best_p 1 = steps_are_determined problem_p history_p (start_of 4) is.state (at at_end best_p 1) is.legal.steps reaches_p.steps in
    absurd (let told : Some (Optimal 3) ≡ Some (NodeLimit None) = sym answer_p ∙ ap answer_of (sym same) ∙ is.answer in cc)
