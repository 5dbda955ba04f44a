-- The answer of a state that a legal history leads to is right.
use Rattle.std.proofs.Common.{◌≡◌, ℕ, ◌+◌, ◌-◌, ◌^◌, ◌<◌, ◌≤◌, nat_eq, Bool, true, false, List, [], ◌∷◌, map, length, Option, Some, None, IfSome, refl, sym, ap, ◌∙◌, arith, inl, inr, if◌then◌else◌}
use Rattle.std.specs.List.{list_all}
use Rattle.std.specs.Option.{IsSomeAnd}
use Rattle.std.specs.Prelude.{sum_by}
use Rattle.std.specs.FinMap.{get, len, values, entries, len-entries}
use Rattle.std.proofs.lemmas.Bool.{cases_eq, eqb-true, eqb-false, eq-eqb}
use Rattle.std.proofs.lemmas.Nat.{pow_pos}
use Rattle.arch_model.specs.Parts.{LibraryParts, ArchitectureParts}
use Rattle.arch_model.specs.Architecture.{cost_of}
use Rattle.arch_model.specs.Admissible.{IsAdmissible}
use Rattle.arch_model.specs.Member.{member_count}
use Rattle.rows.specs.Parts.{ProblemParts}
use Rattle.incumbent.specs.declared.best.Best.{Best}
use Rattle.incumbent.specs.Best.{IsCheaper, best_cost}
use Rattle.search_core.specs.declared.answer.Answer.{Answer}
use Rattle.search_core.specs.declared.answer.Answer.TheVariants.{Optimal, Infeasible, NodeLimit}
use Rattle.search_core.specs.Node.{Node, Open, Held, Pending, Studied, Parked, is_parked}
use Rattle.search_core.specs.State.{SearchState}
use Rattle.search_core.specs.History.{is_at_rest, IsAtRest, NothingParked, IsComplete}
use Rattle.search_core.specs.Answers.{answer_by, answer_of}
use Rattle.search_core.specs.Invariant.{IsAdmissibleBest, ParkedAtLimit, space_of, SearchInvariant}
use Rattle.search_core.specs.Solved.{IsLeastBest, NoneAdmissible, IsAtLimit}
use Rattle.search_core.proofs.Options.{none_is_some, same_some}
use Rattle.search_core.proofs.NodeMap.{nothing_at, something_there}
use Rattle.search_core.proofs.Runs.{parked_at}

-- where an answer comes from
pub data Answers (state : SearchState) (answer : Answer) : Type 0 where
  complete : IsComplete state → answer ≡ answer_by state.best → Answers state answer
  limited : IsAtRest state → (len state.nodes ≡ 0 → ⊥) → answer ≡ NodeLimit (best_cost state.best) → Answers state answer

by_tests : (state : SearchState) (answer : Answer) (rest none : Bool) → is_at_rest state ≡ rest → nat_eq (len state.nodes) 0 ≡ none
    → (if rest then (if none then Some (answer_by state.best) else Some (NodeLimit (best_cost state.best))) else None) ≡ Some answer → Answers state answer
by_tests state answer true true r e is = complete (eqb-true (len state.nodes) 0 e) (sym (same_some is))
by_tests state answer true false r e is = limited r (eqb-false (len state.nodes) 0 e) (sym (same_some is))
by_tests state answer false none r e is = none_is_some answer is

pub answer_from : (state : SearchState) (answer : Answer) → answer_of state ≡ Some answer → Answers state answer
answer_from state answer is = by_tests state answer (is_at_rest state) (nat_eq (len state.nodes) 0) refl refl is

module _ (problem : ProblemParts) (state : SearchState) (inv : SearchInvariant problem state) where
  abbrev lib : LibraryParts
  lib = problem.library

  -- in a complete state no admissible architecture is cheaper than the best
  none_cheaper : IsComplete state → (arch : ArchitectureParts) → IsAdmissible lib arch → IsCheaper (cost_of lib arch) state.best → ⊥
  none_cheaper done arch is cheap =
      let c = inv.nothing_is_lost arch is cheap in none_is_some c.node (sym (nothing_at state.nodes c.number done) ∙ c.live)

  least_by : (best : Option Best) (cost : ℕ) → Optimal cost ≡ answer_by best → IfSome best (IsAdmissibleBest lib) → ((arch : ArchitectureParts) → IsAdmissible lib arch → IsCheaper (cost_of lib arch) best → ⊥) → IsSomeAnd best (IsLeastBest lib cost)
  least_by None cost e is none = absurd (no e) where
    no : Optimal cost ≡ Infeasible → ⊥
    no e = cc
  least_by (Some b) cost e is none =
      let named : b.cost ≡ cost = same_cost e in record {
        admissible = is.admissible;
        named = named;
        costs = sym is.cost ∙ named;
        none_less = λ arch can. not_below (cost_of lib arch) b.cost cost named (none arch can);
      } where
        same_cost : Optimal cost ≡ Optimal b.cost → b.cost ≡ cost
        same_cost e = cc

        not_below : (a b c : ℕ) → b ≡ c → (a < b → ⊥) → c ≤ a
        not_below a b c e h = omega arith

  pub optimal_is_least : (cost : ℕ) → answer_of state ≡ Some (Optimal cost) → IsSomeAnd state.best (IsLeastBest lib cost)
  optimal_is_least cost is = from (answer_from state (Optimal cost) is) where
    from : Answers state (Optimal cost) → IsSomeAnd state.best (IsLeastBest lib cost)
    from (complete done e) = least_by state.best cost e inv.best_is_admissible (none_cheaper done)
    from (limited rest some e) = absurd (let f : Optimal cost ≡ NodeLimit (best_cost state.best) = e in cc)

  none_by : (best : Option Best) → Infeasible ≡ answer_by best → ((arch : ArchitectureParts) → IsAdmissible lib arch → IsCheaper (cost_of lib arch) best → ⊥) → NoneAdmissible lib
  none_by None e none arch can = none arch can tt
  none_by (Some b) e none arch can = let f : Infeasible ≡ Optimal b.cost = e in cc

  pub infeasible_is_none : answer_of state ≡ Some Infeasible → NoneAdmissible lib
  infeasible_is_none is = from (answer_from state Infeasible is) where
    from : Answers state Infeasible → NoneAdmissible lib
    from (complete done e) = none_by state.best e (none_cheaper done)
    from (limited rest some e) = absurd (let f : Infeasible ≡ NodeLimit (best_cost state.best) = e in cc)

  -- where something is parked, the limit is spent
  spent_by : (i : ℕ) (node : Node) → get state.nodes i ≡ Some node → is_parked node ≡ true → ParkedAtLimit state node → IsAtLimit state
  spent_by i (Open cube) at is h = absurd (let f : false ≡ true = is in cc)
  spent_by i (Held cube worker cuts bound) at is h = absurd (let f : false ≡ true = is in cc)
  spent_by i (Pending cube) at is h = absurd (let f : false ≡ true = is in cc)
  spent_by i (Studied cube worker) at is h = absurd (let f : false ≡ true = is in cc)
  spent_by i (Parked cube) at is h = record { spent = h; number = i; cube = cube; parked = at }

  limit_spent : IsAtRest state → (len state.nodes ≡ 0 → ⊥) → IsAtLimit state
  limit_spent rest some =
      let first = something_there state.nodes some in
      spent_by first.number first.value first.there (parked_at state rest first.number first.value first.there) (inv.within_limit.parked first.number first.value first.there)

  pub limit_is_spent : (incumbent : Option ℕ) → answer_of state ≡ Some (NodeLimit incumbent) → IsAtLimit state × (incumbent ≡ best_cost state.best)
  limit_is_spent incumbent is = from (answer_from state (NodeLimit incumbent) is) where
    by_best : (best : Option Best) → NodeLimit incumbent ≡ answer_by best → ⊥
    by_best None e = let f : NodeLimit incumbent ≡ Infeasible = e in cc
    by_best (Some b) e = let f : NodeLimit incumbent ≡ Optimal b.cost = e in cc

    same_incumbent : NodeLimit incumbent ≡ NodeLimit (best_cost state.best) → incumbent ≡ best_cost state.best
    same_incumbent e = cc

    from : Answers state (NodeLimit incumbent) → IsAtLimit state × (incumbent ≡ best_cost state.best)
    from (complete done e) = absurd (by_best state.best e)
    from (limited rest some e) = (limit_spent rest some, same_incumbent e)

  too_few : (b l s top : ℕ) → b ≡ l → b + s ≤ top - 1 → 0 < top → top ≤ l → ⊥
  too_few b l s top e h some far = omega arith

  -- a limit of at least the number of vectors is never spent with a node left
  pub limit_is_enough : 2 ^ member_count lib ≤ state.limit → (incumbent : Option ℕ) → answer_of state ≡ Some (NodeLimit incumbent) → ⊥
  limit_is_enough far incumbent is =
      let n = member_count lib in
      too_few state.branchings state.limit (sum_by (space_of n) (values state.nodes)) (2 ^ n) (limit_is_spent incumbent is).0.spent inv.space_is_bounded (pow_pos n) far

-- a state is complete exactly where it is at rest and nothing is parked
all_of_none : (p : Node → Bool) (es : List (ℕ × Node)) → length es ≡ 0 → list_all p (map (λ e. e.1) es) ≡ true
all_of_none p [] none = refl
all_of_none p (e ∷ es) none = absurd (omega arith)

pub complete_rests : (state : SearchState) → IsComplete state → IsAtRest state × NothingParked state
complete_rests state done = (
  all_of_none is_parked (entries state.nodes) (sym (len-entries state.nodes) ∙ done),
  λ i node at. none_is_some node (sym (nothing_at state.nodes i done) ∙ at),
)

pub rest_completes : (state : SearchState) → IsAtRest state → NothingParked state → IsComplete state
rest_completes state rest none = elim (cases_eq (len state.nodes) 0) [
  | inl empty ↦ empty
  | inr some ↦
      let first = something_there state.nodes some in
      absurd (let f : false ≡ true = sym (none first.number first.value first.there) ∙ parked_at state rest first.number first.value first.there in cc)
]

-- there is an answer exactly where it is at rest
by_rest : (b : Bool) (none : Bool) (x y : Answer) → ((if b then (if none then Some x else Some y) else None) ≡ None → b ≡ true → ⊥) × ((b ≡ true → ⊥) → (if b then (if none then Some x else Some y) else None) ≡ None)
by_rest true true x y = ((λ e h. none_is_some x (sym e)), λ h. absurd (h refl))
by_rest true false x y = ((λ e h. none_is_some y (sym e)), λ h. absurd (h refl))
by_rest false none x y = ((λ e h. let f : false ≡ true = h in cc), λ h. refl)

pub no_answer : (state : SearchState) → (answer_of state ≡ None → IsAtRest state → ⊥) × ((IsAtRest state → ⊥) → answer_of state ≡ None)
no_answer state = by_rest (is_at_rest state) (nat_eq (len state.nodes) 0) (answer_by state.best) (NodeLimit (best_cost state.best))

pub complete_answer : (state : SearchState) → IsComplete state → answer_of state ≡ Some (answer_by state.best)
complete_answer state done =
    ap (λ b. if b then (if nat_eq (len state.nodes) 0 then Some (answer_by state.best) else Some (NodeLimit (best_cost state.best))) else None) (complete_rests state done).0
    ∙ ap (λ b. if b then Some (answer_by state.best) else Some (NodeLimit (best_cost state.best))) (eq-eqb (len state.nodes) 0 done)
