-- Appending an entry keeps what a pool keeps.
use Rattle.std.proofs.Common.{◌≡◌, ℕ, Bool, false, List, [], ◌∷◌, ◌++◌, refl, sym, subst}
use Rattle.std.proofs.lemmas.List.Elements.{All-push}
use Rattle.arch_model.specs.Library.{IsLibrary}
use Rattle.rows.specs.Parts.{ProblemParts}
use Rattle.rows.specs.Problem.{IsProblem}
use Rattle.search_core.specs.declared.entry.Entry.{Entry}
use Rattle.search_core.specs.State.{SearchState}
use Rattle.search_core.specs.Step.{NamesWorkerBelow, Step}
use Rattle.search_core.specs.History.{is_reopen}
use Rattle.search_core.specs.Diligent.{IsDiligentAt}
use Rattle.search_core.proofs.Diligence.{diligent_join}
use Rattle.search_core.proofs.Counts.{steps_join}
use Rattle.search_core.proofs.CutRows.{right_cuts}
use Rattle.search_core.proofs.Runs.{steps_are_few}
use Rattle.node_pool.specs.Pool.{IsPool}

-- a pool with one more entry, a diligent step that leads to its state
pub pool_goes_on : (problem : ProblemParts) (base : SearchState) (workers analysts : ℕ) (history after : List Entry) (state next : SearchState) (spare left : ℕ) (short : Bool) (entry : Entry)
    → IsLibrary problem.library → IsProblem problem
    → IsPool (record { problem = problem; base = base; workers = workers; analysts = analysts; history = history; state = state; spare = spare; short = short })
    → is_reopen entry ≡ false → NamesWorkerBelow workers entry → IsDiligentAt problem analysts state entry → Step problem state entry next → after ≡ history ++ entry ∷ []
    → IsPool (record { problem = problem; base = base; workers = workers; analysts = analysts; history = after; state = next; spare = left; short = short })
pool_goes_on problem base workers analysts history after state next spare left short entry right is pool kept below at step more =
    let P : List Entry → Type 0 = λ h. IsPool (record { problem = problem; base = base; workers = workers; analysts = analysts; history = h; state = next; spare = left; short = short }) in
    let none = All-push (λ e. is_reopen e ≡ false) history entry pool.no_reopen kept in
    let steps = steps_join problem history (entry ∷ []) base state next pool.steps (next, step, refl) in
    subst P (sym more) (record {
      team = pool.team;
      base = record { reached = pool.base.reached; all_open = pool.base.all_open };
      steps = steps;
      no_reopen = none;
      workers_below = All-push (NamesWorkerBelow workers) history entry pool.workers_below below;
      diligent = diligent_join problem analysts history (entry ∷ []) base state pool.diligent pool.steps (at, (next, step, tt));
      few = steps_are_few problem right is (right_cuts problem.library right) base next (history ++ entry ∷ []) pool.base.reached pool.base.all_open none steps;
    })

-- a pool of which only the room or the flag is another
pub pool_stays : (problem : ProblemParts) (base : SearchState) (workers analysts : ℕ) (history after : List Entry) (state next : SearchState) (spare left : ℕ) (short now : Bool)
    → IsPool (record { problem = problem; base = base; workers = workers; analysts = analysts; history = history; state = state; spare = spare; short = short })
    → next ≡ state → after ≡ history
    → IsPool (record { problem = problem; base = base; workers = workers; analysts = analysts; history = after; state = next; spare = left; short = now })
pool_stays problem base workers analysts history after state next spare left short now pool same_state same_history =
    let P : SearchState → List Entry → Type 0 = λ s h. IsPool (record { problem = problem; base = base; workers = workers; analysts = analysts; history = h; state = s; spare = left; short = now }) in
    let here : P state history = record {
      team = pool.team;
      base = record { reached = pool.base.reached; all_open = pool.base.all_open };
      steps = pool.steps;
      no_reopen = pool.no_reopen;
      workers_below = pool.workers_below;
      diligent = pool.diligent;
      few = pool.few;
    } in
    subst (λ s. P s after) (sym same_state) (subst (λ h. P state h) (sym same_history) here)
