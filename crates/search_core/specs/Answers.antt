-- The answer of a state.
use Rattle.std.specs.Prelude.{nat_eq, Option, Some, None, if◌then◌else◌}
use Rattle.std.specs.FinMap.{len}
use Rattle.incumbent.specs.declared.best.Best.{Best}
use Rattle.incumbent.specs.Best.{best_cost}
use Rattle.search_core.specs.declared.answer.Answer.{Answer}
use Rattle.search_core.specs.declared.answer.Answer.TheVariants.{Optimal, Infeasible, NodeLimit}
use Rattle.search_core.specs.State.{SearchState}
use Rattle.search_core.specs.History.{is_at_rest}

-- what a complete search answers by its best
abbrev pub answer_by : Option Best → Answer
answer_by None = Infeasible
answer_by (Some best) = Optimal best.cost

-- the answer of a state: none unless it is at rest; the node limit with the best cost or none where something is parked; else the best is optimal, or nothing is admissible
abbrev pub answer_of : SearchState → Option Answer
answer_of state =
    if is_at_rest state then (if nat_eq (len state.nodes) 0 then Some (answer_by state.best) else Some (NodeLimit (best_cost state.best))) else None
