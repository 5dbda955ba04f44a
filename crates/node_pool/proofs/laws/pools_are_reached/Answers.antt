use Rattle.std.proofs.Common.{subst}
use Rattle.search_core.specs.State.{SearchState}
use Rattle.search_core.specs.History.{Steps}
use Rattle.node_pool.proofs.Outcomes.{state_is_reached, state_is_kept, history_is_short, limit_is_few}
use Rattle.node_pool.proofs.laws.pools_are_reached.Goals as goal

pub returns-clause-reached : goal.returns-clause-reached
returns-clause-reached c pool is = state_is_reached pool is

pub returns-clause-start : goal.returns-clause-start
returns-clause-start c pool limit is start =
    let P : SearchState → Type 0 = λ base. Steps pool.problem base pool.history pool.state in record { few = limit_is_few pool is limit start; steps = subst P start is.steps }

pub returns-clause-invariant : goal.returns-clause-invariant
returns-clause-invariant c pool right problem is = (state_is_kept pool is right problem).holds

pub returns-clause-few : goal.returns-clause-few
returns-clause-few c pool right problem is = history_is_short pool is right problem
